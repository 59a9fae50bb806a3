use Rattle.std.proofs.Common.{◌≡◌, ◌++◌, length, drop}
use Rattle.slot_gen.specs.Expressions.{args_code}
use Rattle.slot_gen.proofs.expressions.+expr.Given as goal

-- with the code of the arguments that are left, it is all the code
abbrev pub invariant-emit_args-loop-arg : goal.invariant-emit_args-loop-arg
invariant-emit_args-loop-arg l =
    l.code.items ++ args_code l.within.program.now l.within.number (length l.code.items) l.to (drop l.arg-index l.args)
    ≡ l.initial.code.items ++ args_code l.within.program.now l.within.number (length l.initial.code.items) l.d l.args
