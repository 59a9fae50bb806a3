use Rattle.std.proofs.Common.{◌≡◌, ◌++◌, length, drop}
use Rattle.slot_gen.specs.Statements.{inits_code}
use Rattle.slot_gen.proofs.blocks.emit_inits.Given as goal

abbrev pub invariant-loop-declared : goal.invariant-loop-declared
invariant-loop-declared l =
    l.code.items ++ inits_code l.within.program.now l.within.number (length l.code.items) (drop l.declared-index l.locals)
    ≡ l.initial.code.items ++ inits_code l.within.program.now l.within.number (length l.initial.code.items) l.locals
