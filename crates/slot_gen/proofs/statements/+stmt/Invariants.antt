use Rattle.std.proofs.Common.{◌≡◌, ◌++◌, length, drop}
use Rattle.slot_gen.specs.Statements.{stmts_code, targets_of, defaults_of, seek_code}
use Rattle.slot_gen.specs.Emission.{around_of, first_place}
use Rattle.slot_gen.proofs.Forms.{or_first}
use Rattle.slot_gen.proofs.statements.+stmt.Given as goal

-- with what the statements that are left give, it is all the code, all the labels and the first `default`
abbrev pub invariant-emit_cases-loop-s : goal.invariant-emit_cases-loop-s
invariant-emit_cases-loop-s l = record {
  code : l.code.items ++ stmts_code l.within.program.now l.within.number (around_of l.around) l.scope (length l.code.items) (drop l.s-index l.body) ≡ l.initial.code.items ++ stmts_code l.within.program.now l.within.number (around_of l.around) l.scope (length l.initial.code.items) l.body;
  labels : l.labels.items ++ seek_code (targets_of l.within.program.now l.within.number (around_of l.around) l.scope (length l.code.items) (drop l.s-index l.body)) ≡ l.initial.labels.items ++ seek_code (targets_of l.within.program.now l.within.number (around_of l.around) l.scope (length l.initial.code.items) l.body);
  default : or_first l.default (defaults_of l.within.program.now l.within.number (around_of l.around) l.scope (length l.code.items) (drop l.s-index l.body)) ≡ first_place (defaults_of l.within.program.now l.within.number (around_of l.around) l.scope (length l.initial.code.items) l.body);
}

-- with the code of the statements that are left, it is all the code
abbrev pub invariant-emit_stmts-loop-s : goal.invariant-emit_stmts-loop-s
invariant-emit_stmts-loop-s l =
    l.code.items ++ stmts_code l.within.program.now l.within.number (around_of l.around) l.scope (length l.code.items) (drop l.s-index l.body)
    ≡ l.initial.code.items ++ stmts_code l.within.program.now l.within.number (around_of l.around) l.scope (length l.initial.code.items) l.body
