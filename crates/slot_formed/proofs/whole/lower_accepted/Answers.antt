use Rattle.std.proofs.lemmas.Result.{IfOk-weaker}
use Rattle.slot_ir.specs.WellFormed.{IsWellFormed}
use Rattle.slot_gen.specs.Rows.{HasRowsOf}
use Rattle.slot_pointers.specs.Taken.{TakesPointers}
use Rattle.slot_formed.specs.Passed.{CallsStandBehindTheirPoints}
use Rattle.slot_formed.proofs.whole.lower_accepted.Goals as goal

pub returns-clause-formed : goal.returns-clause-formed
returns-clause-formed c =
    let p = c.args.program.now in
    IfOk-weaker c.lower.result (HasRowsOf p) IsWellFormed (λ code rows. c.code_is_well_formed.ensures p code c.requires.accepted (c.accepted_rows_are_the_code.ensures p code c.requires.accepted rows) c.requires.few) c.lower.ensures.rows

pub returns-clause-pointers : goal.returns-clause-pointers
returns-clause-pointers c =
    let p = c.args.program.now in
    IfOk-weaker c.lower.result (HasRowsOf p) TakesPointers (λ code rows. c.numbers_taken_are_zero.ensures p code c.requires.accepted (c.accepted_rows_are_the_code.ensures p code c.requires.accepted rows)) c.lower.ensures.rows

pub returns-clause-behind : goal.returns-clause-behind
returns-clause-behind c =
    let p = c.args.program.now in
    IfOk-weaker c.lower.result (HasRowsOf p) CallsStandBehindTheirPoints (λ code rows. c.calls_stand_behind_their_points.ensures p code (c.accepted_rows_are_the_code.ensures p code c.requires.accepted rows)) c.lower.ensures.rows
