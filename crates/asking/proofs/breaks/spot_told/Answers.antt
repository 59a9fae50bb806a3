use Rattle.std.proofs.Common.{sym, subst, ℕ, List, option_map}
use Rattle.c_session.specs.declared.command.Spot.{Spot}
use Rattle.table_read.specs.Reads.{in_ok}
use Rattle.table_model.specs.Places.{spot_point, function_point}
use Rattle.table_points.specs.Rows.{row_in}
use Rattle.dialect_model.specs.TableUse.{Looks}
use Rattle.table_asks.specs.Asking.{Comes}
use Rattle.asking.specs.Breaks.{point_of_spot}
use Rattle.asking.proofs.breaks.spot_told.Goals as goal

pub returns-in-Line-clause-meaning : goal.returns-in-Line-clause-meaning
returns-in-Line-clause-meaning c =
    let new = c.line_told.new.inquiry in
    let result = in_ok (option_map (row_in new.core.store)) c.line_told.result in
    subst (λ (x : Spot). Comes (Looks (point_of_spot x)) c.args.inquiry.now result new) (sym c.in-Line.is)
    (subst (λ (file : List ℕ). Comes (Looks (λ s. spot_point s file c.in-Line.line c.in-Line.column)) c.args.inquiry.now result new) c.as_bytes.ensures c.line_told.ensures.meaning)

pub returns-in-Func-clause-meaning : goal.returns-in-Func-clause-meaning
returns-in-Func-clause-meaning c =
    let new = c.body_told.new.inquiry in
    let result = in_ok (option_map (row_in new.core.store)) c.body_told.result in
    subst (λ (x : Spot). Comes (Looks (point_of_spot x)) c.args.inquiry.now result new) (sym c.in-Func.is)
    (subst (λ (name : List ℕ). Comes (Looks (λ s. function_point s name)) c.args.inquiry.now result new) c.as_bytes-in-Func.ensures c.body_told.ensures.meaning)
