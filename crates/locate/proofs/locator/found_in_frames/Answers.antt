use Rattle.std.proofs.Common.{◌∙◌, sym, ap, subst, Option, Some, Ok}
use Rattle.frame_bytes.specs.Bytes.{Bytes}
use Rattle.frame_bytes.specs.declared.frame.Frame.{Frame}
use Rattle.table_model.specs.declared.found.Found.{Found}
use Rattle.table_model.specs.declared.row.TargetRow.{TargetRow}
use Rattle.table_model.specs.Reading.{Walked}
use Rattle.table_model.specs.Frames.{row_of_target, first_frame}
use Rattle.abs_mem.specs.Walking.{Walks}
use Rattle.abs_mem.proofs.Walks.{walks_then}
use Rattle.locate.specs.Counting.{found_in_frames}
use Rattle.locate.proofs.Looks.{from_frame, found_from}
use Rattle.locate.proofs.locator.found_in_frames.Goals as goal

pub returns-in-Some-clause-meaning : goal.returns-in-Some-clause-meaning
returns-in-Some-clause-meaning g c =
    let s = c.args.table.now in
    let row = c.row_of_target-row.result in
    let context = c.args.context in
    let address = c.args.address in
    let begun : Bytes → Walked (Option Frame) = λ b. first_frame row s b context in
    let onward : Option Frame → Bytes → Walked (Option Found) = λ o b. from_frame row s b address o in
    let whole : Bytes → Walked (Option Found) = λ b. found_in_frames (row_of_target c.args.target) s b context address in
    let walk = subst (λ (o : Option Frame). Walks begun (g.M.AbsMem.seen c.args.m.now) (Ok o) (g.M.AbsMem.seen c.first.new.m)) c.in-Some.is c.in_ok-first.ensures.meaning in
    walks_then (g.M.AbsMem.seen c.args.m.now) (g.M.AbsMem.seen c.first.new.m) (g.M.AbsMem.seen c.found_outward.new.m) begun onward whole (Some c.in-Some.frame) c.found_outward.result walk c.found_outward.ensures.meaning
    (λ b e. ap (λ (r : TargetRow). found_in_frames r s b context address) (sym c.row_of_target-row.ensures) ∙ found_from row s b context address (Some c.in-Some.frame) e)
