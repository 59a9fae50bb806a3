use Rattle.std.proofs.Common.{◌≡◌, subst, Option, Some, None, Ok, option_map}
use Rattle.frame_bytes.specs.declared.frame.Frame.{Frame}
use Rattle.abs_mem.specs.Walking.{Walks}
use Rattle.table_read.specs.Reads.{in_ok}
use Rattle.table_model.specs.Frames.{frame_at}
use Rattle.table_points.specs.Rows.{row_in}
use Rattle.table_asks.proofs.Told.{told_none, told_some}
use Rattle.table_asks.proofs.walks.place_numbered.Goals as goal

pub returns-in-Ok-None-clause-meaning : goal.returns-in-Ok-None-clause-meaning
returns-in-Ok-None-clause-meaning g c =
    let s = g.M.AbsMem.seen c.args.m.now in
    let s' = g.M.AbsMem.seen c.frame_numbered.new.m in
    let is : c.in-Ok-None.field-0 ≡ None = cc in
    let walk = subst (λ (o : Option Frame). Walks (λ b. frame_at c.args.row c.args.table.now b c.args.context c.args.number) s (Ok o) s') is c.in-Ok-None.ensures.meaning in
    told_none s s' c.args.row c.args.table.now c.args.context c.args.number walk

pub returns-in-Ok-Some-clause-meaning : goal.returns-in-Ok-Some-clause-meaning
returns-in-Ok-Some-clause-meaning g c =
    let s = g.M.AbsMem.seen c.args.m.now in
    let s' = g.M.AbsMem.seen c.frame_numbered.new.m in
    let is : c.in-Ok-Some.field-0 ≡ Some c.in-Ok-Some.frame = cc in
    let walk = subst (λ (o : Option Frame). Walks (λ b. frame_at c.args.row c.args.table.now b c.args.context c.args.number) s (Ok o) s') is c.in-Ok-Some.ensures.meaning in
    told_some s s' c.args.row c.args.table.now c.args.context c.args.number c.in-Ok-Some.frame (in_ok (option_map (row_in c.args.table.now)) c.place_told.result) walk c.place_told.ensures
