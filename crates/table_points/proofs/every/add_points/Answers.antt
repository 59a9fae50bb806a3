use Rattle.std.proofs.Common.{◌+◌, sym, subst, List, [], ◌∷◌, ◌++◌}
use Rattle.ps_store.specs.Store.{bytes_of}
use Rattle.table_model.specs.Places.{row_of}
use Rattle.table_points.specs.declared.row.Point.{Point}
use Rattle.table_points.proofs.Adding.{SoFar, one_added, so_far_on}
use Rattle.table_points.proofs.every.add_points.Goals as goal

pub loop-object-preserved : goal.loop-object-preserved
loop-object-preserved c =
    let s = c.args.store.now in
    let far = c.loop-object in
    subst (λ (items : List Point). SoFar s (λ n x. row_of s (bytes_of s c.args.file) (bytes_of s c.args.function) x) c.args.objects.now c.args.points.now.items (far.object-index + 1) items) (sym c.in-Ok-push.ensures.items)
    (so_far_on s (λ n x. row_of s (bytes_of s c.args.file) (bytes_of s c.args.function) x) c.args.objects.now c.args.points.now.items far.object-index _ far.points.items (far.points.items ++ c.in-Ok.point ∷ []) c.loop-object-test.true far.invariant
    (one_added s _ far.points.items c.in-Ok.point (sym c.in-Ok.ensures)))
