use Rattle.std.proofs.Common.{◌≡◌, sym, subst, List, codes, Ok}
use Rattle.ps_store.specs.Store.{bytes_of}
use Rattle.table_model.specs.Reading.{Walked, dict_in, string_at}
use Rattle.table_model.specs.Rows.{PointRow, points_of}
use Rattle.table_points.specs.Every.{Adds}
use Rattle.table_points.proofs.Adding.{function_rows}
use Rattle.table_points.proofs.every.add_function.Goals as goal

pub returns : goal.returns
returns c =
    let s = c.args.store.now in
    let f = c.in_ok-function.function in
    let is : dict_in c.args.object ≡ Ok f = sym c.in_ok-function.ensures in
    let called : string_at s f (codes "name") ≡ Ok c.in_ok-name.name = sym c.in_ok-name.ensures in
    let stand : points_of s f ≡ Ok c.in_ok-objects.objects.now = sym c.in_ok-objects.ensures in
    subst (λ (w : Walked (List PointRow)). Adds s w c.args.points.now.items c.add_points.result c.add_points.new.points.items) (sym (function_rows s (bytes_of s c.args.file) c.args.object f c.in_ok-name.name c.in_ok-objects.objects.now is called stand)) c.add_points.ensures
