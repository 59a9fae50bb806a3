use Rattle.std.proofs.Common.{◌≡◌, drop}
use Rattle.std.specs.List.{list_all}
use Rattle.link_image.specs.Conditions.{has_rows_inside}
use Rattle.link_image.proofs.inside.have_rows_inside.Given as goal

abbrev pub invariant-loop-object : goal.invariant-loop-object
invariant-loop-object l = list_all has_rows_inside (drop l.object-index l.objects) ≡ list_all has_rows_inside l.objects
