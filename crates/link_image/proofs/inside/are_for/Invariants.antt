use Rattle.std.proofs.Common.{◌≡◌, drop}
use Rattle.std.specs.List.{list_all}
use Rattle.link_image.specs.Conditions.{is_for}
use Rattle.link_image.proofs.inside.are_for.Given as goal

abbrev pub invariant-loop-object : goal.invariant-loop-object
invariant-loop-object l = list_all (is_for l.target) (drop l.object-index l.objects) ≡ list_all (is_for l.target) l.objects
