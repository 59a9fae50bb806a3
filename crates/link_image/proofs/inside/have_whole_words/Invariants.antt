use Rattle.std.proofs.Common.{◌≡◌, drop}
use Rattle.std.specs.List.{list_all}
use Rattle.link_image.specs.Conditions.{has_whole_words}
use Rattle.link_image.proofs.inside.have_whole_words.Given as goal

abbrev pub invariant-loop-object : goal.invariant-loop-object
invariant-loop-object l = list_all has_whole_words (drop l.object-index l.objects) ≡ list_all has_whole_words l.objects
