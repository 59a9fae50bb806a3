use Rattle.std.proofs.Common.{◌≡◌, drop}
use Rattle.std.specs.List.{list_all}
use Rattle.link_image.specs.Conditions.{name_lies}
use Rattle.link_image.proofs.inside.names_lie.Given as goal

abbrev pub invariant-loop-name : goal.invariant-loop-name
invariant-loop-name l = list_all (name_lies l.size) (drop l.name-index l.names) ≡ list_all (name_lies l.size) l.names
