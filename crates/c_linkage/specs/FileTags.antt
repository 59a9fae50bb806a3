-- The tags of the structs of some files.
use Rattle.std.specs.Prelude.{ℕ, List, []}
use Rattle.c_trees.specs.declared.unit.External.{External}
use Rattle.c_trees.specs.declared.unit.Unit.{Unit}
use Rattle.c_mentions.specs.Tags.{in_all, in_external, each_once}

abbrev pub externals_of : Unit → List External
externals_of u = u.externals

abbrev pub tags_of : List (List External) → List (List ℕ)
tags_of us = each_once [] (in_all (in_all in_external) us)
