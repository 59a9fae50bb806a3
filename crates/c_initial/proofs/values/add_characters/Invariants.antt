use Rattle.std.proofs.Common.{◌≡◌, ◌++◌, map, drop}
use Rattle.c_initial.specs.Begins.{character}
use Rattle.c_initial.specs.Starts.{begins_in}
use Rattle.c_initial.proofs.values.add_characters.Given as goal

abbrev pub invariant-loop-c : goal.invariant-loop-c
invariant-loop-c l = begins_in l.begins.items ++ map character (drop l.c-index l.text) ≡ begins_in l.initial.begins.items ++ map character l.text
