use Rattle.std.proofs.Common.{◌≡◌, map, take}
use Rattle.c_typing.specs.Plain.{plain}
use Rattle.c_linkage.proofs.names.copied_all.Given as goal

abbrev pub invariant-loop-t : goal.invariant-loop-t
invariant-loop-t l = map plain l.copies ≡ map plain (take l.t-index l.types)
