use Rattle.std.proofs.Common.{◌≡◌, ◌++◌, map, drop, vec_len}
use Rattle.c_typing.specs.Plain.{plain}
use Rattle.c_linkage.specs.Names.{defining}
use Rattle.c_file.specs.Files.{State}
use Rattle.c_file.specs.Made.{object_type}
use Rattle.c_check.proofs.object_types.object_types.Given as goal

abbrev pub invariant-loop-d : goal.invariant-loop-d
invariant-loop-d l = record {
  len : vec_len l.types ≡ l.d-index;
  types : (q : State) → q.names ≡ l.names → (map plain l.types.items ++ map (object_type q) (map defining (drop l.d-index l.objects))) ≡ map (object_type q) (map defining l.objects);
}
