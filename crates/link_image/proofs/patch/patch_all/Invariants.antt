use Rattle.std.proofs.Common.{◌≡◌, length, drop}
use Rattle.std.specs.List.{AllByRecursion}
use Rattle.obj_placed.specs.Patched.{patched}
use Rattle.link_image.specs.Tables.{address_in, entry_in, IsTaken}
use Rattle.link_image.proofs.patch.patch_all.Given as goal

abbrev pub invariant-loop-place : goal.invariant-loop-place
invariant-loop-place l = record {
  bytes : patched l.object.target l.base (address_in l.addresses) l.in_text (drop l.place-index l.object.uses) l.bytes ≡ patched l.object.target l.base (address_in l.addresses) l.in_text l.object.uses l.fn.bytes;
  size : length l.bytes ≡ length l.fn.bytes;
  taken : AllByRecursion (IsTaken (entry_in l.addresses) l.in_text (length l.fn.bytes)) (drop l.place-index l.object.uses) → AllByRecursion (IsTaken (entry_in l.addresses) l.in_text (length l.fn.bytes)) l.object.uses;
}
