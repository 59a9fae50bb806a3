-- Trees written out, over any box.
use Rattle.std.proofs.Common.{refl, ℕ, ◌<◌, ◌^◌, le_refl, length, replicate}
use Rattle.std.proofs.lemmas.List.{length-replicate}
use Rattle.std.specs.Prelude.{Box, Vec}
use Rattle.std.specs.declared.alloc.Global.{Global}
use Rattle.c_tree.specs.declared.types.CType.{CType}
use Rattle.c_tree.specs.declared.typed.Site.{Site}
use Rattle.c_tree.specs.declared.typed.Head.{Head}
use Rattle.c_tree.specs.declared.typed.Typed.{Typed}
use Rattle.c_tree.specs.declared.typed.Pointed.{Pointed}

abbrev pub somewhere : Site
somewhere = record { at = 0; line = 1; column = 1 }

abbrev pub of_type : CType → Head
of_type t = record { site = somewhere; ctype = t }

abbrev pub at : ℕ → Typed → Pointed
at q e = record { point = q; e = e }

module _ (b : Box (Unit {0}) Global) where
  abbrev pub shape_of : (n : ℕ) → n < 2 ^ 63 → Vec (Unit {0}) Global
  shape_of n h = record { ptr = b.ptr; len = length (replicate n tt); cap = length (replicate n tt); alloc = b.alloc; items = replicate n tt; ok = (refl, le_refl _); small = rw (length-replicate n (tt {0})) h }
