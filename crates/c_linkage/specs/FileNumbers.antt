-- Maps from the names of files to numbers.
use Rattle.std.specs.Prelude.{ℕ, ◌&&◌, ◌==◌, if◌then◌else◌, List, Option, bytes_eq}
use Rattle.std.specs.BTreeMap.{get_by}
use Rattle.std.specs.Borrow.{Bor}
use Rattle.std.specs.declared.cmp.Ordering.{Ordering}
use Rattle.std.specs.Ordering.{nat_cmp, ordering_then}
use Rattle.c_defs.specs.Digests.{digest, compared}
use Rattle.c_linkage.specs.declared.file_numbers.FileNumbers.{FileNumbers}

-- a digest and the name of a file beside those of a key
abbrev pub compared_in : (digest unit : ℕ) → List ℕ → ℕ × (ℕ × Bor (List ℕ)) → Ordering
compared_in d u t k = ordering_then (nat_cmp d k.0) (compared u t k.1)

-- the number that a map has for a name of a file
abbrev pub number_at : FileNumbers → (unit : ℕ) → List ℕ → Option ℕ
number_at m u t = get_by (compared_in (digest t) u t) m.of

-- numbers of names, of which one is set
abbrev pub with_number : (ℕ → List ℕ → Option ℕ) → (unit : ℕ) → List ℕ → Option ℕ → ℕ → List ℕ → Option ℕ
with_number f u t n v s = if (u == v) && bytes_eq t s then n else f v s
