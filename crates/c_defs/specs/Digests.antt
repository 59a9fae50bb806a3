-- Digests of names, which maps compare before the names.
use Rattle.std.specs.Prelude.{ℕ, ◌+◌, ◌*◌, ◌%◌, ◌^◌, List, fold}
use Rattle.std.specs.Borrow.{Bor}
use Rattle.std.specs.Cmp.Lexicographic.{slice_cmp}
use Rattle.std.specs.declared.cmp.Ordering.{Ordering}
use Rattle.std.specs.Ordering.{nat_cmp, ordering_then}

-- a digest, one byte later
abbrev pub more_digest : (digest byte : ℕ) → ℕ
more_digest d b = (d * 31 % 2 ^ 32 + b) % 2 ^ 32

unfoldable pub digest : List ℕ → ℕ
digest name = fold more_digest 0 name

-- a digest and a name beside those of a key
abbrev pub compared : (digest : ℕ) → List ℕ → ℕ × Bor (List ℕ) → Ordering
compared d t k = ordering_then (nat_cmp d k.0) (slice_cmp nat_cmp t k.1.now)
