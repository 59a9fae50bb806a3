-- The bytes that a program may use, by address.
use Rattle.std.specs.Prelude.{ℕ, zero, suc, ◌+◌, ◌-◌, ◌%◌, List, [], ◌∷◌, map, Bool, true, false, ◌&&◌, ◌||◌, nat_le, nat_lt, ◌==◌, Option, Some, None, slice_get, option_map, if◌then◌else◌}
use Rattle.ldb_words.specs.declared.kinds.Order.{Order}
use Rattle.ldb_words.specs.declared.kinds.Kind.{Kind}
use Rattle.ldb_words.specs.declared.kinds.Kind.TheVariants.{Byte, Word, Address}
use Rattle.machine_state.specs.Regions.{number_of, bytes_of}
use Rattle.c_tree.specs.declared.types.Leaf.{Leaf}

-- a byte that is not the program's, one of which nothing is known, or one that is known
pub data Spot : Type 0 where
  Reserved : Spot
  Unknown : Spot
  Known : (byte : ℕ) → Spot

abbrev pub Memory : Type 0
Memory = ℕ → Spot

abbrev pub width_of : Kind → ℕ
width_of Byte = 1
width_of Word = 4
width_of Address = 4

-- ---- some bytes one after another

abbrev pub spots_at : Memory → ℕ → ℕ → List Spot
spots_at m at zero = []
spots_at m at (suc n) = m at ∷ spots_at m (at + 1) n

-- the bytes, if each is known
abbrev pub all_known : List Spot → Option (List ℕ)
all_known [] = Some []
all_known (Reserved ∷ rest) = None
all_known (Unknown ∷ rest) = None
all_known (Known b ∷ rest) = option_map (λ bs. b ∷ bs) (all_known rest)

-- none is reserved
abbrev pub are_open : List Spot → Bool
are_open [] = true
are_open (Reserved ∷ rest) = false
are_open (Unknown ∷ rest) = are_open rest
are_open (Known b ∷ rest) = are_open rest

abbrev pub is_aligned : ℕ → ℕ → Bool
is_aligned at width = at % width == 0

abbrev pub or_else : Option Spot → Spot → Spot
or_else None old = old
or_else (Some s) old = s

-- the memory with these spots from an address on
unfoldable pub overlaid : Memory → ℕ → List Spot → Memory
overlaid m at spots b = if nat_le at b then or_else (slice_get spots (b - at)) (m b) else m b

-- ---- numbers

-- the number in so many bytes, if they are known
unfoldable pub number_at : Order → Memory → ℕ → ℕ → Option ℕ
number_at order m at width = option_map (number_of order width) (all_known (spots_at m at width))

abbrev pub read_at : Order → Memory → ℕ → ℕ → Option ℕ
read_at order m at width = if is_aligned at width then number_at order m at width else None

-- the memory with a number in so many bytes
abbrev pub with_number : Order → Memory → ℕ → ℕ → ℕ → Memory
with_number order m at width n = overlaid m at (map Known (bytes_of order width n))

abbrev pub written_at : Order → Memory → ℕ → ℕ → ℕ → Option Memory
written_at order m at width n = if is_aligned at width && are_open (spots_at m at width) then Some (with_number order m at width n) else None

-- ---- structs

-- an offset is in a leaf
abbrev pub covers : Leaf → ℕ → Bool
covers l i = nat_le l.at i && nat_lt i (l.at + width_of l.kind)

abbrev pub is_covered : List Leaf → ℕ → Bool
is_covered [] i = false
is_covered (l ∷ ls) i = covers l i || is_covered ls i

-- the memory with the leaves of a struct copied, all at once; what lies between leaves stays
unfoldable pub copied : List Leaf → Memory → (to from : ℕ) → Memory
copied ls m to from b = if nat_le to b && is_covered ls (b - to) then m (from + (b - to)) else m b

-- each leaf is aligned in memory that is the program's
abbrev pub may_hold : List Leaf → Memory → ℕ → Bool
may_hold [] m at = true
may_hold (l ∷ ls) m at = is_aligned (at + l.at) (width_of l.kind) && are_open (spots_at m (at + l.at) (width_of l.kind)) && may_hold ls m at

-- ---- ranges

abbrev pub is_from : ℕ → ℕ → ℕ → Bool
is_from low high b = nat_le low b && nat_lt b high

-- a frame begins above the bytes that are the target's own, and ends
unfoldable pub opened : ℕ → ℕ → Memory → Memory
opened low high m b = if is_from low high b then Unknown else m b

unfoldable pub closed : ℕ → ℕ → Memory → Memory
closed low high m b = if is_from low high b then Reserved else m b
