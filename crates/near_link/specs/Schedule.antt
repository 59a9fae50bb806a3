-- The schedule of a number: entries whose numbers come from a generator of words.
use Rattle.std.specs.Prelude.{ℕ, zero, suc, ◌+◌, ◌%◌, ◌&&◌, nat_eq, Bool, if◌then◌else◌, List, [], ◌∷◌}
use Rattle.rand_core.specs.Stream.{Stream, next_u64}
use Rattle.rand_core.specs.Steps.{stream_of, steps_u64_high}
use Rattle.rand_xoshiro.specs.SplitMix64.{splitmix_seed}
use Rattle.rand_xoshiro.specs.Xoshiro256.{of_seed, plus_plus}
use Rattle.nub_wire.specs.declared.link.Side.{Side}
use Rattle.nub_wire.specs.declared.link.Side.TheVariants.{First, Second}
use Rattle.nub_wire.specs.declared.link.Entry.{Entry}

-- three words: the side, 1 to 1,000 instructions, pieces of 1 to 16 bytes; where there is one side it is always that one
abbrev pub entry_of : (has_second : Bool) → (side instructions piece : ℕ) → Entry
entry_of has_second side instructions piece = record {
  side = if has_second && nat_eq (side % 2) 1 then Second else First;
  instructions = 1 + instructions % 1000;
  piece = 1 + piece % 16;
}

-- the next entry, and what the generator answers from then on
abbrev pub next_entry : (has_second : Bool) → Stream → Entry × Stream
next_entry has_second s =
    let a = next_u64 s in
    let b = next_u64 a.1 in
    let c = next_u64 b.1 in
    (entry_of has_second a.0 b.0 c.0, c.1)

unfoldable pub entries : (has_second : Bool) → (count : ℕ) → Stream → List Entry
entries has_second zero s = []
entries has_second (suc n) s = let e = next_entry has_second s in e.0 ∷ entries has_second n e.1

-- xoshiro256++ seeded with a number by SplitMix64
abbrev pub words_of : ℕ → Stream
words_of seed = stream_of (steps_u64_high plus_plus) (of_seed (splitmix_seed 32 seed))

-- 4,096 entries
abbrev pub schedule_of : (has_second : Bool) → (seed : ℕ) → List Entry
schedule_of has_second seed = entries has_second 4096 (words_of seed)
