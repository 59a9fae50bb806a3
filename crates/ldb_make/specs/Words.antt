-- The words that a program is made of, and the numbers that are drawn from them.
use Rattle.std.specs.Prelude.{ℕ, zero, suc, ◌%◌, List, [], ◌∷◌, length, nat_lt, if◌then◌else◌, slice_index}
use Rattle.rand_core.specs.Stream.{Stream, next_u64}
use Rattle.rand_core.specs.Steps.{stream_of, steps_u64_high}
use Rattle.rand_xoshiro.specs.SplitMix64.{splitmix_seed}
use Rattle.rand_xoshiro.specs.Xoshiro256.{of_seed, plus_plus}

-- what a generator answers next, so many times
unfoldable pub words_from : (count : ℕ) → Stream → List ℕ
words_from zero s = []
words_from (suc k) s = (next_u64 s).0 ∷ words_from k (next_u64 s).1

-- 450 words of xoshiro256++, seeded with a number by SplitMix64
abbrev pub words : ℕ → List ℕ
words n = words_from 450 (stream_of (steps_u64_high plus_plus) (of_seed (splitmix_seed 32 n)))

-- a number below a bound, of the word with a number
abbrev pub pick : List ℕ → (number bound : ℕ) → ℕ
pick words number bound = if nat_lt number (length words) then slice_index words number % bound else 0
