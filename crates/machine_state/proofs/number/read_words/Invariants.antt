use Rattle.std.proofs.Common.{◌≡◌, ℕ, ◌<◌, ◌*◌, get_or, drop}
use Rattle.machine_state.specs.Regions.{number_of}
use Rattle.machine_state.proofs.number.read_words.Given as goal

abbrev pub invariant-loop-at : goal.invariant-loop-at
invariant-loop-at l = (k : ℕ) → k < l.at → get_or l.words k 0 ≡ number_of l.order 4 (drop (4 * k) l.bytes)
