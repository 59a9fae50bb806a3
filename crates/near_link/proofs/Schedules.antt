-- One more entry of a schedule.
use Rattle.std.proofs.Common.{◌≡◌, ◌∙◌, sym, ap, refl, ℕ, zero, suc, ◌+◌, ◌-◌, ◌<◌, ◌≤◌, Bool, List, [], ◌∷◌, ◌++◌, arith, append_assoc}
use Rattle.std.proofs.lemmas.Grind.{common_steps}
use Rattle.rand_core.specs.Stream.{Stream}
use Rattle.nub_wire.specs.declared.link.Entry.{Entry}
use Rattle.rand_core.specs.Steps.{stream_of, steps_u64_high}
use Rattle.rand_xoshiro.specs.SplitMix64.{splitmix_seed}
use Rattle.rand_xoshiro.specs.Xoshiro256.{of_seed, plus_plus}
use Rattle.near_link.specs.Schedule.{next_entry, entries, schedule_of}

pub entries_more : (two : Bool) (n k : ℕ) (s s' : Stream) (e : Entry) (before after all : List Entry) → k < n → (e, s') ≡ next_entry two s → after ≡ before ++ e ∷ []
    → before ++ entries two (n - k) s ≡ all → after ++ entries two (n - (k + 1)) s' ≡ all
unfolding entries
entries_more two n k s s' e before after all h made is whole =
    let one : n - k ≡ suc (n - (k + 1)) = omega arith in
    let first : e ≡ (next_entry two s).0 = ap (λ (p : Entry × Stream). p.0) made in
    let rest : s' ≡ (next_entry two s).1 = ap (λ (p : Entry × Stream). p.1) made in
    ap (λ (l : List Entry). l ++ entries two (n - (k + 1)) s') is
    ∙ (append_assoc before (e ∷ []) (entries two (n - (k + 1)) s')
    ∙ (ap (λ (x : Entry). before ++ (x ∷ entries two (n - (k + 1)) s')) first
    ∙ (ap (λ (x : Stream). before ++ ((next_entry two s).0 ∷ entries two (n - (k + 1)) x)) rest
    ∙ (ap (λ (m : ℕ). before ++ entries two m s) (sym one) ∙ whole))))

nothing_behind : (xs : List Entry) → xs ++ [] ≡ xs
nothing_behind xs = grind (arith, common_steps)

pub entries_done : (two : Bool) (n k : ℕ) (s : Stream) (before all : List Entry) → n ≤ k → before ++ entries two (n - k) s ≡ all → before ≡ all
unfolding entries
entries_done two n k s before all h whole =
    let none : n - k ≡ zero = omega arith in
    sym (nothing_behind before) ∙ (ap (λ (m : ℕ). before ++ entries two m s) (sym none) ∙ whole)

pub entries_first : (two : Bool) (seed : ℕ) (rng : List ℕ) (before : List Entry) → before ≡ [] → rng ≡ of_seed (splitmix_seed 32 seed)
    → before ++ entries two (4096 - 0) (stream_of (steps_u64_high plus_plus) rng) ≡ schedule_of two seed
entries_first two seed rng before e f =
    ap (λ (l : List Entry). l ++ entries two 4096 (stream_of (steps_u64_high plus_plus) rng)) e
    ∙ ap (λ (r : List ℕ). entries two 4096 (stream_of (steps_u64_high plus_plus) r)) f
