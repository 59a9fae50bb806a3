-- One turn of a run.
use Rattle.std.proofs.Common.{◌≡◌, ◌∙◌, sym, ap, refl, ℕ, zero, suc, ◌+◌, ◌-◌, ◌<◌, ◌≤◌, List, [], ◌++◌, option_to_list, Option, arith, append_assoc}
use Rattle.std.proofs.lemmas.Grind.{common_steps}
use Rattle.machine_state.specs.State.{MachineState, Behaviour}
use Rattle.machine_state.specs.declared.target.Cause.{Cause}
use Rattle.machine_state.specs.declared.target.Cause.TheVariants.{Turns}
use Rattle.machine_state.specs.Runs.{Ran, Goes, Ends, ran, behind, met, turn_by, run_of}

append_nil : (xs : List ℕ) → xs ++ [] ≡ xs
append_nil xs = grind (arith, common_steps)

behind_twice : (xs ys : List ℕ) (r : Ran) → behind xs (behind ys r) ≡ behind (xs ++ ys) r
behind_twice xs ys r = ap (λ (l : List ℕ). ran r.cause l r.machine) (sym (append_assoc xs ys r.output))

module _ (b : Behaviour) (n k : ℕ) (m m' : MachineState) (out : List ℕ) where
  one_turn : k < n → run_of b (n - k) m ≡ met (run_of b (n - (k + 1))) (turn_by b m)
  unfolding run_of
  one_turn h = let one : n - k ≡ suc (n - (k + 1)) = omega arith in rw one refl

  -- a turn that goes on
  pub run_goes_on : (byte : Option ℕ) → k < n → turn_by b m ≡ Goes byte m'
      → behind out (run_of b (n - k) m) ≡ behind (out ++ option_to_list byte) (run_of b (n - (k + 1)) m')
  run_goes_on byte h e =
      ap (behind out) (one_turn h ∙ ap (met (run_of b (n - (k + 1)))) e)
      ∙ behind_twice out (option_to_list byte) (run_of b (n - (k + 1)) m')

  -- a turn that ends the run
  pub run_ends : (c : Cause) → k < n → turn_by b m ≡ Ends c m' → behind out (run_of b (n - k) m) ≡ ran c out m'
  run_ends c h e =
      ap (behind out) (one_turn h ∙ ap (met (run_of b (n - (k + 1)))) e)
      ∙ ap (λ (l : List ℕ). ran c l m') (append_nil out)

  -- no turns
  pub run_done : n ≤ k → behind out (run_of b (n - k) m) ≡ ran Turns out m
  unfolding run_of
  run_done h =
      let none : n - k ≡ zero = omega arith in
      rw none (ap (λ (l : List ℕ). ran Turns l m) (append_nil out))
