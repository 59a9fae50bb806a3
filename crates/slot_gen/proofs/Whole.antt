-- Whole runs of a program are shown by its code, and nothing else is.
use Rattle.std.proofs.Common.{◌≡◌, ℕ, suc, List, [], ◌∷◌, Option, Some, None, refl, sym, ap, ◌∙◌, subst}
use Rattle.std.specs.Prelude.{ℤ}
use Rattle.c_tree.specs.declared.rows.Program.{Program}
use Rattle.runs.specs.Runs.{Moment, Outcome, Reached}
use Rattle.runs.proofs.Simulate.{Related, Meets, LiesBetween, at, meets, ascends, between, takes, comes_to}
use Rattle.c_store.specs.Frames.{Here, with_world, new_activation}
use Rattle.c_store.specs.Assigned.{all_assigned, at_stop}
use Rattle.c_source.specs.Control.{State}
use Rattle.c_source.specs.Source as source
use Rattle.c_source.specs.Begin.{main_from, control_in}
use Rattle.c_source.specs.Begin as sources
use Rattle.slot_ir.specs.declared.code.SlotCode.{SlotCode}
use Rattle.slot_ir.specs.Slots.{SlotState, no_temps}
use Rattle.slot_ir.specs.Slots as slots
use Rattle.slot_ir.specs.Begin as beginning
use Rattle.slot_gen.specs.Correct.{IsCodeOf, HasMain, Shows, ShowsNoMore, source_after, slots_after, Follows, Lowers}
use Rattle.slot_gen.proofs.Match.{Setting, Doing, Matches, Ends, SameOutput, left_over}
use Rattle.slot_gen.proofs.Calls.{begins, outer_records}
use Rattle.slot_gen.proofs.Step.{step_answers}

module _ (set : Setting) where
  resume_matches : (i : ℕ) (s : State) (t : SlotState) → Matches set s t → Matches set (sources.acted set.hist i s) (beginning.acted set.hist i t)
  resume_matches i s t m = record {
    same = ap (λ (h : Here). with_world h (all_assigned (at_stop set.hist i) h.world)) m.same;
    ws = m.ws;
    doing = m.doing;
    outer = m.outer;
  }

  abbrev RelatedBy : Option ℤ → State → SlotState → Type 0
  RelatedBy = Related State SlotState (source.step set.p) (slots.step set.c) (sources.acted set.hist) (beginning.acted set.hist) 2 (Matches set) (Ends set) (SameOutput set) (left_over set)

  seen : (x : Option ℤ) (s : State) (t : SlotState) → RelatedBy x s t → Ends set s t
  seen None s t m = (m.same, ap (λ (h : Here). h.activation ∷ beginning.outer_records t.outer) m.same ∙ ap (λ l. s.here.activation ∷ l) (outer_records set s.outer t.outer t.result_at m.outer))
  seen (Some n) s t e = e

  ends_same : (s : State) (t : SlotState) → Ends set s t → SameOutput set s t
  ends_same s t e = ap (λ (h : Here). h.world.output) e.0

  module _ (input : List ℕ) (main : HasMain set.p) where
    begin_matches : Matches set (sources.begin set.p input) (beginning.begin set.c input)
    begin_matches =
        let n = main_from 0 set.p.functions in
        let fn = main.0 in
        let activation = new_activation 0 n in
        record {
          same = ap (λ m. record { world = beginning.world_at_first set.c input; activation = new_activation 0 m }) set.is.main ∙ ap (λ w. record { world = w; activation = activation }) (set.is.start input);
          ws = [];
          doing = subst (λ o. Doing set activation [] [] [] (control_in set.p n o) no_temps 0) (sym main.1) (begins set activation n fn refl (sym main.2) main.1);
          outer = tt;
        }

    -- what is known of each step, of its steps as a whole and of each moment
    abbrev s0 : State
    s0 = sources.begin set.p input

    abbrev t0 : SlotState
    t0 = beginning.begin set.c input

    abbrev at_source : ℕ → ℕ
    at_source n = at State SlotState (source.step set.p) (slots.step set.c) (sources.acted set.hist) (beginning.acted set.hist) 2 (Matches set) (Ends set) (SameOutput set) (left_over set) (step_answers set) resume_matches ends_same n 0 s0 t0 begin_matches

    abbrev MetBy : Outcome State → Outcome SlotState → Type 0
    MetBy = Meets State SlotState (source.step set.p) (slots.step set.c) (sources.acted set.hist) (beginning.acted set.hist) 2 (Matches set) (Ends set) (SameOutput set) (left_over set)

    abbrev Between : Outcome State → Outcome State → Outcome SlotState → Type 0
    Between = LiesBetween State SlotState (source.step set.p) (slots.step set.c) (sources.acted set.hist) (beginning.acted set.hist) 2 (Matches set) (Ends set) (SameOutput set) (left_over set)

    met : (n : ℕ) → MetBy (source_after set.p set.hist input n) (slots_after set.c set.hist input (at_source n))
    met n = meets State SlotState (source.step set.p) (slots.step set.c) (sources.acted set.hist) (beginning.acted set.hist) 2 (Matches set) (Ends set) (SameOutput set) (left_over set) (step_answers set) resume_matches ends_same n 0 s0 t0 begin_matches

    shown : (m : Moment State) (q : Outcome SlotState) → MetBy (Reached m) q → (k : Moment SlotState) × (q ≡ Reached k) × Shows m k
    shown m q r =
        let k = r.0 in
        let both : Ends set m.state k.state = seen m.exit m.state k.state r.2.states in
        (k, r.1, record { passed = r.2.passed; world = ap (λ (h : Here). h.world) both.0; records = both.1; exit = r.2.exit })

    on_way : (m m' : Moment State) (q : Outcome SlotState) → Between (Reached m) (Reached m') q → (k : Moment SlotState) × (q ≡ Reached k) × ShowsNoMore m k
    on_way m m' q r = (r.0, r.1, record { passed = r.2.passed; output = r.2.states; exit = r.2.exit })

    pub follows : Follows set.p set.c input set.hist
    follows = record {
      at = at_source;
      start = refl;
      ascends = λ n. ascends State SlotState (source.step set.p) (slots.step set.c) (sources.acted set.hist) (beginning.acted set.hist) 2 (Matches set) (Ends set) (SameOutput set) (left_over set) (step_answers set) resume_matches ends_same n 0 s0 t0 begin_matches;
      shows = λ n m e. shown m (slots_after set.c set.hist input (at_source n)) (subst (λ o. MetBy o (slots_after set.c set.hist input (at_source n))) e (met n));
      between = λ n j m m' e e' le lt. on_way m m' (slots_after set.c set.hist input j) (subst (λ o. Between o (Reached m') (slots_after set.c set.hist input j)) e
          (subst (λ o. Between (source_after set.p set.hist input n) o (slots_after set.c set.hist input j)) e'
          (between State SlotState (source.step set.p) (slots.step set.c) (sources.acted set.hist) (beginning.acted set.hist) 2 (Matches set) (Ends set) (SameOutput set) (left_over set) (step_answers set) resume_matches ends_same n 0 s0 t0 begin_matches j le lt)));
      takes = λ n d units m m' le e e' sum j j' k k' from_n on to_d ek ek'.
          takes State SlotState (source.step set.p) (slots.step set.c) (sources.acted set.hist) (beginning.acted set.hist) 2 (Matches set) (Ends set) (SameOutput set) (left_over set) (step_answers set) resume_matches ends_same n d units 0 s0 t0 begin_matches m m' le e e' sum j j' k k' from_n on to_d ek ek';
      comes_to = λ j. comes_to State SlotState (source.step set.p) (slots.step set.c) (sources.acted set.hist) (beginning.acted set.hist) 2 (Matches set) (Ends set) (SameOutput set) (left_over set) (step_answers set) resume_matches ends_same j 0 s0 t0 begin_matches;
    }

-- the code of a program shows what the program does, and nothing else
pub lowers : (p : Program) (c : SlotCode) → IsCodeOf p c → HasMain p → Lowers p c
lowers p c is main = λ input h. follows (record { p = p; c = c; is = is; hist = h }) input main
