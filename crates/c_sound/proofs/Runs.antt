-- Whole runs from a good state, with assignments at the stops.
use Rattle.std.proofs.Common.{◌≡◌, subst, ℕ, suc, zero, List, [], ◌∷◌, Option, Some, None}
use Rattle.std.specs.Prelude.{Result, Ok, Err, slice_get, ℤ}
use Rattle.runs.specs.Runs.{Next, Goes, Passes, Exits, Undefined, Why, Reason, Stale, IllTyped, Outcome, Reached, Breaks, after, after_count, past, then_on}
use Rattle.c_tree.specs.declared.rows.Program.{Program}
use Rattle.c_store.specs.Store.{World, store}
use Rattle.c_store.specs.Assigned.{Assignment, History, stored_or, all_assigned, at_stop}
use Rattle.c_source.specs.Control.{State}
use Rattle.c_source.specs.Source.{step}
use Rattle.c_source.specs.Begin.{acted}
use Rattle.c_sound.specs.Shapes.{AreFitting, IsFitting, KeepsShapes}
use Rattle.c_sound.proofs.World.{Gives, WorldFits, store_gives}
use Rattle.c_sound.proofs.Ready.{Good}
use Rattle.c_sound.proofs.Fine.{Fine}
use Rattle.c_sound.proofs.Steps.{ShapedFunction, step_fine}

stored_fits : (w : World) (m : Result World Why) → WorldFits w → Gives WorldFits m → WorldFits (stored_or w m)
stored_fits w (Ok w') h g = g
stored_fits w (Err e) h g = h

pub assigned_fits : (all : List Assignment) (w : World) → AreFitting all → WorldFits w → WorldFits (all_assigned all w)
assigned_fits [] w a h = h
assigned_fits (x ∷ rest) w a h = assigned_fits rest (stored_or w (store w x.kind x.place x.value)) a.1 (stored_fits w (store w x.kind x.place x.value) h (store_gives w x.kind x.place x.value h a.0))

fitting_at : (h : History) (i : ℕ) → IsFitting h → AreFitting (at_stop h i)
fitting_at [] i f = tt
fitting_at (a ∷ rest) zero f = f.0
fitting_at (a ∷ rest) (suc i) f = fitting_at rest i f.1

counted_keeps : (c : ℕ) (o : Outcome State) → KeepsShapes o → KeepsShapes (after_count State c o)
counted_keeps c (Reached m) k = tt
counted_keeps c (Breaks (Reason u)) k = tt
counted_keeps c (Breaks Stale) k = tt
counted_keeps c (Breaks IllTyped) k = k

past_keeps : (q : ℕ) (o : Outcome State) → KeepsShapes o → KeepsShapes (past State q o)
past_keeps q (Reached m) k = tt
past_keeps q (Breaks (Reason u)) k = tt
past_keeps q (Breaks Stale) k = tt
past_keeps q (Breaks IllTyped) k = k

module _ (p : Program) (bodies : (g : ℕ) → ShapedFunction p g (slice_get p.functions g)) (h : History) (fits : IsFitting h) where
  pub acted_good : (i : ℕ) (s : State) → Good p s → Good p (acted h i s)
  acted_good i s g = record {
    world = assigned_fits (at_stop h i) s.here.world (fitting_at h i fits) g.world;
    inner = g.inner;
    control = g.control;
    outer = g.outer;
  }

  then_keeps : (n : Next State) (rest : ℕ → State → Outcome State) (i : ℕ) → Fine p n → ((i : ℕ) (s : State) → Good p s → KeepsShapes (rest i s)) → KeepsShapes (then_on State (step p) (acted h) n rest i)
  then_keeps (Goes c s) rest i f k = counted_keeps c (rest i s) (k i s f)
  then_keeps (Passes q c s) rest i f k = counted_keeps c _ (past_keeps q (rest (suc i) (acted h i s)) (k (suc i) (acted h i s) (acted_good i s f)))
  then_keeps (Exits v c s) rest i f k = tt
  then_keeps (Undefined (Reason u)) rest i f k = tt
  then_keeps (Undefined Stale) rest i f k = tt
  then_keeps (Undefined IllTyped) rest i f k = f

  pub runs_keep : (n i : ℕ) (s : State) → Good p s → KeepsShapes (after State (step p) (acted h) n i s)
  runs_keep zero i s g = tt
  runs_keep (suc n) i s g = then_keeps (step p s) (after State (step p) (acted h) n) i (step_fine p bodies s g) (λ i s g. runs_keep n i s g)

  -- ---- a moment before the end is in a good state

  abbrev pub ReachesGood : Outcome State → Type 0
  ReachesGood (Reached m) = m.exit ≡ None → Good p m.state
  ReachesGood (Breaks w) = Unit {0}

  counted_reaches : (c : ℕ) (o : Outcome State) → ReachesGood o → ReachesGood (after_count State c o)
  counted_reaches c (Reached m) k = k
  counted_reaches c (Breaks w) k = tt

  past_reaches : (q : ℕ) (o : Outcome State) → ReachesGood o → ReachesGood (past State q o)
  past_reaches q (Reached m) k = k
  past_reaches q (Breaks w) k = tt

  pub no_exit : {A : Type 0} (v : ℤ) → ◌≡◌ {A = Option ℤ} (Some v) None → A
  no_exit {A} v e = absurd (subst (λ (q : Option ℤ). elim q as (λ _. Type 0) [ None ↦ ⊥ | Some z ↦ Unit {0} ]) e tt)

  then_reaches : (n : Next State) (rest : ℕ → State → Outcome State) (i : ℕ) → Fine p n → ((i : ℕ) (s : State) → Good p s → ReachesGood (rest i s)) → ReachesGood (then_on State (step p) (acted h) n rest i)
  then_reaches (Goes c s) rest i f k = counted_reaches c (rest i s) (k i s f)
  then_reaches (Passes q c s) rest i f k = counted_reaches c _ (past_reaches q (rest (suc i) (acted h i s)) (k (suc i) (acted h i s) (acted_good i s f)))
  then_reaches (Exits v c s) rest i f k = λ e. no_exit v e
  then_reaches (Undefined w) rest i f k = tt

  pub runs_reach : (n i : ℕ) (s : State) → Good p s → ReachesGood (after State (step p) (acted h) n i s)
  runs_reach zero i s g = λ e. g
  runs_reach (suc n) i s g = then_reaches (step p s) (after State (step p) (acted h) n) i (step_fine p bodies s g) (λ i s g. runs_reach n i s g)
