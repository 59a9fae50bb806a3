-- At each stop every activation has the locals in scope at the point that it passed last.
use Rattle.std.proofs.Common.{◌≡◌, refl, sym, ◌∙◌, subst, ap, ℕ, suc, zero, ◌+◌, List, [], ◌∷◌, ◌++◌, Option, Some, None, length, take, length-append, take_all, le_refl}
use Rattle.std.specs.Prelude.{slice_get}
use Rattle.runs.specs.Runs.{Next, Goes, Passes, Exits, Undefined, Moment, Outcome, Reached, Breaks, after, after_count, past, then_on}
use Rattle.c_tree.specs.declared.typed.DeclaredLocal.{DeclaredLocal}
use Rattle.c_tree.specs.declared.rows.Program.{Program}
use Rattle.c_tree.specs.declared.rows.Function.{Function}
use Rattle.c_store.specs.Frames.{ActivationRecord}
use Rattle.c_store.specs.Assigned.{History}
use Rattle.c_source.specs.Blocks.{zero_as}
use Rattle.c_tree.specs.Rows.{declared_in}
use Rattle.c_source.specs.Control.{Push, GiveBack, State, Activation, body_of, outermost_of}
use Rattle.c_tree.specs.Points.{first_of, last_of}
use Rattle.c_source.specs.Source.{step}
use Rattle.c_source.specs.Begin.{begin, acted, records, outer_records}
use Rattle.c_typing.specs.Plain.{plain}
use Rattle.c_typing.specs.Statements.{local_numbers as numbers_of, IsPointWith}
use Rattle.c_typing.specs.Programs.{numbers, KeepsRules}
use Rattle.c_sound.specs.Shapes.{IsFitting, HasItsLocals}
use Rattle.c_sound.proofs.Shaped.{local_numbers}
use Rattle.c_sound.proofs.Ready.{locals_of, Good}
use Rattle.c_sound.proofs.Lists.{bound_here}
use Rattle.c_sound.proofs.Fine.{Fine}
use Rattle.c_sound.proofs.Steps.{ShapedFunction, step_fine}
use Rattle.c_sound.proofs.Runs.{acted_good, no_exit}
use Rattle.c_sound.proofs.Begins.{main_from, control_in, main_of, begins_good}
use Rattle.c_sound.proofs.Rules.{no_none, some_same}
use Rattle.c_sound.proofs.Bodies.{same_numbers}
use Rattle.c_sound.proofs.Accepted.{numbers_length, function_there, bodies_ready}
use Rattle.c_sound.proofs.Scoped.{At, Ends, EndsIn, Scoped, Covered, CoveredAt, OuterScoped, InScope}
use Rattle.c_sound.proofs.Stays.{Stays, ScopedBodies, step_stays}
use Rattle.c_sound.proofs.Places.{at_here, body_at}

-- ---- runs

module _ (p : Program) (shaped : (g : ℕ) → ShapedFunction p g (slice_get p.functions g)) (scoped : ScopedBodies p) (h : History) (fits : IsFitting h) where
  abbrev pub Stands : State → Type 0
  Stands s = Good p s × InScope p s

  abbrev pub ReachesStanding : Outcome State → Type 0
  ReachesStanding (Reached m) = m.exit ≡ None → Stands m.state
  ReachesStanding (Breaks w) = Unit {0}

  acted_stands : (i : ℕ) (s : State) → Stands s → Stands (acted h i s)
  acted_stands i s g = (acted_good p shaped h fits i s g.0, record { inner = g.1.inner; outer = g.1.outer })

  counted_reaches : (c : ℕ) (o : Outcome State) → ReachesStanding o → ReachesStanding (after_count State c o)
  counted_reaches c (Reached m) k = k
  counted_reaches c (Breaks w) k = tt

  past_reaches : (q : ℕ) (o : Outcome State) → ReachesStanding o → ReachesStanding (past State q o)
  past_reaches q (Reached m) k = k
  past_reaches q (Breaks w) k = tt

  then_reaches : (n : Next State) (rest : ℕ → State → Outcome State) (i : ℕ) → Fine p n → Stays p n → ((i : ℕ) (s : State) → Stands s → ReachesStanding (rest i s)) → ReachesStanding (then_on State (step p) (acted h) n rest i)
  then_reaches (Goes c s) rest i f g k = counted_reaches c (rest i s) (k i s (f, g))
  then_reaches (Passes q c s) rest i f g k = counted_reaches c _ (past_reaches q (rest (suc i) (acted h i s)) (k (suc i) (acted h i s) (acted_stands i s (f, g.0))))
  then_reaches (Exits v c s) rest i f g k = λ e. no_exit p shaped h fits v e
  then_reaches (Undefined w) rest i f g k = tt

  pub runs_stand : (n i : ℕ) (s : State) → Stands s → ReachesStanding (after State (step p) (acted h) n i s)
  runs_stand zero i s g = λ e. g
  runs_stand (suc n) i s g = then_reaches (step p s) (after State (step p) (acted h) n) i (step_fine p shaped s g.0) (step_stays p scoped s g.0 g.1) (λ i s g. runs_stand n i s g)

-- ---- accepted programs

locals_length : (ds : List DeclaredLocal) → length (local_numbers ds) ≡ length ds
locals_length [] = refl
locals_length (d ∷ ds) = ap suc (locals_length ds)

module _ (p : Program) (accepted : KeepsRules p) where
  -- where a scope begins with the locals of the outermost block
  ends_there : (g : ℕ) (fn : Function) (ls : List ℕ) → IsPointWith p g (numbers 0 fn.params ++ numbers_of (declared_in fn.body)) (last_of fn.points)
      → take (length (numbers 0 fn.params ++ local_numbers (declared_in fn.body))) ls ≡ numbers 0 fn.params ++ local_numbers (declared_in fn.body) → EndsIn p g (Some fn) ls
  ends_there g fn ls e b =
      let ds = declared_in fn.body in
      let xs = numbers 0 fn.params ++ local_numbers ds in
      let n : outermost_of fn ≡ length xs = sym (length-append (numbers 0 fn.params) (local_numbers ds) ∙ ap (λ m. m + length (local_numbers ds)) (numbers_length 0 fn.params) ∙ ap (λ m. fn.params + m) (locals_length ds)) in
      subst (At p g (last_of fn.points)) (sym (ap (λ m. take m ls) n ∙ b)) (at_here p g (plain fn.result) (last_of fn.points) xs (subst (λ ys. IsPointWith p g (numbers 0 fn.params ++ ys) (last_of fn.points)) (same_numbers ds) e))

  pub scoped_bodies : ScopedBodies p
  scoped_bodies g fn e =
      let i = function_there p accepted g fn e in
      let v = numbers 0 fn.params in
      let ends : (ls : List ℕ) → take (length (v ++ local_numbers (declared_in fn.body))) ls ≡ v ++ local_numbers (declared_in fn.body) → Ends p g ls = λ ls b. subst (λ o. EndsIn p g o ls) (sym e) (ends_there g fn ls i.ends.1 b) in
      let xs = v ++ local_numbers (declared_in fn.body) in (
        at_here p g (plain fn.result) (first_of fn.points) v i.ends.0,
        body_at p g (plain fn.result) fn.body v (Push (zero_as fn.result) ∷ GiveBack ∷ []) i.block i.body ends (λ ls. tt) (λ ls. tt) (ends xs (take_all (length xs) xs (le_refl (length xs)))),
      )

  main_scoped : (n : ℕ) (o : Option Function) (fn : Function) → o ≡ Some fn → fn.params ≡ 0 → Scoped p n (body_of p n fn) (numbers 0 fn.params) ⊥ → Scoped p n (control_in p n o) [] ⊥
  main_scoped n None fn e z r = no_none fn e
  main_scoped n (Some g) fn e z r = subst (λ c. Scoped p n (control_in p n c) [] ⊥) (sym e) (subst (λ m. Scoped p n (body_of p n fn) (numbers 0 m) ⊥) z r)

  pub begins_in_scope : (input : List ℕ) → InScope p (begin p input)
  begins_in_scope input =
      let n = main_from 0 p.functions in
      let m = main_of p accepted.main (λ g fn e. (function_there p accepted g fn e).main) in
      record { inner = main_scoped n (slice_get p.functions n) m.0 m.1 m.2 (scoped_bodies n m.0 m.1); outer = tt }

  -- ---- activations

  live : (a : ActivationRecord) (o : Option ℕ) → Covered p a.function o (locals_of a.locals) → HasItsLocals p (record a { point = o })
  live a None c = c
  live a (Some q) c = λ x k. bound_here x a.locals (c.0 x k)

  outer_live : (out : List Activation) (i : ℕ) (a : ActivationRecord) → OuterScoped p out → slice_get (outer_records out) i ≡ Some a → CoveredAt p a
  outer_live [] i a o e = no_none a e
  outer_live (x ∷ rest) zero a o e = subst (CoveredAt p) (some_same x.activation a e) o.0
  outer_live (x ∷ rest) (suc i) a o e = outer_live rest i a o.2 e

  pub all_live : (s : State) (i : ℕ) (a : ActivationRecord) → InScope p s → CoveredAt p s.here.activation → slice_get (records s) i ≡ Some a → CoveredAt p a
  all_live s zero a g c e = subst (CoveredAt p) (some_same s.here.activation a e) c
  all_live s (suc i) a g c e = outer_live s.outer i a g.outer e

  passes_stays : (n : Next State) (q c : ℕ) (s : State) → n ≡ Passes q c s → Stays p n → InScope p s × CoveredAt p s.here.activation
  passes_stays n q c s e g = subst (Stays p) e g

  pub stops_live : (input : List ℕ) (h : History) (n : ℕ) (m : Moment State) (q c : ℕ) (s : State) (i : ℕ) (a : ActivationRecord) → IsFitting h → after State (step p) (acted h) n 0 (begin p input) ≡ Reached m → m.exit ≡ None
      → step p m.state ≡ Passes q c s → slice_get (records s) i ≡ Some a → HasItsLocals p a
  stops_live input h n m q c s i a fits reached before passes there =
      let shaped = bodies_ready p accepted in
      let begun : Good p (begin p input) × InScope p (begin p input) = (begins_good p input shaped accepted.objects accepted.main (λ g fn e. (function_there p accepted g fn e).main), begins_in_scope input) in
      let stands = subst (ReachesStanding p shaped scoped_bodies h fits) reached (runs_stand p shaped scoped_bodies h fits n 0 (begin p input) begun) before in
      let g = passes_stays (step p m.state) q c s passes (step_stays p scoped_bodies m.state stands.0 stands.1) in
      live a a.point (all_live s i a g.0 g.1 there)
