-- Accepted programs.
use Rattle.std.proofs.Common.{◌≡◌, refl, sym, ◌∙◌, subst, ap, arith, ℕ, suc, zero, ◌+◌, ◌≤◌, le_refl, List, [], ◌∷◌, ◌++◌, Option, Some, None, length, length-append, le-add_right, true≢false}
use Rattle.std.specs.Prelude.{Bool, slice_get, ◌==◌, if◌then◌else◌, Result, Ok, Err, true, false}
use Rattle.c_tree.specs.declared.types.CType.{CType}
use Rattle.c_tree.specs.declared.types.CType.TheVariants as ctype
use Rattle.c_tree.specs.declared.rows.Program.{Program}
use Rattle.c_tree.specs.declared.rows.Function.{Function}
use Rattle.c_tree.specs.declared.typed.Typed.{Typed}
use Rattle.runs.specs.Runs.{Why, Reason, Stale, IllTyped, Moment, Reached, after, until}
use Rattle.c_store.specs.Frames.{Here, ActivationRecord}
use Rattle.c_store.specs.Assigned.{History}
use Rattle.c_source.specs.Blocks.{result_type, zero_as}
use Rattle.c_source.specs.Control.{Push, GiveBack, State}
use Rattle.c_source.specs.Source.{step}
use Rattle.c_source.specs.Begin.{begin, acted}
use Rattle.c_source.specs.Meaning.{Given, values_meant, assigned, IsPlain, IsAssignment}
use Rattle.c_typing.specs.Plain.{plain}
use Rattle.c_reading.specs.Kept.{KeepsRules}
use Rattle.c_typing.specs.Declarations.{has}
use Rattle.c_typing.specs.Plain.{Plain}
use Rattle.c_tree.specs.declared.rows.SymbolRow.{SymbolRow}
use Rattle.c_reading.specs.Scope.{scope_with}
use Rattle.c_typing.specs.Statements.{locals_of as locals_in}
use Rattle.c_typing.specs.Programs.{AllFrom, numbers, IsFunction, KeepsRules as ProgramKeepsRules}
use Rattle.c_sound.specs.Shapes.{IsFitting, KeepsShapes, CourseKeepsShapes, HasMeaning, IsAssigned, AreLive}
use Rattle.c_sound.proofs.World.{Gives, WorldFits}
use Rattle.c_sound.proofs.Ready.{locals_of, Good}
use Rattle.c_sound.proofs.Lists.{live_here}
use Rattle.c_sound.proofs.Evaluations.{values_given, assigned_given}
use Rattle.c_sound.proofs.Structs.{struct_lvalue}
use Rattle.c_sound.proofs.Operators.{addr, zero_shape}
use Rattle.c_sound.proofs.Steps.{ShapedFunction}
use Rattle.c_sound.proofs.Rules.{no_none, some_same}
use Rattle.c_sound.proofs.Typed.{HasParameters, evaluated, located}
use Rattle.c_sound.proofs.Shaped.{Fresh}
use Rattle.c_sound.proofs.Bodies.{given_back, body_ready, fresh_second}
use Rattle.c_sound.proofs.Begins.{begins_good}
use Rattle.c_sound.proofs.Courses.{courses_keep}
use Rattle.c_sound.proofs.Runs.{runs_keep, ReachesGood, runs_reach}

-- what holds of all items and their numbers holds of each
pub each_from : {A : Type 0} (P : ℕ → A → Type 0) (n : ℕ) (xs : List A) (i : ℕ) (x : A) → AllFrom P n xs → slice_get xs i ≡ Some x → P (i + n) x
each_from P n [] i x h e = no_none x e
each_from P n (y ∷ ys) zero x h e = let z : n ≡ 0 + n = omega arith in subst (λ m. P m x) z (subst (P n) (some_same y x e) h.0)
each_from P n (y ∷ ys) (suc i) x h e = let z : i + suc n ≡ suc i + n = omega arith in subst (λ m. P m x) z (each_from P (suc n) ys i x h.1 e)

pub numbers_length : (from n : ℕ) → length (numbers from n) ≡ n
numbers_length from zero = refl
numbers_length from (suc n) = ap suc (numbers_length (suc from) n)

numbers_fresh : (v : List ℕ) (from n : ℕ) → ((x : ℕ) → from ≤ x → has v x ≡ false) → Fresh v (numbers from n)
numbers_fresh v from zero none = tt
numbers_fresh v from (suc n) none = (none from (le_refl from), numbers_fresh (v ++ from ∷ []) (suc from) n (λ x le. one_more v x (none x (omega (arith, le))) le))
  where
    by : (t a : Bool) → t ≡ false → a ≡ false → (if t then true else a) ≡ false
    by true a e h = absurd (true≢false e)
    by false a e h = h

    kept : (t a b : Bool) → (a ≡ false → b ≡ false) → (if t then true else a) ≡ false → (if t then true else b) ≡ false
    kept true a b f h = h
    kept false a b f h = f h

    one_more : (v : List ℕ) (x : ℕ) → has v x ≡ false → suc from ≤ x → has (v ++ from ∷ []) x ≡ false
    one_more [] x h le = by (from == x) false (grind (arith, le)) refl
    one_more (y ∷ v) x h le = kept (y == x) (has v x) (has (v ++ from ∷ []) x) (λ k. one_more v x k le) h

-- the locals of a body begin one after another behind the parameters
locals_fresh : (fn : Function) → numbers 0 (length fn.locals) ≡ numbers 0 fn.params ++ locals_in fn.body → Fresh (numbers 0 fn.params) (locals_in fn.body)
locals_fresh fn e = fresh_second [] (numbers 0 fn.params) (locals_in fn.body) (subst (Fresh []) e (numbers_fresh [] 0 (length fn.locals) (λ x le. refl)))

abbrev result_in : Option Function → CType
result_in None = ctype.Void
result_in (Some f) = f.result

module _ (p : Program) (accepted : ProgramKeepsRules p) where
  pub function_there : (g : ℕ) (fn : Function) → slice_get p.functions g ≡ Some fn → IsFunction p g fn
  function_there g fn e = let z : g + 0 ≡ g = omega arith in subst (λ n. IsFunction p n fn) z (each_from (IsFunction p) 0 p.functions g fn accepted.functions e)

  pub parameters_there : (g : ℕ) (fn : Function) → slice_get p.functions g ≡ Some fn → HasParameters fn
  parameters_there g fn e =
      let d = (function_there g fn e).declared in
      let n : length fn.locals ≡ fn.params + length (locals_in fn.body) =
      sym (numbers_length 0 (length fn.locals)) ∙ ap length d ∙ length-append (numbers 0 fn.params) (locals_in fn.body) ∙ ap (λ m. m + length (locals_in fn.body)) (numbers_length 0 fn.params) in
      subst (λ m. fn.params ≤ m) (sym n) (le-add_right fn.params (length (locals_in fn.body)))

  function_ready : (g : ℕ) (o : Option Function) → slice_get p.functions g ≡ o → ShapedFunction p g o
  function_ready g None e = tt
  function_ready g (Some fn) e =
      let i = function_there g fn e in
      let t : fn.result ≡ result_type p g = sym (ap result_in e) in
      body_ready p parameters_there g (plain fn.result) (ap plain t) fn.body (numbers 0 fn.params) (Push (zero_as fn.result) ∷ GiveBack ∷ []) (locals_fresh fn i.declared) i.block i.body
      (λ ls. zero_shape fn.result ∙ given_back fn.result i.result ∙ ap addr t)

  pub bodies_ready : (g : ℕ) → ShapedFunction p g (slice_get p.functions g)
  bodies_ready g = function_ready g (slice_get p.functions g) refl

  pub accepted_keeps : (input : List ℕ) (h : History) (n : ℕ) → IsFitting h → KeepsShapes (after State (step p) (acted h) n 0 (begin p input))
  accepted_keeps input h n fits = runs_keep p bodies_ready h fits n 0 (begin p input) (begins_good p input bodies_ready accepted.objects accepted.main (λ g fn e. (function_there g fn e).main))

  -- ---- what a debugger evaluates and assigns

  module _ (input : List ℕ) (h : History) (fits : IsFitting h) (n : ℕ) (m : Moment State) (reached : after State (step p) (acted h) n 0 (begin p input) ≡ Reached m) (before : m.exit ≡ None) where
    good_there : Good p m.state
    good_there = (subst (ReachesGood p bodies_ready h fits) reached (runs_reach p bodies_ready h fits n 0 (begin p input) (begins_good p input bodies_ready accepted.objects accepted.main (λ g fn e. (function_there g fn e).main))) before)

    world_there : WorldFits m.state.here.world
    world_there = good_there.world

    pub course_keeps : (stops : ℕ → Bool) (k : ℕ) → CourseKeepsShapes (until State (step p) stops k m.state)
    course_keeps stops k = courses_keep p bodies_ready stops k m.state good_there

    module _ (a : ActivationRecord) (v : List ℕ) (types : SymbolRow → Plain) (live : AreLive v a) (e : Typed) (typed : KeepsRules (scope_with p a.function v types) e) where
      abbrev pub at : Here
      at = record { world = m.state.here.world; activation = a }

      within : (x : ℕ) → has v x ≡ true → has (locals_of a.locals) x ≡ true
      within x q = let o = live x q in live_here x o.0 a.locals o.1

      meaning_of : {A : Type 0} (P : A → Type 0) (r : Result A Why) → Gives P r → HasMeaning r
      meaning_of P (Ok x) g = tt
      meaning_of P (Err (Reason u)) g = tt
      meaning_of P (Err Stale) g = tt
      meaning_of P (Err IllTyped) g = g

      pub values_keep : IsPlain e → HasMeaning (values_meant p at e)
      values_keep i =
          let ls = locals_of a.locals in
          let q = evaluated types p a.function v ls within parameters_there e typed in
          meaning_of (λ _. Unit {0}) (values_meant p at e) (values_given p at world_there e i q (λ k. located types p a.function v ls within parameters_there e typed (struct_lvalue (scope_with p a.function v types) e i typed k)))

      pub assigned_keeps : IsAssignment e → Gives (λ g. IsAssigned m.state.here.world g.world) (assigned p at e)
      assigned_keeps i = assigned_given p at world_there e i (evaluated types p a.function v (locals_of a.locals) within parameters_there e typed)

      pub assignment_has_meaning : IsAssignment e → HasMeaning (assigned p at e)
      assignment_has_meaning i = meaning_of (λ g. IsAssigned m.state.here.world g.world) (assigned p at e) (assigned_keeps i)

      pub assigned_fits : (g : Given) → assigned p at e ≡ Ok g → IsAssignment e → IsAssigned m.state.here.world g.world
      assigned_fits g k i = subst (Gives (λ g. IsAssigned m.state.here.world g.world)) k (assigned_keeps i)
