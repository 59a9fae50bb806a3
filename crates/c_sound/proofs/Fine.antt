-- What a step may answer.
use Rattle.std.proofs.Common.{◌≡◌, refl, sym, ◌∙◌, subst, ap, arith, ℕ, suc, List, [], ◌∷◌, ◌++◌, Bool, true, false, Option, Some, None, length, take, map, append_assoc, append-nil}
use Rattle.std.specs.Prelude.{Result, Ok, Err, slice_get, if◌then◌else◌, ◌==◌, ◌&&◌}
use Rattle.runs.specs.Runs.{Next, Goes, Passes, Exits, Undefined, Why, Reason, Stale, IllTyped}
use Rattle.c_tree.specs.declared.rows.Program.{Program}
use Rattle.c_tree.specs.declared.rows.Function.{Function}
use Rattle.c_tree.specs.declared.typed.DeclaredLocal.{DeclaredLocal}
use Rattle.c_tree.specs.Layout.{size_of}
use Rattle.std.specs.List.{AllByRecursion}
use Rattle.c_store.specs.Store.{Value, Cell, with_first, ◌>>=◌}
use Rattle.c_store.specs.Frames.{Here, made, left, is_free}
use Rattle.c_source.specs.Blocks.{cells_of, converted, local_type, result_type, opened, can_open, given_one, given}
use Rattle.c_source.specs.Control.{Item, State, Activation}
use Rattle.c_source.specs.Source.{on_ok, on_some, on_test}
use Rattle.c_typing.specs.Programs.{numbers}
use Rattle.c_sound.specs.Shapes.{is_place}
use Rattle.c_sound.proofs.World.{Gives, used_gives, CellFits, WorldFits, made_fits, left_fits}
use Rattle.c_sound.proofs.Operators.{addr, converted_gives}
use Rattle.c_sound.proofs.Shaped.{local_numbers, Fresh, Given}
use Rattle.c_sound.proofs.Ready.{locals_of, Ready, HasFunction, Outside, Good}
use Rattle.c_sound.proofs.Lists.{locals_append, locals_take, free_here}
use Rattle.c_sound.proofs.Objects.{cells_fit, parameter_gives}

abbrev pub shapes : List Value → List Bool
shapes vs = map is_place vs

pub equal_numbers : (m n : ℕ) → m ≡ n → (m == n) ≡ true
equal_numbers m n e = grind arith

module _ (p : Program) where
  -- it goes on in a good state, ends, or has one of C's reasons
  abbrev pub Fine : Next State → Type 0
  Fine (Goes c s) = Good p s
  Fine (Passes q c s) = Good p s
  Fine (Exits n c s) = Unit {0}
  Fine (Undefined (Reason u)) = Unit {0}
  Fine (Undefined Stale) = Unit {0}
  Fine (Undefined IllTyped) = ⊥

  pub ok_fine : {A : Type 0} (P : A → Type 0) (m : Result A Why) (go : A → Next State) → Gives P m → ((x : A) → P x → Fine (go x)) → Fine (on_ok m go)
  ok_fine P (Ok x) go h f = f x h
  ok_fine P (Err (Reason u)) go h f = tt
  ok_fine P (Err Stale) go h f = tt
  ok_fine P (Err IllTyped) go h f = h

  pub some_fine : {A : Type 0} (o : Option A) (x : A) (go : A → Next State) → o ≡ Some x → Fine (go x) → Fine (on_some o go)
  some_fine o x go e f = subst (λ q. Fine (on_some q go)) (sym e) f

  pub either_fine : (b : Bool) (x y : Next State) → Fine x → Fine y → Fine (if b then x else y)
  either_fine true x y f g = f
  either_fine false x y f g = g

  pub if_fine : (b : Bool) (x y : Next State) → b ≡ true → Fine x → Fine (if b then x else y)
  if_fine b x y e f = subst (λ c. Fine (if c then x else y)) (sym e) f

  pub there : (o : Option Function) → HasFunction p o → (fn : Function) × (o ≡ Some fn)
  there None h = absurd h
  there (Some fn) h = (fn, refl)

  -- ---- blocks are left

  pub left_good : (n : ℕ) (h : Here) (vs : List Value) (k : List Item) (out : List Activation) → WorldFits h.world → HasFunction p (slice_get p.functions h.activation.function) → Outside p (addr (result_type p h.activation.function)) out
      → Ready p h.activation.function k (take n (locals_of h.activation.locals)) (shapes vs) → Good p (record { here = left n h; values = vs; control = k; outer = out })
  unfolding left
  left_good n h vs k out w i o r = record {
    world = left_fits n h w;
    inner = i;
    control = subst (λ ls. Ready p h.activation.function k ls (shapes vs)) (sym (locals_take n h.activation.locals)) r;
    outer = o;
  }

  -- ---- objects begin

  one_more : (h : Here) (x : ℕ) (rest : List ℕ) (k : List Item) (ss : List Bool) (o : ℕ) → Ready p h.activation.function k (locals_of h.activation.locals ++ x ∷ rest) ss
      → Ready p h.activation.function k (locals_of (h.activation.locals ++ record { local = x; object = o } ∷ []) ++ rest) ss
  one_more h x rest k ss o r =
      let ls = locals_of h.activation.locals in
      subst (λ ys. Ready p h.activation.function k ys ss) (sym (append_assoc ls (x ∷ []) rest) ∙ sym (ap (λ ys. ys ++ rest) (locals_append h.activation.locals (record { local = x; object = o } ∷ [])))) r

  pub opened_good : (f : ℕ) (ds : List DeclaredLocal) (h : Here) (vs : List Value) (k : List Item) (out : List Activation) → WorldFits h.world → HasFunction p (slice_get p.functions h.activation.function) → Outside p (addr (result_type p h.activation.function)) out
      → Ready p h.activation.function k (locals_of h.activation.locals ++ local_numbers ds) (shapes vs) → Good p (record { here = opened p f ds h; values = vs; control = k; outer = out })
  unfolding made
  opened_good f [] h vs k out w i o r = record {
    world = w;
    inner = i;
    control = subst (λ ls. Ready p h.activation.function k ls (shapes vs)) (append-nil (locals_of h.activation.locals)) r;
    outer = o;
  }
  opened_good f (d ∷ ds) h vs k out w i o r =
      let t = local_type p f d.local in
      opened_good f ds (made d.local (size_of p.defs t) (cells_of p.defs t) h) vs k out
      (made_fits d.local (size_of p.defs t) (cells_of p.defs t) h w (cells_fit p.defs t)) i o
      (one_more h d.local (local_numbers ds) k (shapes vs) (length h.world.objects) r)

  both_true : (a b : Bool) → a ≡ true → b ≡ true → a && b ≡ true
  both_true true b e f = f
  both_true false b e f = e

  -- the objects of a block can begin where its locals are not in scope yet
  pub opens : (f : ℕ) (ds : List DeclaredLocal) (h : Here) → Fresh (locals_of h.activation.locals) (local_numbers ds) → can_open p f ds h ≡ true
  unfolding made
  opens f [] h q = refl
  opens f (d ∷ ds) h q =
      let t = local_type p f d.local in
      let more = record { local = d.local; object = length h.world.objects } ∷ [] in
      both_true (is_free d.local h.activation.locals) (can_open p f ds (made d.local (size_of p.defs t) (cells_of p.defs t) h)) (free_here d.local h.activation.locals q.0)
      (opens f ds (made d.local (size_of p.defs t) (cells_of p.defs t) h) (subst (λ ls. Fresh ls (local_numbers ds)) (sym (locals_append h.activation.locals more)) q.1))

  ok_bind : {A B : Type 0} (m : Result A Why) (g : A → Result B Why) (go : B → Next State) → Fine (on_ok m (λ x. on_ok (g x) go)) → Fine (on_ok (m >>= g) go)
  ok_bind (Ok x) g go f = f
  ok_bind (Err w) g go f = f

  -- a called function's parameters
  pub given_fine : (g : ℕ) (args : List Value) (x : ℕ) (h : Here) (c : ℕ) (k : List Item) (out : List Activation) → WorldFits h.world → HasFunction p (slice_get p.functions h.activation.function) → Outside p (addr (result_type p h.activation.function)) out
      → Given p g x (shapes args) → Ready p h.activation.function k (locals_of h.activation.locals ++ numbers x (length args)) []
      → Fine (on_ok (given p g x args h) (λ e. Goes c (record { here = e; values = []; control = k; outer = out })))
  unfolding made
  given_fine g [] x h c k out w i o q r = record {
    world = w;
    inner = i;
    control = subst (λ ls. Ready p h.activation.function k ls []) (append-nil (locals_of h.activation.locals)) r;
    outer = o;
  }
  given_fine g (v ∷ vs) x h c k out w i o q r =
      let t = local_type p g x in
      let go = λ (e : Here). Goes c (record { here = e; values = []; control = k; outer = out }) in
      let make = λ (cells : List Cell). Ok (made x (size_of p.defs t) cells h) in
      ok_bind (given_one p g x v h) (given p g (suc x) vs) go
      (ok_bind (converted t v) (λ u. with_first u (cells_of p.defs t) >>= make) (λ e. on_ok (given p g (suc x) vs e) go)
      (ok_fine (λ u. is_place u ≡ addr t) (converted t v) _ (converted_gives t v q.0.0) λ u s.
      ok_bind (with_first u (cells_of p.defs t)) make (λ e. on_ok (given p g (suc x) vs e) go)
      (ok_fine (λ cells. AllByRecursion CellFits cells) (with_first u (cells_of p.defs t)) _ (parameter_gives p t u s q.0.1) λ cells fit.
      given_fine g vs (suc x) (made x (size_of p.defs t) cells h) c k out (made_fits x (size_of p.defs t) cells h w fit) i o q.1
      (one_more h x (numbers (suc x) (length vs)) k [] (length h.world.objects) r))))

  module _ (h : Here) (out : List Activation) where
    pub test_fine : (v : Value) (holds fails : Next State) → Fine holds → Fine fails → Fine (on_test p h out v holds fails)
    test_fine v holds fails f g = ok_fine (λ x. x ≡ v) _ _ (used_gives h.world v) λ x e. either_fine _ fails holds g f
