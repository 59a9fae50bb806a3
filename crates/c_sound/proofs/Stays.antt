-- Each step keeps the locals of the points passed last in scope.
use Rattle.std.proofs.Common.{◌≡◌, refl, sym, ◌∙◌, subst, ap, ℕ, suc, ◌+◌, ◌*◌, List, [], ◌∷◌, ◌++◌, Bool, true, false, Option, Some, None, length, take, drop, reverse, le_of_eq, take_all, append_assoc, append-nil}
use Rattle.std.specs.Prelude.{Result, Ok, Err, slice_get, if◌then◌else◌, pos, bytes_eq, codes, ◌==◌}
use Rattle.runs.specs.Runs.{Next, Goes, Passes, Exits, Undefined, Why, IllTyped}
use Rattle.c_tree.specs.declared.types.CType.{CType}
use Rattle.c_tree.specs.declared.typed.BinaryOp.{BinaryOp}
use Rattle.c_tree.specs.declared.typed.Typed.{Typed}
use Rattle.c_tree.specs.declared.typed.Typed.TheVariants.{Comma', Assign', Choice', Or', And', Binary', Cast', Before', Address', Follow', Unary', SizeOf', SizeOfType, Index', Call', Dot', Arrow', After', Name, Constant, Literal, Parens'}
use Rattle.c_tree.specs.declared.typed.DeclaredLocal.{DeclaredLocal}
use Rattle.c_tree.specs.declared.typed.Stmt.{Stmt, Row_of-Stmt}
use Rattle.c_tree.specs.declared.typed.Stmt.TheVariants.{Value as Expression, Block', If', While', Do', For', Switch', Case', Default', Break, Continue, Return}
use Rattle.c_tree.specs.declared.rows.Program.{Program}
use Rattle.c_tree.specs.declared.rows.Function.{Function}
use Rattle.c_tree.specs.declared.rows.SymbolRow.{SymbolRow}
use Rattle.c_tree.specs.declared.rows.Referent.{Referent}
use Rattle.c_tree.specs.declared.rows.Referent.TheVariants.{Object, Local, Function as Defined, Declared}
use Rattle.c_tree.specs.Types.{type_of, kind_of, is_struct, is_array}
use Rattle.c_tree.specs.Rows.{exprs, stmts}
use Rattle.c_tree.specs.Layout.{size_of}
use Rattle.c_store.specs.Store.{Value, Number, At as Pointing, World, used, load, store, load_struct, store_struct, moved, Cell, with_first, ◌>>=◌}
use Rattle.c_store.specs.Frames.{Here, with_world, made, left, bound, new_activation}
use Rattle.c_source.specs.Blocks.{cells_of, converted, local_type, opened, can_open, given_one, given, entered}
use Rattle.c_tree.specs.Rows.{statements_in}
use Rattle.c_source.specs.Operators.{bits_in, is_zero, combined, changed}
use Rattle.c_source.specs.Control.{Item, Eval, Locate, Push, Bound, Load, Convert, Store, Copy, Update, Change, Combine, Offset, Use, Discard, Truth, AndThen, OrElse, Pick, Joined, Enter, Run, Stop, Choose, Open, Close, Turn, Again, Select, Seek, Switched, GiveBack, Leave, Label, Round, State, Activation, outermost_of, runs_of, inits_of, broken, continued, body_of, seeks, labels_in, default_in}
use Rattle.c_tree.specs.Points.{last_of}
use Rattle.c_source.specs.Source.{on_ok, on_one, on_two, on_some, step, go, evaluate, locate, read, copy, update, on_test, built_in, call, end_with, execute, seek, act, on_control, no_value, place_in}
use Rattle.c_typing.specs.Programs.{numbers}
use Rattle.c_sound.specs.Shapes.{is_place}
use Rattle.c_sound.proofs.Shaped.{local_numbers, is_getchar}
use Rattle.c_sound.proofs.Ready.{locals_of, EntersFunction, EntersBy, Enters, Ready, Good}
use Rattle.c_sound.proofs.Lists.{locals_append, locals_take, locals_length, take_map, reverse_map, map_length, take_seam}
use Rattle.c_sound.proofs.Fine.{shapes}
use Rattle.c_sound.proofs.Scoped.{At, Ends, EndsIn, PlacedInits, PlacedS, PlacedRows, EachPlaced, EachLabelPlaced, Scoped, AfterBreak, AfterContinue, CoveredAt, OuterScoped, InScope}
use Rattle.c_sound.proofs.Ways.{behind, args_scoped, runs_scoped, rows_placed, body_placed, break_more, continue_more, LandsIn, break_lands, continue_lands, inits_scoped, part_scoped, else_placed, turns_scoped, goes_on_scoped, for_starts, while_starts, do_starts, labels_placed, default_placed}

module _ (p : Program) where
  -- where it goes on the scopes stay right, and where it passes a point its locals are in scope
  abbrev pub Stays : Next State → Type 0
  Stays (Goes c s) = InScope p s
  Stays (Passes q c s) = InScope p s × CoveredAt p s.here.activation
  Stays (Exits n c s) = Unit {0}
  Stays (Undefined why) = Unit {0}

  ok_stays : {A : Type 0} (m : Result A Why) (go : A → Next State) → ((x : A) → Stays (go x)) → Stays (on_ok m go)
  ok_stays (Ok x) go f = f x
  ok_stays (Err why) go f = tt

  some_stays : {A : Type 0} (o : Option A) (go : A → Next State) → ((x : A) → Stays (go x)) → Stays (on_some o go)
  some_stays None go f = tt
  some_stays (Some x) go f = f x

  one_stays : (vs : List Value) (go : Value → List Value → Next State) → ((v : Value) (rest : List Value) → Stays (go v rest)) → Stays (on_one vs go)
  one_stays [] go f = tt
  one_stays (v ∷ vs) go f = f v vs

  two_stays : (vs : List Value) (go : Value → Value → List Value → Next State) → ((x y : Value) (rest : List Value) → Stays (go x y rest)) → Stays (on_two vs go)
  two_stays [] go f = tt
  two_stays (y ∷ []) go f = tt
  two_stays (y ∷ x ∷ vs) go f = f x y vs

  either_stays : (b : Bool) (x y : Next State) → Stays x → Stays y → Stays (if b then x else y)
  either_stays true x y f g = f
  either_stays false x y f g = g

  -- ---- blocks are left, and objects begin

  left_scoped : (n : ℕ) (h : Here) (vs : List Value) (k : List Item) (out : List Activation) → OuterScoped p out → Scoped p h.activation.function k (take n (locals_of h.activation.locals)) ⊥ → InScope p (record { here = left n h; values = vs; control = k; outer = out })
  unfolding left
  left_scoped n h vs k out o r = record {
    inner = behind p h.activation.function k _ _ (subst (λ ls. Scoped p h.activation.function k ls ⊥) (sym (locals_take n h.activation.locals)) r);
    outer = o;
  }

  one_more : (h : Here) (x : ℕ) (rest : List ℕ) (k : List Item) (o : ℕ) → Scoped p h.activation.function k (locals_of h.activation.locals ++ x ∷ rest) ⊥
      → Scoped p h.activation.function k (locals_of (h.activation.locals ++ record { local = x; object = o } ∷ []) ++ rest) ⊥
  one_more h x rest k o r =
      let ls = locals_of h.activation.locals in
      subst (λ ys. Scoped p h.activation.function k ys ⊥) (sym (append_assoc ls (x ∷ []) rest) ∙ sym (ap (λ ys. ys ++ rest) (locals_append h.activation.locals (record { local = x; object = o } ∷ [])))) r

  opened_scoped : (f : ℕ) (ds : List DeclaredLocal) (h : Here) (vs : List Value) (k : List Item) (out : List Activation) → OuterScoped p out → Scoped p h.activation.function k (locals_of h.activation.locals ++ local_numbers ds) ⊥ → InScope p (record { here = opened p f ds h; values = vs; control = k; outer = out })
  unfolding made
  opened_scoped f [] h vs k out o r = record {
    inner = behind p h.activation.function k _ _ (subst (λ ls. Scoped p h.activation.function k ls ⊥) (append-nil (locals_of h.activation.locals)) r);
    outer = o;
  }
  opened_scoped f (d ∷ ds) h vs k out o r =
      let t = local_type p f d.local in
      opened_scoped f ds (made d.local (size_of p.defs t) (cells_of p.defs t) h) vs k out o (one_more h d.local (local_numbers ds) k (length h.world.objects) r)

  ok_bind : {A B : Type 0} (m : Result A Why) (g : A → Result B Why) (go : B → Next State) → Stays (on_ok m (λ x. on_ok (g x) go)) → Stays (on_ok (m >>= g) go)
  ok_bind (Ok x) g go f = f
  ok_bind (Err w) g go f = f

  given_stays : (g : ℕ) (args : List Value) (x : ℕ) (h : Here) (c : ℕ) (k : List Item) (out : List Activation) → OuterScoped p out → Scoped p h.activation.function k (locals_of h.activation.locals ++ numbers x (length args)) ⊥
      → Stays (on_ok (given p g x args h) (λ e. Goes c (record { here = e; values = []; control = k; outer = out })))
  unfolding made
  given_stays g [] x h c k out o r = record {
    inner = behind p h.activation.function k _ _ (subst (λ ls. Scoped p h.activation.function k ls ⊥) (append-nil (locals_of h.activation.locals)) r);
    outer = o;
  }
  given_stays g (v ∷ vs) x h c k out o r =
      let t = local_type p g x in
      let go = λ (e : Here). Goes c (record { here = e; values = []; control = k; outer = out }) in
      let make = λ (cells : List Cell). Ok (made x (size_of p.defs t) cells h) in
      ok_bind (given_one p g x v h) (given p g (suc x) vs) go
      (ok_bind (converted t v) (λ u. with_first u (cells_of p.defs t) >>= make) (λ e. on_ok (given p g (suc x) vs e) go)
      (ok_stays (converted t v) _ λ u.
      ok_bind (with_first u (cells_of p.defs t)) make (λ e. on_ok (given p g (suc x) vs e) go)
      (ok_stays (with_first u (cells_of p.defs t)) _ λ cells.
      given_stays g vs (suc x) (made x (size_of p.defs t) cells h) c k out o (one_more h x (numbers (suc x) (length vs)) k (length h.world.objects) r))))

  -- a function's body, from its first point on
  abbrev pub ScopedBodies : Type 0
  ScopedBodies = (g : ℕ) (fn : Function) → slice_get p.functions g ≡ Some fn → Scoped p g (body_of p g fn) (numbers 0 fn.params) ⊥

  module _ (bodies : ScopedBodies) (h : Here) (out : List Activation) (o : OuterScoped p out) where
    abbrev f : ℕ
    f = h.activation.function

    abbrev ls : List ℕ
    ls = locals_of h.activation.locals

    abbrev C : Type 0
    C = CoveredAt p h.activation

    abbrev S : List Item → Type 0
    S k = Scoped p f k ls C

    goes : (c : ℕ) (vs : List Value) (k : List Item) → S k → Stays (go p h out c h vs k)
    goes c vs k r = record { inner = r; outer = o }

    goes_in : (c : ℕ) (w : World) (vs : List Value) (k : List Item) → S k → Stays (go p h out c (with_world h w) vs k)
    goes_in c w vs k r = record { inner = r; outer = o }

    -- behind a statement
    goes_behind : (c : ℕ) (vs : List Value) (k : List Item) → Scoped p f k ls ⊥ → Stays (go p h out c h vs k)
    goes_behind c vs k r = goes c vs k (behind p f k ls C r)

    test_stays : (v : Value) (holds fails : Next State) → Stays holds → Stays fails → Stays (on_test p h out v holds fails)
    test_stays v holds fails q r = ok_stays (used h.world v) _ λ x. either_stays (is_zero x) fails holds r q

    -- ---- expressions

    either_scoped : (b : Bool) (k j : List Item) → S k → S j → S (if b then k else j)
    either_scoped true k j q r = q
    either_scoped false k j q r = r

    evaluate_stays : (e : Typed) (vs : List Value) (k : List Item) → C → S k → Stays (evaluate p h out e vs k)
    evaluate_stays (Comma' t x a y b) vs k c r = goes 1 vs _ (c, (c, r))
    evaluate_stays (Assign' t x a None y b) vs k c r = goes 1 vs _ (either_scoped (is_struct (type_of a)) (Locate a ∷ Locate b ∷ Copy (type_of a) ∷ k) (Locate a ∷ Eval b ∷ Store (type_of a) ∷ k) (c, (c, r)) (c, (c, r)))
    evaluate_stays (Assign' t x a (Some op) y b) vs k c r = goes 1 vs _ (c, (c, r))
    evaluate_stays (Choice' t x d y a z b) vs k c r = goes 1 vs _ (c, (c, r))
    evaluate_stays (Or' t x a y b) vs k c r = goes 1 vs _ (c, (c, r))
    evaluate_stays (And' t x a y b) vs k c r = goes 1 vs _ (c, (c, r))
    evaluate_stays (Binary' t x a op y b) vs k c r = goes 1 vs _ (c, (c, r))
    evaluate_stays (Cast' t x a) vs k c r = goes 1 vs _ (c, r)
    evaluate_stays (Before' t op x a) vs k c r = goes 1 vs _ (c, r)
    evaluate_stays (Address' t x a) vs k c r = goes 1 vs _ (c, r)
    evaluate_stays (Follow' t x a) vs k c r = goes 1 vs _ (c, r)
    evaluate_stays (Unary' t op x a) vs k c r = goes 1 vs _ (c, r)
    evaluate_stays (SizeOf' t x a) vs k c r = goes 1 (Number _ ∷ vs) k r
    evaluate_stays (SizeOfType t u) vs k c r = goes 1 (Number _ ∷ vs) k r
    evaluate_stays (Index' t x a y b) vs k c r = goes 1 vs _ (c, r)
    evaluate_stays (Call' t g x row) vs k c r = goes 1 vs _ (args_scoped p f (exprs row) (Enter g (length (exprs row)) ∷ k) ls C c (c, r))
    evaluate_stays (Dot' t x a m) vs k c r = goes 1 vs _ (c, r)
    evaluate_stays (Arrow' t x a m) vs k c r = goes 1 vs _ (c, r)
    evaluate_stays (After' t x a op) vs k c r = goes 1 vs _ (c, r)
    evaluate_stays (Name t n) vs k c r = goes 1 vs _ (c, r)
    evaluate_stays (Constant t n) vs k c r = goes 1 (Number n ∷ vs) k r
    evaluate_stays (Literal t n) vs k c r = goes 1 vs _ (c, r)
    evaluate_stays (Parens' t x a) vs k c r = goes 1 vs _ (c, r)

    locate_stays : (e : Typed) (vs : List Value) (k : List Item) → C → S k → Stays (locate p h out e vs k)
    locate_stays (Name t n) vs k c r = some_stays (place_in (slice_get p.symbols n) h) _ λ v. goes 1 (v ∷ vs) k r
    locate_stays (Literal t n) vs k c r = goes 1 (Pointing _ 0 ∷ vs) k r
    locate_stays (Follow' t x a) vs k c r = goes 1 vs _ (c, r)
    locate_stays (Index' t x a y b) vs k c r = goes 1 vs _ (c, (c, r))
    locate_stays (Dot' t x a m) vs k c r = goes 1 vs _ (c, r)
    locate_stays (Arrow' t x a m) vs k c r = goes 1 vs _ (c, r)
    locate_stays (Parens' t x a) vs k c r = goes 1 vs _ (c, r)
    locate_stays _ vs k c r = tt

    read_stays : (t : CType) (v : Value) (vs : List Value) (k : List Item) → S k → Stays (read p h out t v vs k)
    read_stays t v vs k r = either_stays (is_array t) _ _ (goes 1 (v ∷ vs) k r) (ok_stays (load h.world (kind_of t) v >>= converted t) _ λ x. goes 2 (x ∷ vs) k r)

    update_stays : (t : CType) (op : BinaryOp) (s : CType) (new : Bool) (place y : Value) (vs : List Value) (k : List Item) → S k → Stays (update p h out t op s new place y vs k)
    update_stays t op s new place y vs k r =
        ok_stays (load h.world (kind_of t) place >>= converted t) _ λ old.
        ok_stays (combined p.defs h.world op t s old y >>= converted t) _ λ x.
        ok_stays (store h.world (kind_of t) place x) _ λ w. goes_in 3 w _ k r

    copy_stays : (t : CType) (to from : Value) (vs : List Value) (k : List Item) → S k → Stays (copy p h out t to from vs k)
    copy_stays t to from vs k r =
        ok_stays (load_struct h.world (cells_of p.defs t) from) _ λ xs.
        ok_stays (store_struct h.world (cells_of p.defs t) to xs) _ λ w. goes_in (1 + 2 * length xs) w (no_value ∷ vs) k r

    -- ---- calls

    built_in_stays : (name : List ℕ) (args vs : List Value) (k : List Item) → S k → Stays (built_in p h out name args vs k)
    built_in_stays name [] vs k r = either_stays (is_getchar name) _ _ (goes_in 1 _ (Number _ ∷ vs) k r) tt
    built_in_stays name (v ∷ []) vs k r =
        ok_stays (bits_in v) _ λ n. either_stays (is_getchar name) _ _ tt (either_stays (bytes_eq name (codes "putchar")) _ _ (goes_in 1 _ (Number _ ∷ vs) k r) (either_stays (bytes_eq name (codes "exit")) _ _ tt tt))
    built_in_stays name (v ∷ u ∷ us) vs k r = tt

    function_stays : (g : ℕ) (fn : Option Function) (n : ℕ) (vs : List Value) (k : List Item) → slice_get p.functions g ≡ fn → EntersFunction p g fn n (shapes vs) (Ready p f k ls) → C → S k
        → Stays (on_some fn (λ fn.
        if fn.params == n then on_ok (entered p (suc h.activation.number) g (reverse (take n vs)) h.world) (λ e. Goes (1 + n) (record { here = e; values = []; control = body_of p g fn; outer = record { activation = h.activation; values = drop n vs; control = k } ∷ out }))
        else Undefined IllTyped))
    function_stays g None n vs k e q c r = tt
    function_stays g (Some fn) n vs k e q c r =
        let args = reverse (take n vs) in
        let same : reverse (take n (shapes vs)) ≡ shapes args = ap reverse (sym (take_map is_place n vs)) ∙ sym (reverse_map is_place (take n vs)) in
        let count : fn.params ≡ length args = sym q.1 ∙ ap length same ∙ map_length is_place args in
        either_stays (fn.params == n) _ _
        (given_stays g args 0 (record { world = h.world; activation = new_activation (suc h.activation.number) g }) (1 + n) (body_of p g fn) (record { activation = h.activation; values = drop n vs; control = k } ∷ out) (c, r, o)
        (subst (λ m. Scoped p g (body_of p g fn) (numbers 0 m) ⊥) count (bodies g fn e)))
        tt

    call_stays : (r : Referent) (name : List ℕ) (n : ℕ) (vs : List Value) (k : List Item) → EntersBy p r name n (shapes vs) (Ready p f k ls) → C → S k → Stays (call p h out r name n vs k)
    call_stays (Object x) name n vs k q c r = tt
    call_stays (Local x) name n vs k q c r = tt
    call_stays (Defined g) name n vs k q c r = function_stays g (slice_get p.functions g) n vs k refl q c r
    call_stays Declared name n vs k q c r = built_in_stays name (take n vs) (drop n vs) k r

    enter_stays : (s : Option SymbolRow) (n : ℕ) (vs : List Value) (k : List Item) → Enters p s n (shapes vs) (Ready p f k ls) → C → S k → Stays (on_some s (λ s. call p h out s.refers s.name n vs k))
    enter_stays None n vs k q c r = tt
    enter_stays (Some s) n vs k q c r = call_stays s.refers s.name n vs k q c r

    end_stays : (v : Value) (rest : List Activation) → OuterScoped p rest → Stays (end_with p h out v rest)
    end_stays v [] q = ok_stays (bits_in v) _ λ n. tt
    end_stays v (a ∷ rest) q = record { inner = q.1; outer = q.2 }

    -- ---- statements

    left_stays : (n : ℕ) (vs : List Value) (k : List Item) → Scoped p f k (take n ls) ⊥ → Stays (go p h out 1 (left n h) vs k)
    left_stays n vs k r = left_scoped n h vs k out o r

    land_stays : (r : Option Round) (vs : List Value) → LandsIn p f ls r → Stays (on_some r (λ r. go p h out 1 (left r.scope h) vs r.control))
    land_stays None vs q = tt
    land_stays (Some r) vs q = left_stays r.scope vs r.control q

    abbrev count : ℕ
    count = length h.activation.locals

    counted : count ≡ length ls
    counted = locals_length h.activation.locals

    block_scoped : {m : _} (ds : List DeclaredLocal) (row : Row_of-Stmt m) (k : List Item) → PlacedInits p f (ls ++ local_numbers ds) ds → PlacedRows p f (ls ++ local_numbers ds) row → AfterBreak p f k ls → AfterContinue p f k ls → Scoped p f k ls ⊥
        → S (Open ds ∷ (inits_of p f ds ++ (runs_of (stmts row) ++ Close count ∷ k)))
    block_scoped ds row k q s x y r =
        let xs = local_numbers ds in
        inits_scoped p f ds (runs_of (stmts row) ++ Close count ∷ k) (ls ++ xs) q
        (runs_scoped p f (stmts row) (Close count ∷ k) (ls ++ xs) (rows_placed p f row (ls ++ xs) s) (break_more p f k ls xs x) (continue_more p f k ls xs y)
        (subst (λ ys. Scoped p f k ys ⊥) (sym (ap (λ c. take c (ls ++ xs)) counted ∙ take_seam ls xs)) r))

    returned : (e : Option Typed) (at : _) (q : ℕ) (vs : List Value) (k : List Item) → At p f q ls → Ends p f ls → Stays (execute p h out (Return at q e) vs k)
    returned None at q vs k a r = goes 1 vs _ (a, r)
    returned (Some e) at q vs k a r = goes 1 vs _ (a, (a, r))

    execute_stays : (s : Stmt) (vs : List Value) (k : List Item) → PlacedS p f ls s → AfterBreak p f k ls → AfterContinue p f k ls → Scoped p f k ls ⊥ → Stays (execute p h out s vs k)
    execute_stays (Expression at e) vs k q x y r = goes_behind 1 vs _ (part_scoped p f e k ls q r)
    execute_stays (Block' at ds t row line column) vs k q x y r = goes 1 vs _ (block_scoped ds row k q.0 q.1 x y r)
    execute_stays (If' at c t s e) vs k q x y r = goes 1 vs _ (q.0, (q.0, (q.1, else_placed p f e ls q.2, x, y, r)))
    execute_stays (Switch' at c t s) vs k q x y r = goes 1 vs _ (q.0, (q.0, (counted, body_placed p f s ls q.1, y, r)))
    execute_stays (Case' at c t s) vs k q x y r = goes 1 vs _ (q, x, y, r)
    execute_stays (Default' at t s) vs k q x y r = goes 1 vs _ (q, x, y, r)
    execute_stays (Break at) vs k q x y r = land_stays (broken k) vs (break_lands p f k ls x)
    execute_stays (Continue at) vs k q x y r = land_stays (continued k) vs (continue_lands p f k ls y)
    execute_stays (Return at c e) vs k q x y r = returned e at c vs k q.0 q.1
    execute_stays (While' at c t s) vs k q x y r = goes_behind 1 vs _ (while_starts p f at c t s count k ls counted q r)
    execute_stays (Do' at t s c) vs k q x y r = goes_behind 1 vs _ (do_starts p f at c t s count k ls counted q r)
    execute_stays (For' at i c j t s) vs k q x y r = goes_behind 1 vs _ (for_starts p f at i c j t s count k ls counted q.0 (q.1, q.2, q.3) r)

    in_switch : (xs : List Stmt) (n : ℕ) (k : List Item) → n ≡ length ls → EachPlaced p f ls xs → AfterContinue p f k ls → Scoped p f k ls ⊥ → Scoped p f (runs_of xs ++ Switched n ∷ k) ls ⊥
    in_switch xs n k e q y r = runs_scoped p f xs (Switched n ∷ k) ls q (le_of_eq e, subst (λ ys. Scoped p f k ys ⊥) (sym (take_all n ls (le_of_eq (sym e)))) r) y r

    either_behind : (b : Bool) (k j : List Item) → Scoped p f k ls ⊥ → Scoped p f j ls ⊥ → Scoped p f (if b then k else j) ls ⊥
    either_behind true k j q r = q
    either_behind false k j q r = r

    seeks_behind : (v : ℕ) (labels : List Label) (default : List Stmt) (n : ℕ) (k : List Item) → n ≡ length ls → EachLabelPlaced p f ls labels → EachPlaced p f ls default → AfterContinue p f k ls → Scoped p f k ls ⊥
        → Scoped p f (seeks v labels default n k) ls ⊥
    seeks_behind v [] default n k e q d y r = in_switch default n k e d y r
    seeks_behind v (x ∷ xs) default n k e q d y r = (e, q, d, y, r)

    seek_stays : (v : ℕ) (x : Label) (labels : List Label) (default : List Stmt) (n : ℕ) (vs : List Value) (k : List Item) → n ≡ length ls → EachLabelPlaced p f ls (x ∷ labels) → EachPlaced p f ls default → AfterContinue p f k ls → Scoped p f k ls ⊥
        → Stays (seek p h out v x labels default n vs k)
    seek_stays v x xs default n vs k e q d y r =
        goes_behind 1 vs _ (either_behind (x.constant == v) (runs_of x.from ++ Switched n ∷ k) (seeks v xs default n k) (in_switch x.from n k e q.0 y r) (seeks_behind v xs default n k e q.1 d y r))

    gives_back : (fn : Option Function) (vs : List Value) → EndsIn p f fn ls → Stays (on_some fn (λ fn. on_one vs (λ v rest. go p h out 1 (left (outermost_of fn) h) (v ∷ []) (Stop (last_of fn.points) ∷ Leave ∷ []))))
    gives_back None vs q = tt
    gives_back (Some fn) vs q = one_stays vs _ λ v rest. left_stays (outermost_of fn) (v ∷ []) (Stop (last_of fn.points) ∷ Leave ∷ []) (q, tt)

    -- ---- the first thing that remains to be done

    act_stays : (x : Item) (vs : List Value) (k : List Item) → Ready p f (x ∷ k) ls (shapes vs) → S (x ∷ k) → Stays (act p h out x vs k)
    act_stays (Eval e) vs k q r = evaluate_stays e vs k r.0 r.1
    act_stays (Locate e) vs k q r = locate_stays e vs k r.0 r.1
    act_stays (Push v) vs k q r = goes 1 (v ∷ vs) k r
    act_stays (Bound x) vs k q r = some_stays (bound x h.activation.locals) _ λ b. goes 1 (Pointing b 0 ∷ vs) k r
    act_stays (Load t) vs k q r = one_stays vs _ λ v rest. read_stays t v rest k r
    act_stays (Convert t) vs k q r = one_stays vs _ λ v rest. ok_stays (converted t v) _ λ x. goes 1 (x ∷ rest) k r
    act_stays (Store t) vs k q r = two_stays vs _ λ place v rest. ok_stays (converted t v) _ λ x. ok_stays (store h.world (kind_of t) place x) _ λ w. goes_in 2 w (x ∷ rest) k r
    act_stays (Copy t) vs k q r = two_stays vs _ λ place from rest. copy_stays t place from rest k r
    act_stays (Update t op s new) vs k q r = two_stays vs _ λ place y rest. update_stays t op s new place y rest k r
    act_stays (Change op t) vs k q r = one_stays vs _ λ v rest. ok_stays (changed h.world op t v) _ λ x. goes 1 (x ∷ rest) k r
    act_stays (Combine op s t) vs k q r = two_stays vs _ λ x y rest. ok_stays (combined p.defs h.world op s t x y) _ λ z. goes 1 (z ∷ rest) k r
    act_stays (Offset n) vs k q r = one_stays vs _ λ v rest. ok_stays (moved h.world v (pos n)) _ λ x. goes 1 (x ∷ rest) k r
    act_stays Use vs k q r = one_stays vs _ λ v rest. ok_stays (used h.world v) _ λ x. goes 1 (x ∷ rest) k r
    act_stays Discard vs k q r = one_stays vs _ λ v rest. goes 1 rest k r
    act_stays Truth vs k q r = one_stays vs _ λ v rest. test_stays v _ _ (goes 1 (Number 1 ∷ rest) k r) (goes 1 (Number 0 ∷ rest) k r)
    act_stays (AndThen e) vs k q r = one_stays vs _ λ v rest. test_stays v _ _ (goes 1 rest (Eval e ∷ Truth ∷ Joined ∷ k) r) (goes 1 (Number 0 ∷ rest) k r.1)
    act_stays (OrElse e) vs k q r = one_stays vs _ λ v rest. test_stays v _ _ (goes 1 (Number 1 ∷ rest) k r.1) (goes 1 rest (Eval e ∷ Truth ∷ Joined ∷ k) r)
    act_stays (Pick t a b) vs k q r = one_stays vs _ λ v rest. test_stays v _ _ (goes 1 rest (Eval a ∷ Use ∷ Convert t ∷ Joined ∷ k) r) (goes 1 rest (Eval b ∷ Use ∷ Convert t ∷ k) r)
    act_stays Joined vs k q r = goes 1 vs k r
    act_stays (Enter g n) vs k q r = enter_stays (slice_get p.symbols g) n vs k q r.0 r.1
    act_stays (Run s) vs k q r = execute_stays s vs k r.0 r.1 r.2 r.3
    act_stays (Stop s) vs k q r = (record { inner = r.1; outer = o }, r.0)
    act_stays (Choose a b) vs k q r = one_stays vs _ λ v rest. test_stays v _ _ (goes 1 rest (Run a ∷ Joined ∷ k) (r.0, r.2, r.3, r.4)) (goes_behind 1 rest (runs_of b ++ k) (runs_scoped p f b k ls r.1 r.2 r.3 r.4))
    act_stays (Open ds) vs k q r = either_stays (can_open p f ds h) _ _ (opened_scoped f ds h vs k out o r) tt
    act_stays (Close n) vs k q r = left_stays n vs k r
    act_stays (Turn s n) vs k q r = one_stays vs _ λ v rest. test_stays v _ _ (goes_behind 1 rest _ (turns_scoped p f s n k ls r.0 r.1 r.2)) (goes_behind 1 rest k r.2)
    act_stays (Again s n) vs k q r = goes_behind 1 vs _ (goes_on_scoped p f s n k ls r.0 r.1 r.2)
    act_stays (Select body n) vs k q r =
        one_stays vs _ λ v rest. ok_stays (bits_in v) _ λ x. goes_behind 1 rest _ (seeks_behind x (labels_in (statements_in body)) (default_in (statements_in body)) n k r.0 (labels_placed p f (statements_in body) ls r.1) (default_placed p f (statements_in body) ls r.1) r.2 r.3)
    act_stays (Seek v x labels default n) vs k q r = seek_stays v x labels default n vs k r.0 r.1 r.2 r.3 r.4
    act_stays (Switched n) vs k q r = goes_behind 1 vs k r
    act_stays GiveBack vs k q r = gives_back (slice_get p.functions f) vs r
    act_stays Leave vs k q r = one_stays vs _ λ v rest. end_stays v out o

    control_stays : (k : List Item) (vs : List Value) → Ready p f k ls (shapes vs) → S k → Stays (on_control p h out k vs)
    control_stays [] vs q r = tt
    control_stays (x ∷ k) vs q r = act_stays x vs k q r

  pub step_stays : ScopedBodies → (s : State) → Good p s → InScope p s → Stays (step p s)
  step_stays bodies s g i = control_stays bodies s.here s.outer i.outer s.control s.values g.control i.inner
