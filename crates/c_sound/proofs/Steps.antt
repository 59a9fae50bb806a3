-- Each step from a good state leads to a good state, or has one of C's reasons.
use Rattle.std.proofs.Common.{◌≡◌, refl, sym, ◌∙◌, subst, ap, ℕ, suc, ◌+◌, ◌*◌, ◌%◌, List, [], ◌∷◌, ◌++◌, Bool, true, false, Option, Some, None, length, take, drop, reverse, true≢false, le_of_eq, take_all}
use Rattle.std.specs.Prelude.{slice_get, if◌then◌else◌, pos, option_map, ◌==◌}
use Rattle.ldb_words.specs.Word.{signed}
use Rattle.runs.specs.Runs.{Next, Goes, Exits, Undefined, IllTyped}
use Rattle.c_tree.specs.declared.types.CType.{CType}
use Rattle.c_tree.specs.declared.types.CType.TheVariants.{Array'}
use Rattle.c_tree.specs.declared.typed.BinaryOp.{BinaryOp}
use Rattle.c_tree.specs.declared.typed.BinaryOp.TheVariants.{Add}
use Rattle.c_tree.specs.declared.typed.Typed.{Typed}
use Rattle.c_tree.specs.declared.typed.Typed.TheVariants.{Comma', Assign', Choice', Or', And', Binary', Cast', Before', Address', Follow', Unary', SizeOf', SizeOfType, Index', Call', Dot', Arrow', After', Name, Constant, Literal, Parens'}
use Rattle.c_tree.specs.declared.typed.DeclaredLocal.{DeclaredLocal}
use Rattle.c_tree.specs.declared.typed.Stmt.{Stmt, Row_of-Stmt}
use Rattle.c_tree.specs.declared.typed.Stmt.TheVariants.{Value as Expression, Block', If', While', Do', For', Switch', Case', Default', Break, Continue, Return}
use Rattle.c_tree.specs.declared.rows.Program.{Program}
use Rattle.c_tree.specs.declared.rows.Function.{Function}
use Rattle.c_tree.specs.declared.rows.SymbolRow.{SymbolRow}
use Rattle.c_tree.specs.declared.rows.Referent.{Referent}
use Rattle.c_tree.specs.declared.rows.Referent.TheVariants.{Object, Local, Function as Defined, Declared}
use Rattle.c_tree.specs.Types.{type_of, kind_of, is_array}
use Rattle.c_tree.specs.Rows.{exprs, stmts}
use Rattle.c_store.specs.Store.{Value, Number, At, World, used, load, store, load_struct, store_struct, moved, ◌>>=◌}
use Rattle.c_store.specs.Frames.{Here, with_world, left, bound, new_activation}
use Rattle.c_operators.specs.Bits.{minus_one}
use Rattle.c_source.specs.Blocks.{cells_of, converted, result_type, can_open, entered}
use Rattle.c_tree.specs.Rows.{statements_in}
use Rattle.c_source.specs.Operators.{bits_in, combined, changed}
use Rattle.c_source.specs.Control.{Item, Eval, Locate, Push, Bound, Load, Convert, Store, Copy, Update, Change, Combine, Offset, Use, Discard, Truth, AndThen, OrElse, Pick, Joined, Enter, Run, Stop, Choose, Open, Close, Turn, Again, Select, Seek, Switched, GiveBack, Leave, Label, Round, State, Activation, outermost_of, runs_of, inits_of, broken, continued, body_of, seeks, labels_in, default_in}
use Rattle.c_tree.specs.Points.{last_of}
use Rattle.c_source.specs.Source.{on_ok, on_some, step, go, evaluate, locate, read, write, copy, update, built_in, call, end_with, execute, seek, act, on_control, no_value, place_in}
use Rattle.c_typing.specs.Programs.{numbers}
use Rattle.c_sound.specs.Shapes.{is_place, Fits}
use Rattle.c_sound.proofs.World.{used_gives, load_gives, store_gives, moved_gives, load_struct_gives, store_struct_gives, FitEach, WorldFits, left_fits, Gives, gives_then}
use Rattle.c_sound.proofs.Operators.{addr, conv, conv_own, converted_gives, takes, gives, combined_gives, changed_gives, bits_give}
use Rattle.c_sound.proofs.Shaped.{shape, Updates, is_getchar, row_shapes, CalledBuiltIn, Given, Named, NamedBy, ShapedE, ShapedL, ShapedInits, ShapedRows, ShapedReturn, ShapedS, EachShaped, Fresh, local_numbers, is_putchar, is_exit}
use Rattle.c_sound.proofs.Ready.{locals_of, EntersFunction, EntersBy, Enters, EachLabel, Ready, Breaks, Continues, HasFunction, Outside, Good}
use Rattle.c_sound.proofs.Lists.{locals_length, bound_here, take_map, drop_map, reverse_map, map_length, take_seam}
use Rattle.c_sound.proofs.Continues.{nil_cons, fit, assign_ready, args_ready, row_length, enters, runs_ready, rows_shaped, body_shaped, breaks_more, continues_more, Lands, breaks_land, continues_land, inits_ready, part_ready, else_shaped, turns_ready, goes_on_ready, for_begins, while_begins, do_begins, labels_shaped, default_shaped}
use Rattle.c_sound.proofs.Fine.{shapes, Fine, equal_numbers, if_fine, ok_fine, some_fine, there, left_good, opened_good, opens, given_fine, test_fine}

module _ (p : Program) where
  -- a function whose body can be done from its first point on
  abbrev pub ShapedFunction : ℕ → Option Function → Type 0
  ShapedFunction g None = Unit {0}
  ShapedFunction g (Some fn) = Ready p g (body_of p g fn) (numbers 0 fn.params) []

  module _ (bodies : (g : ℕ) → ShapedFunction g (slice_get p.functions g)) (h : Here) (out : List Activation) (w : WorldFits h.world) (i : HasFunction p (slice_get p.functions h.activation.function)) (o : Outside p (addr (result_type p h.activation.function)) out) where
    abbrev f : ℕ
    f = h.activation.function

    abbrev ls : List ℕ
    ls = locals_of h.activation.locals

    abbrev Can : List Item → List Bool → Type 0
    Can k ss = Ready p f k ls ss

    abbrev IsFine : Next State → Type 0
    IsFine n = Fine p n

    goes : (c : ℕ) (vs : List Value) (k : List Item) → Can k (shapes vs) → IsFine (go p h out c h vs k)
    goes c vs k r = record { world = w; inner = i; control = r; outer = o }

    goes_in : (c : ℕ) (w' : World) (vs : List Value) (k : List Item) → WorldFits w' → Can k (shapes vs) → IsFine (go p h out c (with_world h w') vs k)
    goes_in c w' vs k g r = record { world = g; inner = i; control = r; outer = o }

    -- ---- expressions

    evaluate_fine : (e : Typed) (vs : List Value) (k : List Item) → ShapedE p ls e → Can k (shape e ∷ shapes vs) → IsFine (evaluate p h out e vs k)
    evaluate_fine (Comma' t x a y b) vs k q r = goes 1 vs _ (q.0, (q.1, fit p f k ls (shapes vs) (shape b) (addr t.ctype) q.2 r))
    evaluate_fine (Assign' t x a None y b) vs k q r = goes 1 vs _ (assign_ready p f ls (shapes vs) (type_of a) a b k q.0 q.1 (fit p f k ls (shapes vs) (shape a) (addr t.ctype) q.2 r))
    evaluate_fine (Assign' t x a (Some op) y b) vs k q r = goes 1 vs _ (q.0, (q.1, (q.2, fit p f k ls (shapes vs) (shape a) (addr t.ctype) q.3 r)))
    evaluate_fine (Choice' t x c y a z b) vs k q r = goes 1 vs _ (q.0, (q.1, q.2, q.3, q.4, r))
    evaluate_fine (Or' t x a y b) vs k q r = goes 1 vs _ (q.0, (q.1, fit p f k ls (shapes vs) false (addr t.ctype) q.2 r))
    evaluate_fine (And' t x a y b) vs k q r = goes 1 vs _ (q.0, (q.1, fit p f k ls (shapes vs) false (addr t.ctype) q.2 r))
    evaluate_fine (Binary' t x a op y b) vs k q r = goes 1 vs _ (q.0, (q.1, (q.2, fit p f k ls (shapes vs) (gives op (type_of a) (type_of b)) (addr t.ctype) q.3 r)))
    evaluate_fine (Cast' t x a) vs k q r = goes 1 vs _ (q.0, (q.1, r))
    evaluate_fine (Before' t op x a) vs k q r = goes 1 vs _ (q.0, (q.1, fit p f k ls (shapes vs) (shape a) (addr t.ctype) q.2 r))
    evaluate_fine (Address' t x a) vs k q r = goes 1 vs _ (q.0, fit p f k ls (shapes vs) true (addr t.ctype) q.1 r)
    evaluate_fine (Follow' t x a) vs k q r = goes 1 vs _ (q, (refl, r))
    evaluate_fine (Unary' t op x a) vs k q r = goes 1 vs _ (q.0, (q.1, fit p f k ls (shapes vs) false (addr t.ctype) q.2 r))
    evaluate_fine (SizeOf' t x a) vs k q r = goes 1 (Number _ ∷ vs) k (fit p f k ls (shapes vs) false (addr t.ctype) q r)
    evaluate_fine (SizeOfType t u) vs k q r = goes 1 (Number _ ∷ vs) k (fit p f k ls (shapes vs) false (addr t.ctype) q r)
    evaluate_fine (Index' t x a y b) vs k q r = goes 1 vs _ (q, (refl, r))
    evaluate_fine (Call' t g x row) vs k q r =
        goes 1 vs _ (args_ready p f row ls (shapes vs) (Enter g (length (exprs row)) ∷ k) q.0
        (enters p f (slice_get p.symbols g) (length (exprs row)) (row_shapes row) (shapes vs) (addr t.ctype) (Ready p f k ls) (row_length p f row) q.1 r))
    evaluate_fine (Dot' t x a m) vs k q r = goes 1 vs _ (q, (refl, r))
    evaluate_fine (Arrow' t x a m) vs k q r = goes 1 vs _ (q, (refl, r))
    evaluate_fine (After' t x a op) vs k q r = goes 1 vs _ (q.0, (q.1, fit p f k ls (shapes vs) (shape a) (addr t.ctype) q.2 r))
    evaluate_fine (Name t n) vs k q r = goes 1 vs _ (q, (refl, r))
    evaluate_fine (Constant t n) vs k q r = goes 1 (Number n ∷ vs) k (fit p f k ls (shapes vs) false (addr t.ctype) q r)
    evaluate_fine (Literal t n) vs k q r = goes 1 vs _ (q, (refl, r))
    evaluate_fine (Parens' t x a) vs k q r = goes 1 vs _ (q.0, fit p f k ls (shapes vs) (shape a) (addr t.ctype) q.1 r)

    -- the place of a name is an address
    abbrev IsPlace : Option Value → Type 0
    IsPlace None = ⊥
    IsPlace (Some v) = is_place v ≡ true

    mapped_place : (q : Option ℕ) (b : ℕ) → q ≡ Some b → IsPlace (option_map (λ o. At o 0) q)
    mapped_place q b e = subst (λ q. IsPlace (option_map (λ o. At o 0) q)) (sym e) refl

    abbrev place_of : Referent → Here → Option Value
    place_of (Object o) h = Some (At o 0)
    place_of (Local x) h = option_map (λ o. At o 0) (bound x h.activation.locals)
    place_of (Defined f) h = None
    place_of Declared h = None

    refers_place : (r : Referent) → NamedBy p ls r → IsPlace (place_of r h)
    refers_place (Object o) q = refl
    refers_place (Local x) q = let b = bound_here x h.activation.locals q in mapped_place (bound x h.activation.locals) b.0 b.1
    refers_place (Defined f) q = q
    refers_place Declared q = q

    named_place : (s : Option SymbolRow) → Named p ls s → IsPlace (place_in s h)
    named_place None q = q
    named_place (Some s) q = refers_place s.refers q

    place_fine : (v : Option Value) (vs : List Value) (k : List Item) → IsPlace v → Can k (true ∷ shapes vs) → IsFine (on_some v (λ v. go p h out 1 h (v ∷ vs) k))
    place_fine None vs k q r = q
    place_fine (Some v) vs k q r = goes 1 (v ∷ vs) k (fit p f k ls (shapes vs) (is_place v) true q r)

    locate_fine : (e : Typed) (vs : List Value) (k : List Item) → ShapedL p ls e → Can k (true ∷ shapes vs) → IsFine (locate p h out e vs k)
    locate_fine (Name t n) vs k q r = place_fine (place_in (slice_get p.symbols n) h) vs k (named_place (slice_get p.symbols n) q) r
    locate_fine (Literal t n) vs k q r = goes 1 (At _ 0 ∷ vs) k r
    locate_fine (Follow' t x a) vs k q r = goes 1 vs _ (q.0, fit p f k ls (shapes vs) (shape a) true q.1 r)
    locate_fine (Index' t x a y b) vs k q r = goes 1 vs _ (q.0, (q.1, (q.2, fit p f k ls (shapes vs) (gives Add (type_of a) (type_of b)) true q.3 r)))
    locate_fine (Dot' t x a m) vs k q r = goes 1 vs _ (q, (refl, r))
    locate_fine (Arrow' t x a m) vs k q r = goes 1 vs _ (q.0, (q.1, r))
    locate_fine (Parens' t x a) vs k q r = goes 1 vs _ (q, r)
    locate_fine _ vs k q r = absurd q

    -- ---- values that were computed

    read_gives : (t : CType) (v : Value) → Gives (λ x. is_place x ≡ addr t) (load h.world (kind_of t) v >>= converted t)
    read_gives t v = gives_then (Fits (kind_of t)) (λ x. is_place x ≡ addr t) (load h.world (kind_of t) v) (converted t) (load_gives h.world (kind_of t) v w) λ x g. converted_gives t x (ap (conv t) g ∙ conv_own t)

    read_by : (b : Bool) (t : CType) (v : Value) (vs : List Value) (k : List Item) → b ≡ is_array t → is_place v ≡ true → Can k (addr t ∷ shapes vs)
        → IsFine (if b then go p h out 1 h (v ∷ vs) k else on_ok (load h.world (kind_of t) v >>= converted t) (λ x. go p h out 2 h (x ∷ vs) k))
    read_by true t v vs k e q r = goes 1 (v ∷ vs) k (fit p f k ls (shapes vs) (is_place v) (addr t) (q ∙ sym (array_address t (sym e))) r)
      where
        array_address : (t : CType) → is_array t ≡ true → addr t ≡ true
        array_address (Array' b t n) e = refl
        array_address _ e = absurd (true≢false (sym e))
    read_by false t v vs k e q r =
        ok_fine p (λ x. is_place x ≡ addr t) (load h.world (kind_of t) v >>= converted t) _ (read_gives t v) λ x g. goes 2 (x ∷ vs) k (fit p f k ls (shapes vs) (is_place x) (addr t) g r)

    read_fine : (t : CType) (v : Value) (vs : List Value) (k : List Item) → is_place v ≡ true → Can k (addr t ∷ shapes vs) → IsFine (read p h out t v vs k)
    read_fine t v vs k q r = read_by (is_array t) t v vs k refl q r

    write_fine : (t : CType) (place v : Value) (vs : List Value) (k : List Item) → conv t (is_place v) ≡ addr t → Can k (addr t ∷ shapes vs) → IsFine (write p h out t place v vs k)
    write_fine t place v vs k q r =
        ok_fine p (λ x. is_place x ≡ addr t) (converted t v) _ (converted_gives t v q) λ x e.
        ok_fine p WorldFits (store h.world (kind_of t) place x) _ (store_gives h.world (kind_of t) place x w e) λ w' g.
        goes_in 2 w' (x ∷ vs) k g (fit p f k ls (shapes vs) (is_place x) (addr t) e r)

    copy_fine : (t : CType) (to from : Value) (vs : List Value) (k : List Item) → is_place to ≡ true → is_place from ≡ true → Can k (false ∷ shapes vs) → IsFine (copy p h out t to from vs k)
    copy_fine t to from vs k q e r =
        ok_fine p (FitEach (cells_of p.defs t)) (load_struct h.world (cells_of p.defs t) from) _ (load_struct_gives h.world (cells_of p.defs t) from w e) λ xs g.
        ok_fine p WorldFits (store_struct h.world (cells_of p.defs t) to xs) _ (store_struct_gives h.world (cells_of p.defs t) to xs w q g) λ w' g'.
        goes_in (1 + 2 * length xs) w' (no_value ∷ vs) k g' r

    either_shape : (b : Bool) (t : CType) (x y : Value) → is_place x ≡ addr t → is_place y ≡ addr t → is_place (if b then x else y) ≡ addr t
    either_shape true t x y d e = d
    either_shape false t x y d e = e

    update_fine : (t : CType) (op : BinaryOp) (s : CType) (new : Bool) (place y : Value) (vs : List Value) (k : List Item) → Updates t op s (is_place y) → Can k (addr t ∷ shapes vs) → IsFine (update p h out t op s new place y vs k)
    update_fine t op s new place y vs k q r =
        ok_fine p (λ x. is_place x ≡ addr t) (load h.world (kind_of t) place >>= converted t) _ (read_gives t place) λ old d.
        ok_fine p (λ x. is_place x ≡ addr t) (combined p.defs h.world op t s old y >>= converted t) _
        (gives_then (λ z. is_place z ≡ gives op t s) (λ x. is_place x ≡ addr t) (combined p.defs h.world op t s old y) (converted t)
        (combined_gives p.defs h.world op t s old y (ap (λ a. takes op t s a (is_place y)) d ∙ q.0)) λ z e. converted_gives t z (ap (conv t) e ∙ q.1)) λ x c.
        ok_fine p WorldFits (store h.world (kind_of t) place x) _ (store_gives h.world (kind_of t) place x w c) λ w' g'.
        goes_in 3 w' ((if new then x else old) ∷ vs) k g' (fit p f k ls (shapes vs) _ (addr t) (either_shape new t x old c d) r)

    -- ---- calls

    abbrev next_byte : List ℕ → ℕ
    next_byte [] = minus_one
    next_byte (b ∷ bs) = b

    abbrev IsEither : Bool → Bool → Type 0
    IsEither true c = Unit {0}
    IsEither false true = Unit {0}
    IsEither false false = ⊥

    -- `putchar` and `exit`
    printed : (b c : Bool) (n : ℕ) (vs : List Value) (k : List Item) → IsEither b c → Can k (false ∷ shapes vs)
        → IsFine (if b then go p h out 1 (with_world h (record h.world { output = h.world.output ++ (n % 256) ∷ [] })) (Number (n % 256) ∷ vs) k else if c then Exits (signed n) 1 (record { here = h; values = []; control = []; outer = out }) else Undefined IllTyped)
    printed true c n vs k o r = goes_in 1 _ (Number (n % 256) ∷ vs) k w r
    printed false true n vs k o r = tt
    printed false false n vs k o r = absurd o

    -- a built-in with no argument and with one, by whether it is `getchar`
    by_none : (b c d : Bool) (vs : List Value) (k : List Item) → CalledBuiltIn p b c d [] → Can k (false ∷ shapes vs)
        → IsFine (if b then go p h out 1 (with_world h (record h.world { input = drop 1 h.world.input })) (Number (next_byte h.world.input) ∷ vs) k else Undefined IllTyped)
    by_none true c d vs k q r = goes_in 1 _ (Number _ ∷ vs) k w r
    by_none false true d vs k q r = q
    by_none false false true vs k q r = q
    by_none false false false vs k q r = q

    by_one : (b c d : Bool) (v : Value) (vs : List Value) (k : List Item) → CalledBuiltIn p b c d (is_place v ∷ []) → Can k (false ∷ shapes vs)
        → IsFine (on_ok (bits_in v) (λ n.
        if b then Undefined IllTyped
        else if c then go p h out 1 (with_world h (record h.world { output = h.world.output ++ (n % 256) ∷ [] })) (Number (n % 256) ∷ vs) k
        else if d then Exits (signed n) 1 (record { here = h; values = []; control = []; outer = out })
        else Undefined IllTyped))
    by_one true c d v vs k q r = nil_cons (is_place v) [] q
    by_one false true d v vs k q r = ok_fine p (λ _. Unit {0}) (bits_in v) _ (bits_give v q) λ n u. printed true d n vs k tt r
    by_one false false true v vs k q r = ok_fine p (λ _. Unit {0}) (bits_in v) _ (bits_give v q) λ n u. printed false true n vs k tt r
    by_one false false false v vs k q r = absurd q

    by_more : (b c d : Bool) (s t : Bool) (ss : List Bool) → CalledBuiltIn p b c d (s ∷ t ∷ ss) → ⊥
    by_more true c d s t ss q = nil_cons s (t ∷ ss) q
    by_more false true d s t ss q = q
    by_more false false true s t ss q = q
    by_more false false false s t ss q = q

    built_in_fine : (name : List ℕ) (args vs : List Value) (k : List Item) → CalledBuiltIn p (is_getchar name) (is_putchar name) (is_exit name) (shapes args) → Can k (false ∷ shapes vs) → IsFine (built_in p h out name args vs k)
    built_in_fine name [] vs k q r = by_none (is_getchar name) (is_putchar name) (is_exit name) vs k q r
    built_in_fine name (v ∷ []) vs k q r = by_one (is_getchar name) (is_putchar name) (is_exit name) v vs k q r
    built_in_fine name (v ∷ u ∷ us) vs k q r = by_more (is_getchar name) (is_putchar name) (is_exit name) (is_place v) (is_place u) (shapes us) q

    call_function : (g : ℕ) (fn : Option Function) (n : ℕ) (vs : List Value) (k : List Item) → slice_get p.functions g ≡ fn → EntersFunction p g fn n (shapes vs) (Ready p f k ls)
        → IsFine (on_some fn (λ fn.
        if fn.params == n then on_ok (entered p (suc h.activation.number) g (reverse (take n vs)) h.world) (λ e. Goes (1 + n) (record { here = e; values = []; control = body_of p g fn; outer = record { activation = h.activation; values = drop n vs; control = k } ∷ out }))
        else Undefined IllTyped))
    call_function g None n vs k e r = r
    call_function g (Some fn) n vs k e r =
        let args = reverse (take n vs) in
        let same : reverse (take n (shapes vs)) ≡ shapes args = ap reverse (sym (take_map is_place n vs)) ∙ sym (reverse_map is_place (take n vs)) in
        let count : fn.params ≡ length args = sym r.1 ∙ ap length same ∙ map_length is_place args in
        if_fine p (fn.params == n) _ _ (equal_numbers fn.params n r.0)
        (given_fine p g args 0 (record { world = h.world; activation = new_activation (suc h.activation.number) g }) (1 + n) (body_of p g fn) (record { activation = h.activation; values = drop n vs; control = k } ∷ out) w
        (subst (HasFunction p) (sym e) tt)
        (i, subst (λ ss. Ready p f k ls (addr (result_type p g) ∷ ss)) (sym (drop_map is_place n vs)) r.3, o)
        (subst (λ ss. Given p g 0 ss) same r.2)
        (subst (λ c. Ready p g (body_of p g fn) (numbers 0 c) []) count (subst (ShapedFunction g) e (bodies g))))

    call_fine : (r : Referent) (name : List ℕ) (n : ℕ) (vs : List Value) (k : List Item) → EntersBy p r name n (shapes vs) (Ready p f k ls) → IsFine (call p h out r name n vs k)
    call_fine (Object x) name n vs k r = r
    call_fine (Local x) name n vs k r = r
    call_fine (Defined g) name n vs k r = call_function g (slice_get p.functions g) n vs k refl r
    call_fine Declared name n vs k r =
        built_in_fine name (take n vs) (drop n vs) k (subst (λ ss. CalledBuiltIn p (is_getchar name) (is_putchar name) (is_exit name) ss) (sym (take_map is_place n vs)) r.0)
        (subst (λ ss. Ready p f k ls (false ∷ ss)) (sym (drop_map is_place n vs)) r.1)

    enter_fine : (s : Option SymbolRow) (n : ℕ) (vs : List Value) (k : List Item) → Enters p s n (shapes vs) (Ready p f k ls) → IsFine (on_some s (λ s. call p h out s.refers s.name n vs k))
    enter_fine None n vs k r = r
    enter_fine (Some s) n vs k r = call_fine s.refers s.name n vs k r

    -- the innermost activation ends
    end_fine : (v : Value) (rest : List Activation) → is_place v ≡ addr (result_type p f) → Outside p (addr (result_type p f)) rest → IsFine (end_with p h out v rest)
    end_fine v [] e q = ok_fine p (λ _. Unit {0}) (bits_in v) _ (bits_give v (e ∙ q)) λ n u. tt
    end_fine v (a ∷ rest) e q = record {
      world = left_fits 0 h w;
      inner = q.0;
      control = fit p a.activation.function a.control (locals_of a.activation.locals) (shapes a.values) (is_place v) (addr (result_type p f)) e q.1;
      outer = q.2;
    }

    -- ---- statements

    left_fine : (n : ℕ) (vs : List Value) (k : List Item) → Ready p f k (take n ls) (shapes vs) → IsFine (go p h out 1 (left n h) vs k)
    left_fine n vs k r = left_good p n h vs k out w i o r

    land_fine : (k : List Item) (r : Option Round) → Lands p f k ls r → IsFine (on_some r (λ r. go p h out 1 (left r.scope h) [] r.control))
    land_fine k r q = some_fine p r q.0 _ q.1 (left_fine q.0.scope [] q.0.control q.2)

    abbrev count : ℕ
    count = length h.activation.locals

    counted : count ≡ length ls
    counted = locals_length h.activation.locals

    -- the statements of a block, and then its end
    block_ready : {m : _} (ds : List DeclaredLocal) (row : Row_of-Stmt m) (l b : Bool) (k : List Item) → Fresh ls (local_numbers ds) → ShapedInits p f (ls ++ local_numbers ds) ds → ShapedRows p f (ls ++ local_numbers ds) l b row
        → (b ≡ true → Breaks p f k ls) → (l ≡ true → Continues p f k ls) → Can k []
        → Can (Open ds ∷ (inits_of p f ds ++ (runs_of (stmts row) ++ Close count ∷ k))) []
    block_ready ds row l b k new q s x y r =
        let xs = local_numbers ds in (
          new,
          inits_ready p f ds (runs_of (stmts row) ++ Close count ∷ k) (ls ++ xs) q
              (runs_ready p f (stmts row) (Close count ∷ k) (ls ++ xs) l b (rows_shaped p f row (ls ++ xs) l b s) (λ e. breaks_more p f k ls xs (x e)) (λ e. continues_more p f k ls xs (y e))
              (subst (λ ys. Ready p f k ys []) (sym (ap (λ c. take c (ls ++ xs)) counted ∙ take_seam ls xs)) r)),
        )

    returned : (o : Option Typed) (at : _) (q : ℕ) (k : List Item) → ShapedReturn p f ls o → IsFine (execute p h out (Return at q o) [] k)
    returned None at q k r = goes 1 [] _ r
    returned (Some e) at q k r = goes 1 [] _ (r.0, (r.1, refl))

    execute_fine : (s : Stmt) (l b : Bool) (k : List Item) → ShapedS p f ls l b s → (b ≡ true → Breaks p f k ls) → (l ≡ true → Continues p f k ls) → Can k [] → IsFine (execute p h out s [] k)
    execute_fine (Expression at e) l b k q x y r = goes 1 [] _ (part_ready p f e k ls q r)
    execute_fine (Block' at ds t row line column) l b k q x y r = goes 1 [] _ (block_ready ds row l b k q.2 q.0 q.1 x y r)
    execute_fine (If' at c t s e) l b k q x y r = goes 1 [] _ (q.0, (tt, (l, b, q.1, else_shaped p f e ls l b q.2, x, y), r))
    execute_fine (Switch' at c t s) l b k q x y r = goes 1 [] _ (q.0, (q.1, tt, counted, (l, body_shaped p f s ls l q.2, y), r))
    execute_fine (Case' at c t s) l b k q x y r = goes 1 [] _ (tt, (l, b, q, x, y), r)
    execute_fine (Default' at t s) l b k q x y r = goes 1 [] _ (tt, (l, b, q, x, y), r)
    execute_fine (Break at) l b k q x y r = land_fine k (broken k) (breaks_land p f k ls (x q))
    execute_fine (Continue at) l b k q x y r = land_fine k (continued k) (continues_land p f k ls (y q))
    execute_fine (Return at c e) l b k q x y r = returned e at c k q
    execute_fine (While' at c t s) l b k q x y r = goes 1 [] _ (while_begins p f at c t s count k ls counted q r)
    execute_fine (Do' at t s c) l b k q x y r = goes 1 [] _ (do_begins p f at c t s count k ls counted q r)
    execute_fine (For' at i c j t s) l b k q x y r = goes 1 [] _ (for_begins p f at i c j t s count k ls counted q.0 (q.1, q.2, q.3) r)

    in_switch : (xs : List Stmt) (n : ℕ) (l : Bool) (k : List Item) → n ≡ length ls → EachShaped p f ls l true xs → (l ≡ true → Continues p f k ls) → Can k [] → Can (runs_of xs ++ Switched n ∷ k) []
    in_switch xs n l k e q y r =
        runs_ready p f xs (Switched n ∷ k) ls l true q (λ _. (le_of_eq e, subst (λ ys. Ready p f k ys []) (sym (take_all n ls (le_of_eq (sym e)))) r)) y (tt, r)

    either_can : (b : Bool) (k j : List Item) → Can k [] → Can j [] → Can (if b then k else j) []
    either_can true k j q r = q
    either_can false k j q r = r

    seeks_can : (v : ℕ) (labels : List Label) (default : List Stmt) (n : ℕ) (k : List Item) → n ≡ length ls → (l : Bool) → EachLabel p f ls l labels → EachShaped p f ls l true default → (l ≡ true → Continues p f k ls) → Can k []
        → Can (seeks v labels default n k) []
    seeks_can v [] default n k e l q d y r = in_switch default n l k e d y r
    seeks_can v (x ∷ xs) default n k e l q d y r = (tt, e, (l, q, d, y), r)

    seek_fine : (v : ℕ) (x : Label) (labels : List Label) (default : List Stmt) (n : ℕ) (k : List Item) → n ≡ length ls → (l : Bool) → EachLabel p f ls l (x ∷ labels) → EachShaped p f ls l true default → (l ≡ true → Continues p f k ls) → Can k []
        → IsFine (seek p h out v x labels default n [] k)
    seek_fine v x xs default n k e l q d y r =
        goes 1 [] _ (either_can (x.constant == v) (runs_of x.from ++ Switched n ∷ k) (seeks v xs default n k) (in_switch x.from n l k e q.0 y r) (seeks_can v xs default n k e l q.1 d y r))

    -- ---- the first thing that remains to be done

    act_fine : (x : Item) (vs : List Value) (k : List Item) → Can (x ∷ k) (shapes vs) → IsFine (act p h out x vs k)
    act_fine (Eval e) vs k r = evaluate_fine e vs k r.0 r.1
    act_fine (Locate e) vs k r = locate_fine e vs k r.0 r.1
    act_fine (Push v) vs k r = goes 1 (v ∷ vs) k r
    act_fine (Bound x) vs k r = let b = bound_here x h.activation.locals r.0 in some_fine p (bound x h.activation.locals) b.0 _ b.1 (goes 1 (At b.0 0 ∷ vs) k r.1)
    act_fine (Load t) [] k r = r
    act_fine (Load t) (v ∷ vs) k r = read_fine t v vs k r.0 r.1
    act_fine (Convert t) [] k r = r
    act_fine (Convert t) (v ∷ vs) k r = ok_fine p (λ x. is_place x ≡ addr t) (converted t v) _ (converted_gives t v r.0) λ x e. goes 1 (x ∷ vs) k (fit p f k ls (shapes vs) (is_place x) (addr t) e r.1)
    act_fine (Store t) [] k r = r
    act_fine (Store t) (v ∷ []) k r = r
    act_fine (Store t) (v ∷ place ∷ vs) k r = write_fine t place v vs k r.0 r.1
    act_fine (Copy t) [] k r = r
    act_fine (Copy t) (v ∷ []) k r = r
    act_fine (Copy t) (v ∷ place ∷ vs) k r = copy_fine t place v vs k r.1 r.0 r.2
    act_fine (Update t op s new) [] k r = r
    act_fine (Update t op s new) (v ∷ []) k r = r
    act_fine (Update t op s new) (v ∷ place ∷ vs) k r = update_fine t op s new place v vs k r.0 r.1
    act_fine (Change op t) [] k r = r
    act_fine (Change op t) (v ∷ vs) k r = ok_fine p (λ z. is_place z ≡ false) (changed h.world op t v) _ (changed_gives h.world op t v r.0) λ x e. goes 1 (x ∷ vs) k (fit p f k ls (shapes vs) (is_place x) false e r.1)
    act_fine (Combine op s t) [] k r = r
    act_fine (Combine op s t) (y ∷ []) k r = r
    act_fine (Combine op s t) (y ∷ x ∷ vs) k r =
        ok_fine p (λ z. is_place z ≡ gives op s t) (combined p.defs h.world op s t x y) _ (combined_gives p.defs h.world op s t x y r.0) λ z e. goes 1 (z ∷ vs) k (fit p f k ls (shapes vs) (is_place z) (gives op s t) e r.1)
    act_fine (Offset n) [] k r = r
    act_fine (Offset n) (v ∷ vs) k r = ok_fine p (λ z. is_place z ≡ true) (moved h.world v (pos n)) _ (moved_gives h.world v (pos n) r.0) λ z e. goes 1 (z ∷ vs) k (fit p f k ls (shapes vs) (is_place z) true e r.1)
    act_fine Use [] k r = r
    act_fine Use (v ∷ vs) k r = ok_fine p (λ x. x ≡ v) (used h.world v) _ (used_gives h.world v) λ x e. goes 1 (x ∷ vs) k (fit p f k ls (shapes vs) (is_place x) (is_place v) (ap is_place e) r)
    act_fine Discard [] k r = r
    act_fine Discard (v ∷ vs) k r = goes 1 vs k r
    act_fine Truth [] k r = r
    act_fine Truth (v ∷ vs) k r = test_fine p h out v _ _ (goes 1 (Number 1 ∷ vs) k r) (goes 1 (Number 0 ∷ vs) k r)
    act_fine (AndThen e) [] k r = r
    act_fine (AndThen e) (v ∷ vs) k r = test_fine p h out v _ _ (goes 1 vs (Eval e ∷ Truth ∷ Joined ∷ k) r) (goes 1 (Number 0 ∷ vs) k r.1)
    act_fine (OrElse e) [] k r = r
    act_fine (OrElse e) (v ∷ vs) k r = test_fine p h out v _ _ (goes 1 (Number 1 ∷ vs) k r.1) (goes 1 vs (Eval e ∷ Truth ∷ Joined ∷ k) r)
    act_fine (Pick t a b) [] k r = r
    act_fine (Pick t a b) (v ∷ vs) k r =
        test_fine p h out v _ _ (goes 1 vs (Eval a ∷ Use ∷ Convert t ∷ Joined ∷ k) (r.0, (r.2, r.4))) (goes 1 vs (Eval b ∷ Use ∷ Convert t ∷ k) (r.1, (r.3, r.4)))
    act_fine Joined vs k r = goes 1 vs k r
    act_fine (Enter g n) vs k r = enter_fine (slice_get p.symbols g) n vs k r
    act_fine (Run s) [] k r = execute_fine s r.1.0 r.1.1 k r.1.2 r.1.3 r.1.4 r.2
    act_fine (Run s) (v ∷ vs) k r = absurd r.0
    act_fine (Stop q) vs k r = record { world = w; inner = i; control = r; outer = o }
    act_fine (Choose a b) [] k r = r
    act_fine (Choose a b) (v ∷ []) k r =
        test_fine p h out v _ _ (goes 1 [] (Run a ∷ Joined ∷ k) (tt, (r.1.0, r.1.1, r.1.2, r.1.4, r.1.5), r.2)) (goes 1 [] (runs_of b ++ k) (runs_ready p f b k ls r.1.0 r.1.1 r.1.3 r.1.4 r.1.5 r.2))
    act_fine (Choose a b) (v ∷ u ∷ vs) k r = absurd r.0
    act_fine (Open ds) vs k r = if_fine p (can_open p f ds h) _ _ (opens p f ds h r.0) (opened_good p f ds h vs k out w i o r.1)
    act_fine (Close n) vs k r = left_fine n vs k r
    act_fine (Turn s n) [] k r = r
    act_fine (Turn s n) (v ∷ []) k r = test_fine p h out v _ _ (goes 1 [] _ (turns_ready p f s n k ls r.1 r.2 r.3)) (goes 1 [] k r.3)
    act_fine (Turn s n) (v ∷ u ∷ vs) k r = absurd r.0
    act_fine (Again s n) [] k r = goes 1 [] _ (goes_on_ready p f s n k ls r.1 r.2 r.3)
    act_fine (Again s n) (v ∷ vs) k r = absurd r.0
    act_fine (Select body n) [] k r = r
    act_fine (Select body n) (v ∷ []) k r =
        ok_fine p (λ _. Unit {0}) (bits_in v) _ (bits_give v r.0) λ x u.
        goes 1 [] _ (seeks_can x (labels_in (statements_in body)) (default_in (statements_in body)) n k r.2 r.3.0 (labels_shaped p f (statements_in body) ls r.3.0 r.3.1) (default_shaped p f (statements_in body) ls r.3.0 r.3.1) r.3.2 r.4)
    act_fine (Select body n) (v ∷ u ∷ vs) k r = absurd r.1
    act_fine (Seek v x labels default n) [] k r = seek_fine v x labels default n k r.1 r.2.0 r.2.1 r.2.2 r.2.3 r.3
    act_fine (Seek v x labels default n) (u ∷ vs) k r = absurd r.0
    act_fine (Switched n) [] k r = goes 1 [] k r.1
    act_fine (Switched n) (v ∷ vs) k r = absurd r.0
    act_fine GiveBack [] k r = absurd r
    act_fine GiveBack (v ∷ vs) k r = let fn = there p (slice_get p.functions f) i in some_fine p (slice_get p.functions f) fn.0 _ fn.1 (left_fine (outermost_of fn.0) (v ∷ []) (Stop (last_of fn.0.points) ∷ Leave ∷ []) r)
    act_fine Leave [] k r = r
    act_fine Leave (v ∷ vs) k r = end_fine v out r o

    control_fine : (k : List Item) (vs : List Value) → Can k (shapes vs) → IsFine (on_control p h out k vs)
    control_fine [] vs r = r
    control_fine (x ∷ k) vs r = act_fine x vs k r

  pub step_fine : ((g : ℕ) → ShapedFunction g (slice_get p.functions g)) → (s : State) → Good p s → Fine p (step p s)
  step_fine bodies s g = control_fine bodies s.here s.outer g.world g.inner g.outer s.control s.values g.control
