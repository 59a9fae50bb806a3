-- What an expression means in an activation of a good state.
use Rattle.std.proofs.Common.{◌≡◌, refl, sym, ◌∙◌, subst, ap, ℕ, ◌+◌, List, [], ◌∷◌, ◌++◌, Bool, true, false, Option, Some, None, true≢false}
use Rattle.std.specs.Prelude.{Result, Ok, Err, slice_get, if◌then◌else◌, pos, option_map}
use Rattle.runs.specs.Runs.{Why, Reason, Stale, IllTyped}
use Rattle.c_tree.specs.declared.types.CType.{CType}
use Rattle.c_tree.specs.declared.types.CType.TheVariants.{Array'}
use Rattle.c_tree.specs.declared.typed.BinaryOp.{BinaryOp}
use Rattle.c_tree.specs.declared.typed.BinaryOp.TheVariants.{Add}
use Rattle.c_tree.specs.declared.typed.Typed.{Typed}
use Rattle.c_tree.specs.declared.typed.Typed.TheVariants.{Comma', Assign', Choice', Or', And', Binary', Cast', Address', Follow', Unary', SizeOf', SizeOfType, Index', Dot', Arrow', Name, Constant, Literal, Parens'}
use Rattle.c_tree.specs.declared.rows.Program.{Program}
use Rattle.c_tree.specs.declared.rows.SymbolRow.{SymbolRow}
use Rattle.c_tree.specs.declared.rows.Referent.{Referent}
use Rattle.c_tree.specs.declared.rows.Referent.TheVariants.{Object, Local, Function as Defined, Declared}
use Rattle.c_tree.specs.Types.{type_of, kind_of, is_struct, is_array}
use Rattle.c_store.specs.Store.{Value, Number, Null, At, Cell, World, used, load, store, load_struct, store_struct, store_all, ◌>>=◌}
use Rattle.c_store.specs.Frames.{Here, bound}
use Rattle.c_store.specs.Assigned.{Assignment, stored_or, all_assigned}
use Rattle.c_source.specs.Blocks.{cells_of, converted}
use Rattle.c_source.specs.Operators.{is_zero, combined}
use Rattle.c_source.specs.Source.{place_in, dot_offset, arrow_offset}
use Rattle.c_source.specs.Meaning.{Given, Meant, or_ill_typed, value_of, place_of, assigned, scalar_assigned, struct_assigned, values_meant, IsPlain, IsAssignment}
use Rattle.c_source.proofs.Parts.{value_at, tested, truth_of, chosen_as, indexed, member_at}
use Rattle.c_sound.specs.Shapes.{is_place, Fits, AreFitting, IsAssigned}
use Rattle.c_sound.proofs.World.{Gives, gives_then, either_gives, used_gives, load_gives, store_gives, moved_gives, load_struct_gives, FitEach, WorldFits}
use Rattle.c_sound.proofs.Operators.{addr, conv, conv_own, converted_gives, takes, gives, takes_one, any_gives, combined_gives, changed_gives}
use Rattle.c_sound.proofs.Shaped.{shape, ByCase, Named, NamedBy, ShapedE, ShapedL}
use Rattle.c_sound.proofs.Ready.{locals_of}
use Rattle.c_sound.proofs.Lists.{bound_here}

-- a value of this shape
abbrev pub V : Bool → Value → Type 0
V s v = is_place v ≡ s

to : (m : Result Value Why) (s t : Bool) → s ≡ t → Gives (V s) m → Gives (V t) m
to m s t e h = subst (λ x. Gives (V x) m) e h

kept : {A : Type 0} (P : A → Type 0) (x : A) (m : Result A Why) → Gives (λ y. y ≡ x) m → P x → Gives P m
kept P x (Ok y) e h = subst P (sym e) h
kept P x (Err (Reason u)) e h = tt
kept P x (Err Stale) e h = tt
kept P x (Err IllTyped) e h = e

module _ (p : Program) (h : Here) (w : WorldFits h.world) where
  abbrev ls : List ℕ
  ls = locals_of h.activation.locals

  used_shape : (s : Bool) (v : Value) → V s v → Gives (V s) (used h.world v)
  used_shape s v e = kept (V s) v (used h.world v) (used_gives h.world v) e

  array_address : (t : CType) → is_array t ≡ true → true ≡ addr t
  array_address (Array' b t n) e = refl
  array_address _ e = absurd (true≢false (sym e))

  read_by : (b : Bool) (t : CType) (v : Value) → b ≡ is_array t → V true v → Gives (V (addr t)) (if b then Ok v else (load h.world (kind_of t) v >>= converted t))
  read_by true t v e q = q ∙ array_address t (sym e)
  read_by false t v e q = gives_then (Fits (kind_of t)) (V (addr t)) (load h.world (kind_of t) v) _ (load_gives h.world (kind_of t) v w) λ x g. converted_gives t x (ap (conv t) g ∙ conv_own t)

  read_shape : (t : CType) (v : Value) → V true v → Gives (V (addr t)) (value_at p h t v)
  read_shape t v q = read_by (is_array t) t v refl q

  test_shape : (m holds fails : Meant) (a b : Bool) → Gives (V a) m → Gives (V b) holds → Gives (V b) fails → Gives (V b) (tested p h m holds fails)
  test_shape m holds fails a b q t f =
      gives_then (V a) (V b) m _ q λ v e.
      gives_then (V a) (V b) (used h.world v) _ (used_shape a v e) λ x g. either_gives (V b) (is_zero x) fails holds f t

  truth_shape : (m : Meant) (a : Bool) → Gives (V a) m → Gives (V false) (truth_of p h m)
  truth_shape m a q = test_shape m (Ok (Number 1)) (Ok (Number 0)) a false q refl refl

  chosen_shape : (t : CType) (m : Meant) (a : Bool) → conv t a ≡ addr t → Gives (V a) m → Gives (V (addr t)) (chosen_as p h t m)
  chosen_shape t m a c q =
      gives_then (V a) (V (addr t)) m _ q λ v e.
      gives_then (V a) (V (addr t)) (used h.world v) _ (used_shape a v e) λ x g. converted_gives t x (ap (conv t) g ∙ c)

  both_shape : (op : BinaryOp) (s t : CType) (a b : Meant) (r : Bool) → Gives (V (addr s)) a → Gives (V (addr t)) b → takes op s t (addr s) (addr t) ≡ true → gives op s t ≡ r
      → Gives (V r) (a >>= λ x. b >>= λ y. combined p.defs h.world op s t x y)
  both_shape op s t a b r q k e g =
      gives_then (V (addr s)) (V r) a _ q λ x d.
      gives_then (V (addr t)) (V r) b _ k λ y c.
      to _ (gives op s t) r g (combined_gives p.defs h.world op s t x y (ap (λ z. takes op s t z (is_place y)) d ∙ ap (takes op s t (addr s)) c ∙ e))

  member_shape : (n : ℕ) (m : Meant) → Gives (V true) m → Gives (V true) (member_at p h n m)
  member_shape n m q = gives_then (V true) (V true) m _ q λ v e. moved_gives h.world v (pos n) e

  -- ---- names

  abbrev place_by : Referent → Here → Option Value
  place_by (Object o) h = Some (At o 0)
  place_by (Local x) h = option_map (λ o. At o 0) (bound x h.activation.locals)
  place_by (Defined f) h = None
  place_by Declared h = None

  mapped : (q : Option ℕ) (b : ℕ) → q ≡ Some b → Gives (V true) (or_ill_typed (option_map (λ o. At o 0) q))
  mapped q b e = subst (λ q. Gives (V true) (or_ill_typed (option_map (λ o. At o 0) q))) (sym e) refl

  refers_shape : (r : Referent) → NamedBy p ls r → Gives (V true) (or_ill_typed (place_by r h))
  refers_shape (Object o) q = refl
  refers_shape (Local x) q = let b = bound_here x h.activation.locals q in mapped (bound x h.activation.locals) b.0 b.1
  refers_shape (Defined f) q = q
  refers_shape Declared q = q

  name_shape : (s : Option SymbolRow) → Named p ls s → Gives (V true) (or_ill_typed (place_in s h))
  name_shape None q = q
  name_shape (Some s) q = refers_shape s.refers q

  at_place : (t : CType) (m : Meant) → Gives (V true) m → Gives (V (addr t)) (m >>= value_at p h t)
  at_place t m q = gives_then (V true) (V (addr t)) m (value_at p h t) q λ v e. read_shape t v e

  mutual
    pub value_shaped : (e : Typed) → IsPlain e → ShapedE p ls e → Gives (V (shape e)) (value_of p h e)
    value_shaped (Comma' t x a y b) i q =
        gives_then (V (shape a)) (V (addr t.ctype)) (value_of p h a) _ (value_shaped a i.0 q.0) λ v d.
        gives_then (V (shape a)) (V (addr t.ctype)) (used h.world v) _ (used_shape (shape a) v d) λ u c.
        gives_then (V (shape b)) (V (addr t.ctype)) (value_of p h b) _ (value_shaped b i.1 q.1) λ z g. used_shape (addr t.ctype) z (g ∙ q.2)
    value_shaped (Choice' t x c y a z b) i q =
        test_shape (value_of p h c) _ _ (shape c) (addr t.ctype) (value_shaped c i.0 q.0) (chosen_shape t.ctype (value_of p h a) (shape a) q.3 (value_shaped a i.1 q.1)) (chosen_shape t.ctype (value_of p h b) (shape b) q.4 (value_shaped b i.2 q.2))
    value_shaped (Or' t x a y b) i q = to _ false (addr t.ctype) q.2 (test_shape (value_of p h a) (Ok (Number 1)) _ (shape a) false (value_shaped a i.0 q.0) refl (truth_shape (value_of p h b) (shape b) (value_shaped b i.1 q.1)))
    value_shaped (And' t x a y b) i q = to _ false (addr t.ctype) q.2 (test_shape (value_of p h a) _ (Ok (Number 0)) (shape a) false (value_shaped a i.0 q.0) (truth_shape (value_of p h b) (shape b) (value_shaped b i.1 q.1)) refl)
    value_shaped (Binary' t x a op y b) i q = both_shape op (type_of a) (type_of b) (value_of p h a) (value_of p h b) (addr t.ctype) (value_shaped a i.0 q.0) (value_shaped b i.1 q.1) q.2 q.3
    value_shaped (Cast' t x a) i q = gives_then (V (shape a)) (V (addr t.ctype)) (value_of p h a) _ (value_shaped a i q.0) λ v e. converted_gives t.ctype v (ap (conv t.ctype) e ∙ q.1)
    value_shaped (Address' t x a) i q = to _ true (addr t.ctype) q.1 (gives_then (V true) (V true) (place_of p h a) _ (place_shaped a i q.0) λ v e. e)
    value_shaped (Unary' t op x a) i q = to _ false (addr t.ctype) q.2 (gives_then (V (shape a)) (V false) (value_of p h a) _ (value_shaped a i q.0) λ v e. changed_gives h.world op (type_of a) v (ap (takes_one op) e ∙ q.1))
    value_shaped (SizeOf' t x a) i q = q
    value_shaped (SizeOfType t u) i q = q
    value_shaped (Constant t n) i q = q
    value_shaped (Parens' t x a) i q = to _ (shape a) (addr t.ctype) q.1 (value_shaped a i q.0)
    value_shaped (Name t n) i q = at_place t.ctype (or_ill_typed (place_in (slice_get p.symbols n) h)) (name_shape (slice_get p.symbols n) q)
    value_shaped (Literal t n) i q = read_shape t.ctype (At _ 0) refl
    value_shaped (Follow' t x a) i q =
        at_place t.ctype (value_of p h a >>= λ v. used h.world v) (gives_then (V (shape a)) (V true) (value_of p h a) _ (value_shaped a i q.0) λ v e. used_shape true v (e ∙ q.1))
    value_shaped (Index' t x a y b) i q = at_place t.ctype (indexed p h (type_of a) (type_of b) (value_of p h a) (value_of p h b)) (both_shape Add (type_of a) (type_of b) (value_of p h a) (value_of p h b) true (value_shaped a i.0 q.0) (value_shaped b i.1 q.1) q.2 q.3)
    value_shaped (Dot' t x a m) i q = at_place t.ctype (member_at p h (dot_offset p a m) (place_of p h a)) (member_shape (dot_offset p a m) (place_of p h a) (place_shaped a i q))
    value_shaped (Arrow' t x a m) i q = at_place t.ctype (member_at p h (arrow_offset p a m) (value_of p h a)) (member_shape (arrow_offset p a m) (value_of p h a) (to _ (shape a) true q.1 (value_shaped a i q.0)))
    value_shaped _ i q = absurd i

    pub place_shaped : (e : Typed) → IsPlain e → ShapedL p ls e → Gives (V true) (place_of p h e)
    place_shaped (Name t n) i q = name_shape (slice_get p.symbols n) q
    place_shaped (Literal t n) i q = refl
    place_shaped (Follow' t x a) i q = gives_then (V (shape a)) (V true) (value_of p h a) _ (value_shaped a i q.0) λ v e. used_shape true v (e ∙ q.1)
    place_shaped (Index' t x a y b) i q = both_shape Add (type_of a) (type_of b) (value_of p h a) (value_of p h b) true (value_shaped a i.0 q.0) (value_shaped b i.1 q.1) q.2 q.3
    place_shaped (Dot' t x a m) i q = member_shape (dot_offset p a m) (place_of p h a) (place_shaped a i q)
    place_shaped (Arrow' t x a m) i q = member_shape (arrow_offset p a m) (value_of p h a) (to _ (shape a) true q.1 (value_shaped a i q.0))
    place_shaped (Parens' t x a) i q = place_shaped a i q
    place_shaped _ i q = absurd q

  -- ---- assignments

  assigned_on : (xs ys : List Assignment) (u : World) → all_assigned (xs ++ ys) u ≡ all_assigned ys (all_assigned xs u)
  assigned_on [] ys u = refl
  assigned_on (x ∷ xs) ys u = assigned_on xs ys (stored_or u (store u x.kind x.place x.value))

  fitting_on : (xs ys : List Assignment) → AreFitting xs → AreFitting ys → AreFitting (xs ++ ys)
  fitting_on [] ys q k = k
  fitting_on (x ∷ xs) ys q k = (q.0, fitting_on xs ys q.1 k)

  -- a world that fits and comes from another by assignments that fit
  abbrev pub Becomes : World → World → Type 0
  Becomes u v = IsAssigned u v × WorldFits v

  then_becomes : (u v x : World) → Becomes u v → Becomes v x → Becomes u x
  then_becomes u v x a b =
      let xs = a.0.0 in
      let ys = b.0.0 in
      ((xs ++ ys, b.0.1 ∙ ap (all_assigned ys) a.0.1 ∙ sym (assigned_on xs ys u), fitting_on xs ys a.0.2 b.0.2), b.1)

  stored_by : (u : World) (a : Assignment) (m : Result World Why) → store u a.kind a.place a.value ≡ m → Fits a.kind a.value → Gives WorldFits m → Gives (Becomes u) m
  stored_by u a (Ok v) e f g = ((a ∷ [], sym (ap (stored_or u) e), (f, tt)), g)
  stored_by u a (Err (Reason r)) e f g = tt
  stored_by u a (Err Stale) e f g = tt
  stored_by u a (Err IllTyped) e f g = g

  stores : (u : World) (a : Assignment) → WorldFits u → Fits a.kind a.value → Gives (Becomes u) (store u a.kind a.place a.value)
  stores u a g f = stored_by u a (store u a.kind a.place a.value) refl f (store_gives u a.kind a.place a.value g f)

  stores_all : (u : World) (o i : ℕ) (cs : List Cell) (xs : List Value) → WorldFits u → FitEach cs xs → Gives (Becomes u) (store_all u o i cs xs)
  stores_all u o i [] xs g f = (([], refl, tt), g)
  stores_all u o i (c ∷ cs) [] g f = f
  stores_all u o i (c ∷ cs) (x ∷ xs) g f =
      gives_then (Becomes u) (Becomes u) (store u c.kind (At o (i + c.at)) x) _ (stores u (record { kind = c.kind; place = At o (i + c.at); value = x }) g f.0) λ v b.
      gives_from u v (store_all v o i cs xs) b (stores_all v o i cs xs b.1 f.1)
    where
      gives_from : (u v : World) (m : Result World Why) → Becomes u v → Gives (Becomes v) m → Gives (Becomes u) m
      gives_from u v (Ok x) b k = then_becomes u v x b k
      gives_from u v (Err (Reason r)) b k = tt
      gives_from u v (Err Stale) b k = tt
      gives_from u v (Err IllTyped) b k = k

  stores_struct : (u : World) (cs : List Cell) (place : Value) (xs : List Value) → WorldFits u → V true place → FitEach cs xs → Gives (Becomes u) (store_struct u cs place xs)
  unfolding store_struct
  stores_struct u cs (Number n) xs g e f = absurd (true≢false (sym e))
  stores_struct u cs Null xs g e f = tt
  stores_struct u cs (At o i) xs g e f = stores_all u o i cs xs g f

  abbrev pub IsGiven : Given → Type 0
  IsGiven g = IsAssigned h.world g.world

  scalar_given : (t : CType) (a b : Typed) → IsPlain a → IsPlain b → ShapedL p ls a → ShapedE p ls b → conv t (shape b) ≡ addr t → Gives IsGiven (scalar_assigned p h t a b)
  scalar_given t a b i j q k c =
      gives_then (V true) IsGiven (place_of p h a) _ (place_shaped a i q) λ place d.
      gives_then (V (shape b)) IsGiven (value_of p h b) _ (value_shaped b j k) λ v e.
      gives_then (V (addr t)) IsGiven (converted t v) _ (converted_gives t v (ap (conv t) e ∙ c)) λ x k'.
      gives_then (Becomes h.world) IsGiven (store h.world (kind_of t) place x) _ (stores h.world (record { kind = kind_of t; place = place; value = x }) w k') λ u g. g.0

  struct_given : (t : CType) (a b : Typed) → IsPlain a → IsPlain b → ShapedL p ls a → ShapedL p ls b → Gives IsGiven (struct_assigned p h t a b)
  struct_given t a b i j q k =
      gives_then (V true) IsGiven (place_of p h a) _ (place_shaped a i q) λ place d.
      gives_then (V true) IsGiven (place_of p h b) _ (place_shaped b j k) λ from e.
      gives_then (FitEach (cells_of p.defs t)) IsGiven (load_struct h.world (cells_of p.defs t) from) _ (load_struct_gives h.world (cells_of p.defs t) from w e) λ xs f.
      gives_then (Becomes h.world) IsGiven (store_struct h.world (cells_of p.defs t) place xs) _ (stores_struct h.world (cells_of p.defs t) place xs w d f) λ u g. g.0

  by_struct : (b : Bool) (t : CType) (a c : Typed) → IsPlain a → IsPlain c → ShapedL p ls a → ByCase b (ShapedL p ls c) (ShapedE p ls c × (conv t (shape c) ≡ addr t))
      → Gives IsGiven (if b then struct_assigned p h t a c else scalar_assigned p h t a c)
  by_struct true t a c i j q k = struct_given t a c i j q k
  by_struct false t a c i j q k = scalar_given t a c i j q k.0 k.1

  pub assigned_given : (e : Typed) → IsAssignment e → ShapedE p ls e → Gives IsGiven (assigned p h e)
  assigned_given (Assign' t x a None y b) i q = by_struct (is_struct (type_of a)) (type_of a) a b i.0 i.1 q.0 q.1
  assigned_given _ i q = absurd i

  -- ---- leaf values

  values_by : (b : Bool) (e : Typed) → IsPlain e → ShapedE p ls e → (b ≡ true → ShapedL p ls e)
      → Gives (λ _. Unit {0}) (if b then (place_of p h e >>= λ v. load_struct h.world (cells_of p.defs (type_of e)) v) else (value_of p h e >>= λ v. Ok (v ∷ [])))
  values_by true e i q l =
      gives_then (V true) (λ _. Unit {0}) (place_of p h e) _ (place_shaped e i (l refl)) λ v d.
      any_gives (load_struct h.world (cells_of p.defs (type_of e)) v) (FitEach (cells_of p.defs (type_of e))) (load_struct_gives h.world (cells_of p.defs (type_of e)) v w d)
  values_by false e i q l = gives_then (V (shape e)) (λ _. Unit {0}) (value_of p h e) _ (value_shaped e i q) λ v d. tt

  pub values_given : (e : Typed) → IsPlain e → ShapedE p ls e → (is_struct (type_of e) ≡ true → ShapedL p ls e) → Gives (λ _. Unit {0}) (values_meant p h e)
  values_given e i q l = values_by (is_struct (type_of e)) e i q l
