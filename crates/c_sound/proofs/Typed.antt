-- Expressions that keep to the typing rules have the shapes that the steps need.
use Rattle.std.proofs.Common.{◌≡◌, refl, sym, ◌∙◌, subst, ap, arith, ℕ, suc, zero, ◌≤◌, List, [], ◌∷◌, Bool, true, false, not, ◌&&◌, ◌||◌, Option, Some, None, ◌+◌, length-take-le, true≢false, length, map, take}
use Rattle.std.specs.Prelude.{slice_get, if◌then◌else◌, option_and_then, option_map, bytes_eq, codes}
use Rattle.std.proofs.lemmas.Option.{slice_get-map}
use Rattle.std.proofs.lemmas.List.{length-map}
use Rattle.c_tree.specs.declared.types.CType.{CType}
use Rattle.c_tree.specs.declared.types.CType.TheVariants as ctype
use Rattle.c_tree.specs.declared.typed.BinaryOp.{BinaryOp}
use Rattle.c_tree.specs.declared.typed.BinaryOp.TheVariants.{Add}
use Rattle.c_tree.specs.declared.typed.Head.{Head}
use Rattle.c_tree.specs.declared.typed.Typed.{Typed, Row_of-Typed, end_of-Typed, more_of-Typed}
use Rattle.c_tree.specs.declared.typed.Typed.TheVariants.{Comma', Assign', Choice', Or', And', Binary', Cast', Before', Address', Follow', Unary', SizeOf', SizeOfType, Index', Call', Dot', Arrow', After', Name, Constant, Literal, Parens'}
use Rattle.c_tree.specs.declared.rows.Program.{Program}
use Rattle.c_tree.specs.declared.rows.Function.{Function}
use Rattle.c_tree.specs.declared.rows.Local.{Local as ALocal}
use Rattle.c_tree.specs.declared.rows.SymbolRow.{SymbolRow}
use Rattle.c_tree.specs.declared.rows.Referent.{Referent}
use Rattle.c_tree.specs.declared.rows.Referent.TheVariants.{Object, Local, Function as Defined, Declared}
use Rattle.c_tree.specs.Types.{type_of, is_struct}
use Rattle.c_source.specs.Blocks.{local_type}
use Rattle.c_typing.specs.Plain.{Plain, Char, Int, Unsigned, Void, Pointer, Array, Struct, plain, same, value_type, is_integer, is_scalar, is_complete}
use Rattle.c_typing.specs.Rules.{Operand, may_drop, converts, is_copied, compound_type, arrow_type, takes as takes_arguments, binary_type, stepping}
use Rattle.c_typing.specs.Expressions.{Denoted, Object as AnObject, Function as AFunction, Hidden, Scope, object_type, result_type as called_type, is_lvalue, is_string, is_register, is_constant_type, operand, value, operands, IsTyped, AreTyped}
use Rattle.c_typing.specs.Declarations.{has, parameters, local_type as type_of_a_local, function_in, local_in, locals_in, denoted_by}
use Rattle.c_reading.specs.Scope.{scope_with}
use Rattle.c_reading.specs.Kept.{KeepsRules, EachKeeps}
use Rattle.c_sound.proofs.Operators.{addr, conv, takes, gives, takes_one}
use Rattle.c_sound.proofs.Shaped.{shape, ByCase, Updates, row_shapes, is_one_leaf, Given, CalledFunction, OneNumber, CalledBuiltIn, CalledBy, Called, NamedBy, Named, ShapedE, ShapedL, ShapedRow}
use Rattle.c_sound.proofs.Begins.{and_parts}
use Rattle.c_sound.proofs.Rules.{no_none, some_same, only_some, ashape, addr_plain, value_shape, integer_shape, pconv, conv_plain, pconv_number, takes_shape, gives_shape, takes_by_shape, gives_by_shape, Operates, binary_operates, index_operates, followed_address, unary_takes, converts_shape, converts_scalar, converts_integer, compound_updates, choice_shapes, assigned_case}

-- ---- from plain types back

pub conv_there : (t : CType) (s : Bool) → pconv (plain t) s ≡ ashape (plain t) → conv t s ≡ addr t
conv_there t s e = conv_plain t s ∙ e ∙ sym (addr_plain t)

operates_there : (op : BinaryOp) (s t : CType) (r : Bool) → Operates op (ashape (plain s)) (ashape (plain t)) r → (takes op s t (addr s) (addr t) ≡ true) × (gives op s t ≡ r)
operates_there op s t r h =
    let a = addr_plain s in
    let b = addr_plain t in (
      takes_by_shape op s t ∙ ap (λ x. takes_shape op x (addr t)) a ∙ ap (λ x. takes_shape op (ashape (plain s)) x) b ∙ h.0,
      gives_by_shape op s t ∙ ap (λ x. gives_shape op x (addr t)) a ∙ ap (λ x. gives_shape op (ashape (plain s)) x) b ∙ h.1,
    )

by_case : (b : Bool) (A B C D : Type 0) → (A → C) → (B → D) → ByCase b A B → ByCase b C D
by_case true A B C D f g h = f h
by_case false A B C D f g h = g h

scalar_leaf : (t : CType) → is_scalar (plain t) ≡ true → is_one_leaf t ≡ true
scalar_leaf ctype.Char h = refl
scalar_leaf ctype.Int h = refl
scalar_leaf ctype.Unsigned h = refl
scalar_leaf ctype.Void h = h
scalar_leaf (ctype.Pointer' b t) h = refl
scalar_leaf (ctype.Array' b t n) h = h
scalar_leaf (ctype.Struct s) h = h

if_then_none : {A : Type 0} (b : Bool) (x : A) (r : A) → (if b then Some x else None) ≡ Some r → (b ≡ true) × (x ≡ r)
if_then_none true x r h = (refl, some_same x r h)
if_then_none false x r h = no_none r h

-- as many arguments as parameters
takes_length : (ts : List Plain) (as' : List Operand) → takes_arguments ts as' ≡ true → length ts ≡ length as'
takes_length [] [] h = refl
takes_length (t ∷ ts) (a ∷ as') h = ap suc (takes_length ts as' (and_parts (converts t a) (takes_arguments ts as') h).1)
takes_length [] (a ∷ as') h = absurd (true≢false (sym h))
takes_length (t ∷ ts) [] h = absurd (true≢false (sym h))

-- a function's parameters are its first locals
abbrev pub HasParameters : Function → Type 0
HasParameters fn = fn.params ≤ length fn.locals

abbrev type_in : Option ALocal → CType
type_in None = ctype.Void
type_in (Some l) = l.ctype

-- the locals from number x on have these types
abbrev Agree : List ALocal → ℕ → List Plain → Type 0
Agree all x [] = Unit {0}
Agree all x (t ∷ ts) = (plain (type_in (slice_get all x)) ≡ t) × Agree all (suc x) ts

agree : (all rest : List ALocal) (n x : ℕ) → ((i : ℕ) → slice_get all (x + i) ≡ slice_get rest i) → Agree all x (take n (map type_of_a_local rest))
agree all rest zero x h = tt
agree all [] (suc n) x h = tt
agree all (l ∷ rest) (suc n) x h =
    let e : x + 0 ≡ x = omega arith in
    (ap (λ i. plain (type_in (slice_get all i))) (sym e) ∙ ap (λ o. plain (type_in o)) (h 0), agree all rest n (suc x) λ i. let g : suc x + i ≡ x + suc i = omega arith in ap (slice_get all) g ∙ h (suc i))

abbrev result_in : Option Function → CType
result_in None = ctype.Void
result_in (Some f) = f.result

-- ---- well-typed expressions keep to the rules

module _ (s : Scope) where
  mutual
    pub typed_keeps : (e : Typed) → IsTyped s e → KeepsRules s e
    typed_keeps (Comma' h x a y b) q = (typed_keeps a q.0, typed_keeps b q.1, q.2)
    typed_keeps (Assign' h x a None y b) q = (typed_keeps a q.0, typed_keeps b q.1, q.2)
    typed_keeps (Assign' h x a (Some op) y b) q = (typed_keeps a q.0, typed_keeps b q.1, q.2)
    typed_keeps (Choice' h x c y a z b) q = (typed_keeps c q.0, typed_keeps a q.1, typed_keeps b q.2, q.3)
    typed_keeps (Or' h x a y b) q = (typed_keeps a q.0, typed_keeps b q.1, q.2)
    typed_keeps (And' h x a y b) q = (typed_keeps a q.0, typed_keeps b q.1, q.2)
    typed_keeps (Binary' h x a op y b) q = (typed_keeps a q.0, typed_keeps b q.1, q.2)
    typed_keeps (Cast' h x a) q = (typed_keeps a q.0, q.1)
    typed_keeps (Before' h op x a) q = (typed_keeps a q.0, q.1)
    typed_keeps (Address' h x a) q = (typed_keeps a q.0, q.1)
    typed_keeps (Follow' h x a) q = (typed_keeps a q.0, q.1)
    typed_keeps (Unary' h op x a) q = (typed_keeps a q.0, q.1)
    typed_keeps (SizeOf' h x a) q = (typed_keeps a q.0, q.1)
    typed_keeps (SizeOfType h t) q = q.1
    typed_keeps (Index' h x a y b) q = (typed_keeps a q.0, typed_keeps b q.1, q.2)
    typed_keeps (Call' h f x row) q = (each_keeps row q.0, q.1)
    typed_keeps (Dot' h x a m) q = (typed_keeps a q.0, q.1)
    typed_keeps (Arrow' h x a m) q = (typed_keeps a q.0, q.1)
    typed_keeps (After' h x a op) q = (typed_keeps a q.0, q.1)
    typed_keeps (Name h n) q = q
    typed_keeps (Constant h n) q = q.0
    typed_keeps (Literal h n) q = q
    typed_keeps (Parens' h x a) q = (typed_keeps a q.0, q.1)

    pub each_keeps : {m : _} (row : Row_of-Typed m) → AreTyped s row → EachKeeps s row
    each_keeps end_of-Typed q = tt
    each_keeps (more_of-Typed e rest) q = (typed_keeps e q.0, each_keeps rest q.1)

module _ (types : SymbolRow → Plain) (p : Program) (f : ℕ) (v ls : List ℕ) (within : (x : ℕ) → has v x ≡ true → has ls x ≡ true) (functions : (g : ℕ) (fn : Function) → slice_get p.functions g ≡ Some fn → HasParameters fn) where
  abbrev s : Scope
  s = scope_with p f v types

  abbrev denoted_here : SymbolRow → Denoted
  denoted_here row = denoted_by p f v (types row) row.name row.refers

  pub sh : (e : Typed) → shape e ≡ ashape (value s e)
  sh e = addr_plain (type_of e) ∙ sym (value_shape (plain (type_of e)))

  -- the shape of an operand whose type is that of the whole
  to_head : (e : Typed) (h : Head) → plain (type_of e) ≡ plain h.ctype → shape e ≡ addr h.ctype
  to_head e h q = addr_plain (type_of e) ∙ ap ashape q ∙ sym (addr_plain h.ctype)

  from_type : (t : Plain) (h : Head) → t ≡ plain h.ctype → ashape t ≡ addr h.ctype
  from_type t h q = ap ashape q ∙ sym (addr_plain h.ctype)

  -- ---- operators

  both : (op : BinaryOp) (a b : Typed) (r : Bool) → Operates op (ashape (value s a)) (ashape (value s b)) r → (takes op (type_of a) (type_of b) (shape a) (shape b) ≡ true) × (gives op (type_of a) (type_of b) ≡ r)
  both op a b r h = operates_there op (type_of a) (type_of b) r
      (subst (λ x. Operates op x (ashape (plain (type_of b))) r) (value_shape (plain (type_of a))) (subst (λ x. Operates op (ashape (value s a)) x r) (value_shape (plain (type_of b))) h))

  -- a compound assignment of an operand of type t with a number
  updates : (op : BinaryOp) (t u : CType) (b : Bool) → addr u ≡ false → b ≡ false → takes_shape op (ashape (plain t)) false ≡ true → pconv (plain t) (gives_shape op (ashape (plain t)) false) ≡ ashape (plain t) → Updates t op u b
  updates op t u b e z h k =
      let g : takes op t u (addr t) (addr u) ≡ true = takes_by_shape op t u ∙ ap (λ x. takes_shape op x (addr u)) (addr_plain t) ∙ ap (takes_shape op (ashape (plain t))) e ∙ h in (
        subst (λ x. takes op t u (addr t) x ≡ true) (e ∙ sym z) g,
        ap (conv t) (gives_by_shape op t u ∙ ap (λ x. gives_shape op x (addr u)) (addr_plain t) ∙ ap (gives_shape op (ashape (plain t))) e) ∙ conv_there t _ k,
      )

  -- ---- names

  name_by : (r : Referent) (t u : Plain) (name : List ℕ) → option_and_then object_type (Some (denoted_by p f v t name r)) ≡ Some u → NamedBy p ls r
  name_by (Object o) t u name h = tt
  name_by (Local x) t u name h = within x (visible (has v x) h)
    where
      visible : (b : Bool) → object_type (if b then local_in t (slice_get (locals_in (slice_get p.functions f)) x) else Hidden) ≡ Some u → b ≡ true
      visible true h = refl
      visible false h = no_none u h
  name_by (Defined g) t u name h = never (slice_get p.functions g) h
    where
      never : (o : Option Function) → object_type (function_in o) ≡ Some u → ⊥
      never None h = no_none u h
      never (Some fn) h = no_none u h
  name_by Declared t u name h = never (bytes_eq name (codes "getchar")) (bytes_eq name (codes "putchar")) (bytes_eq name (codes "exit")) h
    where
      never : (a b c : Bool) → object_type (if a then AFunction Int [] else (if b then AFunction Int (Int ∷ []) else (if c then AFunction Void (Int ∷ []) else Hidden))) ≡ Some u → ⊥
      never true b c h = no_none u h
      never false true c h = no_none u h
      never false false true h = no_none u h
      never false false false h = no_none u h

  named : (o : Option SymbolRow) (u : Plain) → option_and_then object_type (option_map (denoted_here) o) ≡ Some u → Named p ls o
  named None u h = no_none u h
  named (Some row) u h = name_by row.refers (types row) u row.name h

  name_there : (n : ℕ) (u : Plain) → option_and_then object_type (slice_get s.names n) ≡ Some u → Named p ls (slice_get p.symbols n)
  name_there n u h = named (slice_get p.symbols n) u (ap (option_and_then object_type) (sym (slice_get-map (denoted_here) p.symbols n)) ∙ h)

  -- ---- calls

  rows_length : {m : _} (row : Row_of-Typed m) → length (operands s row) ≡ length (row_shapes row)
  rows_length end_of-Typed = refl
  rows_length (more_of-Typed e rest) = ap suc (rows_length rest)

  given_by : {m : _} (g : ℕ) (fn : Function) (row : Row_of-Typed m) (ts : List Plain) (x : ℕ) → slice_get p.functions g ≡ Some fn → Agree fn.locals x ts → takes_arguments ts (operands s row) ≡ true → Given p g x (row_shapes row)
  given_by g fn end_of-Typed ts x e a h = tt
  given_by g fn (more_of-Typed b rest) [] x e a h = absurd (true≢false (sym h))
  given_by g fn (more_of-Typed b rest) (t ∷ ts) x e a h =
      let q = and_parts (converts t (operand s b)) (takes_arguments ts (operands s rest)) h in
      let k : plain (local_type p g x) ≡ t = ap (λ o. plain (type_in (slice_get (locals_in o) x))) e ∙ a.0 in
      let c : converts (plain (local_type p g x)) (operand s b) ≡ true = ap (λ u. converts u (operand s b)) k ∙ q.0 in (
        (ap (conv (local_type p g x)) (sh b) ∙ conv_there (local_type p g x) _ (converts_shape _ (operand s b) c), scalar_leaf (local_type p g x) (converts_scalar _ (operand s b) c)),
        given_by g fn rest ts (suc x) e a.1 q.1,
      )

  called_function : {m : _} (g : ℕ) (o : Option Function) (row : Row_of-Typed m) (u : Plain) (r : Bool) → slice_get p.functions g ≡ o → ashape u ≡ r → called_type (function_in o) (operands s row) ≡ Some u → CalledFunction p g o (row_shapes row) r
  called_function g None row u r e k h = no_none u h
  called_function g (Some fn) row u r e k h =
      let q = if_then_none (takes_arguments (parameters fn) (operands s row)) (plain fn.result) u h in
      let there : fn.params ≤ length (map type_of_a_local fn.locals) = subst (λ n. fn.params ≤ n) (sym (length-map fn.locals type_of_a_local)) (functions g fn e) in
      let front : (i : ℕ) → slice_get fn.locals (0 + i) ≡ slice_get fn.locals i = λ i. let z : 0 + i ≡ i = omega arith in ap (slice_get fn.locals) z in (
        sym (rows_length row) ∙ sym (takes_length (parameters fn) (operands s row) q.0) ∙ length-take-le fn.params (map type_of_a_local fn.locals) there,
        given_by g fn row (parameters fn) 0 e (agree fn.locals fn.locals fn.params 0 front) q.0,
        ap (λ o. addr (result_in o)) e ∙ addr_plain fn.result ∙ ap ashape q.1 ∙ k,
      )

  no_arguments : {m : _} (row : Row_of-Typed m) → takes_arguments [] (operands s row) ≡ true → row_shapes row ≡ []
  no_arguments end_of-Typed h = refl
  no_arguments (more_of-Typed e rest) h = absurd (true≢false (sym h))

  one_argument : {m : _} (row : Row_of-Typed m) → takes_arguments (Int ∷ []) (operands s row) ≡ true → OneNumber p (row_shapes row)
  one_argument end_of-Typed h = absurd (true≢false (sym h))
  one_argument (more_of-Typed e end_of-Typed) h = sh e ∙ converts_integer (operand s e) (and_parts (converts Int (operand s e)) true h).0
  one_argument (more_of-Typed e (more_of-Typed d rest)) h = absurd (true≢false (sym (and_parts (converts Int (operand s e)) false h).1))

  called_built_in : {m : _} (a b c : Bool) (row : Row_of-Typed m) (u : Plain) → called_type (if a then AFunction Int [] else (if b then AFunction Int (Int ∷ []) else (if c then AFunction Void (Int ∷ []) else Hidden))) (operands s row) ≡ Some u
      → CalledBuiltIn p a b c (row_shapes row) × (ashape u ≡ false)
  called_built_in true b c row u h = let q = if_then_none (takes_arguments [] (operands s row)) Int u h in (no_arguments row q.0, ap ashape (sym q.1))
  called_built_in false true c row u h = let q = if_then_none (takes_arguments (Int ∷ []) (operands s row)) Int u h in (one_argument row q.0, ap ashape (sym q.1))
  called_built_in false false true row u h = let q = if_then_none (takes_arguments (Int ∷ []) (operands s row)) Void u h in (one_argument row q.0, ap ashape (sym q.1))
  called_built_in false false false row u h = no_none u h

  called_by : {m : _} (r : Referent) (t : Plain) (name : List ℕ) (row : Row_of-Typed m) (u : Plain) → called_type (denoted_by p f v t name r) (operands s row) ≡ Some u → CalledBy p r name (row_shapes row) (ashape u)
  called_by (Object o) t name row u h = no_none u h
  called_by (Local x) t name row u h = never (has v x) (slice_get (locals_in (slice_get p.functions f)) x) h
    where
      never_there : (b : Bool) (l : ALocal) → called_type (if b then AnObject t l.register else Hidden) (operands s row) ≡ Some u → ⊥
      never_there true l h = no_none u h
      never_there false l h = no_none u h

      never : (b : Bool) (o : Option ALocal) → called_type (if b then local_in t o else Hidden) (operands s row) ≡ Some u → ⊥
      never true None h = no_none u h
      never true (Some l) h = never_there (same t (plain l.ctype)) l h
      never false o h = no_none u h
  called_by (Defined g) t name row u h = called_function g (slice_get p.functions g) row u (ashape u) refl refl h
  called_by Declared t name row u h = called_built_in (bytes_eq name (codes "getchar")) (bytes_eq name (codes "putchar")) (bytes_eq name (codes "exit")) row u h

  called : {m : _} (o : Option SymbolRow) (row : Row_of-Typed m) (u : Plain) → option_and_then (λ d. called_type d (operands s row)) (option_map (denoted_here) o) ≡ Some u → Called p o (row_shapes row) (ashape u)
  called None row u h = no_none u h
  called (Some x) row u h = called_by x.refers (types x) x.name row u h

  called_there : {m : _} (n : ℕ) (row : Row_of-Typed m) (u : Plain) → option_and_then (λ d. called_type d (operands s row)) (slice_get s.names n) ≡ Some u → Called p (slice_get p.symbols n) (row_shapes row) (ashape u)
  called_there n row u h = called (slice_get p.symbols n) row u (ap (option_and_then (λ d. called_type d (operands s row))) (sym (slice_get-map (denoted_here) p.symbols n)) ∙ h)

  -- ---- expressions

  dot_lvalue : (b : Bool) (o : Option Plain) (r : Plain) → (if b then o else None) ≡ Some r → b ≡ true
  dot_lvalue true o r h = refl
  dot_lvalue false o r h = no_none r h

  arrow_address : (t : Plain) (m : ℕ) (r : Plain) → arrow_type p.defs t m ≡ Some r → ashape t ≡ true
  arrow_address (Pointer t) m r h = refl
  arrow_address Int m r h = no_none r h
  arrow_address Char m r h = no_none r h
  arrow_address Unsigned m r h = no_none r h
  arrow_address Void m r h = no_none r h
  arrow_address (Array t n) m r h = no_none r h
  arrow_address (Struct n) m r h = no_none r h

  -- the operands of a binary operator whose result has the type of the whole
  binary_there : (op : BinaryOp) (a b : Typed) (h : Head) → binary_type p.defs op (operand s a) (operand s b) ≡ Some (plain h.ctype)
      → (takes op (type_of a) (type_of b) (shape a) (shape b) ≡ true) × (gives op (type_of a) (type_of b) ≡ addr h.ctype)
  binary_there op a b h q = both op a b (addr h.ctype) (subst (λ r. Operates op (ashape (value s a)) (ashape (value s b)) r) (sym (addr_plain h.ctype)) (binary_operates p.defs op (operand s a) (operand s b) (plain h.ctype) q))

  -- a compound assignment, whose type is that of the place
  compound_there : (op : BinaryOp) (a : Typed) (u : CType) (b : Bool) (h : Head) → b ≡ ashape (value_type (plain u)) → compound_type p.defs op (operand s a) (value_type (plain u)) ≡ Some (plain h.ctype)
      → (is_lvalue a ≡ true) × Updates (type_of a) op u b × (shape a ≡ addr h.ctype)
  compound_there op a u b h e q =
      let c = compound_updates p.defs op (operand s a) (value_type (plain u)) (plain h.ctype) q in
      (c.0, updates op (type_of a) u b (addr_plain u ∙ sym (value_shape (plain u)) ∙ c.1) (e ∙ c.1) c.2 c.3, to_head a h c.4)

  abbrev Located : Typed → Type 0
  Located e = is_lvalue e ≡ true → ShapedL p ls e

  mutual
    pub evaluated : (e : Typed) → KeepsRules s e → ShapedE p ls e
    evaluated (Comma' h x a y b) q =
        (evaluated a q.0, evaluated b q.1, sh b ∙ from_type (value s b) h (only_some (may_drop (operand s a) && is_scalar (value s b)) (value s b) (plain h.ctype) q.2).1)
    evaluated (Assign' h x a None y b) q =
        let c = only_some (is_lvalue a && (converts (plain (type_of a)) (operand s b) || is_copied (operand s a) (operand s b))) (plain (type_of a)) (plain h.ctype) q.2 in
        let k = and_parts (is_lvalue a) (converts (plain (type_of a)) (operand s b) || is_copied (operand s a) (operand s b)) c.0 in (
          located a q.0 k.0,
          by_case (is_struct (type_of a)) _ _ _ _ (located b q.1) (λ z. (evaluated b q.1, ap (conv (type_of a)) (sh b) ∙ conv_there (type_of a) (ashape (value s b)) z)) (assigned_case (type_of a) (operand s a) (operand s b) refl k.1),
          to_head a h c.1,
        )
    evaluated (Assign' h x a (Some op) y b) q =
        let c = compound_there op a (type_of b) (shape b) h (sh b) q.2 in
        (located a q.0 c.0, evaluated b q.1, c.1, c.2)
    evaluated (Choice' h x c y a z b) q =
        let k = choice_shapes (value s c) (operand s a) (operand s b) (plain h.ctype) q.3 in
        (evaluated c q.0, evaluated a q.1, evaluated b q.2, ap (conv h.ctype) (sh a) ∙ conv_there h.ctype (ashape (value s a)) k.0, ap (conv h.ctype) (sh b) ∙ conv_there h.ctype (ashape (value s b)) k.1)
    evaluated (Or' h x a y b) q = (evaluated a q.0, evaluated b q.1, from_type Int h (only_some (is_scalar (value s a) && is_scalar (value s b)) Int (plain h.ctype) q.2).1)
    evaluated (And' h x a y b) q = (evaluated a q.0, evaluated b q.1, from_type Int h (only_some (is_scalar (value s a) && is_scalar (value s b)) Int (plain h.ctype) q.2).1)
    evaluated (Binary' h x a op y b) q = let k = binary_there op a b h q.2 in (evaluated a q.0, evaluated b q.1, k.0, k.1)
    evaluated (Cast' h x a) q =
        let c = only_some (is_integer (plain h.ctype) && is_integer (value s a)) (plain h.ctype) (plain h.ctype) q.1 in
        let k = and_parts (is_integer (plain h.ctype)) (is_integer (value s a)) c.0 in
        (evaluated a q.0, ap (conv h.ctype) (sh a) ∙ conv_there h.ctype (ashape (value s a)) (pconv_number (plain h.ctype) (ashape (value s a)) (integer_shape (plain h.ctype) k.0) (integer_shape (value s a) k.1)))
    evaluated (Before' h op x a) q = let c = compound_there (stepping op) a ctype.Int false h refl q.1 in (located a q.0 c.0, c.1, c.2)
    evaluated (After' h x a op) q = let c = compound_there (stepping op) a ctype.Int false h refl q.1 in (located a q.0 c.0, c.1, c.2)
    evaluated (Address' h x a) q =
        let c = only_some (is_lvalue a && not (is_register s a) && not (is_string a)) (Pointer (plain (type_of a))) (plain h.ctype) q.1 in
        (located a q.0 (and_parts (is_lvalue a) (not (is_register s a)) (and_parts (is_lvalue a && not (is_register s a)) (not (is_string a)) c.0).0).0, from_type (Pointer (plain (type_of a))) h c.1)
    evaluated (Unary' h op x a) q =
        let c = unary_takes op (value s a) (plain h.ctype) q.1 in
        (evaluated a q.0, ap (takes_one op) (sh a) ∙ c.0, sym (addr_plain h.ctype ∙ c.1))
    evaluated (SizeOf' h x a) q = from_type Unsigned h (only_some (is_complete p.defs (plain (type_of a))) Unsigned (plain h.ctype) q.1).1
    evaluated (SizeOfType h t) q = from_type Unsigned h (only_some (is_complete p.defs (plain t)) Unsigned (plain h.ctype) q).1
    evaluated (Call' h f x row) q = (rows_shaped row q.0, subst (Called p (slice_get p.symbols f) (row_shapes row)) (sym (addr_plain h.ctype)) (called_there f row (plain h.ctype) q.1))
    evaluated (Constant h n) q = constant_shape (plain h.ctype) h refl q
      where
        constant_shape : (t : Plain) (h : Head) → t ≡ plain h.ctype → is_constant_type t ≡ true → false ≡ addr h.ctype
        constant_shape Int h e k = from_type Int h e
        constant_shape Unsigned h e k = from_type Unsigned h e
        constant_shape _ h e k = absurd (true≢false (sym k))
    evaluated (Parens' h x a) q = (evaluated a q.0, to_head a h q.1)
    evaluated (Name h n) q = name_there n (plain h.ctype) q
    evaluated (Literal h n) q = tt
    evaluated (Follow' h x a) q = (evaluated a q.0, sh a ∙ followed_address p.defs (value s a) (plain h.ctype) q.1)
    evaluated (Index' h x a y b) q = let k = both Add a b true (index_operates p.defs (value s a) (value s b) (plain h.ctype) q.2) in (evaluated a q.0, evaluated b q.1, k.0, k.1)
    evaluated (Dot' h x a m) q = located a q.0 (dot_lvalue (is_lvalue a) _ (plain h.ctype) q.1)
    evaluated (Arrow' h x a m) q = (evaluated a q.0, sh a ∙ arrow_address (value s a) m (plain h.ctype) q.1)

    pub located : (e : Typed) → KeepsRules s e → Located e
    located (Name h n) q l = name_there n (plain h.ctype) q
    located (Literal h n) q l = tt
    located (Follow' h x a) q l = (evaluated a q.0, sh a ∙ followed_address p.defs (value s a) (plain h.ctype) q.1)
    located (Index' h x a y b) q l = let k = both Add a b true (index_operates p.defs (value s a) (value s b) (plain h.ctype) q.2) in (evaluated a q.0, evaluated b q.1, k.0, k.1)
    located (Dot' h x a m) q l = located a q.0 (dot_lvalue (is_lvalue a) _ (plain h.ctype) q.1)
    located (Arrow' h x a m) q l = (evaluated a q.0, sh a ∙ arrow_address (value s a) m (plain h.ctype) q.1)
    located (Parens' h x a) q l = located a q.0 l
    located _ q l = absurd (true≢false (sym l))

    pub rows_shaped : {m : _} (row : Row_of-Typed m) → EachKeeps s row → ShapedRow p ls row
    rows_shaped end_of-Typed q = tt
    rows_shaped (more_of-Typed e rest) q = (evaluated e q.0, rows_shaped rest q.1)
