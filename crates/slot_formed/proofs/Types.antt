-- The type of a well-typed expression of an accepted program has at most 1,048,576 bytes, and so has each that it points to or holds.
use Rattle.std.proofs.Common.{◌≡◌, refl, sym, ap, subst, ◌∙◌, arith, ℕ, suc, zero, ◌+◌, ◌*◌, ◌≤◌, List, [], ◌∷◌, length, Bool, true, false, ◌&&◌, ◌||◌, Option, Some, None, true≢false, slice_get, map}
use Rattle.std.specs.Prelude.{if◌then◌else◌, bytes_eq, codes, sum}
use Rattle.std.specs.Int.{next_multiple_of}
use Rattle.std.proofs.lemmas.Option.{slice_get-map}
use Rattle.c_tree.specs.declared.types.StructDef.{StructDef}
use Rattle.c_tree.specs.declared.types.Member.{Member}
use Rattle.c_tree.specs.declared.typed.BinaryOp.{BinaryOp}
use Rattle.c_tree.specs.declared.typed.BinaryOp.TheVariants.{BitOr, BitXor, BitAnd, Equal, Unequal, Less, Greater, LessEqual, GreaterEqual, ShiftLeft, ShiftRight, Add, Subtract, Multiply, Divide, Remainder}
use Rattle.c_tree.specs.declared.typed.UnaryOp.{UnaryOp}
use Rattle.c_tree.specs.declared.typed.UnaryOp.TheVariants.{Plus, Minus, Complement, Not}
use Rattle.c_tree.specs.declared.typed.Typed.{Typed}
use Rattle.c_tree.specs.declared.typed.Typed.TheVariants.{Comma', Assign', Choice', Or', And', Binary', Cast', Before', Address', Follow', Unary', SizeOf', SizeOfType, Index', Call', Dot', Arrow', After', Name, Constant, Literal, Parens'}
use Rattle.c_tree.specs.declared.rows.Program.{Program}
use Rattle.c_tree.specs.declared.rows.Function.{Function}
use Rattle.c_tree.specs.declared.rows.Local.{Local as ALocal}
use Rattle.c_tree.specs.declared.rows.SymbolRow.{SymbolRow}
use Rattle.c_tree.specs.declared.rows.Referent.{Referent}
use Rattle.c_tree.specs.declared.rows.Referent.TheVariants.{Object, Local, Function as Defined, Declared}
use Rattle.c_tree.specs.Types.{type_of}
use Rattle.c_tree.specs.Layout.{members_of}
use Rattle.c_typing.specs.Plain.{Plain, Char, Int, Unsigned, Void, Pointer, Array, Struct, plain, same, is_integer, is_pointer, is_scalar, value_type, is_complete, promoted, common}
use Rattle.c_typing.specs.Rules.{Operand, value_of, only, may_drop, unary_type, followed, member_type, arrow_type, is_movable, arithmetic_type, sum_type, difference_type, shift_type, order_type, is_nulled, equality_type, binary_type, branches_type, choice_type, cast_type}
use Rattle.c_typing.specs.Expressions.{Denoted, Object as AnObject, Function as AFunction, Hidden, Scope, object_type, result_type, operand, value, operands, name_type, call_type, is_constant_type, IsTyped}
use Rattle.c_typing.specs.Declarations.{has, function_in, local_in, locals_in, built_in, denoted_by, denoted, scope_at}
use Rattle.c_typing.specs.Programs.{IsFunction, IsSymbol, KeepsRules}
use Rattle.slot_formed.proofs.Lists.{sum_more, no_none, some_same, each_at_zero, each_of, and_parts, then_some, map_some}
use Rattle.slot_formed.proofs.Sizes.{Formed, formed, members_declared}

-- ---- the rules

module _ (defs : List StructDef) where
  abbrev F : Plain → Type 0
  F t = Formed defs t

  pub value_formed : (t : Plain) → F t → F (value_type t)
  value_formed (Array t n) h = h.0
  value_formed Char h = h
  value_formed Int h = h
  value_formed Unsigned h = h
  value_formed Void h = h
  value_formed (Pointer t) h = h
  value_formed (Struct s) h = h

  promoted_formed : (t : Plain) → F (promoted t)
  promoted_formed Unsigned = tt
  promoted_formed _ = tt

  common_formed : (s t : Plain) → F (common s t)
  common_formed Unsigned t = tt
  common_formed Char t = promoted_formed t
  common_formed Int t = promoted_formed t
  common_formed Void t = promoted_formed t
  common_formed (Pointer s) t = promoted_formed t
  common_formed (Array s n) t = promoted_formed t
  common_formed (Struct s) t = promoted_formed t

  integer_formed : (t : Plain) → is_integer t ≡ true → F t
  integer_formed Char h = tt
  integer_formed Int h = tt
  integer_formed Unsigned h = tt
  integer_formed _ h = absurd (true≢false (sym h))

  pub only_formed : (b : Bool) (t r : Plain) → only b t ≡ Some r → F t → F r
  only_formed true t r e h = subst F (some_same t r e) h
  only_formed false t r e h = no_none r e

  if_formed : (b : Bool) (t r : Plain) (rest : Option Plain) → (if b then Some t else rest) ≡ Some r → F t → (rest ≡ Some r → F r) → F r
  if_formed true t r rest e h k = subst F (some_same t r e) h
  if_formed false t r rest e h k = k e

  pub followed_formed : (t r : Plain) → followed defs t ≡ Some r → F t → F r
  followed_formed (Pointer t) r e h = only_formed (is_complete defs t) t r e h
  followed_formed Char r e h = no_none r e
  followed_formed Int r e h = no_none r e
  followed_formed Unsigned r e h = no_none r e
  followed_formed Void r e h = no_none r e
  followed_formed (Array t n) r e h = no_none r e
  followed_formed (Struct s) r e h = no_none r e

  arithmetic_formed : (s t r : Plain) → arithmetic_type s t ≡ Some r → F r
  arithmetic_formed s t r e = only_formed (is_integer s && is_integer t) (common s t) r e (common_formed s t)

  pub sum_formed : (s t r : Plain) → sum_type defs s t ≡ Some r → F s → F t → F r
  sum_formed s t r e h k =
      if_formed (is_movable defs s && is_integer t) s r _ e h λ g.
      if_formed (is_integer s && is_movable defs t) t r _ g k λ i. arithmetic_formed s t r i

  difference_formed : (s t r : Plain) → difference_type defs s t ≡ Some r → F s → F t → F r
  difference_formed s t r e h k =
      if_formed (is_movable defs s && is_integer t) s r _ e h λ g.
      if_formed (is_movable defs s && same s t) Int r _ g tt λ i. arithmetic_formed s t r i

  shift_formed : (s t r : Plain) → shift_type s t ≡ Some r → F r
  shift_formed s t r e = only_formed (is_integer s && is_integer t) (promoted s) r e (promoted_formed s)

  order_formed : (s t r : Plain) → order_type s t ≡ Some r → F r
  order_formed s t r e = only_formed ((is_integer s && is_integer t) || (is_pointer s && same s t)) Int r e tt

  equality_formed : (a b : Operand) (r : Plain) → equality_type a b ≡ Some r → F r
  equality_formed a b r e = only_formed _ Int r e tt

  binary_formed : (op : BinaryOp) (a b : Operand) (r : Plain) → binary_type defs op a b ≡ Some r → F (value_of a) → F (value_of b) → F r
  binary_formed Equal a b r e h k = equality_formed a b r e
  binary_formed Unequal a b r e h k = equality_formed a b r e
  binary_formed Less a b r e h k = order_formed (value_of a) (value_of b) r e
  binary_formed Greater a b r e h k = order_formed (value_of a) (value_of b) r e
  binary_formed LessEqual a b r e h k = order_formed (value_of a) (value_of b) r e
  binary_formed GreaterEqual a b r e h k = order_formed (value_of a) (value_of b) r e
  binary_formed ShiftLeft a b r e h k = shift_formed (value_of a) (value_of b) r e
  binary_formed ShiftRight a b r e h k = shift_formed (value_of a) (value_of b) r e
  binary_formed Add a b r e h k = sum_formed (value_of a) (value_of b) r e h k
  binary_formed Subtract a b r e h k = difference_formed (value_of a) (value_of b) r e h k
  binary_formed BitOr a b r e h k = arithmetic_formed (value_of a) (value_of b) r e
  binary_formed BitXor a b r e h k = arithmetic_formed (value_of a) (value_of b) r e
  binary_formed BitAnd a b r e h k = arithmetic_formed (value_of a) (value_of b) r e
  binary_formed Multiply a b r e h k = arithmetic_formed (value_of a) (value_of b) r e
  binary_formed Divide a b r e h k = arithmetic_formed (value_of a) (value_of b) r e
  binary_formed Remainder a b r e h k = arithmetic_formed (value_of a) (value_of b) r e

  unary_formed : (op : UnaryOp) (t r : Plain) → unary_type op t ≡ Some r → F r
  unary_formed Not t r e = only_formed (is_scalar t) Int r e tt
  unary_formed Plus t r e = only_formed (is_integer t) (promoted t) r e (promoted_formed t)
  unary_formed Minus t r e = only_formed (is_integer t) (promoted t) r e (promoted_formed t)
  unary_formed Complement t r e = only_formed (is_integer t) (promoted t) r e (promoted_formed t)

  choice_formed : (c : Plain) (a b : Operand) (r : Plain) → choice_type c a b ≡ Some r → F (value_of a) → F (value_of b) → F r
  choice_formed c a b r e h k = by (is_scalar c) e
    where
      by : (o : Bool) → (if o then branches_type a b else None) ≡ Some r → F r
      by true e =
          if_formed (is_integer (value_of a) && is_integer (value_of b)) (common (value_of a) (value_of b)) r _ e (common_formed (value_of a) (value_of b)) λ g.
          if_formed ((is_pointer (value_of a) && same (value_of a) (value_of b)) || is_nulled (value_of a) b) (value_of a) r _ g h λ i. only_formed (is_nulled (value_of b) a) (value_of b) r i k
      by false e = no_none r e

  cast_formed : (to t r : Plain) → cast_type to t ≡ Some r → F r
  cast_formed to t r e = by (is_integer to && is_integer t) refl e
    where
      by : (o : Bool) → (is_integer to && is_integer t) ≡ o → only o to ≡ Some r → F r
      by true g e = subst F (some_same to r e) (integer_formed to (and_parts (is_integer to) (is_integer t) g).0)
      by false g e = no_none r e

  constant_formed : (t : Plain) → is_constant_type t ≡ true → F t
  constant_formed Int h = tt
  constant_formed Unsigned h = tt
  constant_formed _ h = absurd (true≢false (sym h))

-- ---- names

sum_at : {A : Type 0} (g : A → ℕ) (xs : List A) (i : ℕ) (x : A) → slice_get xs i ≡ Some x → g x ≤ sum (map g xs)
sum_at g [] i x e = no_none x e
sum_at g (y ∷ ys) zero x e = omega (arith, ap g (some_same y x e), sum_more g y ys)
sum_at g (y ∷ ys) (suc i) x e = omega (arith, sum_at g ys i x e, sum_more g y ys)

abbrev string_room : List ℕ → ℕ
string_room s = next_multiple_of (suc (length s)) 4 + 4

room_holds : (n : ℕ) → n ≤ next_multiple_of n 4 + 4
room_holds n = omega arith

module _ (p : Program) (accepted : KeepsRules p) where
  pub function_there : (g : ℕ) (h : Function) → slice_get p.functions g ≡ Some h → IsFunction p g h
  function_there g h e = each_at_zero (IsFunction p) p.functions g h accepted.functions e

  pub symbol_there : (n : ℕ) (row : SymbolRow) → slice_get p.symbols n ≡ Some row → IsSymbol p n row
  symbol_there n row e = each_at_zero (IsSymbol p) p.symbols n row accepted.symbols e

  string_size : (n : ℕ) (text : List ℕ) → slice_get p.strings n ≡ Some text → suc (length text) ≤ 1048576
  string_size n text e = omega (arith, sum_at string_room p.strings n text e, room_holds (suc (length text)), accepted.room)

  module _ (f : ℕ) (v : List ℕ) where
    abbrev s : Scope
    s = scope_at p f v

    -- the row of a name that an expression names
    pub named : (n : ℕ) (d : Denoted) → slice_get s.names n ≡ Some d → (row : SymbolRow) × (slice_get p.symbols n ≡ Some row) × (denoted p f v row ≡ d)
    named n d e = map_some (denoted p f v) (slice_get p.symbols n) d (sym (slice_get-map (denoted p f v) p.symbols n) ∙ e)

    pub name_there : (n : ℕ) (t : Plain) → name_type s n ≡ Some t → (row : SymbolRow) × (slice_get p.symbols n ≡ Some row) × (object_type (denoted p f v row) ≡ Some t)
    name_there n t e =
        let q = then_some object_type (slice_get s.names n) t e in
        let r = named n q.0 q.1 in
        (r.0, r.1, ap object_type r.2 ∙ q.2)

    pub callee_there : (n : ℕ) (args : List Operand) (t : Plain) → call_type s n args ≡ Some t → (row : SymbolRow) × (slice_get p.symbols n ≡ Some row) × (result_type (denoted p f v row) args ≡ Some t)
    callee_there n args t e =
        let q = then_some (λ d. result_type d args) (slice_get s.names n) t e in
        let r = named n q.0 q.1 in
        (r.0, r.1, ap (λ d. result_type d args) r.2 ∙ q.2)

    -- a local names an object of the type of its row
    pub local_object : (t u : Plain) (x : ℕ) (o : Option ALocal) → object_type (if has v x then local_in t o else Hidden) ≡ Some u
        → (l : ALocal) × (o ≡ Some l) × (same t (plain l.ctype) ≡ true) × (t ≡ u)
    local_object t u x o e = by (has v x) o e
      where
        by_same : (b : Bool) (l : ALocal) → object_type (if b then AnObject t l.register else Hidden) ≡ Some u → (b ≡ true) × (t ≡ u)
        by_same true l e = (refl, some_same t u e)
        by_same false l e = no_none u e

        by : (b : Bool) (o : Option ALocal) → object_type (if b then local_in t o else Hidden) ≡ Some u → (l : ALocal) × (o ≡ Some l) × (same t (plain l.ctype) ≡ true) × (t ≡ u)
        by true (Some l) e = let q = by_same (same t (plain l.ctype)) l e in (l, refl, q.0, q.1)
        by true None e = no_none u e
        by false o e = no_none u e

    no_call : (t u : Plain) (args : List Operand) (b : Bool) (o : Option ALocal) → result_type (if b then local_in t o else Hidden) args ≡ Some u → ⊥
    no_call t u args true (Some l) e = by (same t (plain l.ctype)) e
      where
        by : (b : Bool) → result_type (if b then AnObject t l.register else Hidden) args ≡ Some u → ⊥
        by true e = no_none u e
        by false e = no_none u e
    no_call t u args true None e = no_none u e
    no_call t u args false o e = no_none u e

    built_formed : (name : List ℕ) (args : List Operand) (r : Plain) → result_type (built_in name) args ≡ Some r → Formed p.defs r
    built_formed name args r e = first (bytes_eq name (codes "getchar")) e
      where
        given : (t u : Plain) (ts : List Plain) → Formed p.defs t → result_type (AFunction t ts) args ≡ Some u → Formed p.defs u
        given t u ts h e = only_formed p.defs _ t u e h

        third : (b : Bool) → result_type (if b then AFunction Void (Int ∷ []) else Hidden) args ≡ Some r → Formed p.defs r
        third true e = given Void r (Int ∷ []) tt e
        third false e = no_none r e

        second : (b : Bool) → result_type (if b then AFunction Int (Int ∷ []) else (if bytes_eq name (codes "exit") then AFunction Void (Int ∷ []) else Hidden)) args ≡ Some r → Formed p.defs r
        second true e = given Int r (Int ∷ []) tt e
        second false e = third (bytes_eq name (codes "exit")) e

        first : (b : Bool) → result_type (if b then AFunction Int [] else (if bytes_eq name (codes "putchar") then AFunction Int (Int ∷ []) else (if bytes_eq name (codes "exit") then AFunction Void (Int ∷ []) else Hidden))) args ≡ Some r → Formed p.defs r
        first true e = given Int r [] tt e
        first false e = second (bytes_eq name (codes "putchar")) e

    call_formed : (row : SymbolRow) (args : List Operand) (r : Plain) → result_type (denoted p f v row) args ≡ Some r → Formed p.defs r
    call_formed row args r = by row.refers
      where
        of_function : (g : ℕ) (o : Option Function) → slice_get p.functions g ≡ o → result_type (function_in o) args ≡ Some r → Formed p.defs r
        of_function g None q e = no_none r e
        of_function g (Some h) q e = only_formed p.defs _ (plain h.result) r e (formed p.defs h.result (function_there g h q).written.1)

        by : (o : Referent) → result_type (denoted_by p f v (plain row.ctype) row.name o) args ≡ Some r → Formed p.defs r
        by (Object o) e = no_none r e
        by (Local x) e = absurd (no_call (plain row.ctype) r args (has v x) (slice_get (locals_in (slice_get p.functions f)) x) e)
        by (Defined g) e = of_function g (slice_get p.functions g) refl e
        by Declared e = built_formed row.name args r e

    object_formed : (n : ℕ) (row : SymbolRow) (r : Plain) → slice_get p.symbols n ≡ Some row → object_type (denoted p f v row) ≡ Some r → Formed p.defs r
    object_formed n row r q = by row.refers
      where
        of_row : Formed p.defs (plain row.ctype)
        of_row = formed p.defs row.ctype (symbol_there n row q).0.1

        third : (b : Bool) → object_type (if b then AFunction Void (Int ∷ []) else Hidden) ≡ Some r → Formed p.defs r
        third true e = no_none r e
        third false e = no_none r e

        second : (b : Bool) → object_type (if b then AFunction Int (Int ∷ []) else (if bytes_eq row.name (codes "exit") then AFunction Void (Int ∷ []) else Hidden)) ≡ Some r → Formed p.defs r
        second true e = no_none r e
        second false e = third (bytes_eq row.name (codes "exit")) e

        built : (b : Bool) → object_type (if b then AFunction Int [] else (if bytes_eq row.name (codes "putchar") then AFunction Int (Int ∷ []) else (if bytes_eq row.name (codes "exit") then AFunction Void (Int ∷ []) else Hidden))) ≡ Some r → Formed p.defs r
        built true e = no_none r e
        built false e = second (bytes_eq row.name (codes "putchar")) e

        of_function : (o : Option Function) → object_type (function_in o) ≡ Some r → Formed p.defs r
        of_function None e = no_none r e
        of_function (Some h) e = no_none r e

        by : (o : Referent) → object_type (denoted_by p f v (plain row.ctype) row.name o) ≡ Some r → Formed p.defs r
        by (Object o) e = subst (Formed p.defs) (some_same (plain row.ctype) r e) of_row
        by (Local x) e = subst (Formed p.defs) (local_object (plain row.ctype) r x (slice_get (locals_in (slice_get p.functions f)) x) e).3 of_row
        by (Defined g) e = of_function (slice_get p.functions g) e
        by Declared e = built (bytes_eq row.name (codes "getchar")) e

    member_formed : (t : Plain) (m : ℕ) (r : Plain) → member_type p.defs t m ≡ Some r → Formed p.defs r
    member_formed (Struct k) m r e =
        let q = map_some (λ (m : Member). plain m.ctype) (slice_get (members_of p.defs k) m) r e in
        subst (Formed p.defs) q.2 (formed p.defs q.0.ctype (each_of _ (members_of p.defs k) m q.0 (members_declared p.defs accepted.structs k) q.1).0.1)
    member_formed Char m r e = no_none r e
    member_formed Int m r e = no_none r e
    member_formed Unsigned m r e = no_none r e
    member_formed Void m r e = no_none r e
    member_formed (Pointer t) m r e = no_none r e
    member_formed (Array t n) m r e = no_none r e

    dot_formed : (b : Bool) (t : Plain) (m : ℕ) (r : Plain) → (if b then member_type p.defs t m else None) ≡ Some r → Formed p.defs r
    dot_formed true t m r e = member_formed t m r e
    dot_formed false t m r e = no_none r e

    arrow_formed : (t : Plain) (m : ℕ) (r : Plain) → arrow_type p.defs t m ≡ Some r → Formed p.defs r
    arrow_formed (Pointer t) m r e = member_formed t m r e
    arrow_formed Char m r e = no_none r e
    arrow_formed Int m r e = no_none r e
    arrow_formed Unsigned m r e = no_none r e
    arrow_formed Void m r e = no_none r e
    arrow_formed (Array t n) m r e = no_none r e
    arrow_formed (Struct k) m r e = no_none r e

    -- ---- expressions

    pub type_formed : (e : Typed) → IsTyped s e → Formed p.defs (plain (type_of e))
    type_formed (Comma' h x a y b) t = only_formed p.defs (may_drop (operand s a) && is_scalar (value s b)) (value s b) (plain h.ctype) t.2 (value_formed p.defs (plain (type_of b)) (type_formed b t.1))
    type_formed (Assign' h x a None y b) t = only_formed p.defs _ (plain (type_of a)) (plain h.ctype) t.2 (type_formed a t.0)
    type_formed (Assign' h x a (Some op) y b) t = only_formed p.defs _ (plain (type_of a)) (plain h.ctype) t.2 (type_formed a t.0)
    type_formed (Choice' h x c y a z b) t = choice_formed p.defs (value s c) (operand s a) (operand s b) (plain h.ctype) t.3 (value_formed p.defs (plain (type_of a)) (type_formed a t.1)) (value_formed p.defs (plain (type_of b)) (type_formed b t.2))
    type_formed (Or' h x a y b) t = only_formed p.defs _ Int (plain h.ctype) t.2 tt
    type_formed (And' h x a y b) t = only_formed p.defs _ Int (plain h.ctype) t.2 tt
    type_formed (Binary' h x a op y b) t = binary_formed p.defs op (operand s a) (operand s b) (plain h.ctype) t.2 (value_formed p.defs (plain (type_of a)) (type_formed a t.0)) (value_formed p.defs (plain (type_of b)) (type_formed b t.1))
    type_formed (Cast' h x a) t = cast_formed p.defs (plain h.ctype) (value s a) (plain h.ctype) t.1
    type_formed (Before' h op x a) t = only_formed p.defs _ (plain (type_of a)) (plain h.ctype) t.1 (type_formed a t.0)
    type_formed (Address' h x a) t = only_formed p.defs _ (Pointer (plain (type_of a))) (plain h.ctype) t.1 (type_formed a t.0)
    type_formed (Follow' h x a) t = followed_formed p.defs (value s a) (plain h.ctype) t.1 (value_formed p.defs (plain (type_of a)) (type_formed a t.0))
    type_formed (Unary' h op x a) t = unary_formed p.defs op (value s a) (plain h.ctype) t.1
    type_formed (SizeOf' h x a) t = only_formed p.defs _ Unsigned (plain h.ctype) t.1 tt
    type_formed (SizeOfType h u) t = only_formed p.defs _ Unsigned (plain h.ctype) t.1 tt
    type_formed (Index' h x a y b) t =
        let q = then_some (followed p.defs) (sum_type p.defs (value s a) (value s b)) (plain h.ctype) t.2 in
        followed_formed p.defs q.0 (plain h.ctype) q.2 (sum_formed p.defs (value s a) (value s b) q.0 q.1 (value_formed p.defs (plain (type_of a)) (type_formed a t.0)) (value_formed p.defs (plain (type_of b)) (type_formed b t.1)))
    type_formed (Call' h g x row) t = let q = callee_there g (operands s row) (plain h.ctype) t.1 in call_formed q.0 (operands s row) (plain h.ctype) q.2
    type_formed (Dot' h x a m) t = dot_formed (operand s a).lvalue (plain (type_of a)) m (plain h.ctype) t.1
    type_formed (Arrow' h x a m) t = arrow_formed (value s a) m (plain h.ctype) t.1
    type_formed (After' h x a op) t = only_formed p.defs _ (plain (type_of a)) (plain h.ctype) t.1 (type_formed a t.0)
    type_formed (Name h n) t = let q = name_there n (plain h.ctype) t in object_formed n q.0 (plain h.ctype) q.1 q.2
    type_formed (Constant h n) t = constant_formed p.defs (plain h.ctype) t.0
    type_formed (Literal h n) t =
        let q = map_some (λ (text : List ℕ). Array Char (suc (length text))) (slice_get p.strings n) (plain h.ctype) t in
        let size : suc (length q.0) * 1 ≤ 1048576 = omega (arith, string_size n q.0 q.1) in
        subst (Formed p.defs) q.2 (tt, size)
    type_formed (Parens' h x a) t = subst (Formed p.defs) t.1 (type_formed a t.0)
