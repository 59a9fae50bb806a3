-- A struct that an lvalue is has members.
use Rattle.std.proofs.Common.{◌≡◌, refl, sym, ap, subst, ◌∙◌, arith, ℕ, suc, List, [], ◌∷◌, length, Bool, true, false, Option, Some, None, true≢false, slice_get}
use Rattle.std.specs.Prelude.{◌==◌, if◌then◌else◌, bytes_eq, codes}
use Rattle.c_tree.specs.declared.types.StructDef.{StructDef}
use Rattle.c_tree.specs.declared.types.Member.{Member}
use Rattle.c_tree.specs.declared.typed.Typed.{Typed}
use Rattle.c_tree.specs.declared.typed.Typed.TheVariants.{Follow', Index', Dot', Arrow', Name, Literal, Parens'}
use Rattle.c_tree.specs.declared.rows.Program.{Program}
use Rattle.c_tree.specs.declared.rows.Function.{Function}
use Rattle.c_tree.specs.declared.rows.ObjectRow.{ObjectRow}
use Rattle.c_tree.specs.declared.rows.SymbolRow.{SymbolRow}
use Rattle.c_tree.specs.declared.rows.Referent.{Referent}
use Rattle.c_tree.specs.declared.rows.Referent.TheVariants.{Object, Local, Function as Defined, Declared}
use Rattle.c_tree.specs.Types.{type_of}
use Rattle.c_tree.specs.Layout.{members_of}
use Rattle.c_typing.specs.Plain.{Plain, Char, Int, Void, Pointer, Array, Struct, plain, same, is_struct, is_complete}
use Rattle.c_typing.specs.Rules.{only, followed, member_type, arrow_type, sum_type}
use Rattle.c_typing.specs.Expressions.{Function as AFunction, Hidden, Scope, object_type, is_lvalue, operand, value, IsTyped}
use Rattle.c_typing.specs.Declarations.{IsStruct, locals_in, function_in, denoted, denoted_by, scope_at}
use Rattle.c_typing.specs.Starts.{IsObject}
use Rattle.c_typing.specs.Programs.{AllFrom, IsLocal, IsReferent, IsOfObject, agrees, KeepsRules}
use Rattle.slot_formed.proofs.Lists.{each_of, no_none, some_same, map_some, then_some}
use Rattle.slot_formed.proofs.Sizes.{members_declared}
use Rattle.slot_formed.proofs.Types.{function_there, symbol_there, name_there, local_object}

same_number : (x y : ℕ) → (x == y) ≡ true → x ≡ y
same_number x y h = grind (arith, h)

module _ (defs : List StructDef) where
  abbrev Complete : Plain → Type 0
  Complete t = is_complete defs t ≡ true

  struct_complete : (t u : Plain) → same t u ≡ true → is_struct t ≡ true → Complete u → Complete t
  struct_complete (Struct m) (Struct n) h s c = subst (λ k. Complete (Struct k)) (sym (same_number m n h)) c
  struct_complete (Struct m) _ h s c = absurd (true≢false (sym h))
  struct_complete _ u h s c = absurd (true≢false (sym s))

  followed_complete : (t r : Plain) → followed defs t ≡ Some r → Complete r
  followed_complete (Pointer t) r e = by (is_complete defs t) refl e
    where
      by : (b : Bool) → is_complete defs t ≡ b → only b t ≡ Some r → Complete r
      by true g e = subst Complete (some_same t r e) g
      by false g e = no_none r e
  followed_complete _ r e = no_none r e

  module _ (structs : AllFrom (IsStruct defs) 0 defs) where
    member_complete : (t : Plain) (m : ℕ) (r : Plain) → member_type defs t m ≡ Some r → Complete r
    member_complete (Struct k) m r e =
        let q = map_some (λ (m : Member). plain m.ctype) (slice_get (members_of defs k) m) r e in
        subst Complete q.2 (each_of _ (members_of defs k) m q.0 (members_declared defs structs k) q.1).1
    member_complete _ m r e = no_none r e

    dot_complete : (b : Bool) (t : Plain) (m : ℕ) (r : Plain) → (if b then member_type defs t m else None) ≡ Some r → Complete r
    dot_complete true t m r e = member_complete t m r e
    dot_complete false t m r e = no_none r e

    arrow_complete : (t : Plain) (m : ℕ) (r : Plain) → arrow_type defs t m ≡ Some r → Complete r
    arrow_complete (Pointer t) m r e = member_complete t m r e
    arrow_complete _ m r e = no_none r e

module _ (p : Program) (accepted : KeepsRules p) (f : ℕ) (fn : Function) (here : slice_get p.functions f ≡ Some fn) (v : List ℕ) where
  abbrev s : Scope
  s = scope_at p f v

  name_complete : (n : ℕ) (row : SymbolRow) (r : Plain) → slice_get p.symbols n ≡ Some row → object_type (denoted p f v row) ≡ Some r → is_struct r ≡ true → Complete p.defs r
  name_complete n row r q e k = by row.refers (symbol_there p accepted n row q).1 e
    where
      of_object : (o : ℕ) (x : Option ObjectRow) → slice_get p.objects o ≡ x → IsOfObject p (plain row.ctype) x → plain row.ctype ≡ r → Complete p.defs r
      of_object o None g h same_type = absurd h
      of_object o (Some ob) g h same_type =
          by_struct r k (subst (λ t. agrees p t (plain ob.ctype) ≡ true) same_type h)
        where
          by_struct : (t : Plain) → is_struct t ≡ true → agrees p t (plain ob.ctype) ≡ true → Complete p.defs t
          by_struct (Struct m) z h = struct_complete p.defs (Struct m) (plain ob.ctype) h refl (each_of (IsObject p) p.objects o ob accepted.objects g).0.1
          by_struct _ z h = absurd (true≢false (sym z))

      third : (b : Bool) → object_type (if b then AFunction Void (Int ∷ []) else Hidden) ≡ Some r → Complete p.defs r
      third true e = no_none r e
      third false e = no_none r e

      second : (b : Bool) → object_type (if b then AFunction Int (Int ∷ []) else (if bytes_eq row.name (codes "exit") then AFunction Void (Int ∷ []) else Hidden)) ≡ Some r → Complete p.defs r
      second true e = no_none r e
      second false e = third (bytes_eq row.name (codes "exit")) e

      built : (b : Bool) → object_type (if b then AFunction Int [] else (if bytes_eq row.name (codes "putchar") then AFunction Int (Int ∷ []) else (if bytes_eq row.name (codes "exit") then AFunction Void (Int ∷ []) else Hidden))) ≡ Some r → Complete p.defs r
      built true e = no_none r e
      built false e = second (bytes_eq row.name (codes "putchar")) e

      of_function : (o : Option Function) → object_type (function_in o) ≡ Some r → Complete p.defs r
      of_function None e = no_none r e
      of_function (Some h) e = no_none r e

      by : (o : Referent) → IsReferent p (plain row.ctype) row.name o → object_type (denoted_by p f v (plain row.ctype) row.name o) ≡ Some r → Complete p.defs r
      by (Object o) i e = of_object o (slice_get p.objects o) refl i (some_same (plain row.ctype) r e)
      by (Local x) i e =
          let l = local_object p accepted f v (plain row.ctype) r x (slice_get (locals_in (slice_get p.functions f)) x) e in
          let local = each_of (IsLocal p.defs) fn.locals x l.0 (function_there p accepted f fn here).locals (sym (ap (λ o. slice_get (locals_in o) x) here) ∙ l.1) in
          struct_complete p.defs r (plain l.0.ctype) (subst (λ t. same t (plain l.0.ctype) ≡ true) l.3 l.2) k local.0.1
      by (Defined g) i e = of_function (slice_get p.functions g) e
      by Declared i e = built (bytes_eq row.name (codes "getchar")) e

  -- the type of an lvalue that is a struct
  pub lvalue_complete : (e : Typed) → IsTyped s e → is_lvalue e ≡ true → is_struct (plain (type_of e)) ≡ true → is_complete p.defs (plain (type_of e)) ≡ true
  lvalue_complete (Name h n) t l k = let q = name_there p accepted f v n (plain h.ctype) t in name_complete n q.0 (plain h.ctype) q.1 q.2 k
  lvalue_complete (Literal h n) t l k =
      let q = map_some (λ (text : List ℕ). Array Char (suc (length text))) (slice_get p.strings n) (plain h.ctype) t in
      absurd (true≢false (sym (ap is_struct q.2 ∙ k)))
  lvalue_complete (Follow' h x a) t l k = followed_complete p.defs (value s a) (plain h.ctype) t.1
  lvalue_complete (Index' h x a y b) t l k =
      let q = then_some (followed p.defs) (sum_type p.defs (value s a) (value s b)) (plain h.ctype) t.2 in
      followed_complete p.defs q.0 (plain h.ctype) q.2
  lvalue_complete (Dot' h x a m) t l k = dot_complete p.defs accepted.structs (operand s a).lvalue (plain (type_of a)) m (plain h.ctype) t.1
  lvalue_complete (Arrow' h x a m) t l k = arrow_complete p.defs accepted.structs (value s a) m (plain h.ctype) t.1
  lvalue_complete (Parens' h x a) t l k = subst (λ u. is_complete p.defs u ≡ true) t.1 (lvalue_complete a t.0 l (ap is_struct t.1 ∙ k))
  lvalue_complete _ t l k = absurd (true≢false (sym l))
