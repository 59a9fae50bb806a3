-- The code of a well-typed expression names what is there, and its jumps land inside the function.
use Rattle.std.proofs.Common.{◌≡◌, refl, sym, ap, ◌∙◌, ℕ, suc, ◌+◌, ◌<◌, List, [], ◌∷◌, ◌++◌, length, Bool, true, false, not, ◌&&◌, ◌||◌, Option, Some, None, true≢false, slice_get, ◌⊎◌, inl, inr, arith, ◌^◌}
use Rattle.std.specs.Prelude.{if◌then◌else◌}
use Rattle.c_tree.specs.declared.types.CType.{CType}
use Rattle.c_tree.specs.declared.types.CType.TheVariants as ctype
use Rattle.c_tree.specs.declared.types.StructDef.{StructDef}
use Rattle.c_tree.specs.declared.typed.BinaryOp.{BinaryOp}
use Rattle.c_tree.specs.declared.typed.BinaryOp.TheVariants.{Add}
use Rattle.c_tree.specs.declared.typed.Head.{Head}
use Rattle.c_tree.specs.declared.typed.Typed.{Typed, Row_of-Typed, end_of-Typed, more_of-Typed}
use Rattle.c_tree.specs.declared.typed.Typed.TheVariants.{Comma', Assign', Choice', Or', And', Binary', Cast', Before', Address', Follow', Unary', SizeOf', SizeOfType, Index', Call', Dot', Arrow', After', Name, Constant, Literal, Parens'}
use Rattle.c_tree.specs.declared.rows.Program.{Program}
use Rattle.c_tree.specs.declared.rows.Function.{Function}
use Rattle.c_tree.specs.Types.{type_of, target_of, is_struct, is_array}
use Rattle.c_tree.specs.Layout.{size_of, leaves_of}
use Rattle.c_tree.specs.Ordered.{LieIn}
use Rattle.c_source.specs.Source.{stepping, struct_number}
use Rattle.c_typing.specs.Plain.{Plain, Char, Int, Pointer, Array, Struct, plain, same, is_integer, is_array as an_array, is_struct as is_a_struct, is_complete}
use Rattle.c_typing.specs.Rules.{Operand, converts, is_copied, member_type, is_movable, is_compound, is_move, stepping as stepped}
use Rattle.c_typing.specs.Expressions.{Scope, is_lvalue, is_register, is_string, operand, value, IsTyped, AreTyped}
use Rattle.c_typing.specs.Declarations.{scope_at}
use Rattle.c_typing.specs.Programs.{KeepsRules}
use Rattle.slot_ir.specs.declared.code.SlotOp.{SlotOp}
use Rattle.slot_ir.specs.declared.code.SlotOp.TheVariants as op
use Rattle.slot_gen.specs.Expressions.{is_scalar, access_of, cast_code, load_code, combine_op, choice_code, and_code, or_code, unless_register, name_code, write_at, update_at, register_in, register_inside, expr_code, place_code, row_code}
use Rattle.slot_formed.proofs.Lists.{no_none, and_parts, or_parts, map_some, below_length}
use Rattle.slot_formed.proofs.Sizes.{Formed, formed, formed_size, size_plain}
use Rattle.slot_formed.proofs.Types.{type_formed}
use Rattle.slot_formed.proofs.Lvalues.{lvalue_complete}
use Rattle.slot_formed.proofs.Good.{G, Small, Apart, behind, cast_good, load_good, combine_good, read_good, write_good, update_good, unless_good, choice_good, and_good, or_good}
use Rattle.slot_formed.proofs.Names.{small_type, binary_apart, integer_target, integer_apart, add_apart, dot_small, arrow_small, registers_in, no_scalar, inside_parens, name_good, addressed, enter_good, member_struct}

only_true : (b : Bool) (t r : Plain) → (if b then Some t else None) ≡ Some r → b ≡ true
only_true true t r e = refl
only_true false t r e = no_none r e

struct_there : (t : CType) → is_struct t ≡ is_a_struct (plain t)
struct_there ctype.Char = refl
struct_there ctype.Int = refl
struct_there ctype.Unsigned = refl
struct_there ctype.Void = refl
struct_there (ctype.Pointer' b t) = refl
struct_there (ctype.Array' b t n) = refl
struct_there (ctype.Struct s) = refl

struct_no_scalar : (t : CType) → is_struct t ≡ true → is_scalar t ≡ false
struct_no_scalar (ctype.Struct s) h = refl
struct_no_scalar ctype.Char h = absurd (true≢false (sym h))
struct_no_scalar ctype.Int h = absurd (true≢false (sym h))
struct_no_scalar ctype.Unsigned h = absurd (true≢false (sym h))
struct_no_scalar ctype.Void h = absurd (true≢false (sym h))
struct_no_scalar (ctype.Pointer' b t) h = absurd (true≢false (sym h))
struct_no_scalar (ctype.Array' b t n) h = absurd (true≢false (sym h))

told_struct : (s t : Plain) → same s t ≡ true → is_a_struct s ≡ true → is_a_struct t ≡ true
told_struct (Struct m) (Struct n) h k = refl
told_struct (Struct m) _ h k = absurd (true≢false (sym h))
told_struct _ t h k = absurd (true≢false (sym k))

convert_struct : (t : Plain) (b : Operand) → is_a_struct t ≡ true → converts t b ≡ true → ⊥
convert_struct (Struct m) b h k = true≢false (sym k)
convert_struct _ b h k = true≢false (sym h)

struct_defined : (p : Program) (t : CType) → is_complete p.defs (plain t) ≡ true → is_struct t ≡ true → is_complete p.defs (Struct (struct_number t)) ≡ true
struct_defined p (ctype.Struct s) h k = h
struct_defined p ctype.Char h k = absurd (true≢false (sym k))
struct_defined p ctype.Int h k = absurd (true≢false (sym k))
struct_defined p ctype.Unsigned h k = absurd (true≢false (sym k))
struct_defined p ctype.Void h k = absurd (true≢false (sym k))
struct_defined p (ctype.Pointer' b t) h k = absurd (true≢false (sym k))
struct_defined p (ctype.Array' b t n) h k = absurd (true≢false (sym k))

array_there : (t : CType) → is_array t ≡ an_array (plain t)
array_there ctype.Char = refl
array_there ctype.Int = refl
array_there ctype.Unsigned = refl
array_there ctype.Void = refl
array_there (ctype.Pointer' b t) = refl
array_there (ctype.Array' b t n) = refl
array_there (ctype.Struct s) = refl

integer_no_array : (t : Plain) → is_integer t ≡ true → an_array t ≡ false
integer_no_array (Array t n) h = absurd (true≢false (sym h))
integer_no_array _ h = refl

movable_no_array : (defs : List StructDef) (t : Plain) → is_movable defs t ≡ true → an_array t ≡ false
movable_no_array defs (Array t n) h = absurd (true≢false (sym h))
movable_no_array defs _ h = refl

-- a local in a register is no array
read_no_array : (t : CType) (o : Option ℕ) (x : ℕ) → (if is_scalar t then o else None) ≡ Some x → is_array t ≡ false
read_no_array (ctype.Array' b t n) o x e = no_none x e
read_no_array ctype.Char o x e = refl
read_no_array ctype.Int o x e = refl
read_no_array ctype.Unsigned o x e = refl
read_no_array ctype.Void o x e = refl
read_no_array (ctype.Pointer' b t) o x e = refl
read_no_array (ctype.Struct s) o x e = refl

not_false : (b : Bool) → not b ≡ true → b ≡ false
not_false true h = absurd (true≢false (sym h))
not_false false h = refl

module _ (p : Program) (accepted : KeepsRules p) (ascend : (t : CType) → LieIn 0 (leaves_of p.defs t) (size_of p.defs t)) (f : ℕ) (fn : Function) (here : slice_get p.functions f ≡ Some fn) (n : ℕ) (v : List ℕ) where
  abbrev s : Scope
  s = scope_at p f v

  abbrev GG : List SlotOp → Type 0
  GG l = G p f fn n l

  -- what the code of an expression and of a place keeps, wherever it stands
  abbrev ExprGood : Typed → Type 0
  ExprGood e = (at d : ℕ) → at + length (expr_code p f at d e) < n → GG (expr_code p f at d e)

  abbrev PlaceGood : Typed → Type 0
  PlaceGood e = register_in p f e ≡ None → (at d : ℕ) → at + length (place_code p f at d e) < n → GG (place_code p f at d e)

  small : (e : Typed) → IsTyped s e → Small p f fn n (target_of (type_of e))
  small e t = small_type p f fn n (type_of e) (type_formed p accepted f v e t)

  -- the place of an lvalue that no register is
  unless_place : (a : Typed) (at d : ℕ) → PlaceGood a → at + length (unless_register (register_in p f a) (place_code p f at d a)) < n → GG (unless_register (register_in p f a) (place_code p f at d a))
  unless_place a at d g lt = by (register_in p f a) refl lt
    where
      by : (o : Option ℕ) → register_in p f a ≡ o → at + length (unless_register o (place_code p f at d a)) < n → GG (unless_register o (place_code p f at d a))
      by None e lt = g e at d lt
      by (Some x) e lt = tt

  -- ---- assignments

  -- of two structs
  copied : (a b : Typed) → ((plain (type_of a)) ≡ (operand s a).ctype) → (operand s a).lvalue && (converts (plain (type_of a)) (operand s b) || is_copied (operand s a) (operand s b)) ≡ true → is_struct (type_of a) ≡ true → is_struct (type_of b) ≡ true
  copied a b same_type h k =
      let struct_a : is_a_struct (plain (type_of a)) ≡ true = sym (struct_there (type_of a)) ∙ k in
      by struct_a (or_parts (converts (plain (type_of a)) (operand s b)) (is_copied (operand s a) (operand s b)) (and_parts (is_lvalue a) _ h).1)
    where
      by : is_a_struct (plain (type_of a)) ≡ true → (converts (plain (type_of a)) (operand s b) ≡ true) ⊎ (is_copied (operand s a) (operand s b) ≡ true) → is_struct (type_of b) ≡ true
      by g (inl q) = absurd (convert_struct (plain (type_of a)) (operand s b) g q)
      by g (inr q) =
          let i = and_parts (is_a_struct (plain (type_of a))) (same (plain (type_of a)) (plain (type_of b))) (and_parts (is_a_struct (plain (type_of a)) && same (plain (type_of a)) (plain (type_of b))) (is_lvalue b) q).0 in
          struct_there (type_of b) ∙ told_struct (plain (type_of a)) (plain (type_of b)) i.1 i.0

  assign_good : (h : Head) (x y : _) (a b : Typed) → IsTyped s (Assign' h x a None y b) → PlaceGood a → PlaceGood b → ExprGood b → ExprGood (Assign' h x a None y b)
  assign_good h x y a b t pa pb eb at d lt = by (is_struct (type_of a)) refl lt
    where
      ca : List SlotOp
      ca = place_code p f at d a

      cb : List SlotOp
      cb = place_code p f (at + length ca) (suc d) b

      ra : List SlotOp
      ra = unless_register (register_in p f a) ca

      eb_code : List SlotOp
      eb_code = expr_code p f (at + length ra) (suc d) b

      by : (o : Bool) → is_struct (type_of a) ≡ o
          → at + length (if o then ca ++ (cb ++ op.Move d (suc d) (struct_number (type_of a)) ∷ op.Const d 0 ∷ []) else ra ++ (eb_code ++ write_at p f d (register_in p f a) (type_of a))) < n
          → GG (if o then ca ++ (cb ++ op.Move d (suc d) (struct_number (type_of a)) ∷ op.Const d 0 ∷ []) else ra ++ (eb_code ++ write_at p f d (register_in p f a) (type_of a)))
      by true e lt =
          let is_b : is_struct (type_of b) ≡ true = copied a b refl (only_true _ (plain (type_of a)) (plain h.ctype) t.2) e in
          behind p f fn n at ca _ lt (λ q. pa (no_scalar p accepted ascend f fn here n a (struct_no_scalar (type_of a) e)) at d q) λ q.
          behind p f fn n (at + length ca) cb _ q (λ r. pb (no_scalar p accepted ascend f fn here n b (struct_no_scalar (type_of b) is_b)) (at + length ca) (suc d) r) λ r. (struct_defined p (type_of a) (lvalue_complete p accepted f fn here v a t.0 (and_parts (is_lvalue a) _ (only_true _ (plain (type_of a)) (plain h.ctype) t.2)).0 (sym (struct_there (type_of a)) ∙ e)) e, (omega arith, tt))
      by false e lt =
          behind p f fn n at ra _ lt (λ q. unless_place a at d pa q) λ q.
          behind p f fn n (at + length ra) eb_code _ q (λ r. eb (at + length ra) (suc d) r) λ r. write_good p f fn n d (register_in p f a) (type_of a) (registers_in p accepted ascend f fn here n a)

  -- a compound assignment of an integer
  compound_integer : (o : BinaryOp) (a : Operand) (t r : Plain) → (if a.lvalue && is_integer t && ((is_integer a.ctype && is_compound o) || (is_movable p.defs a.ctype && is_move o)) then Some a.ctype else None) ≡ Some r → is_integer t ≡ true
  compound_integer o a t r e = (and_parts a.lvalue (is_integer t) (and_parts (a.lvalue && is_integer t) _ (only_true _ a.ctype r e)).0).1

  -- which is no array
  compound_no_array : (o : BinaryOp) (u : CType) (a : Operand) (t r : Plain) → a.ctype ≡ plain u → (if a.lvalue && is_integer t && ((is_integer a.ctype && is_compound o) || (is_movable p.defs a.ctype && is_move o)) then Some a.ctype else None) ≡ Some r → is_array u ≡ false
  compound_no_array o u a t r w e =
      by (or_parts (is_integer a.ctype && is_compound o) (is_movable p.defs a.ctype && is_move o) (and_parts (a.lvalue && is_integer t) _ (only_true _ a.ctype r e)).1)
    where
      by : (is_integer a.ctype && is_compound o ≡ true) ⊎ (is_movable p.defs a.ctype && is_move o ≡ true) → is_array u ≡ false
      by (inl q) = array_there u ∙ ap an_array (sym w) ∙ integer_no_array a.ctype (and_parts (is_integer a.ctype) (is_compound o) q).0
      by (inr q) = array_there u ∙ ap an_array (sym w) ∙ movable_no_array p.defs a.ctype (and_parts (is_movable p.defs a.ctype) (is_move o) q).0

  compound_good : (h : Head) (x y : _) (a b : Typed) (o : BinaryOp) → IsTyped s (Assign' h x a (Some o) y b) → PlaceGood a → ExprGood b → ExprGood (Assign' h x a (Some o) y b)
  compound_good h x y a b o t pa eb at d lt =
      let ra = unless_register (register_in p f a) (place_code p f at d a) in
      let none : target_of (type_of b) ≡ None = integer_target p accepted ascend f fn here n (type_of b) (compound_integer o (operand s a) (value s b) (plain h.ctype) t.2) in
      behind p f fn n at ra _ lt (λ q. unless_place a at d pa q) λ q.
      behind p f fn n (at + length ra) (expr_code p f (at + length ra) (suc d) b) _ q (λ r. eb (at + length ra) (suc d) r) λ r.
      update_good p f fn n d (register_in p f a) (type_of a) o (type_of b) true (compound_no_array o (type_of a) (operand s a) (value s b) (plain h.ctype) refl t.2) (registers_in p accepted ascend f fn here n a) (small a t.0) (small b t.1) (integer_apart p accepted ascend f fn here n o (target_of (type_of a)) (target_of (type_of b)) none)

  step_good : (a : Typed) (o : BinaryOp) (new : Bool) (at d : ℕ) → IsTyped s a → is_array (type_of a) ≡ false → PlaceGood a
      → at + length (unless_register (register_in p f a) (place_code p f at d a) ++ op.Const (suc d) 1 ∷ update_at p f d (register_in p f a) (type_of a) o ctype.Int new) < n
      → GG (unless_register (register_in p f a) (place_code p f at d a) ++ op.Const (suc d) 1 ∷ update_at p f d (register_in p f a) (type_of a) o ctype.Int new)
  step_good a o new at d t k pa lt =
      behind p f fn n at (unless_register (register_in p f a) (place_code p f at d a)) _ lt (λ q. unless_place a at d pa q) λ q.
      (omega arith, update_good p f fn n d (register_in p f a) (type_of a) o ctype.Int new k (registers_in p accepted ascend f fn here n a) (small a t) tt (integer_apart p accepted ascend f fn here n o (target_of (type_of a)) None refl))

  -- ---- two operands and an operator

  both_good : (o : BinaryOp) (a b : Typed) (at d : ℕ) → IsTyped s a → IsTyped s b → Apart p f fn n o (target_of (type_of a)) (target_of (type_of b)) → ExprGood a → ExprGood b
      → at + length (expr_code p f at d a ++ (expr_code p f (at + length (expr_code p f at d a)) (suc d) b ++ combine_op p d d (suc d) o (type_of a) (type_of b) ∷ [])) < n
      → GG (expr_code p f at d a ++ (expr_code p f (at + length (expr_code p f at d a)) (suc d) b ++ combine_op p d d (suc d) o (type_of a) (type_of b) ∷ []))
  both_good o a b at d ta tb apart ea eb lt =
      let ca = expr_code p f at d a in
      behind p f fn n at ca _ lt (λ q. ea at d q) λ q.
      behind p f fn n (at + length ca) (expr_code p f (at + length ca) (suc d) b) _ q (λ r. eb (at + length ca) (suc d) r) λ r. (combine_good p f fn n d d (suc d) o (type_of a) (type_of b) (small a ta) (small b tb) apart, tt)

  cast_behind : (a : Typed) (t : CType) (at d : ℕ) → ExprGood a → at + length (expr_code p f at d a ++ cast_code d t) < n → GG (expr_code p f at d a ++ cast_code d t)
  cast_behind a t at d g lt = behind p f fn n at (expr_code p f at d a) _ lt (λ q. g at d q) λ q. cast_good p f fn n d (access_of t)

  choose_good : (h : Head) (x y z : _) (c a b : Typed) → ExprGood c → ExprGood a → ExprGood b → ExprGood (Choice' h x c y a z b)
  choose_good h x y z c a b gc ga gb at d lt =
      let cc = expr_code p f at d c in
      let ca = expr_code p f (at + length cc + 1) d a ++ cast_code d h.ctype in
      let cb = expr_code p f (at + length cc + 1 + length ca + 1) d b ++ cast_code d h.ctype in
      behind p f fn n at cc (choice_code (at + length cc) d ca cb) lt (λ q. gc at d q) λ q.
      choice_good p f fn n (at + length cc) d ca cb q (λ r. cast_behind a h.ctype (at + length cc + 1) d ga r) (λ r. cast_behind b h.ctype (at + length cc + 1 + length ca + 1) d gb r)

  dot_struct : (b : Bool) (t : CType) (m : ℕ) (r : Plain) → (if b then member_type p.defs (plain t) m else None) ≡ Some r → is_scalar t ≡ false
  dot_struct true t m r e = member_struct p.defs t m r e
  dot_struct false t m r e = no_none r e

  -- ---- the place of `&`

  address_none : (a : Typed) (r : Plain) → IsTyped s a → (if is_lvalue a && not (is_register s a) && not (is_string a) then Some (Pointer (plain (type_of a))) else None) ≡ Some r → register_in p f a ≡ None
  address_none a r t e = addressed p accepted ascend f fn here n v a t (not_false (is_register s a) (and_parts (is_lvalue a) (not (is_register s a)) (and_parts (is_lvalue a && not (is_register s a)) (not (is_string a)) (only_true _ _ r e)).0).1)

  named_good : (h : Head) (m : ℕ) (d : ℕ) → IsTyped s (Name h m) → register_in p f (Name h m) ≡ None → GG (name_code p f d (slice_get p.symbols m))
  named_good h m d t e = name_good p accepted ascend f fn here n v d m h.ctype t e

  literal_good : (h : Head) (m : ℕ) → IsTyped s (Literal h m) → m < length p.strings
  literal_good h m t = let q = map_some (λ (text : List ℕ). Array Char (suc (length text))) (slice_get p.strings m) (plain h.ctype) t in below_length p.strings m q.0 q.1

  size_small : (t : CType) → Formed p.defs (plain t) → size_of p.defs t < 2 ^ 32
  size_small t h = omega (arith, size_plain p.defs t, formed_size p.defs (plain t) h)

  mutual
    pub expr_good : (e : Typed) → IsTyped s e → (at d : ℕ) → at + length (expr_code p f at d e) < n → G p f fn n (expr_code p f at d e)
    expr_good (Comma' h x a y b) t at d lt = behind p f fn n at (expr_code p f at d a) _ lt (λ q. expr_good a t.0 at d q) (λ q. expr_good b t.1 (at + length (expr_code p f at d a)) d q)
    expr_good (Assign' h x a None y b) t at d lt = assign_good h x y a b t (λ r i j q. place_good a t.0 r i j q) (λ r i j q. place_good b t.1 r i j q) (λ i j q. expr_good b t.1 i j q) at d lt
    expr_good (Assign' h x a (Some o) y b) t at d lt = compound_good h x y a b o t (λ r i j q. place_good a t.0 r i j q) (λ i j q. expr_good b t.1 i j q) at d lt
    expr_good (Choice' h x c y a z b) t at d lt = choose_good h x y z c a b (λ i j q. expr_good c t.0 i j q) (λ i j q. expr_good a t.1 i j q) (λ i j q. expr_good b t.2 i j q) at d lt
    expr_good (Or' h x a y b) t at d lt =
        let ca = expr_code p f at d a in
        behind p f fn n at ca (or_code (at + length ca) d (expr_code p f (at + length ca + 1) d b)) lt (λ q. expr_good a t.0 at d q) λ q. or_good p f fn n (at + length ca) d (expr_code p f (at + length ca + 1) d b) q (λ r. expr_good b t.1 (at + length ca + 1) d r)
    expr_good (And' h x a y b) t at d lt =
        let ca = expr_code p f at d a in
        behind p f fn n at ca (and_code (at + length ca) d (expr_code p f (at + length ca + 1) d b)) lt (λ q. expr_good a t.0 at d q) λ q. and_good p f fn n (at + length ca) d (expr_code p f (at + length ca + 1) d b) q (λ r. expr_good b t.1 (at + length ca + 1) d r)
    expr_good (Binary' h x a o y b) t at d lt = both_good o a b at d t.0 t.1 (binary_apart p accepted ascend f fn here n o a b s (plain h.ctype) refl t.2) (λ i j q. expr_good a t.0 i j q) (λ i j q. expr_good b t.1 i j q) lt
    expr_good (Cast' h x a) t at d lt = cast_behind a h.ctype at d (λ i j q. expr_good a t.0 i j q) lt
    expr_good (Before' h o x a) t at d lt = step_good a (stepping o) true at d t.0 (compound_no_array (stepped o) (type_of a) (operand s a) Int (plain h.ctype) refl t.1) (λ r i j q. place_good a t.0 r i j q) lt
    expr_good (Address' h x a) t at d lt = place_good a t.0 (address_none a (plain h.ctype) t.0 t.1) at d lt
    expr_good (Unary' h o x a) t at d lt = behind p f fn n at (expr_code p f at d a) _ lt (λ q. expr_good a t.0 at d q) λ q. (tt, tt)
    expr_good (SizeOf' h x a) t at d lt = (size_small (type_of a) (type_formed p accepted f v a t.0), tt)
    expr_good (SizeOfType h u) t at d lt = (size_small u (formed p.defs u t.0.1), tt)
    expr_good (Call' h g x row) t at d lt = behind p f fn n at (row_code p f at d row) _ lt (λ q. row_good row t.0 at d q) λ q. enter_good p accepted ascend f fn here n v d g row (plain h.ctype) t.1
    expr_good (After' h x a o) t at d lt = step_good a (stepping o) false at d t.0 (compound_no_array (stepped o) (type_of a) (operand s a) Int (plain h.ctype) refl t.1) (λ r i j q. place_good a t.0 r i j q) lt
    expr_good (Constant h m) t at d lt = (t.1, tt)
    expr_good (Parens' h x a) t at d lt = expr_good a t.0 at d lt
    expr_good (Name h m) t at d lt =
        behind p f fn n at (unless_register (register_in p f (Name h m)) (name_code p f d (slice_get p.symbols m))) _ lt
        (λ q. unless_good p f fn n (register_in p f (Name h m)) (name_code p f d (slice_get p.symbols m)) (λ e. named_good h m d t e)) λ q.
        read_good p f fn n d (register_in p f (Name h m)) h.ctype (registers_in p accepted ascend f fn here n (Name h m)) (λ x e. read_no_array h.ctype (register_inside p f (Name h m)) x e)
    expr_good (Literal h m) t at d lt = (literal_good h m t, load_good p f fn n d h.ctype)
    expr_good (Follow' h x a) t at d lt = behind p f fn n at (expr_code p f at d a) _ lt (λ q. expr_good a t.0 at d q) λ q. load_good p f fn n d h.ctype
    expr_good (Index' h x a y b) t at d lt =
        behind p f fn n at _ (load_code d h.ctype) lt
        (λ q. both_good Add a b at d t.0 t.1 (add_apart p accepted ascend f fn here n (target_of (type_of a)) (target_of (type_of b))) (λ i j r. expr_good a t.0 i j r) (λ i j r. expr_good b t.1 i j r) q) λ q. load_good p f fn n d h.ctype
    expr_good (Dot' h x a m) t at d lt =
        behind p f fn n at _ (load_code d h.ctype) lt
        (λ q. behind p f fn n at (place_code p f at d a) _ q (λ r. place_good a t.0 (no_scalar p accepted ascend f fn here n a (dot_struct (is_lvalue a) (type_of a) m (plain h.ctype) t.1)) at d r) λ r. (dot_small p accepted ascend f fn here n a m, tt)) λ q.
        load_good p f fn n d h.ctype
    expr_good (Arrow' h x a m) t at d lt =
        behind p f fn n at _ (load_code d h.ctype) lt
        (λ q. behind p f fn n at (expr_code p f at d a) _ q (λ r. expr_good a t.0 at d r) λ r. (arrow_small p accepted ascend f fn here n a m, tt)) λ q.
        load_good p f fn n d h.ctype

    pub place_good : (e : Typed) → IsTyped s e → register_in p f e ≡ None → (at d : ℕ) → at + length (place_code p f at d e) < n → G p f fn n (place_code p f at d e)
    place_good (Name h m) t e at d lt = named_good h m d t e
    place_good (Literal h m) t e at d lt = (literal_good h m t, tt)
    place_good (Follow' h x a) t e at d lt = expr_good a t.0 at d lt
    place_good (Index' h x a y b) t e at d lt =
        both_good Add a b at d t.0 t.1 (add_apart p accepted ascend f fn here n (target_of (type_of a)) (target_of (type_of b))) (λ i j r. expr_good a t.0 i j r) (λ i j r. expr_good b t.1 i j r) lt
    place_good (Dot' h x a m) t e at d lt =
        behind p f fn n at (place_code p f at d a) _ lt (λ r. place_good a t.0 (no_scalar p accepted ascend f fn here n a (dot_struct (is_lvalue a) (type_of a) m (plain h.ctype) t.1)) at d r) λ r. (dot_small p accepted ascend f fn here n a m, tt)
    place_good (Arrow' h x a m) t e at d lt = behind p f fn n at (expr_code p f at d a) _ lt (λ r. expr_good a t.0 at d r) λ r. (arrow_small p accepted ascend f fn here n a m, tt)
    place_good (Parens' h x a) t e at d lt = place_good a t.0 (inside_parens p accepted ascend f fn here n h a t.1 e) at d lt
    place_good o t e at d lt = tt

    row_good : {m : _} (row : Row_of-Typed m) → AreTyped s row → (at d : ℕ) → at + length (row_code p f at d row) < n → G p f fn n (row_code p f at d row)
    row_good end_of-Typed t at d lt = tt
    row_good (more_of-Typed e rest) t at d lt = behind p f fn n at (expr_code p f at d e) _ lt (λ q. expr_good e t.0 at d q) (λ q. row_good rest t.1 (at + length (expr_code p f at d e)) (suc d) q)
