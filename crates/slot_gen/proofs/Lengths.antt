-- The code of an expression weighs at most 6 for each of its tokens.
use Rattle.std.proofs.Common.{ℕ, zero, suc, ◌+◌, ◌*◌, ◌-◌, ◌≤◌, List, [], ◌∷◌, ◌++◌, length, Bool, true, false, Option, Some, None, ◌≡◌, refl, ap, ◌∙◌, sym, arith}
use Rattle.std.specs.Prelude.{slice_get, bytes_eq, codes, if◌then◌else◌}
use Rattle.c_tree.specs.declared.types.CType.{CType}
use Rattle.c_tree.specs.declared.types.CType.TheVariants.{Int}
use Rattle.c_tree.specs.declared.typed.BinaryOp.{BinaryOp}
use Rattle.c_tree.specs.declared.typed.BinaryOp.TheVariants.{Equal, Unequal, Less, Greater, LessEqual, GreaterEqual, Add, Subtract}
use Rattle.c_tree.specs.declared.typed.Typed.{Typed, Row_of-Typed, end_of-Typed, more_of-Typed}
use Rattle.c_tree.specs.declared.typed.Typed.TheVariants.{Comma', Assign', Choice', Or', And', Binary', Cast', Before', Address', Follow', Unary', SizeOf', SizeOfType, Index', Call', Dot', Arrow', After', Name, Constant, Literal, Parens'}
use Rattle.c_tree.specs.declared.rows.Program.{Program}
use Rattle.c_tree.specs.declared.rows.SymbolRow.{SymbolRow}
use Rattle.c_tree.specs.declared.rows.Referent.{Referent}
use Rattle.c_tree.specs.declared.rows.Referent.TheVariants.{Object, Local, Function as Defined, Declared}
use Rattle.c_tree.specs.Rows.{exprs}
use Rattle.c_tree.specs.Types.{type_of, target_of, is_array, is_struct, kind_of}
use Rattle.c_tree.specs.Layout.{size_of}
use Rattle.c_source.specs.Source.{stepping}
use Rattle.slot_ir.specs.declared.code.Access.{Access}
use Rattle.slot_ir.specs.declared.code.Access.TheVariants as access
use Rattle.slot_ir.specs.declared.code.SlotOp.{SlotOp}
use Rattle.slot_ir.specs.declared.code.SlotOp.TheVariants as op
use Rattle.slot_ir.specs.declared.code.UnaryWordOp.TheVariants as unary
use Rattle.slot_ir.specs.WellFormed.{weight_of, weight}
use Rattle.slot_gen.specs.Expressions.{access_of, converting, cast_code, load_code, mixed_op, pointers_op, targets_op, combine_op, call_code, built_in_code, enter_code, choice_code, and_code, or_code, name_code, referent_code, read_at, write_at, update_at, unless_register, register_in, expr_code, place_code, row_code}
use Rattle.slot_gen.specs.Tokens.{tokens_of, row_tokens}

pub weight-append : (a b : List SlotOp) → weight (a ++ b) ≡ weight a + weight b
weight-append [] b = omega arith
weight-append (o ∷ a) b = let e = weight-append a b in omega (arith, e)

-- code of at most so much weight
abbrev pub Few : ℕ → List SlotOp → Type 0
Few n l = weight l ≤ n

pub few_append : (m n k : ℕ) (a b : List SlotOp) → Few m a → Few n b → m + n ≤ k → Few k (a ++ b)
few_append m n k a b x y le = omega (arith, weight-append a b, x, y, le)

pub fewer : (m k : ℕ) (a : List SlotOp) → Few m a → m ≤ k → Few k a
fewer m k a x le = omega (arith, x, le)

pub cast_few : (d : ℕ) (a : Access) → Few 1 (converting d a)
cast_few d access.Word = omega arith
cast_few d access.SignedByte = omega arith
cast_few d access.UnsignedByte = omega arith
cast_few d access.SignedHalf = omega arith
cast_few d access.UnsignedHalf = omega arith
cast_few d access.Pointer = omega arith

load_few : (d : ℕ) (t : CType) → Few 1 (load_code d t)
load_few d t = by (is_array t)
  where
    by : (b : Bool) → Few 1 (if b then [] else op.Load d d (kind_of t) (access_of t) ∷ [])
    by true = omega arith
    by false = omega arith

enter_few : (d m : ℕ) (o : Option SymbolRow) → Few (1 + m) (enter_code d o m)
enter_few d m None = omega arith
enter_few d m (Some s) = by s.refers
  where
    get_few : (b : Bool) → Few 1 (if b then op.GetChar d ∷ [] else [])
    get_few true = omega arith
    get_few false = omega arith

    put_few : (b : Bool) → Few 1 (if b then op.PutChar d ∷ [] else op.Exit d ∷ [])
    put_few true = omega arith
    put_few false = omega arith

    built_few : (m : ℕ) → Few 1 (built_in_code d s.name m)
    built_few zero = get_few (bytes_eq s.name (codes "getchar"))
    built_few (suc j) = put_few (bytes_eq s.name (codes "putchar"))

    by : (r : Referent) → Few (1 + m) (call_code d r s.name m)
    by (Object o) = omega arith
    by (Local x) = omega arith
    by (Defined j) = omega arith
    by Declared = fewer 1 (1 + m) (built_in_code d s.name m) (built_few m) (omega arith)

mixed_weight : (to l r size : ℕ) (o : BinaryOp) (t : CType) → weight_of (mixed_op to l r size o t) ≡ 1
mixed_weight to l r size Add t = refl
mixed_weight to l r size Subtract t = refl
mixed_weight to l r size Equal t = refl
mixed_weight to l r size Unequal t = refl
mixed_weight to l r size _ t = refl

pointers_weight : (to l r size : ℕ) (o : BinaryOp) → weight_of (pointers_op to l r size o) ≡ 1
pointers_weight to l r size Equal = refl
pointers_weight to l r size Unequal = refl
pointers_weight to l r size Less = refl
pointers_weight to l r size Greater = refl
pointers_weight to l r size LessEqual = refl
pointers_weight to l r size GreaterEqual = refl
pointers_weight to l r size Subtract = refl
pointers_weight to l r size _ = refl

-- an operator on two operands weighs 1
combine_weight : (p : Program) (to l r : ℕ) (o : BinaryOp) (s t : CType) → weight_of (combine_op p to l r o s t) ≡ 1
combine_weight p to l r o s t = by (target_of s) (target_of t)
  where
    by : (a b : Option CType) → weight_of (targets_op p to l r o s t a b) ≡ 1
    by None None = refl
    by (Some a) None = mixed_weight to l r (size_of p.defs a) o t
    by None (Some b) = mixed_weight to r l (size_of p.defs b) o s
    by (Some a) (Some b) = pointers_weight to l r (size_of p.defs a) o

-- a call's arguments are parted by commas
commas : (tokens m : ℕ) → 6 * tokens + (1 + m) ≤ 6 * (3 + (tokens + (m - 1)))
commas tokens m = omega arith

module _ (p : Program) (f : ℕ) where
  name_few : (d : ℕ) (o : Option SymbolRow) → Few 1 (name_code p f d o)
  name_few d None = omega arith
  name_few d (Some s) = by s.refers
    where
      by : (r : Referent) → Few 1 (referent_code d r)
      by (Object o) = omega arith
      by (Local x) = omega arith
      by (Defined j) = omega arith
      by Declared = omega arith

  unless_few : (m : ℕ) (o : Option ℕ) (is : List SlotOp) → Few m is → Few m (unless_register o is)
  unless_few m None is h = h
  unless_few m (Some x) is h = omega arith

  read_few : (d : ℕ) (o : Option ℕ) (t : CType) → Few 1 (read_at p f d o t)
  read_few d None t = load_few d t
  read_few d (Some x) t = omega arith

  pub write_few : (d : ℕ) (o : Option ℕ) (t : CType) → Few 3 (write_at p f d o t)
  write_few d None t = few_append 1 2 3 (cast_code (suc d) t) _ (cast_few (suc d) (access_of t)) (omega arith) (omega arith)
  write_few d (Some x) t = few_append 1 2 3 (cast_code (suc d) t) _ (cast_few (suc d) (access_of t)) (omega arith) (omega arith)

  update_few : (d : ℕ) (o : Option ℕ) (t : CType) (b : BinaryOp) (s : CType) (new : Bool) → Few 5 (update_at p f d o t b s new)
  update_few d None t b s new = few_append 2 3 5 (op.Load (suc (suc d)) d (kind_of t) (access_of t) ∷ combine_op p (suc d) (suc (suc d)) (suc d) b t s ∷ []) _ (omega (arith, combine_weight p (suc d) (suc (suc d)) (suc d) b t s)) (few_append 1 2 3 (cast_code (suc d) t) _ (cast_few (suc d) (access_of t)) (omega arith) (omega arith)) (omega arith)
  update_few d (Some x) t b s new = few_append 2 3 5 (op.ReadRegister (suc (suc d)) x (kind_of t) (access_of t) ∷ combine_op p (suc d) (suc (suc d)) (suc d) b t s ∷ []) _ (omega (arith, combine_weight p (suc d) (suc (suc d)) (suc d) b t s)) (few_append 1 2 3 (cast_code (suc d) t) _ (cast_few (suc d) (access_of t)) (omega arith) (omega arith)) (omega arith)

  choice_few : (m n k at d : ℕ) (a b : List SlotOp) → Few m a → Few n b → m + n + 2 ≤ k → Few k (choice_code at d a b)
  choice_few m n k at d a b x y le = omega (arith, weight-append a (op.Jump (at + 1 + length a + 1 + length b) ∷ b), x, y, le)

  and_few : (m k at d : ℕ) (b : List SlotOp) → Few m b → m + 4 ≤ k → Few k (and_code at d b)
  and_few m k at d b y le = omega (arith, weight-append b (op.Unary d unary.Truth ∷ op.Jump (at + 1 + length b + 3) ∷ op.Const d 0 ∷ []), y, le)

  or_few : (m k at d : ℕ) (b : List SlotOp) → Few m b → m + 4 ≤ k → Few k (or_code at d b)
  or_few m k at d b y le = omega (arith, weight-append b (op.Unary d unary.Truth ∷ op.Jump (at + 1 + length b + 3) ∷ op.Const d 1 ∷ []), y, le)

  either_few : (k : ℕ) (c : Bool) (x y : List SlotOp) → Few k x → Few k y → Few k (if c then x else y)
  either_few k true x y a b = a
  either_few k false x y a b = b

  mutual
    pub expr_few : (e : Typed) (at d : ℕ) → Few (6 * tokens_of e) (expr_code p f at d e)
    expr_few (Comma' h x a y b) at d = few_append (6 * tokens_of a) (6 * tokens_of b) _ (expr_code p f at d a) _ (expr_few a at d) (expr_few b _ d) (omega arith)
    expr_few (Assign' h x a None y b) at d =
        let ca = place_code p f at d a in
        let ra = unless_register (register_in p f a) ca in
        either_few (6 * tokens_of (Assign' h x a None y b)) (is_struct (type_of a)) _ _
        (few_append (6 * tokens_of a) (6 * tokens_of b + 2) _ ca _ (place_few a at d) (few_append (6 * tokens_of b) 2 _ (place_code p f (at + length ca) (suc d) b) _ (place_few b (at + length ca) (suc d)) (omega arith) (omega arith)) (omega arith))
        (few_append (6 * tokens_of a) (6 * tokens_of b + 3) _ ra _ (unless_few (6 * tokens_of a) (register_in p f a) ca (place_few a at d)) (few_append (6 * tokens_of b) 3 _ (expr_code p f (at + length ra) (suc d) b) _ (expr_few b (at + length ra) (suc d)) (write_few d (register_in p f a) (type_of a)) (omega arith)) (omega arith))
    expr_few (Assign' h x a (Some o) y b) at d =
        let ca = place_code p f at d a in
        let ra = unless_register (register_in p f a) ca in
        few_append (6 * tokens_of a) (6 * tokens_of b + 5) _ ra _ (unless_few (6 * tokens_of a) (register_in p f a) ca (place_few a at d)) (few_append (6 * tokens_of b) 5 _ (expr_code p f (at + length ra) (suc d) b) _ (expr_few b (at + length ra) (suc d)) (update_few d (register_in p f a) (type_of a) o (type_of b) true) (omega arith)) (omega arith)
    expr_few (Choice' h x c y a z b) at d =
        let cc = expr_code p f at d c in
        let ca = expr_code p f (at + length cc + 1) d a ++ cast_code d h.ctype in
        let cb = expr_code p f (at + length cc + 1 + length ca + 1) d b ++ cast_code d h.ctype in
        few_append (6 * tokens_of c) (6 * tokens_of a + 1 + (6 * tokens_of b + 1) + 2) _ cc _ (expr_few c at d)
        (choice_few (6 * tokens_of a + 1) (6 * tokens_of b + 1) _ (at + length cc) d ca cb
        (few_append (6 * tokens_of a) 1 _ (expr_code p f (at + length cc + 1) d a) _ (expr_few a (at + length cc + 1) d) (cast_few d (access_of h.ctype)) (omega arith))
        (few_append (6 * tokens_of b) 1 _ (expr_code p f (at + length cc + 1 + length ca + 1) d b) _ (expr_few b (at + length cc + 1 + length ca + 1) d) (cast_few d (access_of h.ctype)) (omega arith)) (omega arith)) (omega arith)
    expr_few (Or' h x a y b) at d =
        let ca = expr_code p f at d a in
        few_append (6 * tokens_of a) (6 * tokens_of b + 4) _ ca _ (expr_few a at d) (or_few (6 * tokens_of b) _ (at + length ca) d (expr_code p f (at + length ca + 1) d b) (expr_few b (at + length ca + 1) d) (omega arith)) (omega arith)
    expr_few (And' h x a y b) at d =
        let ca = expr_code p f at d a in
        few_append (6 * tokens_of a) (6 * tokens_of b + 4) _ ca _ (expr_few a at d) (and_few (6 * tokens_of b) _ (at + length ca) d (expr_code p f (at + length ca + 1) d b) (expr_few b (at + length ca + 1) d) (omega arith)) (omega arith)
    expr_few (Binary' h x a o y b) at d =
        let ca = expr_code p f at d a in
        few_append (6 * tokens_of a) (6 * tokens_of b + 1) _ ca _ (expr_few a at d) (few_append (6 * tokens_of b) 1 _ (expr_code p f (at + length ca) (suc d) b) _ (expr_few b (at + length ca) (suc d)) (omega (arith, combine_weight p d d (suc d) o (type_of a) (type_of b))) (omega arith)) (omega arith)
    expr_few (Cast' h x a) at d = few_append (6 * tokens_of a) 1 _ (expr_code p f at d a) _ (expr_few a at d) (cast_few d (access_of h.ctype)) (omega arith)
    expr_few (Before' h o x a) at d =
        let ca = place_code p f at d a in
        few_append (6 * tokens_of a) 6 _ (unless_register (register_in p f a) ca) _ (unless_few (6 * tokens_of a) (register_in p f a) ca (place_few a at d)) (few_append 1 5 6 (op.Const (suc d) 1 ∷ []) _ (omega arith) (update_few d (register_in p f a) (type_of a) (stepping o) Int true) (omega arith)) (omega arith)
    expr_few (Address' h x a) at d = fewer (6 * tokens_of a) _ (place_code p f at d a) (place_few a at d) (omega arith)
    expr_few (Unary' h o x a) at d = few_append (6 * tokens_of a) 1 _ (expr_code p f at d a) _ (expr_few a at d) (omega arith) (omega arith)
    expr_few (SizeOf' h x a) at d = omega arith
    expr_few (SizeOfType h t) at d = omega arith
    expr_few (Call' h g x row) at d =
        few_append (6 * row_tokens row) (1 + length (exprs row)) _ (row_code p f at d row) _ (row_few row at d) (enter_few d (length (exprs row)) (slice_get p.symbols g)) (commas (row_tokens row) (length (exprs row)))
    expr_few (After' h x a o) at d =
        let ca = place_code p f at d a in
        few_append (6 * tokens_of a) 6 _ (unless_register (register_in p f a) ca) _ (unless_few (6 * tokens_of a) (register_in p f a) ca (place_few a at d)) (few_append 1 5 6 (op.Const (suc d) 1 ∷ []) _ (omega arith) (update_few d (register_in p f a) (type_of a) (stepping o) Int false) (omega arith)) (omega arith)
    expr_few (Constant h m) at d = omega arith
    expr_few (Parens' h x a) at d = fewer (6 * tokens_of a) _ (expr_code p f at d a) (expr_few a at d) (omega arith)
    expr_few (Name h m) at d =
        few_append 1 1 6 (unless_register (register_in p f (Name h m)) (name_code p f d (slice_get p.symbols m))) _ (unless_few 1 (register_in p f (Name h m)) (name_code p f d (slice_get p.symbols m)) (name_few d (slice_get p.symbols m))) (read_few d (register_in p f (Name h m)) h.ctype) (omega arith)
    expr_few (Literal h m) at d = few_append 1 1 6 (op.TextAddress d m ∷ []) (load_code d h.ctype) (omega arith) (load_few d h.ctype) (omega arith)
    expr_few (Follow' h x a) at d = few_append (6 * tokens_of a) 1 _ (expr_code p f at d a) _ (expr_few a at d) (load_few d h.ctype) (omega arith)
    expr_few (Index' h x a y b) at d =
        let ca = expr_code p f at d a in
        few_append (6 * tokens_of a + (6 * tokens_of b + 1)) 1 _ _ (load_code d h.ctype) (few_append (6 * tokens_of a) (6 * tokens_of b + 1) _ ca _ (expr_few a at d) (few_append (6 * tokens_of b) 1 _ (expr_code p f (at + length ca) (suc d) b) _ (expr_few b (at + length ca) (suc d)) (omega (arith, combine_weight p d d (suc d) Add (type_of a) (type_of b))) (omega arith)) (omega arith)) (load_few d h.ctype) (omega arith)
    expr_few (Dot' h x a m) at d = few_append (6 * tokens_of a + 1) 1 _ _ (load_code d h.ctype) (few_append (6 * tokens_of a) 1 _ (place_code p f at d a) _ (place_few a at d) (omega arith) (omega arith)) (load_few d h.ctype) (omega arith)
    expr_few (Arrow' h x a m) at d = few_append (6 * tokens_of a + 1) 1 _ _ (load_code d h.ctype) (few_append (6 * tokens_of a) 1 _ (expr_code p f at d a) _ (expr_few a at d) (omega arith) (omega arith)) (load_few d h.ctype) (omega arith)

    place_few : (e : Typed) (at d : ℕ) → Few (6 * tokens_of e) (place_code p f at d e)
    place_few (Name h m) at d = fewer 1 6 (name_code p f d (slice_get p.symbols m)) (name_few d (slice_get p.symbols m)) (omega arith)
    place_few (Literal h m) at d = omega arith
    place_few (Follow' h x a) at d = fewer (6 * tokens_of a) _ (expr_code p f at d a) (expr_few a at d) (omega arith)
    place_few (Index' h x a y b) at d =
        let ca = expr_code p f at d a in
        few_append (6 * tokens_of a) (6 * tokens_of b + 1) _ ca _ (expr_few a at d) (few_append (6 * tokens_of b) 1 _ (expr_code p f (at + length ca) (suc d) b) _ (expr_few b (at + length ca) (suc d)) (omega (arith, combine_weight p d d (suc d) Add (type_of a) (type_of b))) (omega arith)) (omega arith)
    place_few (Dot' h x a m) at d = few_append (6 * tokens_of a) 1 _ (place_code p f at d a) _ (place_few a at d) (omega arith) (omega arith)
    place_few (Arrow' h x a m) at d = few_append (6 * tokens_of a) 1 _ (expr_code p f at d a) _ (expr_few a at d) (omega arith) (omega arith)
    place_few (Parens' h x a) at d = fewer (6 * tokens_of a) _ (place_code p f at d a) (place_few a at d) (omega arith)
    place_few e at d = omega arith

    row_few : {m : _} (row : Row_of-Typed m) (at d : ℕ) → Few (6 * row_tokens row) (row_code p f at d row)
    row_few end_of-Typed at d = omega arith
    row_few (more_of-Typed e rest) at d = few_append (6 * tokens_of e) (6 * row_tokens rest) _ (expr_code p f at d e) _ (expr_few e at d) (row_few rest (at + length (expr_code p f at d e)) (suc d)) (omega arith)
