-- The jumps of an expression lead on inside its code, in which no stop stands.
use Rattle.std.proofs.Common.{◌≡◌, subst, arith, ℕ, suc, zero, ◌+◌, ◌≤◌, List, [], ◌∷◌, ◌++◌, length, length-append, Bool, true, false, Option, Some, None, slice_get}
use Rattle.std.specs.Prelude.{if◌then◌else◌, bytes_eq, codes}
use Rattle.std.specs.List.{AllByRecursion}
use Rattle.c_tree.specs.declared.types.CType.{CType}
use Rattle.c_tree.specs.declared.types.CType.TheVariants as ctype
use Rattle.c_tree.specs.declared.typed.BinaryOp.{BinaryOp}
use Rattle.c_tree.specs.declared.typed.BinaryOp.TheVariants.{Equal, Unequal, Less, Greater, LessEqual, GreaterEqual, Add, Subtract}
use Rattle.c_tree.specs.declared.typed.Typed.{Typed, Row_of-Typed, end_of-Typed, more_of-Typed}
use Rattle.c_tree.specs.declared.typed.Typed.TheVariants.{Comma', Assign', Choice', Or', And', Binary', Cast', Before', Address', Follow', Unary', SizeOf', SizeOfType, Index', Call', Dot', Arrow', After', Name, Constant, Literal, Parens'}
use Rattle.c_tree.specs.declared.rows.Program.{Program}
use Rattle.c_tree.specs.declared.rows.SymbolRow.{SymbolRow}
use Rattle.c_tree.specs.declared.rows.Referent.{Referent}
use Rattle.c_tree.specs.declared.rows.Referent.TheVariants.{Object, Local, Function as Defined, Declared}
use Rattle.c_tree.specs.Rows.{exprs}
use Rattle.c_tree.specs.Types.{type_of, target_of, is_array, is_struct, kind_of}
use Rattle.c_source.specs.Source.{stepping, struct_number}
use Rattle.slot_ir.specs.declared.code.Access.{Access}
use Rattle.slot_ir.specs.declared.code.Access.TheVariants as access
use Rattle.slot_ir.specs.declared.code.UnaryWordOp.TheVariants as unary
use Rattle.slot_ir.specs.declared.code.SlotOp.{SlotOp}
use Rattle.slot_ir.specs.declared.code.SlotOp.TheVariants as op
use Rattle.slot_gen.specs.Expressions.{access_of, converting, cast_code, load_code, mixed_op, pointers_op, targets_op, combine_op, choice_code, and_code, or_code, built_in_code, call_code, enter_code, referent_code, name_code, read_at, write_at, update_at, unless_register, register_in, expr_code, place_code, row_code}
use Rattle.slot_formed.proofs.Lists.{all_append}

-- ---- operators by their places

abbrev pub EachAt : (ℕ → SlotOp → Type 0) → (at : ℕ) → List SlotOp → Type 0
EachAt P at [] = Unit {0}
EachAt P at (o ∷ l) = P at o × EachAt P (at + 1) l

pub each_append : (P : ℕ → SlotOp → Type 0) (at : ℕ) (a b : List SlotOp) → EachAt P at a → EachAt P (at + length a) b → EachAt P at (a ++ b)
each_append P at [] b h k = let e : at + 0 ≡ at = omega arith in subst (λ i. EachAt P i b) e k
each_append P at (o ∷ a) b h k = let e : at + length (o ∷ a) ≡ at + 1 + length a = omega arith in (h.0, each_append P (at + 1) a b h.1 (subst (λ i. EachAt P i b) e k))

-- ---- operators that go on with the next and are no stop

abbrev pub IsStraight : SlotOp → Type 0
IsStraight (op.Jump y) = ⊥
IsStraight (op.JumpIfZero d y) = ⊥
IsStraight (op.JumpIfNotZero d y) = ⊥
IsStraight (op.JumpIfEqual d b y) = ⊥
IsStraight (op.Stop q) = ⊥
IsStraight _ = Unit {0}

abbrev pub AreStraight : List SlotOp → Type 0
AreStraight l = AllByRecursion IsStraight l

both : (a b : List SlotOp) → AreStraight a → AreStraight b → AreStraight (a ++ b)
both a b x y = all_append IsStraight a b x y

pub cast_straight : (d : ℕ) (a : Access) → AreStraight (converting d a)
cast_straight d access.Word = tt
cast_straight d access.SignedByte = (tt, tt)
cast_straight d access.UnsignedByte = (tt, tt)
cast_straight d access.SignedHalf = (tt, tt)
cast_straight d access.UnsignedHalf = (tt, tt)
cast_straight d access.Pointer = (tt, tt)

load_straight : (d : ℕ) (t : CType) → AreStraight (load_code d t)
load_straight d t = by (is_array t)
  where
    by : (b : Bool) → AreStraight (if b then [] else op.Load d d (kind_of t) (access_of t) ∷ [])
    by true = tt
    by false = (tt, tt)

mixed_straight : (to l r size : ℕ) (o : BinaryOp) (t : CType) → IsStraight (mixed_op to l r size o t)
mixed_straight to l r size Add t = tt
mixed_straight to l r size Subtract t = tt
mixed_straight to l r size Equal t = tt
mixed_straight to l r size Unequal t = tt
mixed_straight to l r size _ t = tt

pointers_straight : (to l r size : ℕ) (o : BinaryOp) → IsStraight (pointers_op to l r size o)
pointers_straight to l r size Equal = tt
pointers_straight to l r size Unequal = tt
pointers_straight to l r size Less = tt
pointers_straight to l r size Greater = tt
pointers_straight to l r size LessEqual = tt
pointers_straight to l r size GreaterEqual = tt
pointers_straight to l r size Subtract = tt
pointers_straight to l r size _ = tt

unless_straight : (o : Option ℕ) (code : List SlotOp) → AreStraight code → AreStraight (unless_register o code)
unless_straight None code h = h
unless_straight (Some x) code h = tt

module _ (p : Program) where
  targets_straight : (to l r : ℕ) (o : BinaryOp) (s t : CType) (a b : Option CType) → IsStraight (targets_op p to l r o s t a b)
  targets_straight to l r o s t None None = tt
  targets_straight to l r o s t (Some a) None = mixed_straight to l r _ o t
  targets_straight to l r o s t None (Some b) = mixed_straight to r l _ o s
  targets_straight to l r o s t (Some a) (Some b) = pointers_straight to l r _ o

  combine_straight : (to l r : ℕ) (o : BinaryOp) (s t : CType) → IsStraight (combine_op p to l r o s t)
  combine_straight to l r o s t = targets_straight to l r o s t (target_of s) (target_of t)

  referent_straight : (d : ℕ) (r : Referent) → AreStraight (referent_code d r)
  referent_straight d (Object o) = (tt, tt)
  referent_straight d (Local x) = (tt, tt)
  referent_straight d (Defined g) = tt
  referent_straight d Declared = tt

  built_in_straight : (d : ℕ) (name : List ℕ) (m : ℕ) → AreStraight (built_in_code d name m)
  built_in_straight d name zero = by (bytes_eq name (codes "getchar"))
    where
      by : (b : Bool) → AreStraight (if b then op.GetChar d ∷ [] else [])
      by true = (tt, tt)
      by false = tt
  built_in_straight d name (suc m) = by (bytes_eq name (codes "putchar"))
    where
      by : (b : Bool) → AreStraight (if b then op.PutChar d ∷ [] else op.Exit d ∷ [])
      by true = (tt, tt)
      by false = (tt, tt)

  call_straight : (d : ℕ) (r : Referent) (name : List ℕ) (m : ℕ) → AreStraight (call_code d r name m)
  call_straight d (Object o) name m = tt
  call_straight d (Local x) name m = tt
  call_straight d (Defined g) name m = (tt, tt)
  call_straight d Declared name m = built_in_straight d name m

  enter_straight : (d : ℕ) (o : Option SymbolRow) (m : ℕ) → AreStraight (enter_code d o m)
  enter_straight d None m = tt
  enter_straight d (Some s) m = call_straight d s.refers s.name m

  module _ (f : ℕ) where
    name_straight : (d : ℕ) (o : Option SymbolRow) → AreStraight (name_code p f d o)
    name_straight d None = tt
    name_straight d (Some s) = referent_straight d s.refers

    read_straight : (d : ℕ) (o : Option ℕ) (t : CType) → AreStraight (read_at p f d o t)
    read_straight d None t = load_straight d t
    read_straight d (Some x) t = (tt, tt)

    pub write_straight : (d : ℕ) (o : Option ℕ) (t : CType) → AreStraight (write_at p f d o t)
    write_straight d None t = both (cast_code (suc d) t) _ (cast_straight (suc d) (access_of t)) (tt, (tt, tt))
    write_straight d (Some x) t = both (cast_code (suc d) t) _ (cast_straight (suc d) (access_of t)) (tt, (tt, tt))

    update_straight : (d : ℕ) (o : Option ℕ) (t : CType) (b : BinaryOp) (s : CType) (new : Bool) → AreStraight (update_at p f d o t b s new)
    update_straight d None t b s new = (tt, (combine_straight (suc d) (suc (suc d)) (suc d) b t s, both (cast_code (suc d) t) _ (cast_straight (suc d) (access_of t)) (tt, (tt, tt))))
    update_straight d (Some x) t b s new = (tt, (combine_straight (suc d) (suc (suc d)) (suc d) b t s, both (cast_code (suc d) t) _ (cast_straight (suc d) (access_of t)) (tt, (tt, tt))))

    -- ---- expressions

    module _ (end : ℕ) where
      -- the operator at a place leads on, to a place up to the end, and is no stop
      abbrev pub LeadsOn : ℕ → SlotOp → Type 0
      LeadsOn x (op.Jump y) = (x ≤ y) × (y ≤ end)
      LeadsOn x (op.JumpIfZero d y) = (x ≤ y) × (y ≤ end)
      LeadsOn x (op.JumpIfNotZero d y) = (x ≤ y) × (y ≤ end)
      LeadsOn x (op.JumpIfEqual d b y) = (x ≤ y) × (y ≤ end)
      LeadsOn x (op.Stop q) = ⊥
      LeadsOn x _ = Unit {0}

      abbrev pub AllLeadOn : ℕ → List SlotOp → Type 0
      AllLeadOn at l = EachAt LeadsOn at l

      one_straight : (x : ℕ) (o : SlotOp) → IsStraight o → LeadsOn x o
      one_straight x (op.Jump y) h = absurd h
      one_straight x (op.JumpIfZero d y) h = absurd h
      one_straight x (op.JumpIfNotZero d y) h = absurd h
      one_straight x (op.JumpIfEqual d b y) h = absurd h
      one_straight x (op.Stop q) h = absurd h
      one_straight x _ h = tt

      pub straight_on : (at : ℕ) (l : List SlotOp) → AreStraight l → AllLeadOn at l
      straight_on at [] h = tt
      straight_on at (o ∷ l) h = (one_straight at o h.0, straight_on (at + 1) l h.1)

      pub then_on : (at : ℕ) (a b : List SlotOp) → at + length (a ++ b) ≤ end → (at + length a ≤ end → AllLeadOn at a) → ((at + length a) + length b ≤ end → AllLeadOn (at + length a) b) → AllLeadOn at (a ++ b)
      then_on at a b le x y = each_append LeadsOn at a b (x (omega (arith, length-append a b))) (y (omega (arith, length-append a b)))

      -- with operators behind that go on
      then_straight : (at : ℕ) (a b : List SlotOp) → at + length (a ++ b) ≤ end → (at + length a ≤ end → AllLeadOn at a) → AreStraight b → AllLeadOn at (a ++ b)
      then_straight at a b le x h = then_on at a b le x λ q. straight_on (at + length a) b h

      abbrev ExprOn : Typed → Type 0
      ExprOn e = (at d : ℕ) → at + length (expr_code p f at d e) ≤ end → AllLeadOn at (expr_code p f at d e)

      abbrev PlaceOn : Typed → Type 0
      PlaceOn e = (at d : ℕ) → at + length (place_code p f at d e) ≤ end → AllLeadOn at (place_code p f at d e)

      unless_on : (at d : ℕ) (a : Typed) → PlaceOn a → at + length (unless_register (register_in p f a) (place_code p f at d a)) ≤ end → AllLeadOn at (unless_register (register_in p f a) (place_code p f at d a))
      unless_on at d a g le = by (register_in p f a) le
        where
          by : (o : Option ℕ) → at + length (unless_register o (place_code p f at d a)) ≤ end → AllLeadOn at (unless_register o (place_code p f at d a))
          by None le = g at d le
          by (Some x) le = tt

      -- ---- choices

      choice_on : (at d : ℕ) (a b : List SlotOp) → at + length (choice_code at d a b) ≤ end → (at + 1 + length a ≤ end → AllLeadOn (at + 1) a) → (at + 1 + length a + 1 + length b ≤ end → AllLeadOn (at + 1 + length a + 1) b) → AllLeadOn at (choice_code at d a b)
      choice_on at d a b le x y =
          let jump : SlotOp = op.Jump (at + 1 + length a + 1 + length b) in
          let size : length (a ++ jump ∷ b) ≡ length a + suc (length b) = length-append a (jump ∷ b) in
          let last : at + 1 + length a + 1 + length b ≤ end = omega (arith, size, le) in
          ((omega arith, omega (arith, last)), each_append LeadsOn (at + 1) a (jump ∷ b) (x (omega (arith, last))) ((omega arith, last), y last))

      -- `&&` and `||`
      shortened_on : (at d n : ℕ) (first : SlotOp) (b : List SlotOp) → LeadsOn at first → at + 1 + length b + 3 ≤ end → (at + 1 + length b ≤ end → AllLeadOn (at + 1) b) → AllLeadOn at (first ∷ (b ++ op.Unary d unary.Truth ∷ op.Jump (at + 1 + length b + 3) ∷ op.Const d n ∷ []))
      shortened_on at d n first b f le y =
          let rest : List SlotOp = op.Unary d unary.Truth ∷ op.Jump (at + 1 + length b + 3) ∷ op.Const d n ∷ [] in
          (f, each_append LeadsOn (at + 1) b rest (y (omega (arith, le))) (tt, ((omega arith, le), (tt, tt))))

      and_on : (at d : ℕ) (b : List SlotOp) → at + length (and_code at d b) ≤ end → (at + 1 + length b ≤ end → AllLeadOn (at + 1) b) → AllLeadOn at (and_code at d b)
      and_on at d b le y =
          let last : at + 1 + length b + 3 ≤ end = omega (arith, le, length-append b (op.Unary d unary.Truth ∷ op.Jump (at + 1 + length b + 3) ∷ op.Const d 0 ∷ [])) in
          shortened_on at d 0 (op.JumpIfZero d (at + 1 + length b + 2)) b (omega arith, omega (arith, last)) last y

      or_on : (at d : ℕ) (b : List SlotOp) → at + length (or_code at d b) ≤ end → (at + 1 + length b ≤ end → AllLeadOn (at + 1) b) → AllLeadOn at (or_code at d b)
      or_on at d b le y =
          let last : at + 1 + length b + 3 ≤ end = omega (arith, le, length-append b (op.Unary d unary.Truth ∷ op.Jump (at + 1 + length b + 3) ∷ op.Const d 1 ∷ [])) in
          shortened_on at d 1 (op.JumpIfNotZero d (at + 1 + length b + 2)) b (omega arith, omega (arith, last)) last y

      -- ---- operands and an operator

      assign_on : (a b : Typed) → PlaceOn a → PlaceOn b → ExprOn b → (at d : ℕ) (o : Bool)
          → at + length (if o then place_code p f at d a ++ (place_code p f (at + length (place_code p f at d a)) (suc d) b ++ op.Move d (suc d) (struct_number (type_of a)) ∷ op.Const d 0 ∷ []) else unless_register (register_in p f a) (place_code p f at d a) ++ (expr_code p f (at + length (unless_register (register_in p f a) (place_code p f at d a))) (suc d) b ++ write_at p f d (register_in p f a) (type_of a))) ≤ end
          → AllLeadOn at (if o then place_code p f at d a ++ (place_code p f (at + length (place_code p f at d a)) (suc d) b ++ op.Move d (suc d) (struct_number (type_of a)) ∷ op.Const d 0 ∷ []) else unless_register (register_in p f a) (place_code p f at d a) ++ (expr_code p f (at + length (unless_register (register_in p f a) (place_code p f at d a))) (suc d) b ++ write_at p f d (register_in p f a) (type_of a)))
      assign_on a b pa pb eb at d true le =
          let ca = place_code p f at d a in
          then_on at ca _ le (λ q. pa at d q) λ q. then_straight (at + length ca) (place_code p f (at + length ca) (suc d) b) _ q (λ r. pb (at + length ca) (suc d) r) (tt, (tt, tt))
      assign_on a b pa pb eb at d false le =
          let ca = unless_register (register_in p f a) (place_code p f at d a) in
          then_on at ca _ le (λ q. unless_on at d a pa q) λ q. then_straight (at + length ca) (expr_code p f (at + length ca) (suc d) b) _ q (λ r. eb (at + length ca) (suc d) r) (write_straight d (register_in p f a) (type_of a))

      step_on : (a : Typed) → PlaceOn a → (o : BinaryOp) (new : Bool) (at d : ℕ) → at + length (unless_register (register_in p f a) (place_code p f at d a) ++ op.Const (suc d) 1 ∷ update_at p f d (register_in p f a) (type_of a) o ctype.Int new) ≤ end
          → AllLeadOn at (unless_register (register_in p f a) (place_code p f at d a) ++ op.Const (suc d) 1 ∷ update_at p f d (register_in p f a) (type_of a) o ctype.Int new)
      step_on a pa o new at d le =
          then_straight at (unless_register (register_in p f a) (place_code p f at d a)) _ le (λ q. unless_on at d a pa q) (tt, update_straight d (register_in p f a) (type_of a) o ctype.Int new)

      both_on : (o : BinaryOp) (a b : Typed) → ExprOn a → ExprOn b → (at d : ℕ) → at + length (expr_code p f at d a ++ (expr_code p f (at + length (expr_code p f at d a)) (suc d) b ++ combine_op p d d (suc d) o (type_of a) (type_of b) ∷ [])) ≤ end
          → AllLeadOn at (expr_code p f at d a ++ (expr_code p f (at + length (expr_code p f at d a)) (suc d) b ++ combine_op p d d (suc d) o (type_of a) (type_of b) ∷ []))
      both_on o a b ea eb at d le =
          let ca = expr_code p f at d a in
          then_on at ca _ le (λ q. ea at d q) λ q. then_straight (at + length ca) (expr_code p f (at + length ca) (suc d) b) _ q (λ r. eb (at + length ca) (suc d) r) (combine_straight d d (suc d) o (type_of a) (type_of b), tt)

      mutual
        pub expr_on : (e : Typed) (at d : ℕ) → at + length (expr_code p f at d e) ≤ end → AllLeadOn at (expr_code p f at d e)
        expr_on (Comma' h x a y b) at d le = then_on at (expr_code p f at d a) _ le (λ q. expr_on a at d q) λ q. expr_on b (at + length (expr_code p f at d a)) d q
        expr_on (Assign' h x a None y b) at d le = assign_on a b (λ i j q. place_on a i j q) (λ i j q. place_on b i j q) (λ i j q. expr_on b i j q) at d (is_struct (type_of a)) le
        expr_on (Assign' h x a (Some o) y b) at d le =
            let ca = unless_register (register_in p f a) (place_code p f at d a) in
            then_on at ca _ le (λ q. unless_on at d a (λ i j r. place_on a i j r) q) λ q.
            then_straight (at + length ca) (expr_code p f (at + length ca) (suc d) b) _ q (λ r. expr_on b (at + length ca) (suc d) r) (update_straight d (register_in p f a) (type_of a) o (type_of b) true)
        expr_on (Choice' h x c y a z b) at d le =
            let cc = expr_code p f at d c in
            let ca = expr_code p f (at + length cc + 1) d a ++ cast_code d h.ctype in
            let cb = expr_code p f (at + length cc + 1 + length ca + 1) d b ++ cast_code d h.ctype in
            then_on at cc (choice_code (at + length cc) d ca cb) le (λ q. expr_on c at d q) λ q.
            choice_on (at + length cc) d ca cb q (λ r. then_straight (at + length cc + 1) (expr_code p f (at + length cc + 1) d a) _ r (λ z. expr_on a (at + length cc + 1) d z) (cast_straight d (access_of h.ctype))) λ r.
            then_straight (at + length cc + 1 + length ca + 1) (expr_code p f (at + length cc + 1 + length ca + 1) d b) _ r (λ z. expr_on b (at + length cc + 1 + length ca + 1) d z) (cast_straight d (access_of h.ctype))
        expr_on (Or' h x a y b) at d le =
            let ca = expr_code p f at d a in
            then_on at ca (or_code (at + length ca) d (expr_code p f (at + length ca + 1) d b)) le (λ q. expr_on a at d q) λ q. or_on (at + length ca) d (expr_code p f (at + length ca + 1) d b) q λ r. expr_on b (at + length ca + 1) d r
        expr_on (And' h x a y b) at d le =
            let ca = expr_code p f at d a in
            then_on at ca (and_code (at + length ca) d (expr_code p f (at + length ca + 1) d b)) le (λ q. expr_on a at d q) λ q. and_on (at + length ca) d (expr_code p f (at + length ca + 1) d b) q λ r. expr_on b (at + length ca + 1) d r
        expr_on (Binary' h x a o y b) at d le = both_on o a b (λ i j q. expr_on a i j q) (λ i j q. expr_on b i j q) at d le
        expr_on (Cast' h x a) at d le = then_straight at (expr_code p f at d a) _ le (λ q. expr_on a at d q) (cast_straight d (access_of h.ctype))
        expr_on (Before' h o x a) at d le = step_on a (λ i j q. place_on a i j q) (stepping o) true at d le
        expr_on (Address' h x a) at d le = place_on a at d le
        expr_on (Unary' h o x a) at d le = then_straight at (expr_code p f at d a) _ le (λ q. expr_on a at d q) (tt, tt)
        expr_on (SizeOf' h x a) at d le = (tt, tt)
        expr_on (SizeOfType h u) at d le = (tt, tt)
        expr_on (Call' h g x row) at d le = then_straight at (row_code p f at d row) _ le (λ q. row_on row at d q) (enter_straight d (slice_get p.symbols g) (length (exprs row)))
        expr_on (After' h x a o) at d le = step_on a (λ i j q. place_on a i j q) (stepping o) false at d le
        expr_on (Constant h m) at d le = (tt, tt)
        expr_on (Parens' h x a) at d le = expr_on a at d le
        expr_on (Name h m) at d le =
            let r = register_in p f (Name h m) in
            straight_on at (unless_register r (name_code p f d (slice_get p.symbols m)) ++ read_at p f d r h.ctype)
            (both (unless_register r (name_code p f d (slice_get p.symbols m))) _ (unless_straight r _ (name_straight d (slice_get p.symbols m))) (read_straight d r h.ctype))
        expr_on (Literal h m) at d le = straight_on at (op.TextAddress d m ∷ load_code d h.ctype) (tt, load_straight d h.ctype)
        expr_on (Follow' h x a) at d le = then_straight at (expr_code p f at d a) _ le (λ q. expr_on a at d q) (load_straight d h.ctype)
        expr_on (Index' h x a y b) at d le = then_straight at _ (load_code d h.ctype) le (λ q. both_on Add a b (λ i j r. expr_on a i j r) (λ i j r. expr_on b i j r) at d q) (load_straight d h.ctype)
        expr_on (Dot' h x a m) at d le = then_straight at _ (load_code d h.ctype) le (λ q. then_straight at (place_code p f at d a) _ q (λ r. place_on a at d r) (tt, tt)) (load_straight d h.ctype)
        expr_on (Arrow' h x a m) at d le = then_straight at _ (load_code d h.ctype) le (λ q. then_straight at (expr_code p f at d a) _ q (λ r. expr_on a at d r) (tt, tt)) (load_straight d h.ctype)

        place_on : (e : Typed) (at d : ℕ) → at + length (place_code p f at d e) ≤ end → AllLeadOn at (place_code p f at d e)
        place_on (Name h m) at d le = straight_on at (name_code p f d (slice_get p.symbols m)) (name_straight d (slice_get p.symbols m))
        place_on (Literal h m) at d le = (tt, tt)
        place_on (Follow' h x a) at d le = expr_on a at d le
        place_on (Index' h x a y b) at d le = both_on Add a b (λ i j r. expr_on a i j r) (λ i j r. expr_on b i j r) at d le
        place_on (Dot' h x a m) at d le = then_straight at (place_code p f at d a) _ le (λ q. place_on a at d q) (tt, tt)
        place_on (Arrow' h x a m) at d le = then_straight at (expr_code p f at d a) _ le (λ q. expr_on a at d q) (tt, tt)
        place_on (Parens' h x a) at d le = place_on a at d le
        place_on _ at d le = tt

        row_on : {m : _} (row : Row_of-Typed m) (at d : ℕ) → at + length (row_code p f at d row) ≤ end → AllLeadOn at (row_code p f at d row)
        row_on end_of-Typed at d le = tt
        row_on (more_of-Typed e rest) at d le = then_on at (expr_code p f at d e) _ le (λ q. expr_on e at d q) λ q. row_on rest (at + length (expr_code p f at d e)) (suc d) q
