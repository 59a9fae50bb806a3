-- The code of a well-typed expression names what is there, and its jumps land inside the function.
use Rattle.std.proofs.Common.{◌≡◌, refl, arith, ℕ, suc, ◌+◌, ◌<◌, ◌≤◌, ◌^◌, List, [], ◌∷◌, ◌++◌, length, length-append, Bool, true, false, Option, Some, None, true≢false, slice_get, ◌⊎◌}
use Rattle.std.specs.Prelude.{if◌then◌else◌}
use Rattle.std.specs.List.{AllByRecursion}
use Rattle.c_tree.specs.declared.types.CType.{CType}
use Rattle.c_tree.specs.declared.types.CType.TheVariants as ctype
use Rattle.c_tree.specs.declared.typed.BinaryOp.{BinaryOp}
use Rattle.c_tree.specs.declared.typed.BinaryOp.TheVariants.{Equal, Unequal, Less, Greater, LessEqual, GreaterEqual, Add, Subtract}
use Rattle.c_tree.specs.declared.rows.Program.{Program}
use Rattle.c_tree.specs.declared.rows.Function.{Function}
use Rattle.c_tree.specs.Types.{target_of, is_array, kind_of}
use Rattle.c_tree.specs.Layout.{size_of}
use Rattle.c_typing.specs.Plain.{Struct, is_complete}
use Rattle.slot_ir.specs.declared.code.Access.{Access}
use Rattle.slot_ir.specs.declared.code.Access.TheVariants as access
use Rattle.slot_ir.specs.declared.code.UnaryWordOp.TheVariants as unary
use Rattle.slot_ir.specs.declared.code.SlotOp.{SlotOp}
use Rattle.slot_ir.specs.declared.code.SlotOp.TheVariants as op
use Rattle.slot_gen.specs.Expressions.{access_of, converting, cast_code, load_code, mixed_op, targets_op, combine_op, choice_code, and_code, or_code, read_at, write_at, update_at, unless_register, register_of}
use Rattle.slot_ir.specs.WellFormed.{IsOfKind}
use Rattle.slot_formed.proofs.Lists.{all_append}

abbrev pub Among : ℕ → List ℕ → Type 0
Among q [] = ⊥
Among q (r ∷ rs) = (q ≡ r) ⊎ Among q rs

-- a code of n operators, for function number f, whose row is fn
module _ (p : Program) (f : ℕ) (fn : Function) (n : ℕ) where
  -- what an operator names beside temporaries is there
  abbrev pub Good : SlotOp → Type 0
  Good (op.Const d m) = m < 2 ^ 32
  Good (op.StaticAddress d o) = o < length p.objects
  Good (op.TextAddress d k) = k < length p.strings
  Good (op.LocalAddress d x) = (x < length fn.locals) × (register_of p f x ≡ None)
  Good (op.Load d i k a) = IsOfKind k a
  Good (op.ReadRegister d x k a) = (r : ℕ) × (register_of p f x ≡ Some r) × IsOfKind k a
  Good (op.WriteRegister j x k) = (r : ℕ) × (register_of p f x ≡ Some r)
  Good (op.Index d i j size u back) = size ≤ 1048576
  Good (op.Distance d i j size) = (1 ≤ size) × (size ≤ 1048576)
  Good (op.Offset d m) = m ≤ 1048576
  Good (op.Jump place) = place < n
  Good (op.JumpIfZero d place) = place < n
  Good (op.JumpIfNotZero d place) = place < n
  Good (op.JumpIfEqual d m place) = (m < 2 ^ 32) × (place < n)
  Good (op.Call d g m) = (h : Function) × (slice_get p.functions g ≡ Some h) × (m ≡ h.params)
  Good (op.Stop q) = Among q fn.points
  Good (op.Move i j s) = is_complete p.defs (Struct s) ≡ true
  Good (op.Zero x) = x < length fn.locals
  Good (op.Leave m) = m ≤ length fn.locals
  Good _ = Unit {0}

  abbrev pub G : List SlotOp → Type 0
  G l = AllByRecursion Good l

  -- two codes, one behind the other, at a place
  pub behind : (at : ℕ) (a b : List SlotOp) → at + length (a ++ b) < n → (at + length a < n → G a) → ((at + length a) + length b < n → G b) → G (a ++ b)
  behind at a b lt x y = all_append Good a b (x (omega (arith, length-append a b))) (y (omega (arith, length-append a b)))

  pub cast_good : (d : ℕ) (a : Access) → G (converting d a)
  cast_good d access.Word = tt
  cast_good d access.SignedByte = (tt, tt)
  cast_good d access.UnsignedByte = (tt, tt)
  cast_good d access.SignedHalf = (tt, tt)
  cast_good d access.UnsignedHalf = (tt, tt)
  cast_good d access.Pointer = (tt, tt)

  pub of_kind : (t : CType) → is_array t ≡ false → IsOfKind (kind_of t) (access_of t)
  of_kind ctype.Char h = tt
  of_kind ctype.Int h = tt
  of_kind ctype.Unsigned h = tt
  of_kind ctype.Void h = tt
  of_kind (ctype.Pointer' b t) h = tt
  of_kind (ctype.Array' b t m) h = absurd (true≢false h)
  of_kind (ctype.Struct s) h = tt

  pub load_good : (d : ℕ) (t : CType) → G (load_code d t)
  load_good d t = by (is_array t) refl
    where
      by : (b : Bool) → is_array t ≡ b → G (if b then [] else op.Load d d (kind_of t) (access_of t) ∷ [])
      by true e = tt
      by false e = (of_kind t e, tt)

  -- ---- binary operators

  abbrev pub Small : Option CType → Type 0
  Small None = Unit {0}
  Small (Some t) = size_of p.defs t ≤ 1048576

  -- pointers whose distance is computed point to something that has a size
  abbrev pub Apart : BinaryOp → Option CType → Option CType → Type 0
  Apart Subtract (Some a) (Some b) = 1 ≤ size_of p.defs a
  Apart _ _ _ = Unit {0}

  module _ (to l r : ℕ) where
    mixed_good : (size : ℕ) (o : BinaryOp) (t : CType) → size ≤ 1048576 → Good (mixed_op to l r size o t)
    mixed_good size Add t h = h
    mixed_good size Subtract t h = h
    mixed_good size _ t h = tt

  targets_good : (to l r : ℕ) (o : BinaryOp) (s t : CType) (a b : Option CType) → Small a → Small b → Apart o a b → Good (targets_op p to l r o s t a b)
  targets_good to l r o s t None None h k e = tt
  targets_good to l r o s t (Some a) None h k e = mixed_good to l r (size_of p.defs a) o t h
  targets_good to l r o s t None (Some b) h k e = mixed_good to r l (size_of p.defs b) o s k
  targets_good to l r Subtract s t (Some a) (Some b) h k e = (e, h)
  targets_good to l r Equal s t (Some a) (Some b) h k e = tt
  targets_good to l r Unequal s t (Some a) (Some b) h k e = tt
  targets_good to l r Less s t (Some a) (Some b) h k e = tt
  targets_good to l r Greater s t (Some a) (Some b) h k e = tt
  targets_good to l r LessEqual s t (Some a) (Some b) h k e = tt
  targets_good to l r GreaterEqual s t (Some a) (Some b) h k e = tt
  targets_good to l r _ s t (Some a) (Some b) h k e = tt

  pub combine_good : (to l r : ℕ) (o : BinaryOp) (s t : CType) → Small (target_of s) → Small (target_of t) → Apart o (target_of s) (target_of t) → Good (combine_op p to l r o s t)
  combine_good to l r o s t h k e = targets_good to l r o s t (target_of s) (target_of t) h k e

  -- ---- lvalues

  -- a local that stands in a register
  abbrev pub Registers : Option ℕ → Type 0
  Registers None = Unit {0}
  Registers (Some x) = (r : ℕ) × (register_of p f x ≡ Some r)

  pub read_good : (d : ℕ) (o : Option ℕ) (t : CType) → Registers o → ((x : ℕ) → o ≡ Some x → is_array t ≡ false) → G (read_at p f d o t)
  read_good d None t h k = load_good d t
  read_good d (Some x) t h k = ((h.0, h.1, of_kind t (k x refl)), tt)

  pub write_good : (d : ℕ) (o : Option ℕ) (t : CType) → Registers o → G (write_at p f d o t)
  write_good d None t h = all_append Good (cast_code (suc d) t) _ (cast_good (suc d) (access_of t)) (tt, (tt, tt))
  write_good d (Some x) t h = all_append Good (cast_code (suc d) t) _ (cast_good (suc d) (access_of t)) (h, (tt, tt))

  pub update_good : (d : ℕ) (o : Option ℕ) (t : CType) (b : BinaryOp) (s : CType) (new : Bool) → is_array t ≡ false → Registers o → Small (target_of t) → Small (target_of s) → Apart b (target_of t) (target_of s) → G (update_at p f d o t b s new)
  update_good d None t b s new k h x y z =
      (of_kind t k, (combine_good (suc d) (suc (suc d)) (suc d) b t s x y z, all_append Good (cast_code (suc d) t) _ (cast_good (suc d) (access_of t)) (tt, (tt, tt))))
  update_good d (Some i) t b s new k h x y z =
      ((h.0, h.1, of_kind t k), (combine_good (suc d) (suc (suc d)) (suc d) b t s x y z, all_append Good (cast_code (suc d) t) _ (cast_good (suc d) (access_of t)) (h, (tt, tt))))

  pub unless_good : (o : Option ℕ) (code : List SlotOp) → (o ≡ None → G code) → G (unless_register o code)
  unless_good None code h = h refl
  unless_good (Some x) code h = tt

  -- ---- choices

  pub choice_good : (at d : ℕ) (a b : List SlotOp) → at + length (choice_code at d a b) < n → (at + 1 + length a < n → G a) → (at + 1 + length a + 1 + length b < n → G b) → G (choice_code at d a b)
  choice_good at d a b lt x y =
      let jump : SlotOp = op.Jump (at + 1 + length a + 1 + length b) in
      let size : length (a ++ jump ∷ b) ≡ length a + suc (length b) = length-append a (jump ∷ b) in
      let end : at + 1 + length a + 1 + length b < n = omega (arith, size) in
      (omega (arith, end), all_append Good a (jump ∷ b) (x (omega (arith, end))) (end, y end))

  pub and_good : (at d : ℕ) (b : List SlotOp) → at + length (and_code at d b) < n → (at + 1 + length b < n → G b) → G (and_code at d b)
  and_good at d b lt y =
      let rest : List SlotOp = op.Unary d unary.Truth ∷ op.Jump (at + 1 + length b + 3) ∷ op.Const d 0 ∷ [] in
      let size : length (b ++ rest) ≡ length b + 3 = length-append b rest in
      let end : at + 1 + length b + 3 < n = omega (arith, size) in
      (omega (arith, end), all_append Good b rest (y (omega (arith, end))) (tt, (end, (omega arith, tt))))

  pub or_good : (at d : ℕ) (b : List SlotOp) → at + length (or_code at d b) < n → (at + 1 + length b < n → G b) → G (or_code at d b)
  or_good at d b lt y =
      let rest : List SlotOp = op.Unary d unary.Truth ∷ op.Jump (at + 1 + length b + 3) ∷ op.Const d 1 ∷ [] in
      let size : length (b ++ rest) ≡ length b + 3 = length-append b rest in
      let end : at + 1 + length b + 3 < n = omega (arith, size) in
      (omega (arith, end), all_append Good b rest (y (omega (arith, end))) (tt, (end, (omega arith, tt))))
