-- What the operators give (C90 6.3.3 to 6.3.12), and where they are undefined.
use Rattle.std.specs.Prelude.{ℕ, suc, zero, List, Bool, true, false, not, ◌&&◌, ◌==◌, nat_lt, nat_le, int_div, ℤ, pos, neg_ℤ, ◌-ℤ◌, ◌*ℤ◌, Option, Some, None, Result, Ok, Err, if◌then◌else◌}
use Rattle.ldb_words.specs.declared.kinds.Undef.{Undef}
use Rattle.ldb_words.specs.declared.kinds.Undef.TheVariants.{Pointer}
use Rattle.ldb_words.specs.Word.{word_of_signed}
use Rattle.runs.specs.Runs.{Why, Reason, IllTyped}
use Rattle.c_tree.specs.declared.types.CType.{CType}
use Rattle.c_tree.specs.declared.types.StructDef.{StructDef}
use Rattle.c_tree.specs.declared.typed.BinaryOp.{BinaryOp}
use Rattle.c_tree.specs.declared.typed.BinaryOp.TheVariants.{Equal, Unequal, Less, Greater, LessEqual, GreaterEqual, Add, Subtract}
use Rattle.c_tree.specs.declared.typed.UnaryOp.{UnaryOp}
use Rattle.c_tree.specs.declared.typed.UnaryOp.TheVariants.{Not}
use Rattle.c_tree.specs.Types.{target_of, is_unsigned}
use Rattle.c_tree.specs.Layout.{size_of}
use Rattle.c_operators.specs.Arithmetic.{number_of, truth, on_ints, on_unsigned, operating_type, on_integer}
use Rattle.c_store.specs.Store.{Value, Number, Null, At, World, used, moved, ◌>>=◌}
use Rattle.c_source.specs.Blocks.{as_pointer}

abbrev pub bits_in : Value → Result ℕ Why
bits_in (Number n) = Ok n
bits_in Null = Err IllTyped
bits_in (At o i) = Err IllTyped

abbrev pub is_zero : Value → Bool
is_zero (Number zero) = true
is_zero (Number (suc n)) = false
is_zero Null = true
is_zero (At o i) = false

abbrev because : Result ℕ Undef → Result Value Why
because (Ok n) = Ok (Number n)
because (Err r) = Err (Reason r)

abbrev pub on_integers : BinaryOp → CType → CType → Value → Value → Result Value Why
on_integers op s t x y = do
  m ← bits_in x
  n ← bits_in y
  because (if is_unsigned (operating_type op s t) then on_unsigned op m n else on_ints op m n)

-- ---- pointers

abbrev pub same_pointer : Value → Value → Bool
same_pointer (Number m) (Number n) = m == n
same_pointer Null Null = true
same_pointer (At o i) (At o' j) = (o == o') && (i == j)
same_pointer _ _ = false

-- equality is always defined
abbrev are_equal : World → Value → Value → Result Bool Why
are_equal w x y = do
  u ← as_pointer x >>= used w
  v ← as_pointer y >>= used w
  Ok (same_pointer u v)

-- a pointer moved by some items of a size
abbrev by_items : World → Value → ℕ → ℤ → Result Value Why
by_items w x size n = moved w x (pos size *ℤ n)

abbrev pub at_offsets : Value → Value → (ℕ → ℕ → Result Value Why) → Result Value Why
at_offsets (At o i) (At o' j) f = if o == o' then f i j else Err (Reason Pointer)
at_offsets _ _ f = Err (Reason Pointer)

-- the offsets of two pointers into one object
abbrev pub in_one : World → Value → Value → (ℕ → ℕ → Result Value Why) → Result Value Why
in_one w x y f = do
  u ← used w x
  v ← used w y
  at_offsets u v f

-- a pointer and an integer
abbrev pub pointer_integer : World → BinaryOp → ℕ → CType → Value → Value → Result Value Why
pointer_integer w Add size t x y = bits_in y >>= λ n. by_items w x size (number_of t n)
pointer_integer w Subtract size t x y = bits_in y >>= λ n. by_items w x size (neg_ℤ (number_of t n))
pointer_integer w Equal size t x y = are_equal w x y >>= λ b. Ok (Number (truth b))
pointer_integer w Unequal size t x y = are_equal w x y >>= λ b. Ok (Number (truth (not b)))
pointer_integer w op size t x y = Err IllTyped

-- two pointers
abbrev pub two_pointers : World → BinaryOp → ℕ → Value → Value → Result Value Why
two_pointers w Equal size x y = are_equal w x y >>= λ b. Ok (Number (truth b))
two_pointers w Unequal size x y = are_equal w x y >>= λ b. Ok (Number (truth (not b)))
two_pointers w Less size x y = in_one w x y (λ i j. Ok (Number (truth (nat_lt i j))))
two_pointers w Greater size x y = in_one w x y (λ i j. Ok (Number (truth (nat_lt j i))))
two_pointers w LessEqual size x y = in_one w x y (λ i j. Ok (Number (truth (nat_le i j))))
two_pointers w GreaterEqual size x y = in_one w x y (λ i j. Ok (Number (truth (nat_le j i))))
two_pointers w Subtract size x y = in_one w x y (λ i j. Ok (Number (word_of_signed (int_div (pos i -ℤ pos j) (pos size)))))
two_pointers w op size x y = Err IllTyped

module _ (defs : List StructDef) (w : World) where
  abbrev pub by_targets : BinaryOp → CType → CType → Option CType → Option CType → Value → Value → Result Value Why
  by_targets op s t None None x y = on_integers op s t x y
  by_targets op s t (Some a) None x y = pointer_integer w op (size_of defs a) t x y
  by_targets op s t None (Some b) x y = pointer_integer w op (size_of defs b) s y x
  by_targets op s t (Some a) (Some b) x y = two_pointers w op (size_of defs a) x y

  -- a binary operator on operands of types s and t
  unfoldable pub combined : BinaryOp → CType → CType → Value → Value → Result Value Why
  combined op s t x y = by_targets op s t (target_of s) (target_of t) x y

abbrev pub negated : World → Value → Result Value Why
negated w x = used w x >>= λ v. Ok (Number (truth (is_zero v)))

-- a unary operator on an operand of type t
unfoldable pub changed : World → UnaryOp → CType → Value → Result Value Why
changed w Not t x = negated w x
changed w op t x = bits_in x >>= λ n. because (on_integer op t n)
