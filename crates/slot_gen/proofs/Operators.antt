-- The operators of slot code give what the program's give.
use Rattle.std.proofs.Common.{◌≡◌, ℕ, Option, Some, None, Bool, true, false, refl, sym, ap, ◌∙◌}
use Rattle.std.specs.Prelude.{Result, Ok, Err, nat_lt, nat_le, int_div, pos, ◌-ℤ◌, if◌then◌else◌}
use Rattle.c_tree.specs.declared.types.CType.{CType}
use Rattle.c_tree.specs.declared.types.CType.TheVariants.{Char, Int, Unsigned, Void, Pointer', Array', Struct}
use Rattle.c_tree.specs.declared.typed.BinaryOp.{BinaryOp}
use Rattle.c_tree.specs.declared.typed.BinaryOp.TheVariants.{BitOr, BitXor, BitAnd, Equal, Unequal, Less, Greater, LessEqual, GreaterEqual, ShiftLeft, ShiftRight, Add, Subtract, Multiply, Divide, Remainder}
use Rattle.c_tree.specs.declared.typed.UnaryOp.{UnaryOp}
use Rattle.c_tree.specs.declared.typed.UnaryOp.TheVariants as sign
use Rattle.c_tree.specs.declared.rows.Program.{Program}
use Rattle.c_tree.specs.Types.{target_of, is_unsigned}
use Rattle.c_tree.specs.Layout.{size_of}
use Rattle.runs.specs.Runs.{Why, IllTyped}
use Rattle.c_store.specs.Store.{Value, Number, Null, At, World, used, ◌>>=◌}
use Rattle.c_source.specs.Blocks.{converted}
use Rattle.c_source.specs.Operators.{combined, changed, by_targets, on_integers, pointer_integer, two_pointers, bits_in, in_one, at_offsets}
use Rattle.c_operators.specs.Arithmetic.{on_ints, on_unsigned, operating_type}
use Rattle.slot_ir.specs.declared.code.SlotCode.{SlotCode}
use Rattle.slot_ir.specs.declared.code.SlotOp.{SlotOp}
use Rattle.slot_ir.specs.declared.code.SlotOp.TheVariants.{Compare, Unary}
use Rattle.slot_ir.specs.declared.code.PointerOp.{PointerOp}
use Rattle.slot_ir.specs.declared.code.PointerOp.TheVariants as pointer
use Rattle.slot_ir.specs.declared.code.UnaryWordOp.TheVariants.{Minus, MinusUnsigned}
use Rattle.slot_ir.specs.Operators.{extended, on_words, binary, unary, compared, indexed, distance, because, in_one_object, offsets, truth}
use Rattle.ldb_words.specs.Word.{word_of_signed}
use Rattle.c_operators.specs.Bits.{subtract, signed_negate}
use Rattle.slot_ir.specs.Slots.{SlotState}
use Rattle.slot_ir.specs.Slots as slots
use Rattle.slot_gen.specs.Expressions.{access_of, word_op, mixed_op, pointers_op, targets_op, combine_op, unary_op}

-- ---- results

pub bind_same : {A B : Type 0} (m : Result A Why) (f g : A → Result B Why) → ((x : A) → f x ≡ g x) → (m >>= f) ≡ (m >>= g)
bind_same (Ok x) f g h = h x
bind_same (Err w) f g h = refl

-- what a result comes from
pub bound_from : {A B : Type 0} (m : Result A Why) (f : A → Result B Why) (y : B) → (m >>= f) ≡ Ok y → (x : A) × (m ≡ Ok x) × (f x ≡ Ok y)
bound_from (Ok x) f y e = (x, refl, e)
bound_from (Err w) f y e = absurd cc

pub converted_same : (t : CType) (v : Value) → converted t v ≡ extended (access_of t) v
converted_same Char (Number n) = refl
converted_same Char Null = refl
converted_same Char (At o i) = refl
converted_same Int v = refl
converted_same Unsigned v = refl
converted_same Void v = refl
converted_same (Pointer' x t) (Number n) = refl
converted_same (Pointer' x t) Null = refl
converted_same (Pointer' x t) (At o i) = refl
converted_same (Array' x t n) v = refl
converted_same (Struct s) v = refl

words_same : (op : BinaryOp) (u : Bool) (m n : ℕ) → (if u then on_unsigned op m n else on_ints op m n) ≡ on_words (word_op op u) m n
words_same BitOr true m n = refl
words_same BitOr false m n = refl
words_same BitXor true m n = refl
words_same BitXor false m n = refl
words_same BitAnd true m n = refl
words_same BitAnd false m n = refl
words_same Equal true m n = refl
words_same Equal false m n = refl
words_same Unequal true m n = refl
words_same Unequal false m n = refl
words_same Less true m n = refl
words_same Less false m n = refl
words_same Greater true m n = refl
words_same Greater false m n = refl
words_same LessEqual true m n = refl
words_same LessEqual false m n = refl
words_same GreaterEqual true m n = refl
words_same GreaterEqual false m n = refl
words_same ShiftLeft true m n = refl
words_same ShiftLeft false m n = refl
words_same ShiftRight true m n = refl
words_same ShiftRight false m n = refl
words_same Add true m n = refl
words_same Add false m n = refl
words_same Subtract true m n = refl
words_same Subtract false m n = refl
words_same Multiply true m n = refl
words_same Multiply false m n = refl
words_same Divide true m n = refl
words_same Divide false m n = refl
words_same Remainder true m n = refl
words_same Remainder false m n = refl

module _ (c : SlotCode) (st : SlotState) where
  abbrev w : World
  w = st.here.world

  -- what an operator on two temporaries gives
  pub on_two_gives : (i j d : ℕ) (g : Value → Value → Result Value Why) (x y : Value) → st.temps i ≡ Some x → st.temps j ≡ Some y → slots.on_two c st i j g d ≡ slots.gives c st d (g x y)
  on_two_gives i j d g x y a b =
      ap (λ o. slots.on_temp o (λ x. slots.on_temp (st.temps j) (λ y. slots.gives c st d (g x y)))) a ∙ ap (λ o. slots.on_temp o (λ y. slots.gives c st d (g x y))) b

  abbrev pub Gives : (op : SlotOp) (d : ℕ) (r : Result Value Why) → Type 0
  Gives op d r = (z : Value) → r ≡ Ok z → slots.act c st op ≡ slots.sets c st d z

  ints_same : (op : BinaryOp) (s t : CType) (x y : Value) → on_integers op s t x y ≡ binary (word_op op (is_unsigned (operating_type op s t))) x y
  unfolding binary
  ints_same op s t (Number m) (Number n) = ap because (words_same op (is_unsigned (operating_type op s t)) m n)
  ints_same op s t (Number m) Null = refl
  ints_same op s t (Number m) (At o i) = refl
  ints_same op s t Null y = refl
  ints_same op s t (At o i) y = refl

  same_gives : (op : SlotOp) (d : ℕ) (r q : Result Value Why) → slots.act c st op ≡ slots.gives c st d q → r ≡ q → Gives op d r
  same_gives op d r q a s z e = a ∙ ap (slots.gives c st d) (sym s ∙ e)

  none_gives : (op : SlotOp) (d : ℕ) (why : Why) → Gives op d (Err why)
  none_gives op d why z e = absurd (cc e)

  added : (size : ℕ) (t : CType) (x y : Value) → pointer_integer w Add size t x y ≡ indexed w size (is_unsigned t) false x y
  unfolding indexed
  added size t x (Number n) = refl
  added size t x Null = refl
  added size t x (At o i) = refl

  subtracted : (size : ℕ) (t : CType) (x y : Value) → pointer_integer w Subtract size t x y ≡ indexed w size (is_unsigned t) true x y
  unfolding indexed
  subtracted size t x (Number n) = refl
  subtracted size t x Null = refl
  subtracted size t x (At o i) = refl

  mixed_equal : (size : ℕ) (t : CType) (x y : Value) → pointer_integer w Equal size t x y ≡ compared w pointer.Equal x y
  unfolding compared
  mixed_equal size t x y = refl

  mixed_unequal : (size : ℕ) (t : CType) (x y : Value) → pointer_integer w Unequal size t x y ≡ compared w pointer.Unequal x y
  unfolding compared
  mixed_unequal size t x y = refl

  offsets_same : (u v : Value) (f : ℕ → ℕ → Value) → at_offsets u v (λ i j. Ok (f i j)) ≡ offsets u v f
  offsets_same (At o i) (At o' j) f = refl
  offsets_same (At o i) (Number n) f = refl
  offsets_same (At o i) Null f = refl
  offsets_same (Number n) v f = refl
  offsets_same Null v f = refl

  in_one_same : (x y : Value) (f : ℕ → ℕ → Value) → in_one w x y (λ i j. Ok (f i j)) ≡ in_one_object w x y f
  in_one_same x y f = by (used w x) (used w y)
    where
      by : (a b : Result Value Why) → (a >>= λ u. b >>= λ v. at_offsets u v (λ i j. Ok (f i j))) ≡ (a >>= λ u. b >>= λ v. offsets u v f)
      by (Err e) b = refl
      by (Ok u) (Err e) = refl
      by (Ok u) (Ok v) = offsets_same u v f

  module _ (to l r : ℕ) (x y : Value) (a : st.temps l ≡ Some x) (b : st.temps r ≡ Some y) where
    mixed_gives : (size : ℕ) (op : BinaryOp) (t : CType) → Gives (mixed_op to l r size op t) to (pointer_integer w op size t x y)
    mixed_gives size Add t = same_gives (mixed_op to l r size Add t) to (pointer_integer w Add size t x y) (indexed w size (is_unsigned t) false x y) (on_two_gives l r to (indexed w size (is_unsigned t) false) x y a b) (added size t x y)
    mixed_gives size Subtract t = same_gives (mixed_op to l r size Subtract t) to (pointer_integer w Subtract size t x y) (indexed w size (is_unsigned t) true x y) (on_two_gives l r to (indexed w size (is_unsigned t) true) x y a b) (subtracted size t x y)
    mixed_gives size Equal t = same_gives (mixed_op to l r size Equal t) to (pointer_integer w Equal size t x y) (compared w pointer.Equal x y) (on_two_gives l r to (compared w pointer.Equal) x y a b) (mixed_equal size t x y)
    mixed_gives size Unequal t = same_gives (mixed_op to l r size Unequal t) to (pointer_integer w Unequal size t x y) (compared w pointer.Unequal x y) (on_two_gives l r to (compared w pointer.Unequal) x y a b) (mixed_unequal size t x y)
    mixed_gives size BitOr t = none_gives (mixed_op to l r size BitOr t) to IllTyped
    mixed_gives size BitXor t = none_gives (mixed_op to l r size BitXor t) to IllTyped
    mixed_gives size BitAnd t = none_gives (mixed_op to l r size BitAnd t) to IllTyped
    mixed_gives size Less t = none_gives (mixed_op to l r size Less t) to IllTyped
    mixed_gives size Greater t = none_gives (mixed_op to l r size Greater t) to IllTyped
    mixed_gives size LessEqual t = none_gives (mixed_op to l r size LessEqual t) to IllTyped
    mixed_gives size GreaterEqual t = none_gives (mixed_op to l r size GreaterEqual t) to IllTyped
    mixed_gives size ShiftLeft t = none_gives (mixed_op to l r size ShiftLeft t) to IllTyped
    mixed_gives size ShiftRight t = none_gives (mixed_op to l r size ShiftRight t) to IllTyped
    mixed_gives size Multiply t = none_gives (mixed_op to l r size Multiply t) to IllTyped
    mixed_gives size Divide t = none_gives (mixed_op to l r size Divide t) to IllTyped
    mixed_gives size Remainder t = none_gives (mixed_op to l r size Remainder t) to IllTyped

    two_compared : (q : PointerOp) (size : ℕ) (op : BinaryOp) → two_pointers w op size x y ≡ compared w q x y → Gives (Compare to l r q) to (two_pointers w op size x y)
    two_compared q size op s = same_gives (Compare to l r q) to (two_pointers w op size x y) (compared w q x y) (on_two_gives l r to (compared w q) x y a b) s

    two_gives : (size : ℕ) (op : BinaryOp) → Gives (pointers_op to l r size op) to (two_pointers w op size x y)
    unfolding compared distance
    two_gives size Equal = two_compared pointer.Equal size Equal refl
    two_gives size Unequal = two_compared pointer.Unequal size Unequal refl
    two_gives size Less = two_compared pointer.Less size Less (in_one_same x y (λ i j. truth (nat_lt i j)))
    two_gives size Greater = two_compared pointer.Greater size Greater (in_one_same x y (λ i j. truth (nat_lt j i)))
    two_gives size LessEqual = two_compared pointer.LessEqual size LessEqual (in_one_same x y (λ i j. truth (nat_le i j)))
    two_gives size GreaterEqual = two_compared pointer.GreaterEqual size GreaterEqual (in_one_same x y (λ i j. truth (nat_le j i)))
    two_gives size Subtract = same_gives (pointers_op to l r size Subtract) to (two_pointers w Subtract size x y) (distance w size x y) (on_two_gives l r to (distance w size) x y a b) (in_one_same x y (λ i j. Number (word_of_signed (int_div (pos i -ℤ pos j) (pos size)))))
    two_gives size BitOr = none_gives (pointers_op to l r size BitOr) to IllTyped
    two_gives size BitXor = none_gives (pointers_op to l r size BitXor) to IllTyped
    two_gives size BitAnd = none_gives (pointers_op to l r size BitAnd) to IllTyped
    two_gives size ShiftLeft = none_gives (pointers_op to l r size ShiftLeft) to IllTyped
    two_gives size ShiftRight = none_gives (pointers_op to l r size ShiftRight) to IllTyped
    two_gives size Add = none_gives (pointers_op to l r size Add) to IllTyped
    two_gives size Multiply = none_gives (pointers_op to l r size Multiply) to IllTyped
    two_gives size Divide = none_gives (pointers_op to l r size Divide) to IllTyped
    two_gives size Remainder = none_gives (pointers_op to l r size Remainder) to IllTyped

  module _ (p : Program) (to l r : ℕ) (x y : Value) (a : st.temps l ≡ Some x) (b : st.temps r ≡ Some y) where
    targets_give : (op : BinaryOp) (s t : CType) (u v : Option CType) → Gives (targets_op p to l r op s t u v) to (by_targets p.defs w op s t u v x y)
    targets_give op s t None None =
        same_gives (targets_op p to l r op s t None None) to (on_integers op s t x y) (binary (word_op op (is_unsigned (operating_type op s t))) x y) (on_two_gives l r to (binary (word_op op (is_unsigned (operating_type op s t)))) x y a b) (ints_same op s t x y)
    targets_give op s t (Some u) None = mixed_gives to l r x y a b (size_of p.defs u) op t
    targets_give op s t None (Some v) = mixed_gives to r l y x b a (size_of p.defs v) op s
    targets_give op s t (Some u) (Some v) = two_gives to l r x y a b (size_of p.defs u) op

    pub combined_gives : (op : BinaryOp) (s t : CType) → Gives (combine_op p to l r op s t) to (combined p.defs w op s t x y)
    unfolding combined
    combined_gives op s t = targets_give op s t (target_of s) (target_of t)

  unary_same : (op : UnaryOp) (t : CType) (x : Value) → changed w op t x ≡ unary w (unary_op op t) x
  unfolding changed unary
  unary_same sign.Not t x = refl
  unary_same sign.Plus t (Number n) = refl
  unary_same sign.Plus t Null = refl
  unary_same sign.Plus t (At o i) = refl
  unary_same sign.Complement t (Number n) = refl
  unary_same sign.Complement t Null = refl
  unary_same sign.Complement t (At o i) = refl
  unary_same sign.Minus t x = by_sign (is_unsigned t) x
    where
      by_sign : (u : Bool) (x : Value) → (bits_in x >>= λ n. because (if u then Ok (subtract 0 n) else signed_negate n)) ≡ unary w (if u then MinusUnsigned else Minus) x
      by_sign true (Number n) = refl
      by_sign true Null = refl
      by_sign true (At o i) = refl
      by_sign false (Number n) = refl
      by_sign false Null = refl
      by_sign false (At o i) = refl

  pub changed_gives : (d : ℕ) (op : UnaryOp) (t : CType) (x : Value) → st.temps d ≡ Some x → Gives (Unary d (unary_op op t)) d (changed w op t x)
  changed_gives d op t x a = same_gives (Unary d (unary_op op t)) d (changed w op t x) (unary w (unary_op op t) x) (ap (λ o. slots.on_temp o (λ v. slots.gives c st d (unary w (unary_op op t) v))) a) (unary_same op t x)
