-- What the operators of slot code give, on numbers by their bits and on pointers.
use Rattle.std.specs.Prelude.{ℕ, suc, zero, ◌%◌, ◌^◌, ◌-◌, Bool, true, false, not, ◌&&◌, ◌==◌, nat_lt, nat_le, int_lt, int_le, int_div, ℤ, pos, neg_ℤ, ◌-ℤ◌, ◌*ℤ◌, Result, Ok, Err, bit_and, bit_or, bit_xor, if◌then◌else◌}
use Rattle.std.specs.Int.{cast_signed, w16}
use Rattle.ldb_words.specs.declared.kinds.Undef.{Undef}
use Rattle.ldb_words.specs.declared.kinds.Undef.TheVariants.{Pointer as PointerReason}
use Rattle.ldb_words.specs.Word.{signed, word_of_signed, bit_of}
use Rattle.c_operators.specs.Bits.{low_byte, minus_one, signed_add, signed_subtract, signed_multiply, signed_negate, signed_divide, signed_remainder, add, subtract, multiply, divide, remainder, shift_left, shift_right, signed_shift_right}
use Rattle.runs.specs.Runs.{Why, Reason, IllTyped}
use Rattle.c_store.specs.Store.{Value, Number, Null, At, World, used, moved, ◌>>=◌}
use Rattle.slot_ir.specs.declared.code.Access.{Access}
use Rattle.slot_ir.specs.declared.code.Access.TheVariants.{SignedByte, UnsignedByte, SignedHalf, UnsignedHalf, Word, Pointer}
use Rattle.slot_ir.specs.declared.code.WordOp.{WordOp}
use Rattle.slot_ir.specs.declared.code.WordOp.TheVariants as word
use Rattle.slot_ir.specs.declared.code.UnaryWordOp.{UnaryWordOp}
use Rattle.slot_ir.specs.declared.code.UnaryWordOp.TheVariants.{Plus, Minus, MinusUnsigned, Complement, Not, Truth}
use Rattle.slot_ir.specs.declared.code.PointerOp.{PointerOp}
use Rattle.slot_ir.specs.declared.code.PointerOp.TheVariants as pointer

-- an address; a number in place of one is a null pointer constant
abbrev pub as_pointer : Value → Result Value Why
as_pointer (Number n) = Ok Null
as_pointer v = Ok v

-- a number in another form, which an address has not
abbrev pub changed : (ℕ → ℕ) → Value → Result Value Why
changed f (Number n) = Ok (Number (f n))
changed f v = Err IllTyped

-- a value as one of a width and sign (C90 6.2.1.2, 6.2.2.3)
abbrev pub extended : Access → Value → Result Value Why
extended SignedByte v = changed low_byte v
extended UnsignedByte v = changed (λ n. n % 2 ^ 8) v
extended SignedHalf v = changed (λ n. word_of_signed (cast_signed w16 (n % 2 ^ 16))) v
extended UnsignedHalf v = changed (λ n. n % 2 ^ 16) v
extended Word v = Ok v
extended Pointer v = as_pointer v

abbrev pub number_in : Value → Result ℕ Why
number_in (Number n) = Ok n
number_in Null = Err IllTyped
number_in (At o i) = Err IllTyped

abbrev pub is_zero : Value → Bool
is_zero (Number zero) = true
is_zero (Number (suc n)) = false
is_zero Null = true
is_zero (At o i) = false

abbrev pub because : Result ℕ Undef → Result Value Why
because (Ok n) = Ok (Number n)
because (Err r) = Err (Reason r)

-- ---- numbers

abbrev pub on_words : WordOp → ℕ → ℕ → Result ℕ Undef
on_words word.Or x y = Ok (bit_or x y)
on_words word.Xor x y = Ok (bit_xor x y)
on_words word.And x y = Ok (bit_and x y)
on_words word.Equal x y = Ok (bit_of (x == y))
on_words word.Unequal x y = Ok (bit_of (not (x == y)))
on_words word.Less x y = Ok (bit_of (int_lt (signed x) (signed y)))
on_words word.Greater x y = Ok (bit_of (int_lt (signed y) (signed x)))
on_words word.LessEqual x y = Ok (bit_of (int_le (signed x) (signed y)))
on_words word.GreaterEqual x y = Ok (bit_of (int_le (signed y) (signed x)))
on_words word.LessUnsigned x y = Ok (bit_of (nat_lt x y))
on_words word.GreaterUnsigned x y = Ok (bit_of (nat_lt y x))
on_words word.LessEqualUnsigned x y = Ok (bit_of (nat_le x y))
on_words word.GreaterEqualUnsigned x y = Ok (bit_of (nat_le y x))
on_words word.ShiftLeft x y = shift_left x y
on_words word.ShiftRight x y = signed_shift_right x y
on_words word.ShiftRightUnsigned x y = shift_right x y
on_words word.Add x y = signed_add x y
on_words word.Subtract x y = signed_subtract x y
on_words word.Multiply x y = signed_multiply x y
on_words word.Divide x y = signed_divide x y
on_words word.Remainder x y = signed_remainder x y
on_words word.AddUnsigned x y = Ok (add x y)
on_words word.SubtractUnsigned x y = Ok (subtract x y)
on_words word.MultiplyUnsigned x y = Ok (multiply x y)
on_words word.DivideUnsigned x y = divide x y
on_words word.RemainderUnsigned x y = remainder x y

unfoldable pub binary : WordOp → Value → Value → Result Value Why
binary op x y = number_in x >>= λ m. number_in y >>= λ n. because (on_words op m n)

abbrev on_number : Value → (ℕ → Result ℕ Undef) → Result Value Why
on_number x f = number_in x >>= λ n. because (f n)

unfoldable pub unary : World → UnaryWordOp → Value → Result Value Why
unary w Plus x = on_number x (λ n. Ok n)
unary w Minus x = on_number x (λ n. signed_negate n)
unary w MinusUnsigned x = on_number x (λ n. Ok (subtract 0 n))
unary w Complement x = on_number x (λ n. Ok (minus_one - n))
unary w Not x = used w x >>= λ v. Ok (Number (bit_of (is_zero v)))
unary w Truth x = used w x >>= λ v. Ok (Number (bit_of (not (is_zero v))))

-- ---- pointers

abbrev pub is_same : Value → Value → Bool
is_same (Number m) (Number n) = m == n
is_same Null Null = true
is_same (At o i) (At o' j) = (o == o') && (i == j)
is_same _ _ = false

abbrev pub equal : World → Value → Value → Result Bool Why
equal w x y = as_pointer x >>= used w >>= λ u. as_pointer y >>= used w >>= λ v. Ok (is_same u v)

abbrev pub offsets : Value → Value → (ℕ → ℕ → Value) → Result Value Why
offsets (At o i) (At o' j) f = if o == o' then Ok (f i j) else Err (Reason PointerReason)
offsets _ _ f = Err (Reason PointerReason)

-- of the offsets of two pointers into one object
abbrev pub in_one_object : World → Value → Value → (ℕ → ℕ → Value) → Result Value Why
in_one_object w x y f = used w x >>= λ u. used w y >>= λ v. offsets u v f

abbrev pub truth : Bool → Value
truth b = Number (bit_of b)

unfoldable pub compared : World → PointerOp → Value → Value → Result Value Why
compared w pointer.Equal x y = equal w x y >>= λ b. Ok (truth b)
compared w pointer.Unequal x y = equal w x y >>= λ b. Ok (truth (not b))
compared w pointer.Less x y = in_one_object w x y (λ i j. truth (nat_lt i j))
compared w pointer.Greater x y = in_one_object w x y (λ i j. truth (nat_lt j i))
compared w pointer.LessEqual x y = in_one_object w x y (λ i j. truth (nat_le i j))
compared w pointer.GreaterEqual x y = in_one_object w x y (λ i j. truth (nat_le j i))

abbrev number_as : Bool → ℕ → ℤ
number_as is_unsigned n = if is_unsigned then pos n else signed n

abbrev turned : Bool → ℤ → ℤ
turned back z = if back then neg_ℤ z else z

-- a pointer moved by some items of a size
unfoldable pub indexed : World → (size : ℕ) (is_unsigned back : Bool) → Value → Value → Result Value Why
indexed w size u back x y = number_in y >>= λ n. moved w x (pos size *ℤ turned back (number_as u n))

unfoldable pub distance : World → (size : ℕ) → Value → Value → Result Value Why
distance w size x y = in_one_object w x y (λ i j. Number (word_of_signed (int_div (pos i -ℤ pos j) (pos size))))
