-- What the operators give on words of 32 bits (C90 6.3.3 to 6.3.12), and where they are undefined.
use Rattle.std.specs.Prelude.{ℕ, ◌-◌, Bool, not, ◌==◌, nat_lt, nat_le, int_lt, int_le, ℤ, pos, Result, Ok, Err, bit_and, bit_or, bit_xor, if◌then◌else◌}
use Rattle.ldb_words.specs.declared.kinds.Undef.{Undef}
use Rattle.ldb_words.specs.Word.{signed}
use Rattle.c_operators.specs.Bits.{minus_one, signed_add, signed_subtract, signed_multiply, signed_negate, signed_divide, signed_remainder, add, subtract, multiply, divide, remainder, shift_left, shift_right, signed_shift_right}
use Rattle.c_tree.specs.declared.types.CType.{CType}
use Rattle.c_tree.specs.declared.typed.BinaryOp.{BinaryOp}
use Rattle.c_tree.specs.declared.typed.BinaryOp.TheVariants.{BitOr, BitXor, BitAnd, Equal, Unequal, Less, Greater, LessEqual, GreaterEqual, ShiftLeft, ShiftRight, Add, Subtract, Multiply, Divide, Remainder}
use Rattle.c_tree.specs.declared.typed.UnaryOp.{UnaryOp}
use Rattle.c_tree.specs.declared.typed.UnaryOp.TheVariants.{Plus, Minus, Complement, Not}
use Rattle.c_tree.specs.Types.{is_unsigned, promoted, common}

-- the number that an integer value is
abbrev pub number_of : CType → ℕ → ℤ
number_of t n = if is_unsigned t then pos n else signed n

abbrev pub truth : Bool → ℕ
truth b = if b then 1 else 0

-- an operation on two numbers of type `int`
abbrev pub on_ints : BinaryOp → ℕ → ℕ → Result ℕ Undef
on_ints BitOr x y = Ok (bit_or x y)
on_ints BitXor x y = Ok (bit_xor x y)
on_ints BitAnd x y = Ok (bit_and x y)
on_ints Equal x y = Ok (truth (x == y))
on_ints Unequal x y = Ok (truth (not (x == y)))
on_ints Less x y = Ok (truth (int_lt (signed x) (signed y)))
on_ints Greater x y = Ok (truth (int_lt (signed y) (signed x)))
on_ints LessEqual x y = Ok (truth (int_le (signed x) (signed y)))
on_ints GreaterEqual x y = Ok (truth (int_le (signed y) (signed x)))
on_ints ShiftLeft x y = shift_left x y
on_ints ShiftRight x y = signed_shift_right x y
on_ints Add x y = signed_add x y
on_ints Subtract x y = signed_subtract x y
on_ints Multiply x y = signed_multiply x y
on_ints Divide x y = signed_divide x y
on_ints Remainder x y = signed_remainder x y

-- and of type `unsigned`
abbrev pub on_unsigned : BinaryOp → ℕ → ℕ → Result ℕ Undef
on_unsigned Less x y = Ok (truth (nat_lt x y))
on_unsigned Greater x y = Ok (truth (nat_lt y x))
on_unsigned LessEqual x y = Ok (truth (nat_le x y))
on_unsigned GreaterEqual x y = Ok (truth (nat_le y x))
on_unsigned ShiftRight x y = shift_right x y
on_unsigned Add x y = Ok (add x y)
on_unsigned Subtract x y = Ok (subtract x y)
on_unsigned Multiply x y = Ok (multiply x y)
on_unsigned Divide x y = divide x y
on_unsigned Remainder x y = remainder x y
on_unsigned op x y = on_ints op x y

-- a shift has the type of its left operand, and the other operators the common one
abbrev pub operating_type : BinaryOp → CType → CType → CType
operating_type ShiftLeft s t = promoted s
operating_type ShiftRight s t = promoted s
operating_type op s t = common s t

-- a unary operator on a number of type t
abbrev pub on_integer : UnaryOp → CType → ℕ → Result ℕ Undef
on_integer Plus t n = Ok n
on_integer Minus t n = if is_unsigned t then Ok (subtract 0 n) else signed_negate n
on_integer Complement t n = Ok (minus_one - n)
on_integer Not t n = Ok (truth (n == 0))
