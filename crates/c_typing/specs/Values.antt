-- What constant expressions make of numbers, as their bits, by the types of the operands (C90 6.4).
use Rattle.std.specs.Prelude.{ℕ, zero, suc, ◌*◌, Bool, true, false, ◌==◌, if◌then◌else◌, List, Result, Ok, Err, bit_xor}
use Rattle.ldb_words.specs.declared.kinds.Undef.{Undef}
use Rattle.c_tree.specs.declared.types.StructDef.{StructDef}
use Rattle.c_tree.specs.declared.typed.BinaryOp.{BinaryOp}
use Rattle.c_tree.specs.declared.typed.BinaryOp.TheVariants.{ShiftLeft, ShiftRight, Subtract}
use Rattle.c_tree.specs.declared.typed.UnaryOp.{UnaryOp}
use Rattle.c_tree.specs.declared.typed.UnaryOp.TheVariants.{Plus, Minus, Complement, Not}
use Rattle.c_tree.specs.Layout.{struct_size_of}
use Rattle.c_operators.specs.Bits.{low_byte, minus_one}
use Rattle.c_operators.specs.Arithmetic.{on_ints, on_unsigned, truth}
use Rattle.c_typing.specs.Plain.{Plain, Char, Int, Unsigned, Void, Pointer, Array, Struct, common}
use Rattle.c_typing.specs.declared.constant.Constant.{Constant}
use Rattle.c_typing.specs.declared.constant.Constant.TheVariants.{Variable, Undefined, Number}

abbrev pub is_unsigned : Plain → Bool
is_unsigned Unsigned = true
is_unsigned _ = false

-- bytes of a type (C90 6.3.3.4)
abbrev pub size_of : List StructDef → Plain → ℕ
size_of defs Char = 1
size_of defs Int = 4
size_of defs Unsigned = 4
size_of defs Void = 0
size_of defs (Pointer t) = 4
size_of defs (Array t n) = n * size_of defs t
size_of defs (Struct s) = struct_size_of defs s

-- whether an operator works on `unsigned`: a shift has the type of its left operand, and the other operators the common one (C90 6.3.7, 6.2.1.5)
abbrev pub works_unsigned : BinaryOp → Plain → Plain → Bool
works_unsigned ShiftLeft s t = is_unsigned s
works_unsigned ShiftRight s t = is_unsigned s
works_unsigned op s t = is_unsigned (common s t)

abbrev pub defined : Result ℕ Undef → Constant
defined (Ok n) = Number n
defined (Err r) = Undefined

-- what an operator gives on two numbers
abbrev pub operated : BinaryOp → Bool → ℕ → ℕ → Constant
operated op unsigned x y = defined (if unsigned then on_unsigned op x y else on_ints op x y)

-- an operand that is no constant expression makes the whole none; one without a value leaves it without a value
abbrev pub with_two : (ℕ → ℕ → Constant) → Constant → Constant → Constant
with_two f Variable b = Variable
with_two f a Variable = Variable
with_two f Undefined b = Undefined
with_two f a Undefined = Undefined
with_two f (Number x) (Number y) = f x y

abbrev pub with_one : (ℕ → Constant) → Constant → Constant
with_one f Variable = Variable
with_one f Undefined = Undefined
with_one f (Number x) = f x

abbrev pub combined : BinaryOp → Plain → Plain → Constant → Constant → Constant
combined op s t a b = with_two (operated op (works_unsigned op s t)) a b

-- `-a` is `0 - a`, `~a` has the other bits, and `!a` is `a == 0` (C90 6.3.3.3)
abbrev pub turned : UnaryOp → Bool → ℕ → Constant
turned Plus unsigned n = Number n
turned Minus unsigned n = operated Subtract unsigned 0 n
turned Complement unsigned n = Number (bit_xor minus_one n)
turned Not unsigned n = Number (truth (n == 0))

-- a conversion to `char` keeps the low 8 bits with their sign, and the others keep all (C90 6.2.1.2)
abbrev pub converted : Plain → ℕ → Constant
converted Char n = Number (low_byte n)
converted _ n = Number n

-- `&&`, `||` and `? :` evaluate no more than they need, but each part has to be a constant expression (C90 6.3.13 to 6.3.15)
abbrev pub chosen : Constant → Constant → Constant → Constant
chosen Variable a b = Variable
chosen c Variable b = Variable
chosen c a Variable = Variable
chosen Undefined a b = Undefined
chosen (Number zero) a b = b
chosen (Number (suc n)) a b = a

abbrev pub truth_in : ℕ → Constant
truth_in n = Number (truth (if n == 0 then false else true))

abbrev pub both : Constant → Constant → Constant
both a b = chosen a (with_one truth_in b) (Number 0)

abbrev pub either : Constant → Constant → Constant
either a b = chosen a (Number 1) (with_one truth_in b)

abbrev pub is_null : Constant → Bool
is_null (Number n) = n == 0
is_null _ = false
