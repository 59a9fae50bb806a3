-- The words of PostScript that an operator of C becomes.
use Rattle.std.specs.Prelude.{pos, if◌then◌else◌}
use Rattle.c_tree.specs.declared.types.CType.{CType}
use Rattle.c_tree.specs.declared.types.CType.TheVariants.{Char, Int, Unsigned, Void, Pointer', Array', Struct}
use Rattle.c_tree.specs.declared.typed.BinaryOp.{BinaryOp}
use Rattle.c_tree.specs.declared.typed.BinaryOp.TheVariants as binary
use Rattle.c_tree.specs.declared.typed.UnaryOp.{UnaryOp}
use Rattle.c_tree.specs.declared.typed.UnaryOp.TheVariants as unary
use Rattle.c_tree.specs.Types.{is_unsigned}
use Rattle.c_operators.specs.Arithmetic.{operating_type}
use Rattle.ps_text.specs.Code.{Code, Stop, Proc}
use Rattle.ps_emit.specs.Terms.{◌⋯◌, word, name, integer}

-- one of two pieces, by the condition on top
abbrev pub chosen : (holds fails : Code) → Code
chosen holds fails = Proc holds Stop ⋯ Proc fails Stop ⋯ word "ifelse"

-- 1 where the condition on top holds, and else 0; or the other way round
abbrev pub truth : Code
truth = chosen (integer (pos 1)) (integer (pos 0))

abbrev pub untruth : Code
untruth = chosen (integer (pos 0)) (integer (pos 1))

-- one of two pieces, by whether the number on top is 0
abbrev pub by_zero : (zero other : Code) → Code
by_zero zero other = integer (pos 0) ⋯ word "eq" ⋯ chosen zero other

-- ---- two operands

-- on numbers of type `int`
abbrev pub on_ints : BinaryOp → Code
on_ints binary.BitOr = word "or"
on_ints binary.BitXor = word "xor"
on_ints binary.BitAnd = word "and"
on_ints binary.Equal = word "eq" ⋯ truth
on_ints binary.Unequal = word "ne" ⋯ truth
on_ints binary.Less = word "lt" ⋯ truth
on_ints binary.Greater = word "gt" ⋯ truth
on_ints binary.LessEqual = word "le" ⋯ truth
on_ints binary.GreaterEqual = word "ge" ⋯ truth
on_ints binary.ShiftLeft = word "ishl"
on_ints binary.ShiftRight = word "ishr"
on_ints binary.Add = word "iadd"
on_ints binary.Subtract = word "isub"
on_ints binary.Multiply = word "imul"
on_ints binary.Divide = word "idivs"
on_ints binary.Remainder = word "irem"

-- on numbers of type `unsigned`
abbrev pub on_unsigned : BinaryOp → Code
on_unsigned binary.BitOr = word "or"
on_unsigned binary.BitXor = word "xor"
on_unsigned binary.BitAnd = word "and"
on_unsigned binary.Equal = word "eq" ⋯ truth
on_unsigned binary.Unequal = word "ne" ⋯ truth
on_unsigned binary.Less = word "ult" ⋯ truth
on_unsigned binary.Greater = word "exch" ⋯ word "ult" ⋯ truth
on_unsigned binary.LessEqual = word "exch" ⋯ word "ult" ⋯ untruth
on_unsigned binary.GreaterEqual = word "ult" ⋯ untruth
on_unsigned binary.ShiftLeft = word "ishl"
on_unsigned binary.ShiftRight = word "ushr"
on_unsigned binary.Add = word "uadd"
on_unsigned binary.Subtract = word "usub"
on_unsigned binary.Multiply = word "umul"
on_unsigned binary.Divide = word "udivs"
on_unsigned binary.Remainder = word "urem"

-- on integers of two types
abbrev pub on_integers : BinaryOp → CType → CType → Code
on_integers op s t = if is_unsigned (operating_type op s t) then on_unsigned op else on_ints op

-- on two pointers, but for their difference
abbrev order : Code → Code
order comparison = word "ptrcmp" ⋯ integer (pos 0) ⋯ comparison

abbrev pub on_pointers : BinaryOp → Code
on_pointers binary.Less = order (on_ints binary.Less)
on_pointers binary.Greater = order (on_ints binary.Greater)
on_pointers binary.LessEqual = order (on_ints binary.LessEqual)
on_pointers binary.GreaterEqual = order (on_ints binary.GreaterEqual)
on_pointers op = on_ints op

-- ---- one operand

-- a number, or for `!` a pointer
abbrev pub on_one : UnaryOp → CType → Code
on_one unary.Plus t = Stop
on_one unary.Minus t = if is_unsigned t then integer (pos 0) ⋯ word "exch" ⋯ word "usub" else word "ineg"
on_one unary.Complement t = word "not"
on_one unary.Not t = integer (pos 0) ⋯ word "eq" ⋯ truth

-- a conversion: a `char` is the low byte with its sign
abbrev pub conversion : CType → Code
conversion Char = integer (pos 24) ⋯ word "ishl" ⋯ integer (pos 24) ⋯ word "ishr"
conversion _ = Stop

-- what a scalar's leaf holds
abbrev pub kind : CType → Code
kind Char = name "c"
kind Int = name "w"
kind Unsigned = name "w"
kind Void = name "w"
kind (Pointer' _ t) = name "p"
kind (Array' _ t n) = name "p"
kind (Struct s) = name "w"
