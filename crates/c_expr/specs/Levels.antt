-- The levels of the grammar (C90 6.3.1 to 6.3.17), the loosest first: 1 comma, 2 assignment, 3 ?:, 4 || 5 && 6 | 7 ^ 8 & 9 == 10 < 11 << 12 + 13 *
-- 14 cast, 15 unary, 16 postfix, 17 primary.
use Rattle.std.specs.Prelude.{ℕ, ◌+◌}
use Rattle.c_symbol.specs.declared.symbol.BinaryOp.{BinaryOp}
use Rattle.c_symbol.specs.declared.symbol.BinaryOp.TheVariants.{Comma, Assign, LogicalOr, LogicalAnd, BitOr, BitXor, BitAnd, Equal, NotEqual, Less, Greater, LessEqual, GreaterEqual, ShiftLeft, ShiftRight, Add, Subtract, Multiply, Divide, Remainder}
use Rattle.c_symbol.specs.declared.symbol.PrefixOp.{PrefixOp}
use Rattle.c_symbol.specs.declared.symbol.PrefixOp.TheVariants.{Step, Sizeof}

-- the level of each binary operator
abbrev pub level_of : BinaryOp → ℕ
level_of Comma = 1
level_of (Assign _) = 2
level_of LogicalOr = 4
level_of LogicalAnd = 5
level_of BitOr = 6
level_of BitXor = 7
level_of BitAnd = 8
level_of Equal = 9
level_of NotEqual = 9
level_of Less = 10
level_of Greater = 10
level_of LessEqual = 10
level_of GreaterEqual = 10
level_of ShiftLeft = 11
level_of ShiftRight = 11
level_of Add = 12
level_of Subtract = 12
level_of Multiply = 13
level_of Divide = 13
level_of Remainder = 13

-- the least level of what stands on its left: an assignment has a unary expression there, the others are left-associative
abbrev pub left_of : BinaryOp → ℕ
left_of (Assign _) = 15
left_of op = level_of op

-- the level from which on expressions end before it
abbrev pub ends_of : BinaryOp → ℕ
ends_of (Assign _) = 14
ends_of op = level_of op

-- the least level of what stands on its right
abbrev pub right_of : BinaryOp → ℕ
right_of (Assign _) = 2
right_of op = level_of op + 1

-- the least level of what stands behind a prefix operator
abbrev pub operand_of : PrefixOp → ℕ
operand_of (Step _) = 15
operand_of Sizeof = 15
operand_of _ = 14
