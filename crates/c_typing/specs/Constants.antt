-- Constant expressions and null constants (C90 6.4, 6.2.2.3).
use Rattle.std.specs.Prelude.{ℕ, Bool, List, Option, Some, None}
use Rattle.c_tree.specs.declared.types.StructDef.{StructDef}
use Rattle.c_tree.specs.declared.typed.Typed.{Typed}
use Rattle.c_tree.specs.declared.typed.Typed.TheVariants as typed
use Rattle.c_tree.specs.Types.{type_of}
use Rattle.c_typing.specs.declared.constant.Constant.{Constant}
use Rattle.c_typing.specs.declared.constant.Constant.TheVariants.{Variable, Undefined, Number}
use Rattle.c_typing.specs.Plain.{Plain, plain, value_type}
use Rattle.c_typing.specs.Values as values
use Rattle.c_typing.specs.Values.{is_unsigned, size_of, with_one, turned, converted, combined, both, either, chosen}

-- the type of an expression's value
abbrev pub operand_type : Typed → Plain
operand_type e = value_type (plain (type_of e))

-- A constant expression is built of integer and character constants, `sizeof`, casts, unary and binary operators without assignment and comma, and `? :`, also in the parts that are not evaluated (C90 6.4).
abbrev pub constant : List StructDef → Typed → Constant
constant defs (typed.Constant h n) = Number n
constant defs (typed.SizeOf' h _ a) = Number (size_of defs (plain (type_of a)))
constant defs (typed.SizeOfType h t) = Number (size_of defs (plain t))
constant defs (typed.Cast' h _ a) = with_one (converted (plain h.ctype)) (constant defs a)
constant defs (typed.Unary' h op _ a) = with_one (turned op (is_unsigned (operand_type a))) (constant defs a)
constant defs (typed.Binary' h _ a op _ b) = combined op (operand_type a) (operand_type b) (constant defs a) (constant defs b)
constant defs (typed.And' h _ a _ b) = both (constant defs a) (constant defs b)
constant defs (typed.Or' h _ a _ b) = either (constant defs a) (constant defs b)
constant defs (typed.Choice' h _ c _ a _ b) = chosen (constant defs c) (constant defs a) (constant defs b)
constant defs (typed.Parens' h _ a) = constant defs a
constant defs _ = Variable

-- the value of a constant expression, where it has one
abbrev pub value_in : Constant → Option ℕ
value_in Variable = None
value_in Undefined = None
value_in (Number n) = Some n

abbrev pub constant_of : List StructDef → Typed → Option ℕ
constant_of defs e = value_in (constant defs e)

-- a null constant is a constant expression of value 0
abbrev pub is_null : List StructDef → Typed → Bool
is_null defs e = values.is_null (constant defs e)
