-- The typing rules of expressions: from what the operands are, the type of the result, or None where the rule is broken. Each has the number that a refusal tells.
use Rattle.std.specs.Prelude.{ℕ, Bool, true, false, not, ◌&&◌, ◌||◌, if◌then◌else◌, List, [], ◌∷◌, Option, Some, None, option_map, option_and_then, slice_get}
use Rattle.c_tree.specs.declared.types.StructDef.{StructDef}
use Rattle.c_tree.specs.declared.typed.BinaryOp.{BinaryOp}
use Rattle.c_tree.specs.declared.typed.BinaryOp.TheVariants.{Equal, Unequal, Less, Greater, LessEqual, GreaterEqual, ShiftLeft, ShiftRight, Add, Subtract}
use Rattle.c_tree.specs.declared.typed.UnaryOp.{UnaryOp}
use Rattle.c_tree.specs.declared.typed.UnaryOp.TheVariants.{Not}
use Rattle.c_tree.specs.declared.typed.StepOp.{StepOp}
use Rattle.c_tree.specs.declared.typed.StepOp.TheVariants.{Up, Down}
use Rattle.c_tree.specs.Layout.{members_of}
use Rattle.c_typing.specs.Plain.{Plain, Int, Unsigned, Pointer, Struct, plain, same, is_integer, is_pointer, is_scalar, is_struct, is_void, is_complete, value_type, promoted, common}

-- What a rule asks of an operand: its type, whether it is an lvalue, a `register` variable, a string, and a null constant.
pub record Operand : Type 0 where
  pub ctype : Plain
  pub lvalue : Bool
  pub register : Bool
  pub string : Bool
  pub null : Bool

-- the type of its value
abbrev pub value_of : Operand → Plain
value_of a = value_type a.ctype

abbrev pub only : Bool → Plain → Option Plain
only b t = if b then Some t else None

-- 22. A `void` value and that of a struct assignment, which is no lvalue, stand where a value is dropped; so does each scalar (C90 6.2.2.2).
abbrev pub may_drop : Operand → Bool
may_drop a = is_scalar (value_of a) || is_void a.ctype || (is_struct a.ctype && not a.lvalue)

-- 23. `+ - ~` take an integer, `!` a scalar (C90 6.3.3.3).
abbrev pub unary_type : UnaryOp → Plain → Option Plain
unary_type Not t = only (is_scalar t) Int
unary_type op t = only (is_integer t) (promoted t)

-- 24. `*` takes a pointer to a complete type (C90 6.3.3.2).
abbrev pub followed : List StructDef → Plain → Option Plain
followed defs (Pointer t) = only (is_complete defs t) t
followed defs _ = None

-- 25. `&` takes an lvalue that is no `register` variable and no string (C90 6.3.3.2).
abbrev pub address_type : Operand → Option Plain
address_type a = only (a.lvalue && not a.register && not a.string) (Pointer a.ctype)

-- the type of a struct's member by its number
abbrev pub member_type : List StructDef → Plain → ℕ → Option Plain
member_type defs (Struct s) m = option_map (λ m. plain m.ctype) (slice_get (members_of defs s) m)
member_type defs _ m = None

-- 26. `.` takes a struct lvalue with that member (C90 6.3.2.3).
abbrev pub dot_type : List StructDef → Operand → ℕ → Option Plain
dot_type defs a m = if a.lvalue then member_type defs a.ctype m else None

-- 27. `->` takes a pointer to a complete struct with that member (C90 6.3.2.3).
abbrev pub arrow_type : List StructDef → Plain → ℕ → Option Plain
arrow_type defs (Pointer t) m = member_type defs t m
arrow_type defs _ m = None

-- a pointer to a complete type, which arithmetic may move
abbrev pub is_movable : List StructDef → Plain → Bool
is_movable defs (Pointer t) = is_complete defs t
is_movable defs _ = false

-- 30. `* / % & ^ |` take integers (C90 6.3.5, 6.3.10 to 6.3.12).
abbrev pub arithmetic_type : Plain → Plain → Option Plain
arithmetic_type s t = only (is_integer s && is_integer t) (common s t)

-- 31. `+` takes integers, or a pointer to a complete type and an integer (C90 6.3.6).
abbrev pub sum_type : List StructDef → Plain → Plain → Option Plain
sum_type defs s t =
    if is_movable defs s && is_integer t then Some s
    else (if is_integer s && is_movable defs t then Some t else arithmetic_type s t)

-- 32. `-` takes integers, a pointer to a complete type and an integer, or two such pointers of one type (C90 6.3.6).
abbrev pub difference_type : List StructDef → Plain → Plain → Option Plain
difference_type defs s t =
    if is_movable defs s && is_integer t then Some s
    else (if is_movable defs s && same s t then Some Int else arithmetic_type s t)

-- 28. `[]` takes a pointer to a complete type and an integer, in either order; `a[b]` is `*(a + b)` (C90 6.3.2.1).
abbrev pub index_type : List StructDef → Plain → Plain → Option Plain
index_type defs s t = option_and_then (followed defs) (sum_type defs s t)

-- 33. Shifts take integers; the result has the promoted left type (C90 6.3.7).
abbrev pub shift_type : Plain → Plain → Option Plain
shift_type s t = only (is_integer s && is_integer t) (promoted s)

-- 34. Order takes integers or two pointers of one type (C90 6.3.8).
abbrev pub order_type : Plain → Plain → Option Plain
order_type s t = only ((is_integer s && is_integer t) || (is_pointer s && same s t)) Int

-- a pointer and a null constant
abbrev pub is_nulled : Plain → Operand → Bool
is_nulled s b = is_pointer s && (is_integer (value_of b) && b.null)

-- 35. Equality takes integers, two pointers of one type, or a pointer and a null constant (C90 6.3.9).
abbrev pub equality_type : Operand → Operand → Option Plain
equality_type a b =
    let s = value_of a in
    let t = value_of b in
    only ((is_integer s && is_integer t) || (is_pointer s && same s t) || is_nulled s b || is_nulled t a) Int

-- a binary operator on two operands
abbrev pub binary_type : List StructDef → BinaryOp → Operand → Operand → Option Plain
binary_type defs Equal a b = equality_type a b
binary_type defs Unequal a b = equality_type a b
binary_type defs Less a b = order_type (value_of a) (value_of b)
binary_type defs Greater a b = order_type (value_of a) (value_of b)
binary_type defs LessEqual a b = order_type (value_of a) (value_of b)
binary_type defs GreaterEqual a b = order_type (value_of a) (value_of b)
binary_type defs ShiftLeft a b = shift_type (value_of a) (value_of b)
binary_type defs ShiftRight a b = shift_type (value_of a) (value_of b)
binary_type defs Add a b = sum_type defs (value_of a) (value_of b)
binary_type defs Subtract a b = difference_type defs (value_of a) (value_of b)
binary_type defs op a b = arithmetic_type (value_of a) (value_of b)

-- a value becomes one of a scalar type as by assignment: two integers, one pointer type, or a pointer and a null constant
abbrev pub converts : Plain → Operand → Bool
converts t b = (is_integer t && is_integer (value_of b)) || (is_pointer t && same t (value_of b)) || is_nulled t b

-- two lvalues of one struct
abbrev pub is_copied : Operand → Operand → Bool
is_copied a b = is_struct a.ctype && same a.ctype b.ctype && b.lvalue

-- 36. Assignment has an lvalue that is no array on the left, and two integers, one pointer type, a pointer and a null constant, or two lvalues of one struct (C90 6.3.16.1).
abbrev pub assignment_type : Operand → Operand → Option Plain
assignment_type a b = only (a.lvalue && (converts a.ctype b || is_copied a b)) a.ctype

-- 29. A call has as many arguments as parameters, each by the rule of assignment (C90 6.3.2.2).
abbrev pub takes : List Plain → List Operand → Bool
takes [] [] = true
takes (t ∷ ts) (a ∷ as') = converts t a && takes ts as'
takes _ _ = false

-- the operators of compound assignments
abbrev pub is_compound : BinaryOp → Bool
is_compound Equal = false
is_compound Unequal = false
is_compound Less = false
is_compound Greater = false
is_compound LessEqual = false
is_compound GreaterEqual = false
is_compound op = true

abbrev pub is_move : BinaryOp → Bool
is_move Add = true
is_move Subtract = true
is_move op = false

-- 37. Compound assignment, `++` and `--` take a scalar lvalue and an integer; a pointer, to a complete type, only with `+= -= ++ --` (C90 6.3.16.2, 6.3.2.4, 6.3.3.1).
abbrev pub compound_type : List StructDef → BinaryOp → Operand → Plain → Option Plain
compound_type defs op a t =
    only (a.lvalue && is_integer t && ((is_integer a.ctype && is_compound op) || (is_movable defs a.ctype && is_move op))) a.ctype

abbrev pub stepping : StepOp → BinaryOp
stepping Up = Add
stepping Down = Subtract

abbrev pub step_type : List StructDef → StepOp → Operand → Option Plain
step_type defs op a = compound_type defs (stepping op) a Int

-- 38. `&& ||` take scalars (C90 6.3.13, 6.3.14).
abbrev pub logical_type : Plain → Plain → Option Plain
logical_type s t = only (is_scalar s && is_scalar t) Int

-- `? :` takes a scalar, and two integers, one pointer type, or a pointer and a null constant (C90 6.3.15).
abbrev pub branches_type : Operand → Operand → Option Plain
branches_type a b =
    let s = value_of a in
    let t = value_of b in
    if is_integer s && is_integer t then Some (common s t)
    else (if (is_pointer s && same s t) || is_nulled s b then Some s
    else only (is_nulled t a) t)

abbrev pub choice_type : Plain → Operand → Operand → Option Plain
choice_type c a b = if is_scalar c then branches_type a b else None

-- 39. A comma's right operand is a scalar; the value of the left one is dropped (C90 6.3.17).
abbrev pub comma_type : Operand → Operand → Option Plain
comma_type a b = only (may_drop a && is_scalar (value_of b)) (value_of b)

-- 40. A cast goes from an integer to `char`, `int` or `unsigned` (C90 6.3.4).
abbrev pub cast_type : Plain → Plain → Option Plain
cast_type to t = only (is_integer to && is_integer t) to

-- `sizeof` takes a complete type (C90 6.3.3.4).
abbrev pub size_type : List StructDef → Plain → Option Plain
size_type defs t = only (is_complete defs t) Unsigned
