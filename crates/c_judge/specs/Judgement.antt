-- What an expression is, by recursion over its tree: what the rules of typing (C90 6.3) give, a name that is not declared, or a rule that is broken.
use Rattle.std.specs.Prelude.{ℕ, zero, suc, Bool, true, false, ◌&&◌, nat_le, nat_lt, ◌==◌, ◌||◌, not, if◌then◌else◌, List, length, Option, Some, None, option_and_then, slice_get}
use Rattle.ldb_words.specs.Word.{word_of_signed}
use Rattle.c_lex.specs.declared.number.Integer.{Integer}
use Rattle.c_symbol.specs.declared.symbol.LeafKind.{LeafKind}
use Rattle.c_symbol.specs.declared.symbol.LeafKind.TheVariants as leaf
use Rattle.c_symbol.specs.declared.symbol.Step.{Step}
use Rattle.c_symbol.specs.declared.symbol.Step.TheVariants.{Increment, Decrement}
use Rattle.c_symbol.specs.declared.symbol.Access.{Access}
use Rattle.c_symbol.specs.declared.symbol.Access.TheVariants as access
use Rattle.c_symbol.specs.declared.symbol.PrefixOp.{PrefixOp}
use Rattle.c_symbol.specs.declared.symbol.PrefixOp.TheVariants as prefix
use Rattle.c_symbol.specs.declared.symbol.AssignOp.{AssignOp}
use Rattle.c_symbol.specs.declared.symbol.AssignOp.TheVariants as assign
use Rattle.c_symbol.specs.declared.symbol.BinaryOp.{BinaryOp}
use Rattle.c_symbol.specs.declared.symbol.BinaryOp.TheVariants as written
use Rattle.c_trees.specs.declared.expression.Spec.{Spec}
use Rattle.c_trees.specs.declared.expression.Spec.TheVariants as spec
use Rattle.c_trees.specs.Expressions.{Tree, Leaf, Paren, Index, Call, With, Member, After, Prefix, SizeofType, Cast, Binary, Choice, Stars, Around, Bounded, Unbounded}
use Rattle.c_tree.specs.declared.types.StructDef.{StructDef}
use Rattle.c_tree.specs.declared.typed.BinaryOp.{BinaryOp as Operator}
use Rattle.c_tree.specs.declared.typed.BinaryOp.TheVariants as op
use Rattle.c_tree.specs.declared.typed.UnaryOp.{UnaryOp}
use Rattle.c_tree.specs.declared.typed.UnaryOp.TheVariants.{Plus, Minus, Complement, Not}
use Rattle.c_tree.specs.declared.typed.StepOp.{StepOp}
use Rattle.c_tree.specs.declared.typed.StepOp.TheVariants.{Up, Down}
use Rattle.c_typing.specs.Plain.{Plain, Char, Int, Unsigned, Void, Pointer, Array, Struct, is_integer, is_pointer, is_scalar, is_struct, is_void, is_complete}
use Rattle.c_typing.specs.Rules.{Operand, value_of, may_drop, unary_type, followed, address_type, dot_type, arrow_type, index_type, binary_type, equality_type, assignment_type, converts, is_move, is_movable, compound_type, step_type, logical_type, choice_type, comma_type, cast_type, size_type}
use Rattle.c_typing.specs.Expressions.{Denoted, Object, Function, name_type}
use Rattle.c_typing.specs.declared.constant.Constant.{Constant}
use Rattle.c_typing.specs.declared.constant.Constant.TheVariants.{Variable, Number}
use Rattle.c_judge.specs.Scope.{Scope, defs_of, pointed_number}
use Rattle.c_defs.specs.Depths.{deepest, is_within}
use Rattle.c_defs.specs.Members.{member_number}
use Rattle.c_judge.specs.Places.{place_of}
use Rattle.c_judge.specs.Answers.{Answer, Known, Unknown, Broken, ◌then◌, two, both_known, joint, unless}
use Rattle.c_typing.specs.Values.{is_unsigned, size_of, with_one, combined, turned, converted, chosen, both, either, is_null}

-- what is known of an expression: what the rules ask of it as an operand, and what it is as a constant expression
pub record Judged : Type 0 where
  pub operand : Operand
  pub constant : Constant

abbrev pub value_type_of : Judged → Plain
value_type_of j = value_of j.operand

-- an expression that designates an object (C90 6.2.2.1)
abbrev pub object : Plain → Judged
object t = record { operand = record { ctype = t; lvalue = true; register = false; string = false; null = false }; constant = Variable }

-- a variable, which may be a `register` one
abbrev pub variable : Bool → Plain → Judged
variable r t = record { operand = record { ctype = t; lvalue = true; register = r; string = false; null = false }; constant = Variable }

-- a string is an array of its characters and a NUL (C90 6.1.4)
abbrev pub string_of : List ℕ → Judged
string_of text = record { operand = record { ctype = Array Char (suc (length text)); lvalue = true; register = false; string = true; null = false }; constant = Variable }

-- an expression that has a value alone, as a constant expression
abbrev pub folded : Constant → Plain → Judged
folded c t = record { operand = record { ctype = t; lvalue = false; register = false; string = false; null = is_null c }; constant = c }

-- and as none
abbrev pub value : Plain → Judged
value t = folded Variable t

-- what is known of an expression; or a name in it that is not declared, where no rule is broken as far as it can be judged; or a rule that is broken, and where
abbrev pub Verdict : Type 0
Verdict = Answer Judged

-- what an expression of this type is, where its rule gives one
abbrev pub by_rule : (rule at : ℕ) → (Plain → Judged) → Option Plain → Verdict
by_rule r at f None = Broken r at
by_rule r at f (Some t) = Known (f t)

-- ---- names of types (C90 6.5.4, 6.5.5)

-- 1. A type has a depth of at most 64, and at most 1,048,576 bytes.
abbrev pub limited : List StructDef → (at : ℕ) → Plain → Answer Plain
limited defs at t = if is_within defs deepest t && nat_le (size_of defs t) 1048576 then Known t else Broken 1 at

-- 9. No type is a pointer to `void`.
abbrev pub pointer : List StructDef → (at : ℕ) → Plain → Answer Plain
pointer defs at t = if is_void t then Broken 9 at else limited defs at (Pointer t)

abbrev pub pointers : List StructDef → (at : ℕ) → ℕ → Plain → Answer Plain
pointers defs at zero t = Known t
pointers defs at (suc n) t = pointer defs at t then pointers defs at n

-- 2. The type of an array's items is complete.
abbrev pub array : List StructDef → (at : ℕ) → Plain → ℕ → Answer Plain
array defs at t n = if is_complete defs t then limited defs at (Array t n) else Broken 2 at

-- 2. An array bound is a constant expression from 1 to 1,048,576.
abbrev pub bound : (at : ℕ) → Constant → Answer ℕ
bound at (Number n) = if nat_le 1 n && nat_le n 1048576 then Known n else Broken 2 at
bound at _ = Broken 2 at

-- so many items of a type, by a bound that begins at its own place
abbrev pub bounded : List StructDef → (at bound_at : ℕ) → Plain → Judged → Answer Plain
bounded defs at bound_at t x = bound bound_at x.constant then array defs at t

-- the type that a type's name begins with
abbrev pub spec_type : Scope → Spec → Plain
spec_type v spec.Char = Char
spec_type v spec.Int = Int
spec_type v spec.Unsigned = Unsigned
spec_type v spec.UnsignedInt = Unsigned
spec_type v spec.Void = Void
spec_type v (spec.Struct tag) = Struct (v.tag tag)

-- the `*` that a declarator begins with
abbrev pub stars_of : Tree → ℕ
stars_of (Stars n) = n
stars_of (Around n d) = n
stars_of (Bounded d e) = stars_of d
stars_of (Unbounded d) = stars_of d
stars_of _ = 0

-- the type that a declarator's `*` make
abbrev pub starred : Scope → (at : ℕ) → Tree → Answer Plain → Answer Plain
starred v at d t = t then pointers (defs_of v) at (stars_of d)

-- ---- operators

abbrev pub step_of : Step → StepOp
step_of Increment = Up
step_of Decrement = Down

abbrev pub unary : (at : ℕ) → UnaryOp → Judged → Verdict
unary at o x = by_rule 23 at (folded (with_one (turned o (is_unsigned (value_type_of x))) x.constant)) (unary_type o (value_type_of x))

-- `sizeof` of a type; where it has more than 1,048,576 bytes, rule 1 is broken
abbrev pub sized : List StructDef → (at : ℕ) → Plain → Verdict
sized defs at t = by_rule 40 at (folded (Number (size_of defs t))) (size_type defs t) then λ j. if nat_le (size_of defs t) 1048576 then Known j else Broken 1 at

abbrev pub stepped : List StructDef → (at : ℕ) → Step → Judged → Verdict
stepped defs at s x = by_rule 37 at value (step_type defs (step_of s) x.operand)

abbrev pub cast_to : (at : ℕ) → Plain → Judged → Verdict
cast_to at t x = by_rule 40 at (folded (with_one (converted t) x.constant)) (cast_type t (value_type_of x))

abbrev pub indexed : List StructDef → (at : ℕ) → Judged → Judged → Verdict
indexed defs at x y = by_rule 28 at object (index_type defs (value_type_of x) (value_type_of y))

-- an operator in front of an operand
abbrev pub prefixed : List StructDef → (at : ℕ) → PrefixOp → Judged → Verdict
prefixed defs at (prefix.Step s) x = stepped defs at s x
prefixed defs at prefix.Address x = by_rule 25 at value (address_type x.operand)
prefixed defs at prefix.Dereference x = by_rule 24 at object (followed defs (value_type_of x))
prefixed defs at prefix.Plus x = unary at Plus x
prefixed defs at prefix.Minus x = unary at Minus x
prefixed defs at prefix.Complement x = unary at Complement x
prefixed defs at prefix.Not x = unary at Not x
prefixed defs at prefix.Sizeof x = sized defs at x.operand.ctype

-- the operator of a compound assignment
abbrev pub compound_of : AssignOp → Option Operator
compound_of assign.Plain = None
compound_of assign.Add = Some op.Add
compound_of assign.Subtract = Some op.Subtract
compound_of assign.Multiply = Some op.Multiply
compound_of assign.Divide = Some op.Divide
compound_of assign.Remainder = Some op.Remainder
compound_of assign.ShiftLeft = Some op.ShiftLeft
compound_of assign.ShiftRight = Some op.ShiftRight
compound_of assign.And = Some op.BitAnd
compound_of assign.Xor = Some op.BitXor
compound_of assign.Or = Some op.BitOr

-- the rules of the binary operators, by their numbers: 30 `* / % & ^ |`, 31 `+`, 32 `-`, 33 shifts, 34 order, 35 equality
abbrev pub rule_of : Operator → ℕ
rule_of op.Add = 31
rule_of op.Subtract = 32
rule_of op.ShiftLeft = 33
rule_of op.ShiftRight = 33
rule_of op.Less = 34
rule_of op.Greater = 34
rule_of op.LessEqual = 34
rule_of op.GreaterEqual = 34
rule_of op.Equal = 35
rule_of op.Unequal = 35
rule_of _ = 30

abbrev pub operation : List StructDef → (at : ℕ) → Operator → Judged → Judged → Verdict
operation defs at o x y = by_rule (rule_of o) at (folded (combined o (value_type_of x) (value_type_of y) x.constant y.constant)) (binary_type defs o x.operand y.operand)

-- 37. Compound assignment takes an lvalue that is an integer, or a pointer for `+=` and `-=`.
abbrev pub is_stored_by : Operator → Operand → Bool
is_stored_by o a = a.lvalue && (is_integer a.ctype || (is_pointer a.ctype && is_move o))

abbrev pub is_typed : Option Plain → Bool
is_typed None = false
is_typed (Some t) = true

-- The rule that a compound assignment breaks: that on its left operand, else that of the operator, else that on the assignment of what is to be stored (C90 6.3.16.2).
abbrev pub compound_rule : List StructDef → Operator → Judged → Judged → ℕ
compound_rule defs o x y =
    if not (is_stored_by o x.operand) then 37
    else (if is_typed (binary_type defs o x.operand y.operand) then 36 else rule_of o)

abbrev pub assigned : List StructDef → (at : ℕ) → Option Operator → Judged → Judged → Verdict
assigned defs at None x y = by_rule 36 at value (assignment_type x.operand y.operand)
assigned defs at (Some o) x y = by_rule (compound_rule defs o x y) at value (compound_type defs o x.operand (value_type_of y))

-- an operator between two operands
abbrev pub joined : List StructDef → (at : ℕ) → BinaryOp → Judged → Judged → Verdict
joined defs at written.Comma x y = by_rule (if may_drop x.operand then 39 else 22) at value (comma_type x.operand y.operand)
joined defs at (written.Assign o) x y = assigned defs at (compound_of o) x y
joined defs at written.LogicalOr x y = by_rule 38 at (folded (either x.constant y.constant)) (logical_type (value_type_of x) (value_type_of y))
joined defs at written.LogicalAnd x y = by_rule 38 at (folded (both x.constant y.constant)) (logical_type (value_type_of x) (value_type_of y))
joined defs at written.BitOr x y = operation defs at op.BitOr x y
joined defs at written.BitXor x y = operation defs at op.BitXor x y
joined defs at written.BitAnd x y = operation defs at op.BitAnd x y
joined defs at written.Equal x y = operation defs at op.Equal x y
joined defs at written.NotEqual x y = operation defs at op.Unequal x y
joined defs at written.Less x y = operation defs at op.Less x y
joined defs at written.Greater x y = operation defs at op.Greater x y
joined defs at written.LessEqual x y = operation defs at op.LessEqual x y
joined defs at written.GreaterEqual x y = operation defs at op.GreaterEqual x y
joined defs at written.ShiftLeft x y = operation defs at op.ShiftLeft x y
joined defs at written.ShiftRight x y = operation defs at op.ShiftRight x y
joined defs at written.Add x y = operation defs at op.Add x y
joined defs at written.Subtract x y = operation defs at op.Subtract x y
joined defs at written.Multiply x y = operation defs at op.Multiply x y
joined defs at written.Divide x y = operation defs at op.Divide x y
joined defs at written.Remainder x y = operation defs at op.Remainder x y

-- the member of a struct, or of the struct that a pointer points to
abbrev pub member_of : List StructDef → (at : ℕ) → Access → List ℕ → Judged → Verdict
member_of defs at access.Dot name x = by_rule 26 at object (option_and_then (dot_type defs x.operand) (member_number defs x.operand.ctype name))
member_of defs at access.Arrow name x = by_rule 27 at object (option_and_then (arrow_type defs (value_type_of x)) (pointed_number defs (value_type_of x) name))

abbrev pub chosen_of : (at : ℕ) → Judged → Judged → Judged → Verdict
chosen_of at c x y = by_rule 38 at (folded (chosen c.constant x.constant y.constant)) (choice_type (value_type_of c) x.operand y.operand)

-- ---- operands beside a name that is not declared: the rule that an operand breaks whatever the other one is

-- 28, 31, 32. An integer goes with a pointer, and a pointer with an integer. 34, 35. Comparisons take pointers too. The other operators take integers.
abbrev pub is_operand : List StructDef → Operator → Plain → Bool
is_operand defs op.Add t = is_integer t || is_movable defs t
is_operand defs op.Subtract t = is_integer t || is_movable defs t
is_operand defs op.Less t = is_scalar t
is_operand defs op.Greater t = is_scalar t
is_operand defs op.LessEqual t = is_scalar t
is_operand defs op.GreaterEqual t = is_scalar t
is_operand defs op.Equal t = is_scalar t
is_operand defs op.Unequal t = is_scalar t
is_operand defs o t = is_integer t

abbrev pub operator_alone : List StructDef → Operator → Judged → Option ℕ
operator_alone defs o x = unless (is_operand defs o (value_type_of x)) (rule_of o)

abbrev pub index_alone : List StructDef → Judged → Option ℕ
index_alone defs x = unless (is_operand defs op.Add (value_type_of x)) 28

abbrev pub scalar_alone : Judged → Option ℕ
scalar_alone x = unless (is_scalar (value_type_of x)) 38

-- two branches go together as the operands of `==` do, whatever chooses between them
abbrev pub branches_alone : Judged × Judged → Option ℕ
branches_alone p = unless (is_typed (equality_type p.0.operand p.1.operand)) 38

-- 40. what is cast to, and what is cast
abbrev pub cast_alone : Plain → Option ℕ
cast_alone t = unless (is_integer t) 40

abbrev pub cast_operand_alone : Judged → Option ℕ
cast_operand_alone x = unless (is_integer (value_type_of x)) 40

-- 36. an object to which some value can be assigned
abbrev pub is_assigned : Plain → Bool
is_assigned t = is_scalar t || is_struct t

-- what is assigned to, and by which operator
abbrev pub target_alone : List StructDef → Option Operator → Judged → Option ℕ
target_alone defs None x = unless (x.operand.lvalue && is_assigned x.operand.ctype) 36
target_alone defs (Some o) x = if is_stored_by o x.operand then operator_alone defs o x else Some 37

-- what is assigned; a compound assignment stores no pointer that `+` makes of one
abbrev pub source_alone : List StructDef → Option Operator → Judged → Option ℕ
source_alone defs None y = unless (is_scalar (value_type_of y) || (is_struct y.operand.ctype && y.operand.lvalue)) 36
source_alone defs (Some o) y = if is_integer (value_type_of y) then None else Some (if is_operand defs o (value_type_of y) then 36 else rule_of o)

-- the operator that is written between two operands, but for a comma, an assignment, `&&` and `||`
abbrev pub operator_of : BinaryOp → Operator
operator_of written.BitOr = op.BitOr
operator_of written.BitXor = op.BitXor
operator_of written.BitAnd = op.BitAnd
operator_of written.Equal = op.Equal
operator_of written.NotEqual = op.Unequal
operator_of written.Less = op.Less
operator_of written.Greater = op.Greater
operator_of written.LessEqual = op.LessEqual
operator_of written.GreaterEqual = op.GreaterEqual
operator_of written.ShiftLeft = op.ShiftLeft
operator_of written.ShiftRight = op.ShiftRight
operator_of written.Add = op.Add
operator_of written.Subtract = op.Subtract
operator_of written.Divide = op.Divide
operator_of written.Remainder = op.Remainder
operator_of _ = op.Multiply

abbrev pub left_alone : List StructDef → BinaryOp → Judged → Option ℕ
left_alone defs written.Comma x = unless (may_drop x.operand) 22
left_alone defs (written.Assign o) x = target_alone defs (compound_of o) x
left_alone defs written.LogicalOr x = scalar_alone x
left_alone defs written.LogicalAnd x = scalar_alone x
left_alone defs o x = operator_alone defs (operator_of o) x

abbrev pub right_alone : List StructDef → BinaryOp → Judged → Option ℕ
right_alone defs written.Comma y = unless (is_scalar (value_type_of y)) 39
right_alone defs (written.Assign o) y = source_alone defs (compound_of o) y
right_alone defs written.LogicalOr y = scalar_alone y
right_alone defs written.LogicalAnd y = scalar_alone y
right_alone defs o y = operator_alone defs (operator_of o) y

-- ---- names and constants

abbrev pub register_of : Option Denoted → Bool
register_of (Some (Object t r)) = r
register_of _ = false

-- 21. A name denotes an object; a function's name stands only as the callee.
abbrev pub named : Scope → (at : ℕ) → List ℕ → Option ℕ → Verdict
named v at text None = Unknown text
named v at text (Some n) = by_rule 21 at (variable (register_of (slice_get v.among.names n))) (name_type v.among n)

-- an integer constant's type (C90 6.1.3.2)
abbrev pub integer_type : Integer → Plain
integer_type i = if i.is_unsigned then Unsigned else Int

abbrev pub leaf_of : Scope → (at : ℕ) → LeafKind → List ℕ → Verdict
leaf_of v at leaf.Name text = named v at text (v.number text)
leaf_of v at (leaf.Constant i) text = Known (folded (Number i.value) (integer_type i))
leaf_of v at (leaf.Character c) text = Known (folded (Number (word_of_signed c)) Int)
leaf_of v at leaf.Text text = if nat_lt (length text) 1048576 then Known (string_of text) else Broken 1 at

-- ---- calls (C90 6.3.2.2)

-- what is called: a function's result and its parameters, or None for what is no function's name
abbrev pub Callee : Type 0
Callee = Option (Plain × List Plain)

abbrev pub function_of : Option Denoted → Callee
function_of (Some (Function r ts)) = Some (r, ts)
function_of _ = None

-- an expression that is a name alone
abbrev pub name_alone : Tree → Option (List ℕ)
name_alone (Leaf at leaf.Name text) = Some text
name_alone _ = None

abbrev pub callee_named : Scope → List ℕ → Option ℕ → Answer Callee
callee_named v text None = Unknown text
callee_named v text (Some n) = Known (function_of (slice_get v.among.names n))

-- what stands before the arguments: a name, or another expression, which is judged as any part is
abbrev pub callee_by : Scope → Option (List ℕ) → Verdict → Answer Callee
callee_by v (Some text) j = callee_named v text (v.number text)
callee_by v None j = j then λ x. Known None

abbrev pub callee : Scope → Tree → Verdict → Answer Callee
callee v f j = callee_by v (name_alone f) j

-- 29. What is called is a function, and it is called with as many arguments as it has parameters.
abbrev pub has_parameters : ℕ → Callee → Bool
has_parameters n None = false
has_parameters n (Some f) = length f.1 == n

abbrev pub counted : (asks : Bool) (at : ℕ) → ℕ → Callee → Answer Callee
counted asks at n f = if not asks || has_parameters n f then Known f else Broken 29 at

-- the name of what is called, and how many arguments there are
abbrev pub called_name : Tree → Option (List ℕ)
called_name (Call at f) = name_alone f
called_name (With c a) = called_name c
called_name _ = None

abbrev pub arguments_in : Tree → ℕ
arguments_in (With c a) = suc (arguments_in c)
arguments_in _ = 0

abbrev pub function_numbered : Scope → Option ℕ → Callee
function_numbered v None = None
function_numbered v (Some n) = function_of (slice_get v.among.names n)

abbrev pub function_named : Scope → Option (List ℕ) → Callee
function_named v None = None
function_named v (Some text) = function_numbered v (v.number text)

-- the type of a parameter by its place, where it is known
abbrev pub parameter_at : (asks : Bool) → Callee → ℕ → Option Plain
parameter_at asks None i = None
parameter_at asks (Some f) i = if asks then slice_get f.1 i else None

-- An argument goes as by assignment to its parameter; where that is not known, it is a scalar, as each parameter is.
abbrev pub goes_to : Option Plain → Operand → Bool
goes_to None a = is_scalar (value_of a)
goes_to (Some t) a = converts t a

-- 29. An argument keeps the rule of assignment. Where parameters are not known, 22: a `void` or struct value is no argument.
abbrev pub passed : (asks : Bool) (at : ℕ) → Option Plain → Judged → Verdict
passed asks at t x = if goes_to t x.operand then Known x else Broken (if asks then 29 else 22) at

-- the argument behind those that a call has so far
abbrev pub argument : Scope → Tree → (at : ℕ) → Judged → Verdict
argument v c at x = passed v.asks at (parameter_at v.asks (function_named v (called_name c)) (arguments_in c)) x

-- Where parameters are not known, what is no function counts as one with an `int` as its result, as a function that is not declared does.
abbrev pub result_of : Callee → Plain
result_of None = Int
result_of (Some f) = f.0

-- the value of a call
abbrev pub called : Callee → Verdict
called f = Known (value (result_of f))

-- what is called, and one argument more
abbrev pub with_argument : Callee → Judged → Answer Callee
with_argument f x = Known f

-- ---- expressions

module _ (v : Scope) where
  abbrev mutual
    pub judged : Tree → Verdict
    judged (Leaf at kind text) = leaf_of v at.at kind text
    judged (Paren at a) = judged a
    judged (Index at a b) = joint at.at (index_alone (defs_of v)) (index_alone (defs_of v)) (indexed (defs_of v) at.at) (judged a) (judged b)
    judged (Call at f) = callee v f (judged f) then counted v.asks at.at 0 then called
    judged (With c a) = two (λ f x. called f) (calling (suc (arguments_in c)) c) (judged a then argument v c (place_of a).at)
    judged (Member at a access _ name) = judged a then member_of (defs_of v) at.at access name
    judged (After at a step) = judged a then stepped (defs_of v) at.at step
    judged (Prefix at op a) = judged a then prefixed (defs_of v) at.at op
    judged (SizeofType at s d) = within at.at d (starred v at.at d (Known (spec_type v s))) then sized (defs_of v) at.at
    judged (Cast at s d a) = joint at.at cast_alone cast_operand_alone (cast_to at.at) (within at.at d (starred v at.at d (Known (spec_type v s)))) (judged a)
    judged (Binary at op a b) = joint at.at (left_alone (defs_of v) op) (right_alone (defs_of v) op) (joined (defs_of v) at.at op) (judged a) (judged b)
    judged (Choice at c a b) = joint at.at scalar_alone branches_alone (λ z p. chosen_of at.at z p.0 p.1) (judged c) (joint at.at scalar_alone scalar_alone both_known (judged a) (judged b))
    judged _ = Broken 0 0

    -- what is called with so many arguments, by those that stand there so far
    pub calling : ℕ → Tree → Answer Callee
    calling n (Call at f) = callee v f (judged f) then counted v.asks at.at n
    calling n (With c a) = two with_argument (calling n c) (judged a then argument v c (place_of a).at)
    calling n _ = Broken 0 0

    -- The type of what is declared, once the `*` have been taken: the bounds from the last to the first, then the declarator in parentheses.
    -- Where a rule of types is broken, the place is that of the expression in which the type is written.
    pub within : (at : ℕ) → Tree → Answer Plain → Answer Plain
    within at (Stars n) t = t
    within at (Around n d) t = within at d (starred v at d t)
    within at (Bounded d e) t = within at d (two (bounded (defs_of v) at (place_of e).at) t (judged e))
    within at (Unbounded d) t = within at d (t then λ u. Broken 2 at)
    within at _ t = Broken 0 0

  -- the type of what is declared, from the type that the declaration begins with
  abbrev pub declared : (at : ℕ) → Tree → Answer Plain → Answer Plain
  declared at d t = within at d (starred v at d t)
