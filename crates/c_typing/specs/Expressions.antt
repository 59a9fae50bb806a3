-- When an expression is well typed (C90 6.3), by recursion over it.
use Rattle.std.specs.Prelude.{◌≡◌, ℕ, suc, ◌<◌, ◌^◌, Bool, true, false, List, [], ◌∷◌, length, Option, Some, None, option_map, option_and_then, slice_get, if◌then◌else◌}
use Rattle.c_tree.specs.declared.types.StructDef.{StructDef}
use Rattle.c_tree.specs.declared.typed.Typed.{Typed, Row_of-Typed, end_of-Typed, more_of-Typed}
use Rattle.c_tree.specs.declared.typed.Typed.TheVariants.{Comma', Assign', Choice', Or', And', Binary', Cast', Before', Address', Follow', Unary', SizeOf', SizeOfType, Index', Call', Dot', Arrow', After', Name, Constant, Literal, Parens'}
use Rattle.c_tree.specs.Types.{type_of}
use Rattle.c_typing.specs.Plain.{Plain, Char, Int, Unsigned, Array, plain}
use Rattle.c_typing.specs.Written.{IsWritten}
use Rattle.c_typing.specs.Constants.{is_null}
use Rattle.c_typing.specs.Rules.{Operand, value_of, unary_type, followed, address_type, dot_type, arrow_type, index_type, binary_type, assignment_type, takes, compound_type, step_type, logical_type, choice_type, comma_type, cast_type, size_type}

-- what a name denotes: an object of a type, a function, or nothing here, since it is a local of another block
pub data Denoted : Type 0 where
  Object : (ctype : Plain) (register : Bool) → Denoted
  Function : (result : Plain) (parameters : List Plain) → Denoted
  Hidden : Denoted

-- what an expression stands among: what each name denotes, the structs, and the strings
pub record Scope : Type 0 where
  pub names : List Denoted
  pub defs : List StructDef
  pub strings : List (List ℕ)

abbrev pub object_type : Denoted → Option Plain
object_type (Object t r) = Some t
object_type _ = None

abbrev pub register_in : Option Denoted → Bool
register_in (Some (Object t r)) = r
register_in _ = false

abbrev pub result_type : Denoted → List Operand → Option Plain
result_type (Function r ts) args = if takes ts args then Some r else None
result_type _ args = None

-- an lvalue designates an object (C90 6.2.2.1)
abbrev pub is_lvalue : Typed → Bool
is_lvalue (Name h n) = true
is_lvalue (Literal h n) = true
is_lvalue (Follow' h _ a) = true
is_lvalue (Index' h _ a _ b) = true
is_lvalue (Dot' h _ a m) = true
is_lvalue (Arrow' h _ a m) = true
is_lvalue (Parens' h _ a) = is_lvalue a
is_lvalue _ = false

abbrev pub is_string : Typed → Bool
is_string (Literal h n) = true
is_string (Parens' h _ a) = is_string a
is_string _ = false

abbrev pub is_constant_type : Plain → Bool
is_constant_type Int = true
is_constant_type Unsigned = true
is_constant_type _ = false

module _ (s : Scope) where
  -- a variable that was declared `register` (C90 6.5.1)
  abbrev pub is_register : Typed → Bool
  is_register (Name h n) = register_in (slice_get s.names n)
  is_register (Parens' h _ a) = is_register a
  is_register _ = false

  abbrev pub operand : Typed → Operand
  operand e = record { ctype = plain (type_of e); lvalue = is_lvalue e; register = is_register e; string = is_string e; null = is_null s.defs e }

  -- the type of an operand's value
  abbrev pub value : Typed → Plain
  value e = value_of (operand e)

  abbrev pub operands : {m : _} → Row_of-Typed m → List Operand
  operands end_of-Typed = []
  operands (more_of-Typed e rest) = operand e ∷ operands rest

  -- 21. A name denotes an object; a function's name stands only as the callee (C90 6.3.1).
  abbrev pub name_type : ℕ → Option Plain
  name_type n = option_and_then object_type (slice_get s.names n)

  -- a call of a function with these arguments (C90 6.3.2.2)
  abbrev pub call_type : ℕ → List Operand → Option Plain
  call_type f args = option_and_then (λ d. result_type d args) (slice_get s.names f)

  -- a string is an array of its characters and a NUL (C90 6.1.4)
  abbrev pub string_type : ℕ → Option Plain
  string_type n = option_map (λ text. Array Char (suc (length text))) (slice_get s.strings n)

  abbrev mutual
    -- the parts of an expression are well typed, and its type is the one that its rule gives
    pub IsTyped : Typed → Type 0
    IsTyped (Comma' h _ a _ b) = IsTyped a × IsTyped b × (comma_type (operand a) (operand b) ≡ Some (plain h.ctype))
    IsTyped (Assign' h _ a None _ b) = IsTyped a × IsTyped b × (assignment_type (operand a) (operand b) ≡ Some (plain h.ctype))
    IsTyped (Assign' h _ a (Some op) _ b) = IsTyped a × IsTyped b × (compound_type s.defs op (operand a) (value b) ≡ Some (plain h.ctype))
    IsTyped (Choice' h _ c _ a _ b) = IsTyped c × IsTyped a × IsTyped b × (choice_type (value c) (operand a) (operand b) ≡ Some (plain h.ctype))
    IsTyped (Or' h _ a _ b) = IsTyped a × IsTyped b × (logical_type (value a) (value b) ≡ Some (plain h.ctype))
    IsTyped (And' h _ a _ b) = IsTyped a × IsTyped b × (logical_type (value a) (value b) ≡ Some (plain h.ctype))
    IsTyped (Binary' h _ a op _ b) = IsTyped a × IsTyped b × (binary_type s.defs op (operand a) (operand b) ≡ Some (plain h.ctype))
    IsTyped (Cast' h _ a) = IsTyped a × (cast_type (plain h.ctype) (value a) ≡ Some (plain h.ctype))
    IsTyped (Before' h op _ a) = IsTyped a × (step_type s.defs op (operand a) ≡ Some (plain h.ctype))
    IsTyped (Address' h _ a) = IsTyped a × (address_type (operand a) ≡ Some (plain h.ctype))
    IsTyped (Follow' h _ a) = IsTyped a × (followed s.defs (value a) ≡ Some (plain h.ctype))
    IsTyped (Unary' h op _ a) = IsTyped a × (unary_type op (value a) ≡ Some (plain h.ctype))
    IsTyped (SizeOf' h _ a) = IsTyped a × (size_type s.defs (plain (type_of a)) ≡ Some (plain h.ctype))
    IsTyped (SizeOfType h t) = IsWritten s.defs t × (size_type s.defs (plain t) ≡ Some (plain h.ctype))
    IsTyped (Index' h _ a _ b) = IsTyped a × IsTyped b × (index_type s.defs (value a) (value b) ≡ Some (plain h.ctype))
    IsTyped (Call' h f _ row) = AreTyped row × (call_type f (operands row) ≡ Some (plain h.ctype))
    IsTyped (Dot' h _ a m) = IsTyped a × (dot_type s.defs (operand a) m ≡ Some (plain h.ctype))
    IsTyped (Arrow' h _ a m) = IsTyped a × (arrow_type s.defs (value a) m ≡ Some (plain h.ctype))
    IsTyped (After' h _ a op) = IsTyped a × (step_type s.defs op (operand a) ≡ Some (plain h.ctype))
    IsTyped (Name h n) = name_type n ≡ Some (plain h.ctype)
    IsTyped (Constant h n) = (is_constant_type (plain h.ctype) ≡ true) × (n < 2 ^ 32)
    IsTyped (Literal h n) = string_type n ≡ Some (plain h.ctype)
    IsTyped (Parens' h _ a) = IsTyped a × (plain (type_of a) ≡ plain h.ctype)

    pub AreTyped : {m : _} → Row_of-Typed m → Type 0
    AreTyped end_of-Typed = Unit {0}
    AreTyped (more_of-Typed e rest) = IsTyped e × AreTyped rest
