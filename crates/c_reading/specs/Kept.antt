-- Expressions that keep to the rules of typing, among names whose types a debugger may complete.
use Rattle.std.specs.Prelude.{◌≡◌, true, Option, Some, None}
use Rattle.c_tree.specs.declared.typed.Typed.{Typed, Row_of-Typed, end_of-Typed, more_of-Typed}
use Rattle.c_tree.specs.declared.typed.Typed.TheVariants.{Comma', Assign', Choice', Or', And', Binary', Cast', Before', Address', Follow', Unary', SizeOf', SizeOfType, Index', Call', Dot', Arrow', After', Name, Constant, Literal, Parens'}
use Rattle.c_tree.specs.Types.{type_of}
use Rattle.c_typing.specs.Plain.{plain}
use Rattle.c_typing.specs.Rules.{unary_type, followed, address_type, dot_type, arrow_type, index_type, binary_type, assignment_type, compound_type, step_type, logical_type, choice_type, comma_type, cast_type, size_type}
use Rattle.c_typing.specs.Expressions.{Scope, is_constant_type, operand, value, operands, name_type, call_type, string_type}

-- As `IsTyped`, but that a type under `sizeof` may be a pointer to a struct that no file names, and that of a constant its type alone is asked.
module _ (s : Scope) where
  abbrev mutual
    pub KeepsRules : Typed → Type 0
    KeepsRules (Comma' h _ a _ b) = KeepsRules a × KeepsRules b × (comma_type (operand s a) (operand s b) ≡ Some (plain h.ctype))
    KeepsRules (Assign' h _ a None _ b) = KeepsRules a × KeepsRules b × (assignment_type (operand s a) (operand s b) ≡ Some (plain h.ctype))
    KeepsRules (Assign' h _ a (Some op) _ b) = KeepsRules a × KeepsRules b × (compound_type s.defs op (operand s a) (value s b) ≡ Some (plain h.ctype))
    KeepsRules (Choice' h _ c _ a _ b) = KeepsRules c × KeepsRules a × KeepsRules b × (choice_type (value s c) (operand s a) (operand s b) ≡ Some (plain h.ctype))
    KeepsRules (Or' h _ a _ b) = KeepsRules a × KeepsRules b × (logical_type (value s a) (value s b) ≡ Some (plain h.ctype))
    KeepsRules (And' h _ a _ b) = KeepsRules a × KeepsRules b × (logical_type (value s a) (value s b) ≡ Some (plain h.ctype))
    KeepsRules (Binary' h _ a op _ b) = KeepsRules a × KeepsRules b × (binary_type s.defs op (operand s a) (operand s b) ≡ Some (plain h.ctype))
    KeepsRules (Cast' h _ a) = KeepsRules a × (cast_type (plain h.ctype) (value s a) ≡ Some (plain h.ctype))
    KeepsRules (Before' h op _ a) = KeepsRules a × (step_type s.defs op (operand s a) ≡ Some (plain h.ctype))
    KeepsRules (Address' h _ a) = KeepsRules a × (address_type (operand s a) ≡ Some (plain h.ctype))
    KeepsRules (Follow' h _ a) = KeepsRules a × (followed s.defs (value s a) ≡ Some (plain h.ctype))
    KeepsRules (Unary' h op _ a) = KeepsRules a × (unary_type op (value s a) ≡ Some (plain h.ctype))
    KeepsRules (SizeOf' h _ a) = KeepsRules a × (size_type s.defs (plain (type_of a)) ≡ Some (plain h.ctype))
    KeepsRules (SizeOfType h t) = size_type s.defs (plain t) ≡ Some (plain h.ctype)
    KeepsRules (Index' h _ a _ b) = KeepsRules a × KeepsRules b × (index_type s.defs (value s a) (value s b) ≡ Some (plain h.ctype))
    KeepsRules (Call' h f _ row) = EachKeeps row × (call_type s f (operands s row) ≡ Some (plain h.ctype))
    KeepsRules (Dot' h _ a m) = KeepsRules a × (dot_type s.defs (operand s a) m ≡ Some (plain h.ctype))
    KeepsRules (Arrow' h _ a m) = KeepsRules a × (arrow_type s.defs (value s a) m ≡ Some (plain h.ctype))
    KeepsRules (After' h _ a op) = KeepsRules a × (step_type s.defs op (operand s a) ≡ Some (plain h.ctype))
    KeepsRules (Name h n) = name_type s n ≡ Some (plain h.ctype)
    KeepsRules (Constant h n) = is_constant_type (plain h.ctype) ≡ true
    KeepsRules (Literal h n) = string_type s n ≡ Some (plain h.ctype)
    KeepsRules (Parens' h _ a) = KeepsRules a × (plain (type_of a) ≡ plain h.ctype)

    pub EachKeeps : {m : _} → Row_of-Typed m → Type 0
    EachKeeps end_of-Typed = Unit {0}
    EachKeeps (more_of-Typed e rest) = KeepsRules e × EachKeeps rest
