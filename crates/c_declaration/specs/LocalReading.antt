-- Reading a declaration in a block token by token, up to and with its `;`.
use Rattle.std.specs.Prelude.{ℕ, Bool, true, false, if◌then◌else◌, List, Option, Some, None}
use Rattle.c_lex.specs.declared.token.Place.{Place}
use Rattle.c_lex.specs.declared.keyword.Keyword.TheVariants.{Register}
use Rattle.c_symbol.specs.declared.terminal.Terminal.{Terminal}
use Rattle.c_symbol.specs.declared.symbol.LeafKind.TheVariants.{Name}
use Rattle.c_symbol.specs.declared.symbol.BinaryOp.TheVariants.{Comma}
use Rattle.c_symbol.specs.declared.symbol.TypeWord.TheVariants as a_word
use Rattle.c_symbol.specs.declared.symbol.Symbol.{Symbol}
use Rattle.c_symbol.specs.declared.symbol.Symbol.TheVariants.{Leaf, Word, Binary, Keyword, Struct as StructWord, Semicolon}
use Rattle.c_expr.specs.Grammar.{spec_of}
use Rattle.c_trees.specs.declared.expression.Spec.{Spec}
use Rattle.c_trees.specs.declared.expression.Spec.TheVariants.{Struct}
use Rattle.c_trees.specs.Declarators.{DeclaratorTree}
use Rattle.c_trees.specs.Initializers.{InitialTree}
use Rattle.c_declaration.specs.declared.built.Built.{Built}
use Rattle.c_trees.specs.declared.declaration.Declared.{Declared}
use Rattle.c_trees.specs.declared.declaration.Local.{Local}
use Rattle.c_declaration.specs.declared.state.NameParser.{NameParser}
use Rattle.c_declaration.specs.declared.state.ReadName.{ReadName}
use Rattle.c_declaration.specs.declared.state.ReadName.TheVariants.{Bare, With}
use Rattle.c_declaration.specs.declared.state.LocalFront.{LocalFront}
use Rattle.c_declaration.specs.declared.state.LocalParser.{LocalParser}
use Rattle.c_declaration.specs.declared.state.LocalParser.TheVariants.{Begin, Registered, Tagging, Typed, Naming}
use Rattle.c_declaration.specs.declared.state.ReadLocal.{ReadLocal}
use Rattle.c_declaration.specs.declared.step.Step.{Step}
use Rattle.c_declaration.specs.declared.step.Step.TheVariants.{Goes, Ends}
use Rattle.c_declaration.specs.DeclaratorReading.{both_words}
use Rattle.c_declaration.specs.NameReading.{name_offer, name_start}
use Rattle.c_declaration.specs.Grown.{grow, bare_of, with_of, names_of, no_names}

abbrev pub Next : Type 0
Next = Option (Step LocalParser ReadLocal)

abbrev pub goes : LocalParser → Next
goes p = Some (Goes p)

abbrev pub front_at : Place → Bool → Spec → LocalFront
front_at at r spec = record { place = at; register = r; spec = spec }

-- the declaration that has these names
abbrev pub local_with : LocalFront → List Declared → Local
local_with f ds = record { place = f.place; register = f.register; spec = f.spec; names = ds }

abbrev pub local_of : LocalFront → Option (Built (List Declared)) → ReadLocal
local_of f ds = record { place = f.place; local = grow (local_with f) ds }

-- a name that was read, in a block
abbrev pub declared_of : ReadName → Option (Built Declared)
declared_of (Bare d) = bare_of d
declared_of (With d i) = with_of d i

-- the token behind a name
abbrev pub behind_name : LocalFront → Option (Built (List Declared)) → Symbol → Next
behind_name f ds (Binary Comma) = goes (Naming f ds name_start)
behind_name f ds Semicolon = Some (Ends (local_of f ds))
behind_name f ds _ = None

abbrev pub name_offered : LocalFront → Option (Built (List Declared)) → Symbol → Option (Step NameParser ReadName) → Next
name_offered f ds symbol None = None
name_offered f ds symbol (Some (Goes q)) = goes (Naming f ds q)
name_offered f ds symbol (Some (Ends d)) = behind_name f (names_of ds (declared_of d)) symbol

abbrev pub naming : LocalFront → Option (Built (List Declared)) → NameParser → Terminal → Next
naming f ds p t = name_offered f ds t.symbol (name_offer p t)

-- `int` behind `unsigned`, or the first token of a name
abbrev pub is_int : Symbol → Bool
is_int (Word a_word.Int) = true
is_int _ = false

abbrev pub worded : Place → Bool → Option Spec → Next
worded at r None = None
worded at r (Some spec) = goes (Typed (front_at at r spec))

abbrev pub typed : LocalFront → Terminal → Next
typed f t = if is_int t.symbol then worded f.place f.register (both_words f.spec) else naming f no_names name_start t

-- the type
abbrev pub typing : Place → Bool → Symbol → Next
typing at r (Word w) = goes (Typed (front_at at r (spec_of w)))
typing at r StructWord = goes (Tagging at r)
typing at r _ = None

abbrev pub beginning : Symbol → Place → Next
beginning (Keyword Register) at = goes (Registered at)
beginning symbol at = typing at false symbol

abbrev pub tagging : Place → Bool → Symbol → List ℕ → Next
tagging at r (Leaf Name) text = goes (Typed (front_at at r (Struct text)))
tagging at r _ text = None

-- one token more, or the declaration with it
abbrev pub local_offer : LocalParser → Terminal → Next
local_offer Begin t = beginning t.symbol t.place
local_offer (Registered at) t = typing at true t.symbol
local_offer (Tagging at r) t = tagging at r t.symbol t.text
local_offer (Typed f) t = typed f t
local_offer (Naming f ds p) t = naming f ds p t
