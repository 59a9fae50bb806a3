-- Reading the members of a struct token by token, up to and with its `}`.
use Rattle.std.specs.Prelude.{ℕ, ◌+◌, ◌-◌, nat_eq, Bool, true, false, if◌then◌else◌, List, [], ◌∷◌, ◌++◌, Option, Some, None}
use Rattle.c_lex.specs.declared.token.Place.{Place}
use Rattle.c_symbol.specs.declared.terminal.Terminal.{Terminal}
use Rattle.c_symbol.specs.declared.symbol.LeafKind.TheVariants.{Name}
use Rattle.c_symbol.specs.declared.symbol.BinaryOp.TheVariants.{Comma}
use Rattle.c_symbol.specs.declared.symbol.TypeWord.TheVariants as a_word
use Rattle.c_symbol.specs.declared.symbol.Symbol.{Symbol}
use Rattle.c_symbol.specs.declared.symbol.Symbol.TheVariants.{Leaf, Word, Binary, Struct as StructWord, CloseBrace, Semicolon}
use Rattle.c_expr.specs.Grammar.{spec_of}
use Rattle.c_trees.specs.declared.expression.Spec.{Spec}
use Rattle.c_trees.specs.declared.expression.Spec.TheVariants.{Struct}
use Rattle.c_trees.specs.Declarators.{DeclaratorTree}
use Rattle.c_declaration.specs.declared.built.Built.{Built}
use Rattle.c_trees.specs.declared.declaration.MemberPart.{MemberPart}
use Rattle.c_trees.specs.declared.declaration.MemberPart.TheVariants.{Opens, Row, Closes}
use Rattle.c_declaration.specs.declared.state.DeclaratorParser.{DeclaratorParser}
use Rattle.c_declaration.specs.declared.state.RowType.{RowType}
use Rattle.c_declaration.specs.declared.state.RowType.TheVariants as row
use Rattle.c_declaration.specs.declared.state.RowMode.{RowMode}
use Rattle.c_declaration.specs.declared.state.RowMode.TheVariants.{Begin, Tagging, Typed, Naming}
use Rattle.c_declaration.specs.declared.state.MembersParser.{MembersParser}
use Rattle.c_declaration.specs.declared.step.Step.{Step}
use Rattle.c_declaration.specs.declared.step.Step.TheVariants.{Goes, Ends}
use Rattle.c_declaration.specs.DeclaratorReading.{both_words, declarator_offer, declarator_start}
use Rattle.c_declaration.specs.InitialReading.{is_open_brace}
use Rattle.c_declaration.specs.LocalReading.{is_int}

-- the parts of a struct so far, absent where one is too high
abbrev pub Parts : Type 0
Parts = Option (List MemberPart)

abbrev pub Next : Type 0
Next = Option (Step MembersParser Parts)

abbrev pub goes : Parts → ℕ → RowMode → Next
goes ps n mode = Some (Goes (record { parts = ps; inside = n; mode = mode }))

-- one more in a list, where all of them are there
abbrev pub last : {T : Type 0} → Option (List T) → Option T → Option (List T)
last None x = None
last (Some xs) None = None
last (Some xs) (Some x) = Some (xs ++ x ∷ [])

abbrev pub tree_in : {T : Type 0} → Option (Built T) → Option T
tree_in None = None
tree_in (Some b) = Some b.tree

-- the declarators of a row with its type
abbrev pub row_of : RowType → List DeclaratorTree → MemberPart
row_of (row.Named at spec) ds = Row at spec ds
row_of row.Closed ds = Closes ds

abbrev pub row_with : RowType → Option (List DeclaratorTree) → Option MemberPart
row_with type None = None
row_with type (Some ds) = Some (row_of type ds)

-- the token behind a declarator
abbrev pub behind_member : Parts → ℕ → RowType → Option (List DeclaratorTree) → Symbol → Next
behind_member ps n type ds (Binary Comma) = goes ps n (Naming type ds declarator_start)
behind_member ps n type ds Semicolon = goes (last ps (row_with type ds)) n Begin
behind_member ps n type ds _ = None

abbrev pub member_offered : Parts → ℕ → RowType → Option (List DeclaratorTree) → Symbol → Option (Step DeclaratorParser (Option (Built DeclaratorTree))) → Next
member_offered ps n type ds symbol None = None
member_offered ps n type ds symbol (Some (Goes q)) = goes ps n (Naming type ds q)
member_offered ps n type ds symbol (Some (Ends d)) = behind_member ps n type (last ds (tree_in d)) symbol

abbrev pub naming : Parts → ℕ → RowType → Option (List DeclaratorTree) → DeclaratorParser → Terminal → Next
naming ps n type ds p t = member_offered ps n type ds t.symbol (declarator_offer p t)

-- the } of a struct
abbrev pub closed : Parts → ℕ → Next
closed ps n = if nat_eq n 0 then Some (Ends ps) else goes ps (n - 1) (Naming row.Closed (Some []) declarator_start)

-- a row begins, or the struct ends
abbrev pub beginning : Parts → ℕ → Symbol → Place → Next
beginning ps n (Word w) at = goes ps n (Typed at (spec_of w))
beginning ps n StructWord at = goes ps n (Tagging at)
beginning ps n CloseBrace at = closed ps n
beginning ps n _ at = None

abbrev pub tagging : Parts → ℕ → Place → Symbol → List ℕ → Next
tagging ps n at (Leaf Name) text = goes ps n (Typed at (Struct text))
tagging ps n at _ text = None

abbrev pub worded : Parts → ℕ → Place → Option Spec → Next
worded ps n at None = None
worded ps n at (Some spec) = goes ps n (Typed at spec)

-- the tag of a struct
abbrev pub tag_of : Spec → Option (List ℕ)
tag_of (Struct tag) = Some tag
tag_of _ = None

-- the { of a struct inside
abbrev pub opened : Parts → ℕ → Place → Option (List ℕ) → Next
opened ps n at None = None
opened ps n at (Some tag) = goes (last ps (Some (Opens at tag))) (n + 1) Begin

abbrev pub typed_name : Parts → ℕ → Place → Spec → Terminal → Next
typed_name ps n at spec t = naming ps n (row.Named at spec) (Some []) declarator_start t

abbrev pub typed : Parts → ℕ → Place → Spec → Terminal → Next
typed ps n at spec t = if is_int t.symbol then worded ps n at (both_words spec) else if is_open_brace t.symbol then opened ps n at (tag_of spec) else typed_name ps n at spec t

abbrev pub shift_mode : Parts → ℕ → RowMode → Terminal → Next
shift_mode ps n Begin t = beginning ps n t.symbol t.place
shift_mode ps n (Tagging at) t = tagging ps n at t.symbol t.text
shift_mode ps n (Typed at spec) t = typed ps n at spec t
shift_mode ps n (Naming type ds p) t = naming ps n type ds p t

-- one token more, or the members with it
abbrev pub members_offer : MembersParser → Terminal → Next
members_offer p t = shift_mode p.parts p.inside p.mode t

-- a struct up to its `{`
abbrev pub members_start : Place → List ℕ → MembersParser
members_start at tag = record { parts = Some (Opens at tag ∷ []); inside = 0; mode = Begin }
