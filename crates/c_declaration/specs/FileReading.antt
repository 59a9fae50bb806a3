-- Reading a declaration at file scope token by token, up to and with its `;`, or with the `{` of a function's body.
use Rattle.std.specs.Prelude.{ℕ, Bool, true, false, if◌then◌else◌, List, [], ◌∷◌, Option, Some, None}
use Rattle.c_lex.specs.declared.token.Place.{Place}
use Rattle.c_lex.specs.declared.keyword.Keyword.TheVariants as keyword
use Rattle.c_symbol.specs.declared.terminal.Terminal.{Terminal}
use Rattle.c_symbol.specs.declared.symbol.LeafKind.TheVariants.{Name}
use Rattle.c_symbol.specs.declared.symbol.BinaryOp.TheVariants.{Comma}
use Rattle.c_symbol.specs.declared.symbol.Symbol.{Symbol}
use Rattle.c_symbol.specs.declared.symbol.Symbol.TheVariants.{Leaf, Word, Binary, Keyword, Struct as StructWord, OpenBrace, Semicolon}
use Rattle.c_expr.specs.Grammar.{spec_of}
use Rattle.c_trees.specs.declared.expression.Spec.{Spec}
use Rattle.c_trees.specs.declared.expression.Spec.TheVariants.{Struct}
use Rattle.c_trees.specs.Declarators.{DeclaratorTree}
use Rattle.c_trees.specs.Initializers.{InitialTree}
use Rattle.c_declaration.specs.declared.built.Built.{Built}
use Rattle.c_trees.specs.declared.declaration.Declared.{Declared}
use Rattle.c_trees.specs.declared.declaration.Storage.{Storage}
use Rattle.c_trees.specs.declared.declaration.Storage.TheVariants.{Plain, Extern, Static}
use Rattle.c_trees.specs.declared.declaration.FileSpec.{FileSpec}
use Rattle.c_trees.specs.declared.declaration.FileSpec.TheVariants as file_spec
use Rattle.c_trees.specs.declared.declaration.MemberPart.{MemberPart}
use Rattle.c_trees.specs.declared.declaration.Head.{Head}
use Rattle.c_trees.specs.declared.declaration.FunctionHead.{FunctionHead}
use Rattle.c_declaration.specs.declared.state.NameParser.{NameParser}
use Rattle.c_declaration.specs.declared.state.ReadName.{ReadName}
use Rattle.c_declaration.specs.declared.state.ReadName.TheVariants.{Bare, With}
use Rattle.c_declaration.specs.declared.state.MembersParser.{MembersParser}
use Rattle.c_declaration.specs.declared.state.FileFront.{FileFront}
use Rattle.c_declaration.specs.declared.state.Names.{Names}
use Rattle.c_declaration.specs.declared.state.FileParser.{FileParser}
use Rattle.c_declaration.specs.declared.state.FileParser.TheVariants.{Begin, Stored, Tagging, Typed, Members, Whole, Naming}
use Rattle.c_declaration.specs.declared.state.ReadHead.{ReadHead}
use Rattle.c_declaration.specs.declared.state.ReadHead.TheVariants.{Declaration, Function}
use Rattle.c_declaration.specs.declared.step.Step.{Step}
use Rattle.c_declaration.specs.declared.step.Step.TheVariants.{Goes, Ends}
use Rattle.c_declaration.specs.DeclaratorReading.{both_words}
use Rattle.c_declaration.specs.NameReading.{name_offer, name_start}
use Rattle.c_declaration.specs.InitialReading.{is_open_brace}
use Rattle.c_declaration.specs.LocalReading.{is_int}
use Rattle.c_declaration.specs.MembersReading.{Parts, last, tree_in, tag_of, members_offer, members_start}
use Rattle.c_declaration.specs.Grown.{bare_name, name_with}

abbrev pub Next : Type 0
Next = Option (Step FileParser ReadHead)

abbrev pub goes : FileParser → Next
goes p = Some (Goes p)

abbrev pub front_at : Place → Storage → FileFront
front_at at st = record { place = at; storage = st }

-- both of two parts, where both are there
abbrev pub both : {A B C : Type 0} → (A → B → C) → Option A → Option B → Option C
both f None b = None
both f (Some a) None = None
both f (Some a) (Some b) = Some (f a b)

abbrev pub head_with : FileFront → FileSpec → List Declared → Head
head_with f spec ds = record { place = f.place; storage = f.storage; spec = spec; names = ds }

abbrev pub function_with : FileFront → FileSpec → DeclaratorTree → FunctionHead
function_with f spec d = record { place = f.place; storage = f.storage; spec = spec; declarator = d }

-- a name that was read, at file scope
abbrev pub bare_declared : Option DeclaratorTree → Option Declared
bare_declared None = None
bare_declared (Some d) = Some (bare_name d)

abbrev pub declared_of : ReadName → Option Declared
declared_of (Bare d) = bare_declared (tree_in d)
declared_of (With d i) = both name_with (tree_in d) (tree_in i)

abbrev pub no_names : Names
no_names = record { any = false; list = Some [] }

abbrev pub more_names : Names → ReadName → Names
more_names ds d = record { any = true; list = last ds.list (declared_of d) }

-- the `{` behind a name: a function's body, where that is the only name and has no initializer
abbrev pub body : FileFront → Option FileSpec → ReadName → Next
body f spec (Bare d) = Some (Ends (Function f.place (both (function_with f) spec (tree_in d))))
body f spec (With _ _) = None

-- the end of the declaration
abbrev pub declared : FileFront → Option FileSpec → Option (List Declared) → Next
declared f spec ds = Some (Ends (Declaration f.place (both (head_with f) spec ds)))

-- the token behind a name
abbrev pub behind_name : FileFront → Option FileSpec → Names → ReadName → Symbol → Next
behind_name f spec ds d (Binary Comma) = goes (Naming f spec (more_names ds d) name_start)
behind_name f spec ds d Semicolon = declared f spec (more_names ds d).list
behind_name f spec ds d OpenBrace = if ds.any then None else body f spec d
behind_name f spec ds d _ = None

abbrev pub name_offered : FileFront → Option FileSpec → Names → Symbol → Option (Step NameParser ReadName) → Next
name_offered f spec ds symbol None = None
name_offered f spec ds symbol (Some (Goes q)) = goes (Naming f spec ds q)
name_offered f spec ds symbol (Some (Ends d)) = behind_name f spec ds d symbol

abbrev pub naming : FileFront → Option FileSpec → Names → NameParser → Terminal → Next
naming f spec ds p t = name_offered f spec ds t.symbol (name_offer p t)

-- a type that is whole, and the token behind it
abbrev pub is_semicolon : Symbol → Bool
is_semicolon Semicolon = true
is_semicolon _ = false

abbrev pub whole : FileFront → Option FileSpec → Terminal → Next
whole f spec t = if is_semicolon t.symbol then declared f spec (Some []) else naming f spec no_names name_start t

-- the } of a struct with its members
abbrev pub struct_of : Parts → Option FileSpec
struct_of None = None
struct_of (Some ps) = Some (file_spec.Members ps)

abbrev pub members_offered : FileFront → Option (Step MembersParser Parts) → Next
members_offered f None = None
members_offered f (Some (Goes q)) = goes (Members f q)
members_offered f (Some (Ends ps)) = goes (Whole f (struct_of ps))

-- the { of a struct
abbrev pub opened : FileFront → Place → Option (List ℕ) → Next
opened f at None = None
opened f at (Some tag) = goes (Members f (members_start at tag))

abbrev pub worded : FileFront → Place → Option Spec → Next
worded f at None = None
worded f at (Some spec) = goes (Typed f at spec)

abbrev pub typed : FileFront → Place → Spec → Terminal → Next
typed f at spec t = if is_int t.symbol then worded f at (both_words spec) else if is_open_brace t.symbol then opened f at (tag_of spec) else whole f (Some (file_spec.Named spec)) t

-- the type
abbrev pub typing : FileFront → Symbol → Place → Next
typing f (Word w) at = goes (Typed f at (spec_of w))
typing f StructWord at = goes (Tagging f at)
typing f _ at = None

abbrev pub beginning : Symbol → Place → Next
beginning (Keyword keyword.Extern) at = goes (Stored (front_at at Extern))
beginning (Keyword keyword.Static) at = goes (Stored (front_at at Static))
beginning symbol at = typing (front_at at Plain) symbol at

abbrev pub tagging : FileFront → Place → Symbol → List ℕ → Next
tagging f at (Leaf Name) text = goes (Typed f at (Struct text))
tagging f at _ text = None

-- one token more, or the declaration with it
abbrev pub file_offer : FileParser → Terminal → Next
file_offer Begin t = beginning t.symbol t.place
file_offer (Stored f) t = typing f t.symbol t.place
file_offer (Tagging f at) t = tagging f at t.symbol t.text
file_offer (Typed f at spec) t = typed f at spec t
file_offer (Members f p) t = members_offered f (members_offer p t)
file_offer (Whole f spec) t = whole f spec t
file_offer (Naming f spec ds p) t = naming f spec ds p t
