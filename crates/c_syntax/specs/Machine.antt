-- Reading a unit token by token.
use Rattle.std.specs.Prelude.{◌≡◌, List, [], ◌∷◌, ◌++◌, Option, Some, None, Result, Ok, Err}
use Rattle.c_lex.specs.declared.token.Place.{Place}
use Rattle.c_symbol.specs.declared.terminal.Terminal.{Terminal}
use Rattle.c_symbol.specs.Terminals.{pushed}
use Rattle.c_expr.specs.declared.state.SynFault.{SynFault}
use Rattle.c_expr.specs.declared.state.SynFault.TheVariants.{Syntax, Deep, NoMemory}
use Rattle.c_declaration.specs.declared.built.Built.{Built}
use Rattle.c_declaration.specs.declared.step.Step.{Step}
use Rattle.c_declaration.specs.declared.step.Step.TheVariants as step
use Rattle.c_trees.specs.declared.declaration.Head.{Head}
use Rattle.c_trees.specs.declared.declaration.FunctionHead.{FunctionHead}
use Rattle.c_declaration.specs.declared.state.FileParser.{FileParser}
use Rattle.c_declaration.specs.declared.state.FileParser.TheVariants as file
use Rattle.c_declaration.specs.declared.state.ReadHead.{ReadHead}
use Rattle.c_declaration.specs.declared.state.ReadHead.TheVariants as read
use Rattle.c_declaration.specs.FileReading.{file_offer}
use Rattle.c_trees.specs.Statements.{StatementTree}
use Rattle.c_statement.specs.declared.state.Mode.{Mode as BlockMode}
use Rattle.c_statement.specs.declared.state.Mode.TheVariants.{Done}
use Rattle.c_statement.specs.declared.state.Reader.{Reader}
use Rattle.c_statement.specs.Machine.{begun_block}
use Rattle.c_statement.specs.Machine as block
use Rattle.c_trees.specs.declared.unit.External.{External}
use Rattle.c_trees.specs.declared.unit.External.TheVariants.{Declaration, Definition}
use Rattle.c_syntax.specs.declared.state.Kept.{Kept}
use Rattle.c_syntax.specs.declared.state.Kept.TheVariants.{All, TooDeep}
use Rattle.c_syntax.specs.declared.state.Mode.{Mode}
use Rattle.c_syntax.specs.declared.state.Mode.TheVariants.{Between, Heading, Body}
use Rattle.c_syntax.specs.declared.state.UnitParser.{UnitParser}

-- the next state, or no tree
abbrev pub Next : Type 0
Next = Option UnitParser

abbrev pub goes : Kept → Mode → Next
goes k mode = Some (record { kept = k; mode = mode })

-- an answer is the next state, unless memory ran out
abbrev pub Gives : Result UnitParser SynFault → Next → Type 0
Gives (Ok p) next = next ≡ Some p
Gives (Err (Syntax _)) next = next ≡ None
Gives (Err (Deep _)) next = ⊥
Gives (Err NoMemory) next = Unit {0}

-- one item more, and two parts, where they are there
abbrev pub one_more : {A : Type 0} → List A → Option A → Option (List A)
one_more xs None = None
one_more xs (Some x) = Some (xs ++ x ∷ [])

abbrev pub both : {A B : Type 0} → Option A → Option B → Option (A × B)
both None b = None
both (Some a) None = None
both (Some a) (Some b) = Some (a, b)

-- one external declaration more, which begins there
abbrev pub kept_at : Place → Option (List External) → Kept
kept_at at None = TooDeep at
kept_at at (Some es) = All es

abbrev pub more : Kept → Place → Option External → Kept
more (All es) at e = kept_at at (one_more es e)
more (TooDeep first) at e = TooDeep first

abbrev pub declared_of : Option Head → Option External
declared_of None = None
declared_of (Some d) = Some (Declaration d)

abbrev pub defined_by : Option (FunctionHead × Built StatementTree) → Option External
defined_by None = None
defined_by (Some p) = Some (Definition p.0 p.1.tree)

abbrev pub defined_of : Option FunctionHead → Option (Built StatementTree) → Option External
defined_of d b = defined_by (both d b)

-- a definition begins with what is too high in it
abbrev pub deep_place : Place → Place → Option FunctionHead → Place
deep_place at brace None = at
deep_place at brace (Some d) = brace

-- one token more of a function's body
abbrev pub with_body : BlockMode → Kept → Place → Place → Option FunctionHead → Reader → Next
with_body (Done b) k at brace f r = goes (more k (deep_place at brace f) (defined_of f b)) Between
with_body _ k at brace f r = goes k (Body at brace f r)

abbrev pub bodied : Kept → Place → Place → Option FunctionHead → Option Reader → Next
bodied k at brace f None = None
bodied k at brace f (Some r) = with_body r.mode k at brace f r

-- one token more of a declaration or of what stands before a body
abbrev pub ended : Kept → Place → ReadHead → Next
ended k place (read.Declaration at d) = goes (more k at (declared_of d)) Between
ended k place (read.Function at d) = goes k (Body at place d (begun_block place))

abbrev pub headed : Kept → Place → Option (Step FileParser ReadHead) → Next
headed k place None = None
headed k place (Some (step.Goes q)) = goes k (Heading q)
headed k place (Some (step.Ends a)) = ended k place a

abbrev pub shift_mode : Mode → Kept → Terminal → Next
shift_mode Between k t = headed k t.place (file_offer file.Begin t)
shift_mode (Heading p) k t = headed k t.place (file_offer p t)
shift_mode (Body at brace f r) k t = bodied k at brace f (block.shift r t)

-- one token more
abbrev pub shift : UnitParser → Terminal → Next
shift p t = shift_mode p.mode p.kept t

-- all tokens
abbrev pub run : List Terminal → UnitParser → Next
run [] p = Some p
run (t ∷ ts) p = elim (shift p t) [ None ↦ None | Some q ↦ run ts q ]

-- nothing was read
abbrev pub start : UnitParser
start = record { kept = All []; mode = Between }

-- what was read, where it is whole
abbrev pub some_read : Kept → Option Kept
some_read (All []) = None
some_read (All (e ∷ es)) = Some (All (e ∷ es))
some_read (TooDeep at) = Some (TooDeep at)

abbrev pub whole_mode : Mode → Kept → Option Kept
whole_mode Between k = some_read k
whole_mode _ k = None

abbrev pub whole : Next → Option Kept
whole None = None
whole (Some p) = whole_mode p.mode p.kept

abbrev pub reading : List Terminal → Option Kept
reading ts = whole (run ts start)

-- an answer is what was read, unless memory ran out
abbrev pub Reads : Result Kept SynFault → Option Kept → Type 0
Reads (Ok k) r = r ≡ Some k
Reads (Err (Syntax _)) r = r ≡ None
Reads (Err (Deep _)) r = ⊥
Reads (Err NoMemory) r = Unit {0}

-- tokens as they come, of which `last` is kept back until it is seen that no string literal follows it
abbrev pub shift_some : Option Terminal → UnitParser → Next
shift_some None p = Some p
shift_some (Some t) p = shift p t

abbrev pub feed : List Terminal → Option Terminal → UnitParser → Next
feed [] last p = shift_some last p
feed (t ∷ ts) last p = elim (shift_some (pushed last t).0 p) [ None ↦ None | Some q ↦ feed ts (pushed last t).1 q ]
