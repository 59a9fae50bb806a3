-- What is served of a text: the one text of PostScript that its tree has, or why there is none.
use Rattle.std.specs.Prelude.{◌≡◌, ◌≢◌, ◌⊎◌, ℕ, Bool, true, false, ◌≤◌, List, [], ◌∷◌, ◌++◌, length, drop, map, bytes_eq, Option, Some, None, Result, Ok, Err, if◌then◌else◌}
use Rattle.std.specs.List.{list_any}
use Rattle.c_lex.specs.declared.token.Token.{Token}
use Rattle.c_lex.specs.Grammar.{HasTokens}
use Rattle.c_symbol.specs.Terminals.{terminals}
use Rattle.c_trees.specs.Expressions.{Tree}
use Rattle.c_expr.specs.Grammar.{Spells}
use Rattle.c_names.specs.declared.mention.Mention.{Mention}
use Rattle.c_names.specs.declared.mention.Mention.TheVariants as mention
use Rattle.c_names.specs.Mentions.{mentions}
use Rattle.c_tree.specs.declared.types.CType.{CType}
use Rattle.c_tree.specs.declared.types.StructDef.{StructDef}
use Rattle.c_tree.specs.declared.types.Member.{Member}
use Rattle.c_tree.specs.declared.typed.Typed.{Typed}
use Rattle.c_tree.specs.Types.{type_of}
use Rattle.c_typing.specs.Plain.{plain, value_type, Plain}
use Rattle.c_judge.specs.declared.symbol.Symbol.{Symbol}
use Rattle.c_judge.specs.declared.check.Mode.{Mode}
use Rattle.c_judge.specs.declared.check.Mode.TheVariants as mode
use Rattle.c_judge.specs.declared.fault.ExprFault.{ExprFault}
use Rattle.c_judge.specs.declared.fault.ExprFault.TheVariants as fault
use Rattle.c_judge.specs.Session.{session}
use Rattle.c_judge.specs.Checks.{Checks}
use Rattle.expr_serve.specs.declared.fault.Refuse.{Refuse}
use Rattle.expr_serve.specs.declared.fault.Refuse.TheVariants as refuse
use Rattle.expr_serve.specs.declared.serving.Server.{Server}
use Rattle.expr_serve.specs.declared.serving.Turn.{Turn}
use Rattle.expr_serve.specs.declared.serving.Turn.TheVariants as turn
use Rattle.expr_serve.specs.Texts.{IsExpression, IsLine}
use Rattle.expr_serve.specs.Codes.{text_of}

-- ---- the grammar

-- the text's tokens are this tree, of at most 64 levels
abbrev pub HasTree : List ℕ → Tree → Type 0
HasTree text tree = (ts : List Token) × (h : ℕ) × HasTokens text ts × (h ≤ 64) × Spells (terminals text ts) tree h

-- a text of at most 1,000 bytes is none
abbrev pub IsNone : List ℕ → Type 0
IsNone text = length text ≤ 1000 → IsExpression text → ⊥

-- reading refuses for nothing but the grammar
abbrev pub IsByGrammar : {A : Type 0} → Result A Refuse → Type 0
IsByGrammar (Err refuse.Scope) = ⊥
IsByGrammar (Err refuse.Rule) = ⊥
IsByGrammar _ = Unit {0}

-- why a text is not read: it is no expression, or memory runs out
abbrev pub IsUnread : List ℕ → Refuse → Type 0
IsUnread text refuse.Syntax = IsNone text
IsUnread text refuse.Scope = ⊥
IsUnread text refuse.Rule = ⊥
IsUnread text refuse.NoMemory = Unit {0}

abbrev pub IsParsed : List ℕ → Result Tree Refuse → Type 0
IsParsed text (Ok tree) = HasTree text tree
IsParsed text (Err refused) = IsUnread text refused

-- these are the names and tags that the text mentions, in its order
abbrev pub AreMentions : List ℕ → List Mention → Type 0
AreMentions text ms = (tree : Tree) × HasTree text tree × (ms ≡ mentions tree)

-- ---- the typing rules

module _ (text : List ℕ) (m : Mode) (names : List Symbol) (defs : List StructDef) where
  -- the text's tree, as the checker answers it among these names and structs
  abbrev pub IsAnswered : Result Typed ExprFault → Type 0
  IsAnswered r = (tree : Tree) × HasTree text tree × Checks (session names defs) m tree r

  -- it is no expression; or a name of it is not in scope; or a rule is broken, or a form stands in it that is forbidden here
  abbrev pub IsRefused : Refuse → Type 0
  IsRefused refuse.Syntax = IsNone text
  IsRefused refuse.Scope = (name : List ℕ) × IsAnswered (Err (fault.Scope name))
  IsRefused refuse.Rule = ((rule : ℕ) × IsAnswered (Err (fault.Rule rule))) ⊎ ((at : ℕ) × IsAnswered (Err (fault.Forbidden at)))
  IsRefused refuse.NoMemory = Unit {0}

  abbrev pub IsChecked : Result Typed Refuse → Type 0
  IsChecked (Ok typed) = IsAnswered (Ok typed)
  IsChecked (Err refused) = IsRefused refused

abbrev pub refusal_of : ExprFault → Refuse
refusal_of (fault.Scope name) = refuse.Scope
refusal_of (fault.Rule rule) = refuse.Rule
refusal_of (fault.Forbidden at) = refuse.Rule
refusal_of fault.NoMemory = refuse.NoMemory

-- ---- what is told

-- the type of what is left: an array is a pointer
abbrev pub given_type : Mode → CType → Plain
given_type mode.Value t = value_type (plain t)
given_type mode.Assign t = plain t

-- The text's tree among these names and structs, as the typing rules have it, and the text of PostScript that its pieces are, which is one line.
pub record IsServed (text : List ℕ) (m : Mode) (names : List Symbol) (defs : List StructDef) (postscript : List ℕ) (t : CType) : Type 0 where
  pub typed : Typed
  pub checks : IsAnswered text m names defs (Ok typed)
  pub written : postscript ≡ text_of names defs m typed
  pub line : IsLine postscript
  pub ctype : plain t ≡ given_type m (type_of typed)

abbrev pub IsTold : Server → Result (List ℕ × CType) Refuse → Type 0
IsTold s (Ok told) = IsServed s.text s.mode s.symbols.items s.defs.items told.0 told.1
IsTold s (Err refused) = IsRefused s.text s.mode s.symbols.items s.defs.items refused

-- ---- the beginning

-- what the text mentions is to be asked for, and nothing is answered yet
abbrev pub Begins : List ℕ → Mode → Server → Type 0
Begins text m s = (s.text ≡ text) × (s.mode ≡ m) × AreMentions text s.mentions.items × (s.symbols.items ≡ []) × (s.defs.items ≡ []) × (s.is_unknown ≡ false)

abbrev pub IsBegun : List ℕ → Mode → Result Server Refuse → Type 0
IsBegun text m (Ok s) = Begins text m s
IsBegun text m (Err refused) = IsUnread text refused

-- ---- turns

abbrev pub is_tagged : List ℕ → StructDef → Bool
is_tagged tag d = bytes_eq d.tag tag

abbrev pub is_named : List ℕ → Symbol → Bool
is_named name x = bytes_eq x.name name

-- a name or a tag that was answered
abbrev pub is_known : Mention → List Symbol → List StructDef → Bool
is_known (mention.Name name) names defs = list_any (is_named name) names
is_known (mention.Tag tag) names defs = list_any (is_tagged tag) defs

-- the first one that was not
abbrev pub first_open : List Mention → List Symbol → List StructDef → Option Mention
first_open [] names defs = None
first_open (m ∷ ms) names defs = if is_known m names defs then first_open ms names defs else Some m

abbrev pub asked : Server → Option Mention
asked s = first_open s.mentions.items s.symbols.items s.defs.items

abbrev pub EndsBy : (is_unknown : Bool) → Server → Refuse → Type 0
EndsBy true s refused = refused ≡ refuse.Scope
EndsBy false s refused = (refused ≢ refuse.NoMemory → asked s ≡ None) × IsRefused s.text s.mode s.symbols.items s.defs.items refused

-- Once a name was answered to be none the text is refused for that. Else what is asked is the first that was not answered, and the server stays;
-- and once all were, the text is served among what was answered, or refused.
abbrev pub IsTurn : Server → Result Turn Refuse → Type 0
IsTurn s (Ok (turn.Ask name server)) = (s.is_unknown ≡ false) × (asked s ≡ Some (mention.Name name)) × (server ≡ s)
IsTurn s (Ok (turn.AskTag tag server)) = (s.is_unknown ≡ false) × (asked s ≡ Some (mention.Tag tag)) × (server ≡ s)
IsTurn s (Ok (turn.Done postscript t)) = (s.is_unknown ≡ false) × (asked s ≡ None) × IsServed s.text s.mode s.symbols.items s.defs.items postscript t
IsTurn s (Err refused) = EndsBy s.is_unknown s refused

-- ---- answers

-- what a struct is, and its members, whose types are plain trees
abbrev pub member_as : Member → List ℕ × (ℕ × Plain)
member_as m = (m.name, (m.at, plain m.ctype))

abbrev pub struct_as : StructDef → List ℕ × (ℕ × List (List ℕ × (ℕ × Plain)))
struct_as d = (d.tag, (d.size, map member_as d.members))

-- the structs that were there, and behind them those of the answer that are new
abbrev pub IsLonger : (before given after : List StructDef) → Type 0
IsLonger before given after = map struct_as after ≡ map struct_as (before ++ drop (length before) given)

-- the text is the same, and what it asks for
abbrev pub Stays : Server → Server → Type 0
Stays s s' = (s'.text ≡ s.text) × (s'.mode ≡ s.mode) × (s'.mentions.items ≡ s.mentions.items)

-- nothing was answered
abbrev pub IsAsBefore : Server → Server → Type 0
IsAsBefore s s' = (s'.is_unknown ≡ s.is_unknown) × (s'.symbols.items ≡ s.symbols.items) × (map struct_as s'.defs.items ≡ map struct_as s.defs.items)

-- A name that is answered is known from then on, and so are the structs; one that is answered to be none is not in scope.
abbrev pub TakesName : Server → Option Symbol → List StructDef → Server → Result (Unit {0}) Refuse → Type 0
TakesName s None given s' r = (r ≡ Err refuse.Scope) × (s'.is_unknown ≡ true)
TakesName s (Some x) given s' (Ok u) = (s'.is_unknown ≡ s.is_unknown) × (s'.symbols.items ≡ s.symbols.items ++ (x ∷ [])) × IsLonger s.defs.items given s'.defs.items
TakesName s (Some x) given s' (Err r) = (r ≡ refuse.NoMemory) × IsAsBefore s s'

abbrev pub TakesTag : Server → List StructDef → Server → Result (Unit {0}) Refuse → Type 0
TakesTag s given s' (Ok u) = (s'.is_unknown ≡ s.is_unknown) × (s'.symbols.items ≡ s.symbols.items) × IsLonger s.defs.items given s'.defs.items
TakesTag s given s' (Err r) = (r ≡ refuse.NoMemory) × IsAsBefore s s'
