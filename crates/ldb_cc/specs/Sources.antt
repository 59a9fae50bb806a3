-- Which sources are a program of C, and why others are refused, in the order in which causes are told: limits of C90 5.2.4.1, tokens 6.1, grammar 6.7, constraints 6.3 to 6.9.
use Rattle.std.specs.Prelude.{◌≡◌, ◌≤◌, ◌<◌, ℕ, zero, suc, ◌+◌, Bool, true, false, nat_lt, List, [], ◌∷◌, length, take, Some, None, slice_get, Result, Ok, Err}
use Rattle.std.specs.List.{AllByRecursion, list_any}
use Rattle.c_lex.specs.declared.token.Token.{Token}
use Rattle.c_lex.specs.Grammar.{Lexes, Faults as FaultsAt, start, after}
use Rattle.c_symbol.specs.Terminals.{terminals}
use Rattle.c_trees.specs.declared.unit.External.{External}
use Rattle.c_syntax.specs.Grammar.{IsUnit}
use Rattle.c_tree.specs.declared.rows.Program.{Program}
use Rattle.c_file.specs.Programs.{Fault, Faults}
use Rattle.c_file.specs.Programs as told
use Rattle.c_file.specs.Made.{Each}
use Rattle.c_check.specs.Faulty.{IsTooBig, Checks}
use Rattle.ldb_cc.specs.declared.fault.BuildFault.{BuildFault}
use Rattle.ldb_cc.specs.declared.fault.BuildFault.TheVariants as cause

-- ---- texts

-- a text of more than 1,048,576 bytes
unfoldable pub is_long : List ℕ → Bool
is_long text = nat_lt 1048576 (length text)

-- the text of this number is so, and those before it are otherwise
pub record IsFirst (before there : List ℕ → Type 0) (n : ℕ) (texts : List (List ℕ)) : Type 0 where
  pub those_before : AllByRecursion before (take n texts)
  pub text : List ℕ
  pub is : slice_get texts n ≡ Some text
  pub holds : there text

-- the text of a number; a number that there is none of has no bytes
abbrev pub text_of : List (List ℕ) → ℕ → List ℕ
text_of [] n = []
text_of (t ∷ ts) zero = t
text_of (t ∷ ts) (suc n) = text_of ts n

-- an offset in a text stands in this line and column, both from 1
pub record StandsAt (text : List ℕ) (at line column : ℕ) : Type 0 where
  pub line_is : line ≡ (after start (take at text)).line
  pub column_is : column ≡ (after start (take at text)).column

-- ---- tokens

-- a text has these tokens
abbrev pub HasTokens : List ℕ → List Token → Type 0
HasTokens text ts = Lexes start text ts

abbrev pub IsLexed : List ℕ → Type 0
IsLexed text = (ts : List Token) × HasTokens text ts

-- in this line and column no token begins, or one that is out of range
abbrev pub IsUnlexed : (line column : ℕ) → List ℕ → Type 0
IsUnlexed line column text = (at : ℕ) × FaultsAt start text at × StandsAt text at line column

-- how many tokens there are in all
abbrev pub token_count : List (List Token) → ℕ
token_count [] = 0
token_count (ts ∷ all) = length ts + token_count all

-- no text is too long, and these are their tokens
pub record AreLexed (texts : List (List ℕ)) (all : List (List Token)) : Type 0 where
  pub short : list_any is_long texts ≡ false
  pub tokens : Each HasTokens texts all

-- ---- trees

-- the tokens of a text are this file, which is nested so deep
pub record IsFile (text : List ℕ) (externals : List External) (height : ℕ) : Type 0 where
  pub tokens : List Token
  pub lexes : HasTokens text tokens
  pub unit : IsUnit externals height (terminals text tokens)

abbrev pub HasTree : List ℕ → Type 0
HasTree text = (externals : List External) × (height : ℕ) × IsFile text externals height

abbrev pub HasNoTree : List ℕ → Type 0
HasNoTree text = (externals : List External) (height : ℕ) → IsFile text externals height → ⊥

-- nested at most 64 deep, and deeper
abbrev pub IsTree : List ℕ → List External → Type 0
IsTree text externals = (height : ℕ) × (height ≤ 64) × IsFile text externals height

abbrev pub IsShallow : List ℕ → Type 0
IsShallow text = (externals : List External) × IsTree text externals

abbrev pub IsDeep : List ℕ → Type 0
IsDeep text = (externals : List External) × (height : ℕ) × (64 < height) × IsFile text externals height

-- no text is too long, and they have at most 40,000 tokens in all
abbrev pub AreFew : List (List ℕ) → Type 0
AreFew texts = (all : List (List Token)) × AreLexed texts all × (token_count all ≤ 40000)

-- these are their trees, none of which is too deep
pub record AreFiles (texts : List (List ℕ)) (units : List (List External)) : Type 0 where
  pub few : AreFew texts
  pub trees : Each IsTree texts units

-- ---- programs

-- the files have this fault
abbrev pub HasFault : List (List ℕ) → Fault → Type 0
HasFault texts fault = (units : List (List External)) × AreFiles texts units × Faults units (Some fault)

-- the rule is broken at an offset that stands in this line and column
abbrev pub BreaksAt : List (List ℕ) → (rule unit line column : ℕ) → Type 0
BreaksAt texts rule unit line column = (at : ℕ) × HasFault texts (told.Rule rule unit at) × StandsAt (text_of texts unit) at line column

-- Why sources are refused. Of a file without a tree, and of one that is nested too deep, the place is free.
abbrev pub IsCause : List (List ℕ) → BuildFault → Type 0
IsCause texts cause.Source = list_any is_long texts ≡ true
IsCause texts (cause.Lex unit line column) = (list_any is_long texts ≡ false) × IsFirst IsLexed (IsUnlexed line column) unit texts
IsCause texts cause.Tokens = (all : List (List Token)) × AreLexed texts all × (40000 < token_count all)
IsCause texts (cause.Syntax unit line column) = AreFew texts × IsFirst HasTree HasNoTree unit texts
IsCause texts (cause.Deep unit line column) = AreFew texts × AllByRecursion HasTree texts × IsFirst IsShallow IsDeep unit texts
IsCause texts cause.Arguments = HasFault texts told.Arguments
IsCause texts (cause.Rule rule unit line column) = BreaksAt texts rule unit line column
IsCause texts (cause.Twice name) = HasFault texts (told.Twice name)
IsCause texts (cause.Unknown name) = HasFault texts (told.Undefined name)
IsCause texts cause.NoMain = HasFault texts told.NoMain
IsCause texts cause.Statics = (units : List (List External)) × AreFiles texts units × Faults units None × IsTooBig units
IsCause texts cause.NoMemory = Unit {0}

-- the checked program of sources with these names
abbrev pub IsProgram : (names texts : List (List ℕ)) → Program → Type 0
IsProgram names texts p = (units : List (List External)) × AreFiles texts units × Checks names units (Ok p)

-- the checked program of sources with these names, or the cause why there is none
abbrev pub Reads : (names texts : List (List ℕ)) → Result Program BuildFault → Type 0
Reads names texts (Ok p) = IsProgram names texts p
Reads names texts (Err f) = IsCause texts f
