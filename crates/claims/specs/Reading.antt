-- How the text of `eval`, `assign` and `code` is read: its grammar, its names and tags by the table, and the typing rules.
use Rattle.std.specs.Prelude.{◌≡◌, ◌⊎◌, ℕ, Bool, true, false, bytes_eq, List, [], ◌∷◌, map, Option, Ok, Err}
use Rattle.std.specs.List.{list_any}
use Rattle.c_tree.specs.declared.types.StructDef.{StructDef}
use Rattle.c_tree.specs.declared.types.Member.{Member}
use Rattle.c_tree.specs.declared.typed.Typed.{Typed}
use Rattle.c_typing.specs.Plain.{plain}
use Rattle.c_trees.specs.Expressions.{Tree}
use Rattle.c_names.specs.declared.mention.Mention.{Mention}
use Rattle.c_names.specs.declared.mention.Mention.TheVariants as mention
use Rattle.c_names.specs.Mentions.{mentions}
use Rattle.c_judge.specs.declared.symbol.Symbol.{Symbol}
use Rattle.c_judge.specs.declared.fault.ExprFault.TheVariants as fault
use Rattle.c_judge.specs.Session.{session}
use Rattle.c_judge.specs.Checks.{Checks}
use Rattle.c_reading.specs.Readings.{Use, BadSyntax, BadType, IsExpression, mode_of}
use Rattle.ps_store.specs.declared.object.DictId.{DictId}
use Rattle.frame_bytes.specs.declared.frame.Frame.{Frame}
use Rattle.table_model.specs.Symbols.{scope_of, symbol_named}
use Rattle.dialect_model.specs.TableUse.{Refused, Looks, gives, ◌>>=◌}
use Rattle.c_session.specs.Commands.{BadText}
use Rattle.c_bytes.specs.Lvalues.{Scene}
use Rattle.claims.specs.Side.{SideState, OnSide, target_of}
use Rattle.claims.specs.Frames.{chosen}
use Rattle.claims.specs.Printing.{or_no_scope}
use Rattle.claims.specs.Names.{Known, NameRow, StructRow, MemberOf, with_name, with_tag}

-- ---- the grammar

abbrev IsNoExpression : List ℕ → Type 0
IsNoExpression text = (e : Tree) → IsExpression text e → ⊥

abbrev pub parsing : List ℕ → OnSide Tree
parsing text t r t' = (t' ≡ t) × (((e : Tree) × IsExpression text e × (r ≡ Ok e)) ⊎ (IsNoExpression text × (r ≡ Err (Refused (BadText BadSyntax)))))

-- ---- names and tags, in the order of the text

abbrev pub is_known : Mention → Known → Bool
is_known (mention.Name text) k = list_any (λ (row : NameRow). bytes_eq row.name text) k.names
is_known (mention.Tag text) k = list_any (λ (row : StructRow). bytes_eq row.tag text) k.structs

abbrev pub telling : (scope : Option DictId) → Mention → Known → OnSide Known
telling scope (mention.Name text) k = do
  found ← Looks (λ s. symbol_named s scope text)
  x ← or_no_scope found
  Looks (λ s. with_name s k text x)
telling scope (mention.Tag text) k = Looks (λ s. with_tag s k text)

-- one that is known is not looked up again
abbrev telling_once : (known : Bool) → (scope : Option DictId) → Mention → Known → OnSide Known
telling_once true scope m k = gives k
telling_once false scope m k = telling scope m k

abbrev pub telling_all : (scope : Option DictId) → List Mention → Known → OnSide Known
telling_all scope [] k = gives k
telling_all scope (m ∷ ms) k = telling_once (is_known m k) scope m k >>= telling_all scope ms

-- ---- types: those of the table as the checker takes them

abbrev IsMember : MemberOf → Member → Type 0
IsMember row m = (m.name ≡ row.name) × (m.at ≡ row.at) × (plain m.ctype ≡ row.ctype)

abbrev AreMembers : List MemberOf → List Member → Type 0
AreMembers [] [] = Unit {0}
AreMembers (row ∷ rows) (m ∷ ms) = IsMember row m × AreMembers rows ms
AreMembers rows ms = ⊥

abbrev IsStruct : StructRow → StructDef → Type 0
IsStruct row d = (d.tag ≡ row.tag) × (d.size ≡ row.size) × AreMembers row.members d.members

abbrev pub AreStructs : List StructRow → List StructDef → Type 0
AreStructs [] [] = Unit {0}
AreStructs (row ∷ rows) (d ∷ ds) = IsStruct row d × AreStructs rows ds
AreStructs rows ds = ⊥

abbrev IsSymbol : NameRow → Symbol → Type 0
IsSymbol row s = (s.name ≡ row.name) × (plain s.ctype ≡ row.ctype) × (s.register ≡ row.in_register) × (s.function ≡ row.of_function)

abbrev pub AreSymbols : List NameRow → List Symbol → Type 0
AreSymbols [] [] = Unit {0}
AreSymbols (row ∷ rows) (s ∷ ss) = IsSymbol row s × AreSymbols rows ss
AreSymbols rows ss = ⊥

-- ---- the typing rules

-- the typed tree of an expression, with the structs that its types name by number
pub record TypedText : Type 0 where
  pub tree : Typed
  pub defs : List StructDef

pub record HasType (u : Use) (k : Known) (e : Tree) (x : TypedText) : Type 0 where
  pub symbols : List Symbol
  pub are_symbols : AreSymbols k.names symbols
  pub are_structs : AreStructs k.structs x.defs
  pub checks : Checks (session symbols x.defs) (mode_of u) e (Ok x.tree)

-- a rule is broken, or a form stands in it that is forbidden here
pub record BreaksRule (u : Use) (k : Known) (e : Tree) : Type 0 where
  pub symbols : List Symbol
  pub defs : List StructDef
  pub are_symbols : AreSymbols k.names symbols
  pub are_structs : AreStructs k.structs defs
  pub breaks : ((rule : ℕ) × Checks (session symbols defs) (mode_of u) e (Err (fault.Rule rule))) ⊎ ((at : ℕ) × Checks (session symbols defs) (mode_of u) e (Err (fault.Forbidden at)))

abbrev pub typing : Use → Known → Tree → OnSide TypedText
typing u k e t r t' = (t' ≡ t) × (((x : TypedText) × HasType u k e x × (r ≡ Ok x)) ⊎ (BreaksRule u k e × (r ≡ Err (Refused (BadText BadType)))))

-- ---- all

-- a text that was read in the chosen frame: the frame, what the text is evaluated in, and its tree
pub record ReadText : Type 0 where
  pub frame : Frame
  pub scene : Scene
  pub tree : Typed

abbrev symbol_of : NameRow → DictId
symbol_of n = n.symbol

abbrev pub scene_of : SideState → Frame → (scope : Option DictId) → Known → TypedText → Scene
scene_of a f scope k x = record { target = target_of a; frame = f; scope = scope; symbols = map symbol_of k.names; defs = x.defs }

-- the frame, the grammar, the names and tags, the typing rules
abbrev pub reading : Use → SideState → List ℕ → OnSide ReadText
reading u a text = do
  f ← chosen a
  e ← parsing text
  scope ← Looks (λ s. scope_of s a.frame f)
  k ← telling_all scope (mentions e) (record { names = []; structs = [] })
  x ← typing u k e
  gives (record { frame = f; scene = scene_of a f scope k x; tree = x.tree })
