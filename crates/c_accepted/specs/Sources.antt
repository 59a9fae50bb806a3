-- What holds of the trees that a text is read to.
use Rattle.std.specs.Prelude.{◌≡◌, ◌<◌, ◌^◌, false, ◌==◌, List, [], ◌∷◌, Option, Some, None}
use Rattle.std.specs.List.{AllByRecursion}
use Rattle.ldb_words.specs.Word.{word_of_signed}
use Rattle.c_symbol.specs.declared.symbol.LeafKind.{LeafKind}
use Rattle.c_symbol.specs.declared.symbol.LeafKind.TheVariants as leaf
use Rattle.c_trees.specs.Expressions.{Tree, Leaf, Paren, Index, Call, With, Member, After, Prefix, SizeofType, Cast, Binary, Choice, Stars, Around, Bounded, Unbounded}
use Rattle.c_trees.specs.Initializers.{InitialTree, Value, Braces, Item}
use Rattle.c_trees.specs.declared.declaration.Declared.{Declared}
use Rattle.c_trees.specs.Statements.{StatementTree, Evaluate, Begun, Declares, Also, Closed, If, IfElse, Headed, Do, Return}
use Rattle.c_trees.specs.declared.statement.Head.{Head}
use Rattle.c_trees.specs.declared.statement.Head.TheVariants as head
use Rattle.c_trees.specs.declared.unit.External.{External}
use Rattle.c_trees.specs.declared.unit.External.TheVariants.{Declaration, Definition}
use Rattle.c_mentions.specs.Literals.{Literal, in_tree}

-- ---- expressions

-- literals begin at different places
abbrev pub AreApart : List Literal → Type 0
AreApart [] = Unit {0}
AreApart (l ∷ ls) = AllByRecursion (λ m. (l.at == m.at) ≡ false) ls × AreApart ls

abbrev pub IsApart : Tree → Type 0
IsApart e = AreApart (in_tree e)

abbrev pub IsWord : LeafKind → Type 0
IsWord (leaf.Constant i) = i.value < 2 ^ 32
IsWord (leaf.Character c) = word_of_signed c < 2 ^ 32
IsWord _ = Unit {0}

-- each constant is a word
abbrev pub AreWords : Tree → Type 0
AreWords (Leaf at kind text) = IsWord kind
AreWords (Paren at a) = AreWords a
AreWords (Index at a b) = AreWords a × AreWords b
AreWords (Call at f) = AreWords f
AreWords (With c a) = AreWords c × AreWords a
AreWords (Member at a w q name) = AreWords a
AreWords (After at a step) = AreWords a
AreWords (Prefix at w a) = AreWords a
AreWords (SizeofType at s d) = AreWords d
AreWords (Cast at s d a) = AreWords d × AreWords a
AreWords (Binary at w a b) = AreWords a × AreWords b
AreWords (Choice at c a b) = AreWords c × AreWords a × AreWords b
AreWords (Stars n) = Unit {0}
AreWords (Around n d) = AreWords d
AreWords (Bounded d e) = AreWords d × AreWords e
AreWords (Unbounded d) = AreWords d

-- ---- statements

-- a block with only its declarations so far
abbrev pub IsOpened : StatementTree → Type 0
IsOpened (Begun _) = Unit {0}
IsOpened (Declares b l) = IsOpened b
IsOpened _ = ⊥

-- the declarations of each block stand before its statements (C90 6.6.2)
abbrev pub IsInOrder : StatementTree → Type 0
IsInOrder (Declares b l) = IsOpened b
IsInOrder (Also b s) = IsInOrder b × IsInOrder s
IsInOrder (Closed b _) = IsInOrder b
IsInOrder (If _ _ s) = IsInOrder s
IsInOrder (IfElse _ _ s r) = IsInOrder s × IsInOrder r
IsInOrder (Headed _ s) = IsInOrder s
IsInOrder (Do _ s _) = IsInOrder s
IsInOrder _ = Unit {0}

module _ (P : Tree → Type 0) where
  abbrev pub AllInPart : Option Tree → Type 0
  AllInPart None = Unit {0}
  AllInPart (Some e) = P e

  abbrev pub AllInInitial : Option InitialTree → Type 0
  AllInInitial (Some (Value e)) = P e
  AllInInitial _ = Unit {0}

  abbrev pub AllInNames : List Declared → Type 0
  AllInNames [] = Unit {0}
  AllInNames (d ∷ ds) = AllInInitial d.initial × AllInNames ds

  abbrev pub AllInHead : Head → Type 0
  AllInHead (head.While _ e) = P e
  AllInHead (head.For _ i e k) = AllInPart i × AllInPart e × AllInPart k
  AllInHead (head.Switch _ e) = P e
  AllInHead (head.Case _ e) = P e
  AllInHead (head.Default _) = Unit {0}

  -- a property of each expression in a statement, but for the bounds of declarators
  abbrev pub AllIn : StatementTree → Type 0
  AllIn (Evaluate e) = P e
  AllIn (Declares b l) = AllIn b × AllInNames l.names
  AllIn (Also b s) = AllIn b × AllIn s
  AllIn (Closed b _) = AllIn b
  AllIn (If _ e s) = P e × AllIn s
  AllIn (IfElse _ e s r) = P e × AllIn s × AllIn r
  AllIn (Headed h s) = AllInHead h × AllIn s
  AllIn (Do _ s e) = AllIn s × P e
  AllIn (Return _ e) = AllInPart e
  AllIn _ = Unit {0}

-- ---- initializers at file scope

-- expressions whose constants are words, and lists in braces with an item, as each has in the grammar (C90 6.5.7)
abbrev mutual
  pub IsInitializer : InitialTree → Type 0
  IsInitializer (Value e) = AreWords e
  IsInitializer (Braces at) = ⊥
  IsInitializer (Item i j) = AreItems i × IsInitializer j

  pub AreItems : InitialTree → Type 0
  AreItems (Value e) = ⊥
  AreItems (Braces at) = Unit {0}
  AreItems (Item i j) = AreItems i × IsInitializer j

abbrev pub IsInitialized : Option InitialTree → Type 0
IsInitialized None = Unit {0}
IsInitialized (Some i) = IsInitializer i

abbrev pub IsDeclared : Declared → Type 0
IsDeclared d = IsInitialized d.initial

-- ---- files

-- In a body declarations stand before statements, the literals of an expression begin at different places, and constants are words.
abbrev pub IsBody : StatementTree → Type 0
IsBody x = IsInOrder x × AllIn IsApart x × AllIn AreWords x

-- what holds of each external declaration of a text
abbrev pub IsText : External → Type 0
IsText (Declaration h) = AllByRecursion IsDeclared h.names
IsText (Definition h x) = IsBody x

-- each file is that of a text
abbrev pub AreTexts : List (List External) → Type 0
AreTexts us = AllByRecursion (AllByRecursion IsText) us
