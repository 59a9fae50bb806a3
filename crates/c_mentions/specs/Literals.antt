-- The string literals of a part of a program, in the order of the text (C90 6.1.4).
use Rattle.std.specs.Prelude.{ℕ, suc, Bool, ◌==◌, if◌then◌else◌, List, [], ◌∷◌, ◌++◌, Option, Some, None}
use Rattle.c_lex.specs.declared.token.Place.{Place}
use Rattle.c_symbol.specs.declared.symbol.LeafKind.{LeafKind}
use Rattle.c_symbol.specs.declared.symbol.LeafKind.TheVariants as leaf
use Rattle.c_trees.specs.Expressions.{Tree, Leaf, Paren, Index, Call, With, Member, After, Prefix, SizeofType, Cast, Binary, Choice, Stars, Around, Bounded, Unbounded}
use Rattle.c_trees.specs.Declarators.{DeclaratorTree, Name, Parens, Pointers, Array, Function, Taking, Named, Unnamed}
use Rattle.c_trees.specs.Initializers.{InitialTree, Value, Braces, Item}
use Rattle.c_trees.specs.declared.declaration.Declared.{Declared}
use Rattle.c_trees.specs.declared.declaration.Local.{Local}
use Rattle.c_trees.specs.declared.declaration.FileSpec.{FileSpec}
use Rattle.c_trees.specs.declared.declaration.FileSpec.TheVariants as file
use Rattle.c_trees.specs.declared.declaration.MemberPart.{MemberPart}
use Rattle.c_trees.specs.declared.declaration.MemberPart.TheVariants.{Opens, Row, Closes}
use Rattle.c_trees.specs.Statements.{StatementTree, Empty, Evaluate, Begun, Declares, Also, Closed, If, IfElse, Headed, Do, Break, Continue, Return}
use Rattle.c_trees.specs.declared.statement.Head.{Head}
use Rattle.c_trees.specs.declared.statement.Head.TheVariants as head
use Rattle.c_mentions.specs.declared.literals.Literal.{Literal as Found}

-- a literal: where it begins, and its characters without the NUL
pub record Literal : Type 0 where
  pub at : ℕ
  pub text : List ℕ

abbrev pub texts : List Literal → List (List ℕ)
texts [] = []
texts (l ∷ ls) = l.text ∷ texts ls

abbrev pub literal : Found → Literal
literal l = record { at = l.at; text = l.text.now }

abbrev pub in_leaf : Place → LeafKind → List ℕ → List Literal
in_leaf at leaf.Text text = record { at = at.at; text = text } ∷ []
in_leaf at _ text = []

abbrev pub in_tree : Tree → List Literal
in_tree (Leaf at kind text) = in_leaf at kind text
in_tree (Paren _ a) = in_tree a
in_tree (Index _ a b) = in_tree a ++ in_tree b
in_tree (Call _ f) = in_tree f
in_tree (With c a) = in_tree c ++ in_tree a
in_tree (Member _ a _ _ _) = in_tree a
in_tree (After _ a _) = in_tree a
in_tree (Prefix _ _ a) = in_tree a
in_tree (SizeofType _ s d) = in_tree d
in_tree (Cast _ s d a) = in_tree d ++ in_tree a
in_tree (Binary _ _ a b) = in_tree a ++ in_tree b
in_tree (Choice _ c a b) = in_tree c ++ in_tree a ++ in_tree b
in_tree (Stars _) = []
in_tree (Around _ d) = in_tree d
in_tree (Bounded d e) = in_tree d ++ in_tree e
in_tree (Unbounded d) = in_tree d

abbrev pub in_part : {A : Type 0} → (A → List Literal) → Option A → List Literal
in_part f None = []
in_part f (Some e) = f e

abbrev pub in_all : {A : Type 0} → (A → List Literal) → List A → List Literal
in_all f [] = []
in_all f (x ∷ xs) = f x ++ in_all f xs

abbrev pub in_declarator : DeclaratorTree → List Literal
in_declarator (Name _ _) = []
in_declarator (Parens _ d) = in_declarator d
in_declarator (Pointers _ _ d) = in_declarator d
in_declarator (Array _ d e) = in_declarator d ++ in_part in_tree e
in_declarator (Function _ d) = in_declarator d
in_declarator (Taking d p) = in_declarator d ++ in_declarator p
in_declarator (Named _ _ s d) = in_declarator d
in_declarator (Unnamed _ s d) = in_tree d

abbrev pub in_member : MemberPart → List Literal
in_member (Opens _ tag) = []
in_member (Row _ s ds) = in_all in_declarator ds
in_member (Closes ds) = in_all in_declarator ds

abbrev pub in_file_spec : FileSpec → List Literal
in_file_spec (file.Named s) = []
in_file_spec (file.Members ps) = in_all in_member ps

-- a local's initializer is an expression
abbrev pub in_value : InitialTree → List Literal
in_value (Value e) = in_tree e
in_value _ = []

abbrev pub in_declared : Declared → List Literal
in_declared d = in_declarator d.declarator ++ in_part in_value d.initial

abbrev pub in_local : Local → List Literal
in_local l = in_all in_declared l.names

abbrev pub in_head : Head → List Literal
in_head (head.While _ e) = in_tree e
in_head (head.For _ i e k) = in_part in_tree i ++ in_part in_tree e ++ in_part in_tree k
in_head (head.Switch _ e) = in_tree e
in_head (head.Case _ e) = in_tree e
in_head (head.Default _) = []

abbrev pub in_statement : StatementTree → List Literal
in_statement (Evaluate e) = in_tree e
in_statement (Declares b l) = in_statement b ++ in_local l
in_statement (Also b s) = in_statement b ++ in_statement s
in_statement (Closed b _) = in_statement b
in_statement (If _ e s) = in_tree e ++ in_statement s
in_statement (IfElse _ e s r) = in_tree e ++ in_statement s ++ in_statement r
in_statement (Headed h s) = in_head h ++ in_statement s
in_statement (Do _ s e) = in_statement s ++ in_tree e
in_statement (Return _ e) = in_part in_tree e
in_statement _ = []

-- the numbers of literals, by where they begin, where the first of them has this number
abbrev pub number_at : ℕ → List Literal → ℕ → ℕ
number_at n [] at = 0
number_at n (l ∷ ls) at = if l.at == at then n else number_at (suc n) ls at
