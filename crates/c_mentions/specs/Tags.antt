-- The tags of structs that a program mentions, in the order of the text.
use Rattle.std.specs.Prelude.{ℕ, Bool, if◌then◌else◌, List, [], ◌∷◌, ◌++◌, Option, Some, None}
use denote.Ref.{Bor}
use Rattle.c_trees.specs.declared.expression.Spec.{Spec}
use Rattle.c_trees.specs.declared.expression.Spec.TheVariants as spec
use Rattle.c_trees.specs.Expressions.{Tree, Leaf, Paren, Index, Call, With, Member, After, Prefix, SizeofType, Cast, Binary, Choice, Stars, Around, Bounded, Unbounded}
use Rattle.c_trees.specs.Declarators as declarator
use Rattle.c_trees.specs.Declarators.{DeclaratorTree, Name, Parens, Pointers, Array, Function, Taking, Named, Unnamed}
use Rattle.c_trees.specs.Initializers.{InitialTree, Value, Braces, Item}
use Rattle.c_trees.specs.declared.declaration.Declared.{Declared}
use Rattle.c_trees.specs.declared.declaration.Local.{Local}
use Rattle.c_trees.specs.declared.declaration.FileSpec.{FileSpec}
use Rattle.c_trees.specs.declared.declaration.FileSpec.TheVariants as file
use Rattle.c_trees.specs.declared.declaration.MemberPart.{MemberPart}
use Rattle.c_trees.specs.declared.declaration.MemberPart.TheVariants.{Opens, Row, Closes}
use Rattle.c_trees.specs.Statements.{StatementTree, Empty, Evaluate, Begun, Declares, Also, Closed, If, IfElse, Headed, Do, Break, Continue, Return}
use Rattle.c_trees.specs.declared.statement.Head.{Head}
use Rattle.c_trees.specs.declared.statement.Head.TheVariants as head
use Rattle.c_trees.specs.declared.unit.External.{External}
use Rattle.c_trees.specs.declared.unit.External.TheVariants.{Declaration, Definition}
use Rattle.c_typing.specs.Declarations.{is_named}

abbrev pub now : Bor (List ℕ) → List ℕ
now t = t.now

abbrev pub in_spec : Spec → List (List ℕ)
in_spec (spec.Struct tag) = tag ∷ []
in_spec _ = []

abbrev pub in_tree : Tree → List (List ℕ)
in_tree (Leaf _ _ _) = []
in_tree (Paren _ a) = in_tree a
in_tree (Index _ a b) = in_tree a ++ in_tree b
in_tree (Call _ f) = in_tree f
in_tree (With c a) = in_tree c ++ in_tree a
in_tree (Member _ a _ _ _) = in_tree a
in_tree (After _ a _) = in_tree a
in_tree (Prefix _ _ a) = in_tree a
in_tree (SizeofType _ s d) = in_spec s ++ in_tree d
in_tree (Cast _ s d a) = in_spec s ++ in_tree d ++ in_tree a
in_tree (Binary _ _ a b) = in_tree a ++ in_tree b
in_tree (Choice _ c a b) = in_tree c ++ in_tree a ++ in_tree b
in_tree (Stars _) = []
in_tree (Around _ d) = in_tree d
in_tree (Bounded d e) = in_tree d ++ in_tree e
in_tree (Unbounded d) = in_tree d

abbrev pub in_part : {A : Type 0} → (A → List (List ℕ)) → Option A → List (List ℕ)
in_part f None = []
in_part f (Some e) = f e

abbrev pub in_all : {A : Type 0} → (A → List (List ℕ)) → List A → List (List ℕ)
in_all f [] = []
in_all f (x ∷ xs) = f x ++ in_all f xs

abbrev pub in_declarator : DeclaratorTree → List (List ℕ)
in_declarator (Name _ _) = []
in_declarator (Parens _ d) = in_declarator d
in_declarator (Pointers _ _ d) = in_declarator d
in_declarator (Array _ d e) = in_declarator d ++ in_part in_tree e
in_declarator (Function _ d) = in_declarator d
in_declarator (Taking d p) = in_declarator d ++ in_declarator p
in_declarator (Named _ _ s d) = in_spec s ++ in_declarator d
in_declarator (Unnamed _ s d) = in_spec s ++ in_tree d

abbrev pub in_initial : InitialTree → List (List ℕ)
in_initial (Value e) = in_tree e
in_initial (Braces _) = []
in_initial (Item i j) = in_initial i ++ in_initial j

abbrev pub in_declared : Declared → List (List ℕ)
in_declared d = in_declarator d.declarator ++ in_part in_initial d.initial

abbrev pub in_local : Local → List (List ℕ)
in_local l = in_spec l.spec ++ in_all in_declared l.names

abbrev pub in_head : Head → List (List ℕ)
in_head (head.While _ e) = in_tree e
in_head (head.For _ i e k) = in_part in_tree i ++ in_part in_tree e ++ in_part in_tree k
in_head (head.Switch _ e) = in_tree e
in_head (head.Case _ e) = in_tree e
in_head (head.Default _) = []

abbrev pub in_statement : StatementTree → List (List ℕ)
in_statement (Evaluate e) = in_tree e
in_statement (Declares b l) = in_statement b ++ in_local l
in_statement (Also b s) = in_statement b ++ in_statement s
in_statement (Closed b _) = in_statement b
in_statement (If _ e s) = in_tree e ++ in_statement s
in_statement (IfElse _ e s r) = in_tree e ++ in_statement s ++ in_statement r
in_statement (Headed h s) = in_head h ++ in_statement s
in_statement (Do _ s e) = in_statement s ++ in_tree e
in_statement (Return _ e) = in_part in_tree e
in_statement _ = []

abbrev pub in_member : MemberPart → List (List ℕ)
in_member (Opens _ tag) = tag ∷ []
in_member (Row _ s ds) = in_spec s ++ in_all in_declarator ds
in_member (Closes ds) = in_all in_declarator ds

abbrev pub in_file_spec : FileSpec → List (List ℕ)
in_file_spec (file.Named s) = in_spec s
in_file_spec (file.Members ps) = in_all in_member ps

abbrev pub in_external : External → List (List ℕ)
in_external (Declaration h) = in_file_spec h.spec ++ in_all in_declared h.names
in_external (Definition h x) = in_file_spec h.spec ++ in_declarator h.declarator ++ in_statement x

-- each tag once, in the order of their first places
abbrev pub each_once : List (List ℕ) → List (List ℕ) → List (List ℕ)
each_once seen [] = seen
each_once seen (t ∷ ts) = if is_named seen t then each_once seen ts else each_once (seen ++ t ∷ []) ts
