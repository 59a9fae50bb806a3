-- One more declaration, and one more statement.
use Rattle.std.proofs.Common.{◌≡◌, List, [], ◌∷◌, ◌++◌, refl}
use Rattle.c_trees.specs.declared.declaration.Local.{Local}
use Rattle.c_trees.specs.Statements.{StatementTree, Declares, Also, with_locals, with_statements}

pub one_more_local : (b : StatementTree) (ls : List Local) (l : Local) → with_locals b (ls ++ l ∷ []) ≡ Declares (with_locals b ls) l
one_more_local b [] l = refl
one_more_local b (x ∷ xs) l = one_more_local (Declares b x) xs l

pub one_more_statement : (b : StatementTree) (ss : List StatementTree) (s : StatementTree) → with_statements b (ss ++ s ∷ []) ≡ Also (with_statements b ss) s
one_more_statement b [] s = refl
one_more_statement b (x ∷ xs) s = one_more_statement (Also b x) xs s
