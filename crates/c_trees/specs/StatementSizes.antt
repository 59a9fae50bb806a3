-- Each part of a statement is less deep than the statement.
use Rattle.std.specs.Prelude.{ℕ, ◌+◌, ◌≤◌, List, [], ◌∷◌}
use Rattle.std.proofs.Common.{arith}
use denote.Param.Weighed.{most}
use Rattle.c_trees.specs.Statements.{StatementTree, Also, depth, with_statements}

pub grows_statements : (b : StatementTree) (ss : List StatementTree) → depth b ≤ depth (with_statements b ss)
grows_statements b [] = omega arith
grows_statements b (s ∷ ss) = omega (arith, grows_statements (Also b s) ss)

pub most_statements : (b : StatementTree) (ss : List StatementTree) → most (λ k. depth k + 1) ss ≤ depth (with_statements b ss)
most_statements b [] = omega arith
most_statements b (s ∷ ss) = omega (arith, grows_statements (Also b s) ss, most_statements (Also b s) ss)
