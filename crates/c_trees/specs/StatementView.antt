-- The tree that a statement is.
use Rattle.std.specs.Prelude.{Option, Some, None}
use Rattle.c_trees.specs.Statements.{StatementTree, with_locals, with_statements}
use Rattle.c_trees.specs.Statements as tree
use Rattle.c_trees.specs.declared.statement.Head.TheVariants as head
use Rattle.c_trees.specs.declared.statement.StatementNode.{StatementNode}
use Rattle.c_trees.specs.declared.statement.StatementNode.TheVariants.{Empty, Evaluate, Block, If, While, Do, For, Switch, Case, Default, Break, Continue, Return}

abbrev pub statement_of : StatementNode → StatementTree
statement_of (Empty at) = tree.Empty at
statement_of (Evaluate e) = tree.Evaluate e
statement_of (Block at ls ss end) = tree.Closed (with_statements (with_locals (tree.Begun at) ls) ss.items) end
statement_of (If at e s None) = tree.If at e s.value
statement_of (If at e s (Some t)) = tree.IfElse at e s.value t.value
statement_of (While at e s) = tree.Headed (head.While at e) s.value
statement_of (Do at s e) = tree.Do at s.value e
statement_of (For at d e f s) = tree.Headed (head.For at d e f) s.value
statement_of (Switch at e s) = tree.Headed (head.Switch at e) s.value
statement_of (Case at e s) = tree.Headed (head.Case at e) s.value
statement_of (Default at s) = tree.Headed (head.Default at) s.value
statement_of (Break at) = tree.Break at
statement_of (Continue at) = tree.Continue at
statement_of (Return at e) = tree.Return at e
