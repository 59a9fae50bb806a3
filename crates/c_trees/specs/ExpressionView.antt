-- The tree that an expression is.
use Rattle.c_trees.specs.Expressions.{Tree, with_arguments}
use Rattle.c_trees.specs.Expressions as tree
use Rattle.c_trees.specs.declared.expression.Node.{Node}
use Rattle.c_trees.specs.declared.expression.Node.TheVariants.{Leaf, Paren, Index, Call, Member, After, Prefix, SizeofType, Cast, Binary, Choice}

abbrev pub tree_of : Node → Tree
tree_of (Leaf at kind text) = tree.Leaf at kind text
tree_of (Paren at a) = tree.Paren at a.value
tree_of (Index at a b) = tree.Index at a.value b.value
tree_of (Call at a args) = with_arguments (tree.Call at a.value) args.items
tree_of (Member at a access name text) = tree.Member at a.value access name text
tree_of (After at a step) = tree.After at a.value step
tree_of (Prefix at op a) = tree.Prefix at op a.value
tree_of (SizeofType at name) = tree.SizeofType at name.spec name.declarator
tree_of (Cast at name a) = tree.Cast at name.spec name.declarator a.value
tree_of (Binary at op a b) = tree.Binary at op a.value b.value
tree_of (Choice at a b c) = tree.Choice at a.value b.value c.value
