-- The trees that declarators, parameters and initializers are.
use Rattle.c_trees.specs.Declarators.{DeclaratorTree, with_parameters}
use Rattle.c_trees.specs.Declarators as tree
use Rattle.c_trees.specs.Initializers.{InitialTree, with_items}
use Rattle.c_trees.specs.Initializers as initial
use Rattle.c_trees.specs.declared.declaration.DeclaratorNode.{DeclaratorNode}
use Rattle.c_trees.specs.declared.declaration.DeclaratorNode.TheVariants.{Name, Parens, Pointers, Array, Function}
use Rattle.c_trees.specs.declared.declaration.ParameterNode.{ParameterNode}
use Rattle.c_trees.specs.declared.declaration.ParameterNode.TheVariants.{Named, Unnamed}
use Rattle.c_trees.specs.declared.declaration.InitialNode.{InitialNode}
use Rattle.c_trees.specs.declared.declaration.InitialNode.TheVariants.{Value, Braces}

abbrev pub tree_of : DeclaratorNode → DeclaratorTree
tree_of (Name at text) = tree.Name at text
tree_of (Parens at d) = tree.Parens at d.value
tree_of (Pointers at n d) = tree.Pointers at n d.value
tree_of (Array at d e) = tree.Array at d.value e
tree_of (Function at d ps) = with_parameters (tree.Function at d.value) ps.items

abbrev pub parameter_of : ParameterNode → DeclaratorTree
parameter_of (Named at r spec d) = tree.Named at r spec d
parameter_of (Unnamed at spec a) = tree.Unnamed at spec a

abbrev pub initial_of : InitialNode → InitialTree
initial_of (Value e) = initial.Value e
initial_of (Braces at items) = with_items (initial.Braces at) items.items
