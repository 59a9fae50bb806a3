use Rattle.std.proofs.Common.{◌≡◌, List, drop, subst, IfOk}
use Rattle.c_tree.specs.declared.types.StructDef.{StructDef}
use Rattle.c_tree.specs.Layout.{members_of}
use Rattle.c_defs.specs.Depths.{deepest}
use Rattle.c_defs.specs.Leaves.{leaf_count, leaves_of_members}
use Rattle.c_defs.proofs.view.StructsView.leaves_behind.Goals as goal

pub returns : goal.returns
unfolding deepest
returns c = subst (λ (ds : List StructDef). IfOk c.leaves_behind.result (λ n. n ≡ leaves_of_members (leaf_count ds 64) (drop c.args.k (members_of ds c.args.s)))) c.self.view_is c.leaves_behind.ensures
