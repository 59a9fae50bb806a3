use Rattle.std.proofs.Common.{◌≡◌, List, subst, IfOk}
use Rattle.c_tree.specs.declared.types.StructDef.{StructDef}
use Rattle.c_typing.specs.Plain.{plain}
use Rattle.c_defs.specs.Depths.{deepest}
use Rattle.c_defs.specs.Leaves.{leaf_count}
use Rattle.c_defs.proofs.view.StructsView.leaf_count.Goals as goal

pub returns : goal.returns
unfolding deepest
returns c = subst (λ (ds : List StructDef). IfOk c.leaf_count.result (λ n. n ≡ leaf_count ds 64 (plain c.args.t.now))) c.self.view_is c.leaf_count.ensures
