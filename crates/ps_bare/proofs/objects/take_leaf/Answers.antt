use Rattle.std.proofs.Common.{None}
use Rattle.ps_leaves.specs.Leaves as leaves
use Rattle.ps_bare.proofs.Acting.{did, leaf_bare}
use Rattle.ps_bare.proofs.objects.take_leaf.Goals as goal

pub returns-clause-acts : goal.returns-clause-acts
returns-clause-acts c =
    let core = c.args.core.now in
    λ cell. did 26 cell core c.leave_leaf.new.core c.leave_leaf.result (leaves.leaving_leaf None core) (leaf_bare cell core) c.leave_leaf.ensures.does
