use Rattle.std.proofs.Common.{None, ◌∙◌, sym}
use Rattle.ps_pointers.specs.Pointers as pointers
use Rattle.ps_leaves.specs.Leaves as leaves
use Rattle.ps_bare.proofs.Acting.{did, failed, difference_bare, difference_failed}
use Rattle.ps_bare.proofs.objects.subtract.Goals as goal

pub returns-in-Ok-clause-acts : goal.returns-in-Ok-clause-acts
returns-in-Ok-clause-acts c =
    let core = c.args.core.now in
    λ cell. did 24 cell core c.leave_difference.new.core c.leave_difference.result (pointers.leaving_difference None None c.in-Ok.size core) (difference_bare cell core _ (sym c.difference_operands.ensures.asked ∙ c.in-Ok.is)) c.leave_difference.ensures.does

pub returns-in-Err-clause-acts : goal.returns-in-Err-clause-acts
returns-in-Err-clause-acts c =
    let core = c.args.core.now in
    λ cell. failed cell core 24 c.in-Err.error (difference_failed cell core c.in-Err.error (sym c.difference_operands.ensures.asked ∙ c.in-Err.is))
