use Rattle.std.proofs.Common.{sym, ◌∙◌}
use Rattle.ps_ops.proofs.Pointing.{run_unasked, run_halts, run_leaves}
use Rattle.ps_ops.proofs.Calls.{led_left}
use Rattle.ps_ops.proofs.objects.measure_run.Goals as goal

pub returns-in-Err-clause-acts : goal.returns-in-Err-clause-acts
returns-in-Err-clause-acts g c =
    let v = c.args.view.now in
    let core = c.args.core.now in
    let m = c.args.memory.now in
    let seen = g.W.AbsMem.seen in
    λ out. run_unasked v m.below.below.order m.below.cell out (seen m.below.below.below) core c.in-Err.error (sym c.top_word.ensures.word ∙ c.in-Err.is)

pub returns-in-Err-found-clause-acts : goal.returns-in-Err-found-clause-acts
returns-in-Err-found-clause-acts g c =
    let v = c.args.view.now in
    let core = c.args.core.now in
    let m = c.args.memory.now in
    let seen = g.W.AbsMem.seen in
    λ out. run_halts v m.below.below.order m.below.cell out (seen m.below.below.below) core (seen c.found.new.m) c.in-Ok.pointer (sym c.top_word.ensures.word ∙ c.in-Ok.is) c.in-Err-found.halt c.in-Err-found.ensures.looks

pub returns-in-Ok-found-clause-acts : goal.returns-in-Ok-found-clause-acts
returns-in-Ok-found-clause-acts g c =
    let v = c.args.view.now in
    let core = c.args.core.now in
    let m = c.args.memory.now in
    let seen = g.W.AbsMem.seen in
    λ out. rw c.left.ensures
    (run_leaves v m.below.below.order m.below.cell out (seen m.below.below.below) core (seen c.found.new.m) c.in-Ok.pointer (sym c.top_word.ensures.word ∙ c.in-Ok.is) c.in-Ok-found.object c.leave_run.result c.leave_run.new.core c.in-Ok-found.ensures.looks c.leave_run.ensures.does)

pub returns-in-Ok-found-clause-calls : goal.returns-in-Ok-found-clause-calls
returns-in-Ok-found-clause-calls g c =
    rw c.left.ensures (led_left g.W.AbsMem.leads c.args.memory.now.below.below.below c.found.new.m c.leave_run.result c.in-Ok-found.ensures.calls)
