use Rattle.std.proofs.Common.{ap, ◌∙◌}
use Rattle.ps_places.specs.Places.{named_text}
use Rattle.ps_ops.proofs.Pointing.{where_unasked, where_halts, where_leaves}
use Rattle.ps_ops.proofs.Calls.{led_left}
use Rattle.ps_ops.proofs.objects.find_where.Goals as goal

pub returns-in-Err-clause-acts : goal.returns-in-Err-clause-acts
returns-in-Err-clause-acts g c =
    let v = c.args.view.now in
    let core = c.args.core.now in
    let m = c.args.memory.now in
    let seen = g.W.AbsMem.seen in
    λ out. where_unasked v m.below.below.order m.below.cell out (seen m.below.below.below) core c.in-Err.error (c.top_name.ensures.name ∙ ap (named_text core.store) c.in-Err.is)

pub returns-in-Err-scope_in-clause-acts : goal.returns-in-Err-scope_in-clause-acts
returns-in-Err-scope_in-clause-acts g c =
    let v = c.args.view.now in
    let core = c.args.core.now in
    let m = c.args.memory.now in
    let seen = g.W.AbsMem.seen in
    λ out. where_halts v m.below.below.order m.below.cell out (seen m.below.below.below) core (seen c.scope_in.new.m) _ (c.top_name.ensures.name ∙ ap (named_text core.store) c.in-Ok.is) c.in-Err-scope_in.halt c.in-Err-scope_in.ensures.looks

pub returns-in-Ok-scope_in-clause-acts : goal.returns-in-Ok-scope_in-clause-acts
returns-in-Ok-scope_in-clause-acts g c =
    let v = c.args.view.now in
    let core = c.args.core.now in
    let m = c.args.memory.now in
    let seen = g.W.AbsMem.seen in
    λ out. rw c.left.ensures
    (where_leaves v m.below.below.order m.below.cell out (seen m.below.below.below) core (seen c.scope_in.new.m) _ (c.top_name.ensures.name ∙ ap (named_text core.store) c.in-Ok.is) c.in-Ok-scope_in.scope c.find_symbol.result c.find_symbol.new.core c.in-Ok-scope_in.ensures.looks c.find_symbol.ensures.does)

pub returns-in-Ok-scope_in-clause-calls : goal.returns-in-Ok-scope_in-clause-calls
returns-in-Ok-scope_in-clause-calls g c =
    rw c.left.ensures (led_left g.W.AbsMem.leads c.args.memory.now.below.below.below c.scope_in.new.m c.find_symbol.result c.in-Ok-scope_in.ensures.calls)
