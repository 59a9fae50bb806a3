use Rattle.std.proofs.Common.{arith}
use Rattle.ps_ops.proofs.States.{anchor_acts, absolute_acts, register_acts, struct_acts, past_acts}
use Rattle.ps_ops.proofs.Calls.{led_left}
use Rattle.ps_ops.proofs.dialect.act.Goals as goal

pub returns-in-0-clause-acts : goal.returns-in-0-clause-acts
returns-in-0-clause-acts g c =
    let v = c.args.view.now in
    let core = c.args.core.now in
    let m = c.args.memory.now in
    let seen = g.W.AbsMem.seen in
    rw c.left.ensures (anchor_acts v m.below.below.order m.below.cell c.args.out.now (seen m.below.below.below) core c.args.op c.anchor.result c.anchor.new.core c.in-0.is c.anchor.ensures.does)

pub returns-in-1-clause-acts : goal.returns-in-1-clause-acts
returns-in-1-clause-acts g c =
    let v = c.args.view.now in
    let core = c.args.core.now in
    let m = c.args.memory.now in
    let seen = g.W.AbsMem.seen in
    rw c.left-in-1.ensures (absolute_acts v m.below.below.order m.below.cell c.args.out.now (seen m.below.below.below) core c.args.op c.absolute.result c.absolute.new.core c.in-1.is c.absolute.ensures.does)

pub returns-in-2-clause-acts : goal.returns-in-2-clause-acts
returns-in-2-clause-acts g c = rw c.in-2.is (c.local_in.ensures.acts c.args.out.now)

pub returns-in-3-clause-acts : goal.returns-in-3-clause-acts
returns-in-3-clause-acts g c =
    let v = c.args.view.now in
    let core = c.args.core.now in
    let m = c.args.memory.now in
    let seen = g.W.AbsMem.seen in
    rw c.left-in-3.ensures (register_acts v m.below.below.order m.below.cell c.args.out.now (seen m.below.below.below) core c.args.op c.register.result c.register.new.core c.in-3.is c.register.ensures.does)

pub returns-in-4-clause-acts : goal.returns-in-4-clause-acts
returns-in-4-clause-acts g c = rw c.in-4.is (c.place_value.ensures.acts c.args.out.now)

pub returns-in-5-clause-acts : goal.returns-in-5-clause-acts
returns-in-5-clause-acts g c = rw c.in-5.is (c.find_where.ensures.acts c.args.out.now)

pub returns-in-6-clause-acts : goal.returns-in-6-clause-acts
returns-in-6-clause-acts g c = rw c.in-6.is (c.fetch_at.ensures.acts c.args.out.now)

pub returns-in-7-clause-acts : goal.returns-in-7-clause-acts
returns-in-7-clause-acts g c = rw c.in-7.is (c.store_at.ensures.acts c.args.out.now)

pub returns-in-23-clause-acts : goal.returns-in-23-clause-acts
returns-in-23-clause-acts g c = rw c.in-23.is (c.add.ensures.acts c.args.out.now)

pub returns-in-24-clause-acts : goal.returns-in-24-clause-acts
returns-in-24-clause-acts g c = rw c.in-24.is (c.subtract.ensures.acts c.args.out.now)

pub returns-in-25-clause-acts : goal.returns-in-25-clause-acts
returns-in-25-clause-acts g c = rw c.in-25.is (c.compare.ensures.acts c.args.out.now)

pub returns-in-26-clause-acts : goal.returns-in-26-clause-acts
returns-in-26-clause-acts g c = rw c.in-26.is (c.take_leaf.ensures.acts c.args.out.now)

pub returns-in-27-clause-acts : goal.returns-in-27-clause-acts
returns-in-27-clause-acts g c =
    let v = c.args.view.now in
    let core = c.args.core.now in
    let m = c.args.memory.now in
    let seen = g.W.AbsMem.seen in
    rw c.left-in-27.ensures (struct_acts v m.below.below.order m.below.cell c.args.out.now (seen m.below.below.below) core c.args.op c.find_struct.result c.find_struct.new.core c.in-27.is c.find_struct.ensures.does)

pub returns-in-32-clause-acts : goal.returns-in-32-clause-acts
returns-in-32-clause-acts g c = rw c.in-32.is (c.measure_run.ensures.acts c.args.out.now)

pub returns-in_default-clause-acts : goal.returns-in_default-clause-acts
returns-in_default-clause-acts g c =
    let v = c.args.view.now in
    let core = c.args.core.now in
    let m = c.args.memory.now in
    let seen = g.W.AbsMem.seen in
    past_acts v m.below.below.order m.below.cell c.args.out.now (seen m.below.below.below) core c.args.op (omega arith)

pub returns-in-0-clause-calls : goal.returns-in-0-clause-calls
returns-in-0-clause-calls g c =
    let m = c.args.memory.now.below.below.below in
    rw c.left.ensures (led_left g.W.AbsMem.leads m m c.anchor.result (g.met.W.AbsMem.stays m))

pub returns-in-1-clause-calls : goal.returns-in-1-clause-calls
returns-in-1-clause-calls g c =
    let m = c.args.memory.now.below.below.below in
    rw c.left-in-1.ensures (led_left g.W.AbsMem.leads m m c.absolute.result (g.met.W.AbsMem.stays m))

pub returns-in-3-clause-calls : goal.returns-in-3-clause-calls
returns-in-3-clause-calls g c =
    let m = c.args.memory.now.below.below.below in
    rw c.left-in-3.ensures (led_left g.W.AbsMem.leads m m c.register.result (g.met.W.AbsMem.stays m))

pub returns-in-27-clause-calls : goal.returns-in-27-clause-calls
returns-in-27-clause-calls g c =
    let m = c.args.memory.now.below.below.below in
    rw c.left-in-27.ensures (led_left g.W.AbsMem.leads m m c.find_struct.result (g.met.W.AbsMem.stays m))
