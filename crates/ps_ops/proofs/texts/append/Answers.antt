use Rattle.std.proofs.Common.{◌≡◌, arith}
use Rattle.ps_ops.proofs.Placing.{put_acts, put_char_acts}
use Rattle.ps_ops.proofs.Calls.{led_left}
use Rattle.ps_ops.proofs.texts.append.Goals as goal

pub returns-in-28-clause-acts : goal.returns-in-28-clause-acts
returns-in-28-clause-acts g c =
    let v = c.args.view.now in
    let core = c.args.core.now in
    let m = c.args.memory.now in
    let seen = g.W.AbsMem.seen in
    rw (c.in-28.is, c.left.ensures)
    (put_acts v m.below.below.order m.below.cell c.args.out.now (seen m.below.below.below) core c.put.new.out c.put.result c.put.new.core c.put.ensures.does)

pub returns-in-29-clause-acts : goal.returns-in-29-clause-acts
returns-in-29-clause-acts g c =
    let v = c.args.view.now in
    let core = c.args.core.now in
    let m = c.args.memory.now in
    let seen = g.W.AbsMem.seen in
    rw (c.in-29.is, c.left-in-29.ensures)
    (put_char_acts v m.below.below.order m.below.cell c.args.out.now (seen m.below.below.below) core c.put_char.new.out c.put_char.result c.put_char.new.core c.put_char.ensures.does)

pub returns-in-30-clause-acts : goal.returns-in-30-clause-acts
returns-in-30-clause-acts g c = rw c.in-30.is c.put_address.ensures.acts

pub returns-in_default-clause-acts : goal.returns-in_default-clause-acts
returns-in_default-clause-acts g c =
    let last : c.args.op ≡ 31 = omega arith in
    rw last c.put_characters.ensures.acts

pub returns-in-28-clause-calls : goal.returns-in-28-clause-calls
returns-in-28-clause-calls g c =
    let m = c.args.memory.now.below.below.below in
    rw c.left.ensures (led_left g.W.AbsMem.leads m m c.put.result (g.met.W.AbsMem.stays m))

pub returns-in-29-clause-calls : goal.returns-in-29-clause-calls
returns-in-29-clause-calls g c =
    let m = c.args.memory.now.below.below.below in
    rw c.left-in-29.ensures (led_left g.W.AbsMem.leads m m c.put_char.result (g.met.W.AbsMem.stays m))
