use Rattle.ps_emit.proofs.Followed.{fronted}
use Rattle.std.proofs.Common.{slice_get}
use Rattle.ps_emit.specs.Places.{file_in, without_ending}
use Rattle.ps_emit.proofs.places.add_label_front.Goals as goal

pub returns-in_ok-push : goal.returns-in_ok-push
returns-in_ok-push c =
    let h = rw (c.without_ending.ensures, c.file_of.ensures) at c.in_ok-add_bytes.ensures in
    rw c.if-o.true
    (fronted c.args.text.now c.add_bytes.new.text c.push.new.self (without_ending (file_in (slice_get c.args.units.now c.args.o.now.unit))) h c.in_ok-push.ensures.ok)
