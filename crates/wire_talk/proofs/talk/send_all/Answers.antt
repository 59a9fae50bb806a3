use Rattle.std.proofs.Common.{◌∙◌, inl, refl, arith}
use Rattle.nub_wire.specs.Delivery.{World, LinkSide}
use Rattle.nub_wire.specs.Calls.{took_on, none_sent}
use Rattle.wire_talk.proofs.Sending.{from_bound, sent_more, room_of, told_more}
use Rattle.wire_talk.proofs.talk.send_all.Goals as goal

pub loop-done-init : goal.loop-done-init
loop-done-init g c = record {
  bound = omega arith;
  calls = none_sent;
  faults = refl;
  told = λ (w : World) (s : LinkSide) e there none. inl (refl, e);
}

pub loop-done-preserved : goal.loop-done-preserved
loop-done-preserved g c =
    let i = c.loop-done.invariant in
    let s = c.in-Ok.ensures in
    record {
      bound = from_bound c.loop-done.done c.in-Ok.taken c.args.frame.now c.loop-done-test.true s.bound;
      calls = sent_more (took_on g.L.Link.took c.args.side) c.args.frame.now c.loop-done.done c.in-Ok.taken c.args.link.now c.loop-done.link c.send.new.self i.calls s.call;
      faults = s.cause ∙ i.faults;
      told = λ (w : World) (t : LinkSide) e there none.
          told_more c.args.side c.args.frame.now w t c.loop-done.done c.in-Ok.taken (g.L.Link.world c.loop-done.link) (g.L.Link.world c.send.new.self) there none
          c.requires.short c.loop-done-test.true (i.told w t e there none)
          (λ (v : World) is. room_of _ (g.L.Link.world c.loop-done.link) v s.room is)
          s.bytes;
    }
