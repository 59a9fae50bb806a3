use Rattle.nub_wire.specs.Delivery.{World}
use Rattle.nub_wire.specs.Calls.{took_on, gave_on}
use Rattle.wire_talk.proofs.Exchanging.{judged_counts, judged_fits, next_of, next_none, next_told, next_none_told}
use Rattle.wire_talk.proofs.talk.hear_next.Goals as goal

pub returns-in-Err-clause-calls : goal.returns-in-Err-clause-calls
returns-in-Err-clause-calls g c =
    next_none (took_on g.L.Link.took c.args.side) (gave_on g.L.Link.gave c.args.side) c.args.asked.now c.args.printed c.args.link.now c.read_frame.new.link c.in-Err.fault c.in-Err.ensures.calls

pub returns-in-Err-clause-told : goal.returns-in-Err-clause-told
returns-in-Err-clause-told g c = λ (w : World) is.
    next_none_told g.L.Link.conduct c.args.side c.args.asked.now c.args.printed w c.in-Err.fault (g.L.Link.world c.read_frame.new.link) (c.in-Err.ensures.told w is)

pub returns-in-Ok-clause-calls : goal.returns-in-Ok-clause-calls
returns-in-Ok-clause-calls g c =
    next_of (took_on g.L.Link.took c.args.side) (gave_on g.L.Link.gave c.args.side) c.args.asked.now c.in-Ok.reply c.args.printed c.args.link.now c.read_frame.new.link c.judged.result
    c.in-Ok.ensures.fits c.in-Ok.ensures.calls c.judged.ensures

pub returns-in-Ok-clause-fits : goal.returns-in-Ok-clause-fits
returns-in-Ok-clause-fits g c = judged_fits c.args.asked.now c.in-Ok.reply c.args.printed c.judged.result c.judged.ensures c.in-Ok.ensures.fits

pub returns-in-Ok-clause-cause : goal.returns-in-Ok-clause-cause
returns-in-Ok-clause-cause g c = judged_counts c.args.asked.now c.in-Ok.reply c.args.printed (g.L.Link.faults c.args.link.now) (g.L.Link.faults c.read_frame.new.link) c.judged.result c.judged.ensures c.in-Ok.ensures.cause

pub returns-in-Ok-clause-told : goal.returns-in-Ok-clause-told
returns-in-Ok-clause-told g c = λ (w : World) is.
    next_told g.L.Link.conduct c.args.side c.args.asked.now c.in-Ok.reply c.args.printed w c.judged.result (g.L.Link.world c.read_frame.new.link) c.in-Ok.ensures.fits (c.in-Ok.ensures.told w is) c.judged.ensures
