use Rattle.std.proofs.Common.{None}
use Rattle.session.proofs.Resumed.{first_failed, one_done}
use Rattle.session.proofs.resumes.resumed_one.Goals as goal

pub returns-in-Err-clause-meant : goal.returns-in-Err-clause-meant
returns-in-Err-clause-meant g c = λ b hs steady x may.
    first_failed b g.L.Link.conduct steady c.args.limit c.args.first.now c.resumed.new.side None None hs hs.second _ _ _ _ _ _ _ _ c.in-Err.fault
    (c.in-Err.ensures.told b hs.first hs.second x.first_there.stands x.first_there.order (steady.orders hs.first.machine) may) c.in-Err.ensures.cause

pub returns-in-Ok-clause-meant : goal.returns-in-Ok-clause-meant
returns-in-Ok-clause-meant g c = λ b hs steady x may.
    let first = c.args.first.now in
    let event = c.in-Ok.event in
    let store = first.inquiry.core.store in
    one_done b g.L.Link.conduct steady c.args.limit first c.resumed.new.side _ hs event _ _ _ _ _ _ _ x
    (c.in-Ok.ensures.told b hs.first hs.second x.first_there.stands x.first_there.order (steady.orders hs.first.machine) may)
    record {
      came = c.in-Ok.ensures.came;
      row = c.in-Ok.ensures.other;
      stay = c.in-Ok.ensures.stay;
      kept = c.settle_side.ensures.kept store store;
      own = c.settle_side.ensures.own;
      frame = c.settle_side.ensures.frame store;
      other = c.settle_side.ensures.other;
    }
