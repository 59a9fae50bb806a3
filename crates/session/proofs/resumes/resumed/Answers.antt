use Rattle.session.proofs.Resumed.{told_turned}
use Rattle.session.proofs.resumes.resumed.Goals as goal

pub returns-clause-told : goal.returns-clause-told
returns-clause-told g c = λ b h beside.
    told_turned g.L.Link.world b g.L.Link.conduct c.args.side.now c.args.limit _ _ _ _ _ c.args.talk.now c.turn.new.talk c.kind-kind.result c.turn.ensures c.kind-kind.ensures.value (c.resume_side.ensures.told b) h beside
