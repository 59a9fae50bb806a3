use Rattle.std.proofs.Common.{◌≡◌, subst}
use Rattle.session.specs.Meant.{AreThere, MayAlsoRun}
use Rattle.session.proofs.conversation.Session.run.Goals as goal

pub returns-in-Some-clause-meant : goal.returns-in-Some-clause-meant
returns-in-Some-clause-meant g c = λ b hs steady x may also.
    rw c.in-Some.is (c.resumed_both.ensures.meant b hs steady (subst (λ s. AreThere b g.L.Link.conduct (g.L.Link.world c.args.self.now.talk.memory.below.below.below.link) c.args.self.now.first s hs) c.in-Some.is x) may (subst (λ s. MayAlsoRun s hs.second) c.in-Some.is also))
