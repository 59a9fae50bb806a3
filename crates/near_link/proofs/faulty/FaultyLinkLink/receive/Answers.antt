use Rattle.std.proofs.Common.{ap, subst, ℕ}
use Rattle.ldb_edge.specs.Count.{Rose}
use Rattle.near_link.specs.Faulty.{Faulty}
use Rattle.near_link.proofs.faulty.FaultyLinkLink.receive.Goals as goal

pub returns-in-Some-Fail-clause-cause : goal.returns-in-Some-Fail-clause-cause
returns-in-Some-Fail-clause-cause c =
    subst (λ (n : ℕ). Rose n c.fail.new.self.count) (ap (λ (f : Faulty). f.count) c.call.ensures.called) c.fail.ensures.rose
