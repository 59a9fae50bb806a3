use Rattle.debug_side.proofs.Replanted.{replanted}
use Rattle.side_meaning.proofs.Behind.{resumes, they_may_run}
use Rattle.side_meaning.proofs.laws.resumes_are_meant.Goals as goal

pub returns-clause-resumes : goal.returns-clause-resumes
returns-clause-resumes c = resumes (λ (target : _) (ps kept : _) (b d : _) (r : _) m e h t. replanted target b d ps kept r m e h t)

pub returns-clause-runs : goal.returns-clause-runs
returns-clause-runs c = they_may_run
