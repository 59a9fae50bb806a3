use Rattle.nub_wire.proofs.ResumesAreRuns.{resumes_are_runs}
use Rattle.nub_wire.proofs.ResumesEnd.{resumes_end}
use Rattle.nub_wire.proofs.laws.resumes_are_runs.Goals as goal

pub returns-clause-are : goal.returns-clause-are
returns-clause-are c = resumes_are_runs

pub returns-clause-end : goal.returns-clause-end
returns-clause-end c = resumes_end
