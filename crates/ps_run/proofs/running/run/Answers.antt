use Rattle.ps_run.proofs.running.run.Goals as goal

-- what was left of the execution stack of the run
pub returns-clause-runs : goal.returns-clause-runs
returns-clause-runs g c = λ other. (c.start-result.new.core.execution, c.start-result.ensures.runs other)

pub returns-clause-short : goal.returns-clause-short
returns-clause-short g c = c.start-result.ensures.short
