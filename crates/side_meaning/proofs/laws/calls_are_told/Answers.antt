use Rattle.side_meaning.proofs.Telling.{memories, plants, clears, resumed}
use Rattle.side_meaning.proofs.laws.calls_are_told.Goals as goal

pub returns-clause-memories : goal.returns-clause-memories
returns-clause-memories c = memories

pub returns-clause-plants : goal.returns-clause-plants
returns-clause-plants c = plants

pub returns-clause-clears : goal.returns-clause-clears
returns-clause-clears c = clears

pub returns-clause-resumes : goal.returns-clause-resumes
returns-clause-resumes c = resumed
