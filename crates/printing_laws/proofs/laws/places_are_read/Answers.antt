use Rattle.printing_laws.proofs.Reading.{in_memory, in_cell, in_register, string_in_memory, null}
use Rattle.printing_laws.proofs.laws.places_are_read.Goals as goal

pub returns-clause-memory : goal.returns-clause-memory
returns-clause-memory c = in_memory

pub returns-clause-cell : goal.returns-clause-cell
returns-clause-cell c = in_cell

pub returns-clause-register : goal.returns-clause-register
returns-clause-register c = in_register

pub returns-clause-string : goal.returns-clause-string
returns-clause-string c = string_in_memory

pub returns-clause-null : goal.returns-clause-null
returns-clause-null c = null
