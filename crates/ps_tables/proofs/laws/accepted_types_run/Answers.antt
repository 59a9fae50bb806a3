use Rattle.ps_tables.proofs.Accepted.{type_runs, structs_run, static_run}
use Rattle.ps_tables.proofs.laws.accepted_types_run.Goals as goal

pub returns : goal.returns
returns c = record { types = type_runs; structs = structs_run; objects = static_run }
