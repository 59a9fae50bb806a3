use Rattle.ps_emit.proofs.Items.{types_short, points_short, saved_short, symbols_short, members_short, structs_short, objects_short, literals_short, functions_short, units_short}
use Rattle.ps_emit.proofs.Lengths.{written_followed}
use Rattle.ps_emit.proofs.laws.items_are_short.Goals as goal

pub returns : goal.returns
returns c = record {
  types = types_short;
  points = points_short;
  registers = saved_short;
  symbols = symbols_short;
  members = members_short;
  structs = structs_short;
  objects = objects_short;
  functions = functions_short;
  units = units_short;
  joined = written_followed;
  strings = literals_short;
}
