use Rattle.std.proofs.Common.{◌≡◌, drop, map}
use Rattle.c_defs.specs.Numbers.{number_from}
use Rattle.c_defs.specs.Members.{name_of}
use Rattle.c_defs.proofs.view.number_among.Given as goal

abbrev pub invariant-loop-i : goal.invariant-loop-i
invariant-loop-i l = number_from l.i (map name_of (drop l.i l.members)) l.name ≡ number_from 0 (map name_of l.members) l.name
