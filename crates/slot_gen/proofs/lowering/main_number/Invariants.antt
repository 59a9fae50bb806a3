use Rattle.std.proofs.Common.{◌≡◌, drop}
use Rattle.c_source.specs.Begin.{main_from}
use Rattle.slot_gen.proofs.lowering.main_number.Given as goal

abbrev pub invariant-loop-function : goal.invariant-loop-function
invariant-loop-function l = main_from l.number (drop l.function-index l.functions) ≡ main_from 0 l.functions
