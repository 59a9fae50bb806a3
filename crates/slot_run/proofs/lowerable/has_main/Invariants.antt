use Rattle.std.proofs.Common.{◌≡◌, drop}
use Rattle.c_source.specs.Begin.{main_from}
use Rattle.slot_run.proofs.lowerable.has_main.Given as goal

-- `main` is none of the functions so far
abbrev pub invariant-loop-function : goal.invariant-loop-function
invariant-loop-function l = main_from l.function-index (drop l.function-index l.functions) ≡ main_from 0 l.functions
