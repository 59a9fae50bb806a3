use Rattle.std.proofs.Common.{◌≡◌, drop}
use Rattle.c_file.specs.Programs.{any, many}
use Rattle.c_check.proofs.parameters.any_many.Given as goal

abbrev pub invariant-loop-external : goal.invariant-loop-external
invariant-loop-external l = any many (drop l.external-index l.externals) ≡ any many l.externals
