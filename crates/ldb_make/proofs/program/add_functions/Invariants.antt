use Rattle.std.proofs.Common.{◌≡◌, ◌-◌, ◌++◌}
use Rattle.std.specs.List.{flat_map, range_with_len}
use Rattle.ldb_make.specs.Program.{function_text, functions_text}
use Rattle.ldb_make.proofs.program.add_functions.Given as goal

abbrev pub invariant-loop-function : goal.invariant-loop-function
invariant-loop-function l =
    (l.text ++ flat_map (function_text l.words) (range_with_len l.function (10 - l.function))) ≡ (l.fn.text ++ functions_text l.words)
