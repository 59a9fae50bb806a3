use Rattle.std.proofs.Common.{◌++◌, drop, List}
use Rattle.c_tree.specs.declared.rows.Local.{Local}
use Rattle.c_file.specs.Made.{Each}
use Rattle.c_file.specs.Progress.{IsLocalOf}
use Rattle.c_file.proofs.function_rows.locals.Given as goal

abbrev pub invariant-loop-s : goal.invariant-loop-s
invariant-loop-s l = (more : List Local) → Each IsLocalOf (drop l.s-index l.symbols) more → Each IsLocalOf l.symbols (l.found ++ more)
