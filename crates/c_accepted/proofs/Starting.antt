-- How large the numbers are that objects begin with (C90 6.5.7).
use Rattle.std.specs.Prelude.{◌<◌, ◌^◌}
use Rattle.c_tree.specs.declared.rows.Start.{Start}
use Rattle.c_tree.specs.declared.rows.Start.TheVariants.{Number}

-- a number is a word
abbrev pub IsWordStart : Start → Type 0
IsWordStart (Number n) = n < 2 ^ 32
IsWordStart _ = Unit {0}
