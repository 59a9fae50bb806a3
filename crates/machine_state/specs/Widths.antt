-- How many bytes an access takes.
use Rattle.std.specs.Prelude.{ℕ}
use Rattle.machine_state.specs.declared.layout.Width.{Width}
use Rattle.machine_state.specs.declared.layout.Width.TheVariants.{Byte, Half, Word}

abbrev pub width_of : Width → ℕ
width_of Byte = 1
width_of Half = 2
width_of Word = 4
