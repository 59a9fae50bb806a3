-- At each rate what a token pays for is enough.
use Rattle.std.proofs.Common.{arith}
use Rattle.compiled_tables.specs.Weights.{AreCovered, rates_of_bytes, rates_of_steps, rates_of_made}

pub bytes_covered : AreCovered rates_of_bytes
bytes_covered = record { string = omega arith; struct = omega arith; constructor = omega arith; point = omega arith; local = omega arith; member = omega arith; object = omega arith; declared = omega arith; function = omega arith }

pub steps_covered : AreCovered rates_of_steps
steps_covered = record { string = omega arith; struct = omega arith; constructor = omega arith; point = omega arith; local = omega arith; member = omega arith; object = omega arith; declared = omega arith; function = omega arith }

pub made_covered : AreCovered rates_of_made
made_covered = record { string = omega arith; struct = omega arith; constructor = omega arith; point = omega arith; local = omega arith; member = omega arith; object = omega arith; declared = omega arith; function = omega arith }
