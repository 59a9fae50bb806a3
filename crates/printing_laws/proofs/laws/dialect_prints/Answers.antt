use Rattle.std.proofs.Common.{refl}
use Rattle.printing_laws.proofs.Printer.{printing}
use Rattle.printing_laws.proofs.laws.dialect_prints.Goals as goal

pub returns : goal.returns
returns c = (printing, refl, refl)
