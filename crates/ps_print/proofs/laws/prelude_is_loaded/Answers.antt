use Rattle.ps_print.proofs.Behind.{closed_shut}
use Rattle.ps_print.proofs.Loaded.{loads, loaded_holds, loaded_printers, holds_still, printers_still}
use Rattle.ps_print.proofs.laws.prelude_is_loaded.Goals as goal

pub returns : goal.returns
returns g c = record {
  run = loads g.D.Dialect.operates;
  holds = loaded_holds;
  printers = loaded_printers;
  holds_behind = λ now above settled lacks. holds_still now settled above lacks;
  printers_behind = λ now above settled lacks. printers_still now settled above lacks;
  shut = closed_shut;
}
