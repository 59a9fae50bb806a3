use Rattle.c_symbol.proofs.Joining.{joins_all}
use Rattle.c_symbol.proofs.terminal.joined_one_by_one.Goals as goal

pub returns : goal.returns
returns c = joins_all
