use Rattle.asking_meaning.proofs.Registers.{regs_are_meant}
use Rattle.asking_meaning.proofs.laws.registers_are_meant.Goals as goal

pub returns : goal.returns
returns c = regs_are_meant
