use Rattle.mips_isa.proofs.Sound.{first_sound, keeps_sound}
use Rattle.mips_isa.proofs.laws.machines_stay_sound.Goals as goal

pub returns-clause-first : goal.returns-clause-first
returns-clause-first c = first_sound

pub returns-clause-keeps : goal.returns-clause-keeps
returns-clause-keeps c = keeps_sound
