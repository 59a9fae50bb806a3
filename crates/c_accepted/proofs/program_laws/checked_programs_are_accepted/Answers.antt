use Rattle.c_accepted.proofs.Joined.{accepted}
use Rattle.c_accepted.proofs.program_laws.checked_programs_are_accepted.Goals as goal

pub returns : goal.returns
returns c = λ names us p checks count texts. accepted names us p checks count texts
