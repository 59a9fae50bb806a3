-- The laws of what a unit is made of.
use Rattle.c_declaration.proofs.Locals.{local_ends, local_is}
use Rattle.c_declaration.proofs.Files.{head_ends, function_ends}
use Rattle.c_declaration.proofs.FilesSound.{file_is}
use Rattle.c_statement.proofs.Reach.{body_runs}
use Rattle.c_statement.proofs.Sound.{body_sound}
use Rattle.c_syntax.proofs.Complete.{Ending}
use Rattle.c_syntax.proofs.Sound.{Being}

pub ending : Ending
ending = record { heads = head_ends; functions = function_ends; blocks = λ b h ts d. body_runs local_ends d }

pub being : Being
being = record { files = file_is; blocks = body_sound local_is }
