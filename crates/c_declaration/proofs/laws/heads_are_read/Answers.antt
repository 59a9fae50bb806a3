use Rattle.c_declaration.proofs.Files.{head_ends, function_ends}
use Rattle.c_declaration.proofs.FilesSound.{file_is}
use Rattle.c_declaration.proofs.laws.heads_are_read.Goals as goal

pub returns-clause-declaration : goal.returns-clause-declaration
returns-clause-declaration c = head_ends

pub returns-clause-function : goal.returns-clause-function
returns-clause-function c = function_ends

pub returns-clause-is : goal.returns-clause-is
returns-clause-is c = file_is
