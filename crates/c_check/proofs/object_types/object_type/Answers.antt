use Rattle.c_linkage.specs.Names.{defining}
use Rattle.c_scope.specs.Here.{meaning_of}
use Rattle.c_linkage.specs.Types.{type_or}
use Rattle.c_check.proofs.ToldRows.{type_copied}
use Rattle.c_check.proofs.object_types.object_type.Goals as goal

pub returns-in-Some : goal.returns-in-Some
returns-in-Some c = type_copied c.copied_type.result (type_or (meaning_of c.in-Some.f.now.meaning)) c.args.names.now (defining c.args.d.now) c.copied_type.ensures c.in-Some.ensures
