use Rattle.std.proofs.Common.{map}
use Rattle.c_linkage.specs.Names.{defining}
use Rattle.c_linkage.specs.FileNames.{file_name}
use Rattle.c_check.proofs.Mapped.{places_made}
use Rattle.c_check.proofs.tables.places.Goals as goal

pub returns : goal.returns
returns c = λ q n e b. places_made _ q (map file_name c.args.names.now) (map defining c.args.objects.now) (map defining c.args.bodies.now) n c.requires e b c.in_ok-statics.ensures c.in_ok-objects.ensures c.in_ok-functions.ensures
