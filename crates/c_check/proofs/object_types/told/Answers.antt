use Rattle.c_check.proofs.ToldRows.{here_told, external_told}
use Rattle.c_check.proofs.object_types.told.Goals as goal

pub returns-then-d : goal.returns-then-d
returns-then-d c = here_told c.args.names.now c.args.d.now c.as_bytes-name.result.now c.in-Some.here c.as_bytes-name.ensures c.in-Some.ensures.consistent c.if-d.true c.in-Some.ensures.telling

pub returns : goal.returns
returns c = external_told c.args.names.now c.args.d.now c.as_bytes-name.result.now c.in-Some.here c.external.result c.as_bytes-name.ensures c.in-Some.ensures.consistent c.if-d.false c.if-here.false c.in-Some.ensures.telling c.external.ensures.telling
