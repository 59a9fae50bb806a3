use Rattle.std.proofs.Common.{map}
use Rattle.ldb_cc.specs.Scanning.{items_of}
use Rattle.ldb_top.specs.Names.{aim_in}
use Rattle.ldb_top.proofs.Opened.{compiled_then}
use Rattle.ldb_top.proofs.opening.begin.Goals as goal

pub returns-clause-over : goal.returns-clause-over
returns-clause-over c = λ room.
    compiled_then (aim_in c.args.aims) c.args.names.now (map items_of c.args.texts.now) c.args.input.now _ _ c.start.result c.in_ok-sides.ensures.adds (c.start.ensures.over room) (c.start.ensures.over_both room)
