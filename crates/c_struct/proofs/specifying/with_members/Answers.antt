use Rattle.std.proofs.Common.{◌≡◌, ◌<◌, length, arith}
use Rattle.c_scope.specs.Here.{environment_of}
use Rattle.c_scope.proofs.Items.{item_of}
use Rattle.c_struct.proofs.Laid.{empty_of}
use Rattle.c_struct.proofs.Within.{no_parts, row_first, close_first}
use Rattle.c_struct.proofs.specifying.with_members.Goals as goal

pub returns-in-empty-clause-specified : goal.returns-in-empty-clause-specified
returns-in-empty-clause-specified c =
    let none : length c.args.parts.now ≡ 0 = omega arith in
    let v = environment_of c.args.here.now in
    (v, no_parts c.args.others.now v c.args.parts.now (empty_of c.args.parts.now none))

pub returns-in-Row-clause-specified : goal.returns-in-Row-clause-specified
returns-in-Row-clause-specified c =
    let some : 0 < length c.args.parts.now = omega arith in
    let v = environment_of c.args.here.now in
    (v, row_first c.args.others.now v c.args.parts.now c.first-item.result c.in-Row.field-0 c.in-Row.field-1 c.in-Row.field-2 (item_of c.args.parts.now 0 c.first-item.result some c.first-item.is) c.in-Row.is)

pub returns-in-Closes-clause-specified : goal.returns-in-Closes-clause-specified
returns-in-Closes-clause-specified c =
    let some : 0 < length c.args.parts.now = omega arith in
    let v = environment_of c.args.here.now in
    (v, close_first c.args.others.now v c.args.parts.now c.first-item.result c.in-Closes.field-0 (item_of c.args.parts.now 0 c.first-item.result some c.first-item.is) c.in-Closes.is)
