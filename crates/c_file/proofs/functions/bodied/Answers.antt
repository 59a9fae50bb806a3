use Rattle.std.proofs.Common.{map, sym, subst}
use Rattle.c_typing.specs.Plain.{plain}
use Rattle.c_scope.specs.Shapes.{parameter_of}
use Rattle.c_file.proofs.Goes.{head_fails, may_fail, body_any}
use Rattle.c_file.proofs.functions.bodied.Goals as goal

pub returns : goal.returns
returns c =
    body_any c.args.storage c.args.d.now c.args.block.now (plain c.args.to) (map parameter_of c.args.ps.now) c.args.state c.headed.new.state c.in-Ok.ensures c.in-Ok-may_have.ensures.may
    c.in-Ok-heading_of.heading c.in-Ok-heading_of.ensures.0 c.in-Ok-heading_of.ensures.1 c.in-Ok-heading_of.ensures.2 c.with_body.result c.with_body.ensures

pub returns-in-Err : goal.returns-in-Err
returns-in-Err c = head_fails c.args.storage c.args.d.now c.args.block.now (plain c.args.to) (map parameter_of c.args.ps.now) c.args.state c.in-Err.f c.in-Err.ensures

pub returns-in-Err-may_have : goal.returns-in-Err-may_have
returns-in-Err-may_have c =
    may_fail c.args.storage c.args.d.now c.args.block.now (plain c.args.to) (map parameter_of c.args.ps.now) c.args.state c.headed.new.state c.in-Err-may_have.f c.in-Ok.ensures c.in-Err-may_have.ensures.may
