use Rattle.std.proofs.Common.{Err, subst}
use Rattle.c_scope.specs.Here.{environment_of}
use Rattle.c_struct.specs.Specified.{IsSpecified}
use Rattle.c_file.proofs.Goes.{not_begun}
use Rattle.c_file.proofs.externals.begun.Goals as goal

pub returns-in-Err : goal.returns-in-Err
returns-in-Err c =
    let s = c.args.state.now in
    let w = environment_of c.specified.new.here in
    not_begun c.args.spec.now s (record s { here = c.specified.new.here }) c.in-Err.f w (subst (λ l. IsSpecified l (environment_of s.here) c.args.spec.now (Err c.in-Err.f) w) c.deref.ensures.value c.in-Err.ensures.specified)
