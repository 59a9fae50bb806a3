use Rattle.std.proofs.Common.{◌≡◌, ◌<◌, [], length, sym, subst, Err, arith}
use Rattle.std.proofs.lemmas.Grind.{common_steps}
use Rattle.c_judge.specs.declared.fault.Fault.{Fault}
use Rattle.c_scope.specs.Here.{environment_of}
use Rattle.c_struct.specs.Specifies.{Inside}
use Rattle.c_struct.specs.Nested.{opens_of}
use Rattle.c_struct.specs.Specified.{Answers}
use Rattle.c_struct.proofs.Laid.{empty_of}
use Rattle.c_struct.proofs.Within.{left_open, all_closed, all_refused}
use Rattle.c_struct.proofs.specifying.close.Goals as goal

pub returns-then-not-is_empty-clause-inside : goal.returns-then-not-is_empty-clause-inside
returns-then-not-is_empty-clause-inside c =
    let some : 0 < length c.args.n.outer.items = first_of (omega arith, grind (arith, common_steps)) in
    left_open c.args.others.now (environment_of c.args.here.now) (environment_of c.args.here.now) c.args.n some

pub returns-in-Ok-clause-inside : goal.returns-in-Ok-clause-inside
returns-in-Ok-clause-inside c =
    let none : length c.args.n.outer.items ≡ 0 = first_of (omega arith, grind (arith, common_steps)) in
    all_closed c.args.others.now (environment_of c.args.here.now) (environment_of c.complete.new.here) c.args.n c.in-Ok.t (empty_of c.args.n.outer.items none) c.in-Ok.ensures.ended

pub returns-clause-inside : goal.returns-clause-inside
returns-clause-inside c =
    let none : length c.args.n.outer.items ≡ 0 = first_of (omega arith, grind (arith, common_steps)) in
    let v = environment_of c.args.here.now in
    subst (λ (f : Fault). Answers (Inside c.args.others.now v (opens_of c.args.n) []) (Err f) (environment_of c.complete.new.here)) (sym c.fault_of.ensures)
    (all_refused c.args.others.now v (environment_of c.complete.new.here) (environment_of c.complete.new.here) c.args.n c.in-Err.why (empty_of c.args.n.outer.items none) c.in-Err.ensures.ended)
