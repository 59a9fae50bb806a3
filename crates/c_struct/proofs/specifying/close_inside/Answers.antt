use Rattle.std.proofs.Common.{◌≡◌, length, refl, sym, subst, Err, arith}
use Rattle.std.proofs.lemmas.Grind.{common_steps}
use Rattle.c_trees.specs.declared.declaration.MemberPart.TheVariants.{Closes}
use Rattle.c_judge.specs.declared.fault.Fault.{Fault}
use Rattle.c_scope.specs.Here.{environment_of}
use Rattle.c_struct.specs.Nested.{opens_of, AllNamed, Passes}
use Rattle.c_struct.proofs.Laid.{empty_of}
use Rattle.c_struct.proofs.Within.{named_front, unbalanced_close, close_refused, close_passes, close_fails}
use Rattle.c_struct.proofs.specifying.close_inside.Goals as goal

pub returns-in-None-clause-passes : goal.returns-in-None-clause-passes
returns-in-None-clause-passes c =
    let none : length c.args.n.outer.items ≡ 0 = first_of (omega arith, grind (arith, common_steps)) in
    let v = environment_of c.args.here.now in
    unbalanced_close c.args.others.now v v c.args.n c.args.ds.now (empty_of c.args.n.outer.items none)

pub returns-in-Err-clause-passes : goal.returns-in-Err-clause-passes
returns-in-Err-clause-passes c =
    let v = environment_of c.args.here.now in
    let w = environment_of c.complete.new.here in
    subst (λ (f : Fault). Passes c.args.others.now v (opens_of c.args.n) (Closes c.args.ds.now) w (Err f)) (sym c.fault_of.ensures)
    (close_refused c.args.others.now v w w c.args.n c.in-Some.next c.pop.new.self.items c.args.ds.now c.in-Err.why c.in-Some.ensures.items c.in-Err.ensures.ended)

pub add_declarators-requires : goal.add_declarators-requires
add_declarators-requires c = (named_front c.pop.new.self.items c.in-Some.next (subst AllNamed c.in-Some.ensures.items c.requires.1)).1

pub returns-in-Ok-add_declarators-clause-passes : goal.returns-in-Ok-add_declarators-clause-passes
returns-in-Ok-add_declarators-clause-passes c =
    let k = c.in-Ok-add_declarators.ensures in
    close_passes c.args.others.now (environment_of c.args.here.now) (environment_of c.complete.new.here) c.args.n (record { outer = c.pop.new.self; inner = c.add_declarators.new.o }) c.in-Some.next c.pop.new.self.items c.args.ds.now c.in-Ok.t
    c.in-Some.ensures.items c.requires c.in-Ok.ensures.ended k.added.1 refl k.place k.tag k.added.0

pub returns-clause-passes : goal.returns-clause-passes
returns-clause-passes c =
    close_fails c.args.others.now (environment_of c.args.here.now) (environment_of c.complete.new.here) c.args.n c.in-Some.next c.pop.new.self.items c.args.ds.now c.in-Ok.t c.in-Err-add_declarators.f
    c.in-Some.ensures.items c.in-Ok.ensures.ended c.in-Err-add_declarators.ensures.added
