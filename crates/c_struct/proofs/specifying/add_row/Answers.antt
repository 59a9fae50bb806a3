use Rattle.std.proofs.Common.{sym, ap, subst, refl, ◌∙◌}
use Rattle.c_typing.specs.Plain.{Plain}
use Rattle.c_judge.specs.Judges.{IsFault}
use Rattle.c_struct.specs.Structs.{members}
use Rattle.c_struct.specs.Opened.{members_in}
use Rattle.c_scope.specs.Here.{environment_of}
use Rattle.c_struct.proofs.Within.{row_passes, row_fails}
use Rattle.c_struct.proofs.specifying.add_row.Goals as goal

pub returns-in-Ok : goal.returns-in-Ok
returns-in-Ok c = λ others at.
    let v = environment_of c.args.here.now in
    row_passes others v c.args.n (record { outer = c.args.n.outer; inner = c.add_declarators.new.o }) at c.args.spec.now c.args.ds.now c.requires c.in-Ok.ensures.added.1 refl c.in-Ok.ensures.place c.in-Ok.ensures.tag
    (ap (λ t. members v (members_in c.args.n.inner) t c.args.ds.now) (sym c.named_type-t.ensures) ∙ c.in-Ok.ensures.added.0)

pub returns : goal.returns
returns c = λ others at.
    let v = environment_of c.args.here.now in
    row_fails others v c.args.n at c.args.spec.now c.args.ds.now c.in-Err.f
    (subst (λ (t : Plain). IsFault (members v (members_in c.args.n.inner) t c.args.ds.now) c.in-Err.f) c.named_type-t.ensures c.in-Err.ensures.added)
