use Rattle.std.proofs.Common.{sym, ap, ◌∙◌, subst}
use Rattle.c_trees.specs.declared.declaration.MemberPart.{MemberPart}
use Rattle.c_trees.specs.declared.declaration.MemberPart.TheVariants.{Row}
use Rattle.c_scope.specs.Here.{environment_of}
use Rattle.c_struct.specs.Nested.{opens_of, Passes}
use Rattle.c_struct.proofs.specifying.pass.Goals as goal

pub returns-in-Opens-clause-passes : goal.returns-in-Opens-clause-passes
returns-in-Opens-clause-passes c =
    let v = environment_of c.args.here.now in
    subst (λ (p : MemberPart). Passes c.args.others.now v (opens_of c.args.n) p v c.open_inside.result) (sym c.in-Opens.is) (c.open_inside.ensures c.args.others.now v)

pub returns-in-Row-clause-passes : goal.returns-in-Row-clause-passes
returns-in-Row-clause-passes c =
    let v = environment_of c.args.here.now in
    subst (λ (p : MemberPart). Passes c.args.others.now v (opens_of c.args.n) p v c.add_row.result) (ap (λ ds. Row c.in-Row.field-0 c.in-Row.spec ds) c.as_slice.ensures ∙ sym c.in-Row.is)
    (c.add_row.ensures c.args.others.now c.in-Row.field-0)
