use Rattle.std.proofs.Common.{ap, ◌∙◌}
use Rattle.ps_step.specs.declared.fault.PsError.TheVariants.{RangeCheck}
use Rattle.ps_places.specs.Places.{named_text}
use Rattle.ps_bare.proofs.Acting.{failed, where_bare, where_unnamed}
use Rattle.ps_bare.proofs.places.find_nowhere.Goals as goal

pub returns-in-Ok-clause-acts : goal.returns-in-Ok-clause-acts
returns-in-Ok-clause-acts c =
    let core = c.args.core.now in
    λ cell. failed cell core 5 RangeCheck (where_bare cell core _ (c.top_name.ensures.name ∙ ap (named_text core.store) c.in-Ok.is))

pub returns-in-Err-clause-acts : goal.returns-in-Err-clause-acts
returns-in-Err-clause-acts c =
    let core = c.args.core.now in
    λ cell. failed cell core 5 c.in-Err.error (where_unnamed cell core c.in-Err.error (c.top_name.ensures.name ∙ ap (named_text core.store) c.in-Err.is))
