use Rattle.std.proofs.Common.{ap, ◌∙◌}
use Rattle.c_linkage.specs.Names.{is_here, is_external}
use Rattle.c_linkage.specs.Wanted.{awaited}
use Rattle.c_linkage.specs.Telling.{telling}
use Rattle.c_rows.specs.Behind.{bound_told}
use Rattle.c_rows.proofs.GreatestBound.{outer_bound, inner_bound}
use Rattle.c_rows.proofs.undefined.greatest_bound.Goals as goal

pub returns-then-here-outside : goal.returns-then-here-outside
returns-then-here-outside c =
    let fs = c.args.names.now in
    let l = awaited c.args.l.now in
    let n = c.as_bytes-name.ensures in
    outer_bound fs l c.bound_told-here.result c.bound_told-outside.result c.here.ensures.consistent
    (c.bound_told-here.ensures ∙ (ap bound_told c.here.ensures.telling ∙ ap (λ t. bound_told (telling (is_here l.unit t) fs)) n))
    (c.bound_told-outside.ensures ∙ (ap bound_told c.external.ensures.telling ∙ ap (λ t. bound_told (telling (is_external t) fs)) n))
    c.if-here-outside.true

pub returns-else-here-outside : goal.returns-else-here-outside
returns-else-here-outside c =
    let fs = c.args.names.now in
    let l = awaited c.args.l.now in
    let n = c.as_bytes-name.ensures in
    inner_bound fs l c.bound_told-here.result c.bound_told-outside.result c.here.ensures.consistent
    (c.bound_told-here.ensures ∙ (ap bound_told c.here.ensures.telling ∙ ap (λ t. bound_told (telling (is_here l.unit t) fs)) n))
    (c.bound_told-outside.ensures ∙ (ap bound_told c.external.ensures.telling ∙ ap (λ t. bound_told (telling (is_external t) fs)) n))
    c.if-here-outside.false
