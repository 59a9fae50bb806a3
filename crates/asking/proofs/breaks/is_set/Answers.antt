use Rattle.std.proofs.Common.{◌∙◌, rules, tests}
use Rattle.std.proofs.lemmas.Iterator.{YieldsList-from_slice}
use Rattle.std.proofs.lemmas.Iterator.Search.{any_from_yields_List}
use Rattle.table_points.specs.declared.row.Point.{Point}
use Rattle.table_points.specs.Rows.{row_in}
use Rattle.asking.specs.Breaks.{same_point}
use Rattle.asking.proofs.Changed.{any_row}
use Rattle.asking.proofs.breaks.is_set.Goals as goal

pub returns : goal.returns
returns c =
    let place = row_in c.args.table.now c.args.place in
    any_from_yields_List (λ (p : Point). same_point (row_in c.args.table.now p) place) _ _ c.any.result c.any.ensures.ran (YieldsList-from_slice c.args.breaks.now cc) (λ x b q k. search (rules, tests))
    ∙ any_row (λ q. same_point q place) c.args.table.now c.args.breaks.now
