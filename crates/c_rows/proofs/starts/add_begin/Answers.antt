use Rattle.std.proofs.Common.{◌++◌, map, sym, ap, ◌∙◌}
use Rattle.c_initial.specs.Starts.{begins_of_row}
use Rattle.c_rows.specs.Placed.{start_by}
use Rattle.c_rows.proofs.Holding.{zeros_of}
use Rattle.c_rows.proofs.starts.add_begin.Goals as goal

pub returns-in_ok-add_zeros-in-Zeros : goal.returns-in_ok-add_zeros-in-Zeros
returns-in_ok-add_zeros-in-Zeros c =
    let p = c.args.places.now in
    let u = c.args.unit in
    let xs = c.args.starts.now.items in
    c.in_ok-add_zeros-in-Zeros.ensures ∙ (ap (λ l. xs ++ l) (zeros_of p u c.in-Zeros.n) ∙ ap (λ b. xs ++ map (start_by p u) (begins_of_row b)) (sym c.in-Zeros.is))
