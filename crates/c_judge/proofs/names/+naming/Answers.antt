use Rattle.std.proofs.Common.{rules, ◌≡◌, ◌+◌, ap, arith}
use Rattle.c_trees.specs.Expressions.{depth}
use Rattle.c_judge.proofs.Depths.{bound_depth, bound_item}
use Rattle.c_judge.proofs.names.+naming.Goals as goal

pub unknown_bounds-unknown-requires : goal.unknown_bounds-unknown-requires
unknown_bounds-unknown-requires t c =
    let item = c.bound-item.result in
    let less = bound_item c.args.bounds.now c.loop-bound.bound-index item c.loop-bound-test.true c.bound-item.is in
    let same : bound_depth item ≡ depth c.in-Some.e + 1 = ap bound_depth c.in-Some.is in
    (first_of (omega (arith, less, same, c.decreases), search (rules, less, same), grind (arith, less, same, c.decreases)), tt)
