use Rattle.std.proofs.Common.{◌≡◌, ◌≤◌, true, min, sym, subst, ◌∙◌, arith}
use Rattle.c_tree.specs.Layout.{members_of}
use Rattle.c_defs.specs.Depths.{is_within, are_within}
use Rattle.c_defs.specs.Kept.{IsCount}
use Rattle.c_defs.proofs.Comparing.{le_yes}
use Rattle.c_defs.proofs.Described.{described}
use Rattle.c_defs.proofs.Same.{leaves_same}
use Rattle.c_defs.proofs.leaf_counts.kept_leaves.Goals as goal

pub returns-then-row-min : goal.returns-then-row-min
returns-then-row-min c =
    let defs = c.args.defs.now in
    let ms = members_of defs c.args.s in
    let r = c.in-Some.row.now in
    let d = described defs c.args.rows.now c.args.s r c.requires.kept (sym c.in-Some.ensures) in
    let e : c.min.result ≡ min c.args.deep 63 = c.min.ensures in
    let deep : r.deepest ≤ c.args.deep = omega (arith, e, c.if-row-min.true) in
    let most : r.deepest ≤ 63 = omega (arith, e, c.if-row-min.true) in
    let within : are_within (is_within defs r.deepest) ms ≡ true = d.depth r.deepest most ∙ le_yes r.deepest r.deepest (omega arith) in
    subst (IsCount r.leaves) (leaves_same defs ms r.deepest c.args.deep within deep) (d.counted r.deepest (omega arith) most)
