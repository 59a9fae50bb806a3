use Rattle.std.proofs.Common.{◌≡◌, ap, length, ◌∙◌, arith, None}
use Rattle.std.proofs.lemmas.List.{length-replicate}
use Rattle.c_defs.proofs.Completed.{none_kept}
use Rattle.c_defs.proofs.structs.none_kept.Goals as goal

pub returns : goal.returns
returns c =
    let e : c.loop.counter ≡ c.args.n = omega (arith, c.loop-test.false, c.loop.auto.counter-end) in
    (ap length c.loop.invariant ∙ (length-replicate c.loop.counter None ∙ e), none_kept c.loop.rows.items c.loop.counter c.loop.invariant)
