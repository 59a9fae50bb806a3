use Rattle.std.proofs.Common.{◌++◌, sym, ap, ◌∙◌}
use Rattle.slot_gen.specs.Emission.{assigned_at}
use Rattle.slot_gen.proofs.Emitted.{on_ok}
use Rattle.slot_gen.proofs.operands.put_assigned.Goals as goal

pub returns-in-None : goal.returns-in-None
returns-in-None c =
    let p = c.args.within.now.program.now in
    let f = c.args.within.now.number in
    on_ok c.put_write.result _ _ (λ q. q ∙ ap (λ o. c.args.code.now.items ++ assigned_at p f c.args.d c.args.register c.args.left.now o c.args.right.now) (sym c.in-None.is)) (c.put_write.ensures p f)
