use Rattle.std.proofs.Common.{◌++◌, ◌∷◌, sym, ap, ◌∙◌}
use Rattle.std.specs.Prelude.{slice_set}
use Rattle.std.proofs.Math.Seq.{set-append_seam}
use Rattle.slot_gen.proofs.jumps.patch.Goals as goal

pub returns-clause-there : goal.returns-clause-there
returns-clause-there c = λ before rest x e at.
    ap (λ l. slice_set l c.args.at c.args.op) e ∙ ap (λ n. slice_set (before ++ x ∷ rest) n c.args.op) (sym at) ∙ set-append_seam before x rest c.args.op
