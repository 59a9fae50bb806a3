use Rattle.std.proofs.Common.{sym, ◌∙◌, ◌-◌}
use Rattle.ps_emit.proofs.Points.{functions_more, functions_end}
use Rattle.ps_emit.proofs.functions.add_functions.Goals as goal

pub loop-f-preserved : goal.loop-f-preserved
loop-f-preserved c =
    functions_more c.args.program.now c.args.rows.now c.loop-f.made c.in_ok-made.made c.args.functions.now c.loop-f.f-index c.loop-f-test.true c.in_ok-made.ensures.text
    c.in_ok-made.ensures.made
    ∙ c.loop-f.invariant

pub returns : goal.returns
returns c = record {
  text =
      sym (functions_end c.args.program.now c.args.rows.now c.loop-f.made c.args.functions.now c.loop-f.f-index c.loop-f.text c.loop-f-test.false) ∙ c.loop-f.invariant;
}
