use Rattle.std.proofs.Common.{◌≡◌, ◌++◌, length, drop}
use Rattle.flat_ir.specs.declared.moves.MoveStep.TheVariants as step
use Rattle.gen_parts.specs.Text.{steps_insns}
use Rattle.gen_parts.specs.Parts.{steps_uses}
use Rattle.gen_parts.proofs.copies.add_copy.Given as goal

-- with the code and the uses of the steps that are left, it is that of all steps
abbrev pub invariant-loop-step : goal.invariant-loop-step
invariant-loop-step g l = record {
  code : l.parts.code.items ++ steps_insns g.T.Coder.coding l.back l.before (drop l.step-index l.steps) ≡ l.initial.parts.code.items ++ steps_insns g.T.Coder.coding l.back step.Again l.steps;
  uses : l.parts.uses.items ++ steps_uses g.T.Coder.coding l.back (length l.parts.code.items) l.before (drop l.step-index l.steps)
      ≡ l.initial.parts.uses.items ++ steps_uses g.T.Coder.coding l.back (length l.initial.parts.code.items) step.Again l.steps;
  names : l.parts.names.items ≡ l.initial.parts.names.items;
  rows : l.parts.rows.items ≡ l.initial.parts.rows.items;
}
