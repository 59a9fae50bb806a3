use Rattle.std.proofs.Common.{◌≡◌, ◌++◌, length, drop}
use Rattle.gen_parts.specs.Text.{movers_insns}
use Rattle.gen_parts.specs.Parts.{movers_uses, movers_names}
use Rattle.gen_parts.proofs.copies.add_movers.Given as goal

abbrev pub invariant-loop-mover : goal.invariant-loop-mover
invariant-loop-mover g l = record {
  code : l.parts.code.items ++ movers_insns g.T.Coder.coding (drop l.mover-index l.movers) ≡ l.initial.parts.code.items ++ movers_insns g.T.Coder.coding l.movers;
  uses : l.parts.uses.items ++ movers_uses g.T.Coder.coding l.number (length l.parts.code.items) (drop l.mover-index l.movers) ≡ l.initial.parts.uses.items ++ movers_uses g.T.Coder.coding 0 (length l.initial.parts.code.items) l.movers;
  names : l.parts.names.items ++ movers_names g.T.Coder.coding l.number (length l.parts.code.items) (drop l.mover-index l.movers) ≡ l.initial.parts.names.items ++ movers_names g.T.Coder.coding 0 (length l.initial.parts.code.items) l.movers;
  rows : l.parts.rows.items ≡ l.initial.parts.rows.items;
}
