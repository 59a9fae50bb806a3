use Rattle.std.proofs.Common.{◌≡◌, ◌++◌, length, drop}
use Rattle.gen_parts.specs.Text.{functions_insns}
use Rattle.gen_parts.specs.Parts.{functions_uses, functions_names, functions_rows}
use Rattle.gen_parts.proofs.functions.add_functions.Given as goal

abbrev pub invariant-loop-function : goal.invariant-loop-function
invariant-loop-function g l = record {
  code : l.parts.code.items ++ functions_insns g.T.Coder.coding (drop l.function-index l.functions) ≡ l.initial.parts.code.items ++ functions_insns g.T.Coder.coding l.functions;
  uses : l.parts.uses.items ++ functions_uses g.T.Coder.coding l.number (length l.parts.code.items) (drop l.function-index l.functions) ≡ l.initial.parts.uses.items ++ functions_uses g.T.Coder.coding 0 (length l.initial.parts.code.items) l.functions;
  names : l.parts.names.items ++ functions_names g.T.Coder.coding l.number (length l.parts.code.items) (drop l.function-index l.functions) ≡ l.initial.parts.names.items ++ functions_names g.T.Coder.coding 0 (length l.initial.parts.code.items) l.functions;
  rows : l.parts.rows.items ++ functions_rows g.T.Coder.coding (length l.parts.code.items) (drop l.number l.slots) (drop l.function-index l.functions) ≡ l.initial.parts.rows.items ++ functions_rows g.T.Coder.coding (length l.initial.parts.code.items) l.slots l.functions;
  number : l.number ≡ l.function-index;
}
