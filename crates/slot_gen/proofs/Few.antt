-- The fewest temporaries of a function's code.
use Rattle.std.proofs.Common.{◌≡◌, ◌≤◌, ℕ, List, arith, subst, sym}
use Rattle.c_tree.specs.declared.rows.Program.{Program}
use Rattle.c_tree.specs.declared.rows.Function.{Function}
use Rattle.slot_ir.specs.declared.code.SlotOp.{SlotOp}
use Rattle.slot_gen.specs.Bounds.{AreBelow, function_temps}
use Rattle.slot_gen.specs.Statements.{function_code}
use Rattle.slot_gen.proofs.TempsOfStatements.{function_below}

pub few_of : (p : Program) (f : ℕ) (fn : Function) (code : List SlotOp) (n : ℕ) → ((m : ℕ) → AreBelow m code → n ≤ m) → code ≡ function_code p f fn → n ≤ function_temps fn
few_of p f fn code n least same = least (function_temps fn) (subst (λ l. AreBelow (function_temps fn) l) (sym same) (function_below p f (function_temps fn) fn (omega arith)))
