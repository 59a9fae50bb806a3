-- What a whole expression is, from what is known of it.
use Rattle.std.proofs.Common.{◌≡◌, ℕ, true, false, List, refl, ap, sym, ◌∙◌, Some, Err}
use Rattle.c_trees.specs.Expressions.{Tree}
use Rattle.c_judge.specs.declared.check.Mode.{Mode}
use Rattle.c_judge.specs.declared.part.Part.{Part}
use Rattle.c_judge.specs.Scope.{Scope}
use Rattle.c_judge.specs.Answers.{Known, Broken}
use Rattle.c_judge.specs.Judgement.{judged}
use Rattle.c_judge.specs.Parts.{judged_of, operand_of}
use Rattle.c_judge.specs.declared.fault.ExprFault.{ExprFault}
use Rattle.c_judge.specs.declared.fault.ExprFault.TheVariants as fault
use Rattle.c_judge.specs.Forms.{unknown}
use Rattle.c_judge.specs.Checks.{Checks, IsOutOfScope, stands, whole, IsKnown, Breaks}

module _ (v : Scope) (m : Mode) (e : Tree) where
  pub known_whole : (p : Part) → judged v e ≡ Known (judged_of p) → stands m (operand_of p) ≡ true → IsKnown (whole v m e)
  known_whole p h s = rw (h, s) tt

  pub broken_whole : (p : Part) → judged v e ≡ Known (judged_of p) → stands m (operand_of p) ≡ false → Breaks (whole v m e) 22
  broken_whole p h s = rw (h, s) refl

  pub broken_part : (r at : ℕ) → judged v e ≡ Broken r at → Breaks (whole v m e) r
  broken_part r at h = rw h refl

  -- a name that is not in scope is told first
  pub out_checks : (name : List ℕ) (f : ExprFault) → IsOutOfScope name f → unknown v e ≡ Some name → Checks v m e (Err f)
  out_checks name (fault.Scope other) h u = u ∙ ap Some (sym h)
  out_checks name fault.NoMemory h u = tt
  out_checks name (fault.Rule r) h u = absurd h
  out_checks name (fault.Forbidden at) h u = absurd h
