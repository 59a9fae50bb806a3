-- Expressions where the numbers of string literals are not asked for.
use Rattle.std.proofs.Common.{◌≡◌, ℕ, sym, ap, ◌∙◌, subst, Result, Ok, Err}
use Rattle.c_trees.specs.Expressions.{Tree}
use Rattle.c_judge.specs.declared.fault.Fault.{Fault}
use Rattle.c_judge.specs.declared.part.Part.{Part}
use Rattle.c_judge.specs.Scope.{Scope}
use Rattle.c_judge.specs.Parts.{judged_of}
use Rattle.c_judge.specs.Judgement.{judged}
use Rattle.c_judge.specs.Judges.{Judges, Gives, IsFault}
use Rattle.c_scope.specs.Environment.{Environment, scope, scope_of}

-- no literal has a number in an empty map
pub scope_plain : (v : Scope) (e : Environment) (l : ℕ → ℕ) → v ≡ scope e l → ((at : ℕ) → l at ≡ 0) → v ≡ scope_of e
scope_plain v e l h k = h ∙ (λ i. scope e (λ at. k at i))

pub judges_in : (v w : Scope) (e : Tree) (r : Result Part Fault) → v ≡ w → Judges v e r → Gives judged_of (judged w e) r
judges_in v w e (Ok p) h j = ap (λ s. judged s e) (sym h) ∙ j.0
judges_in v w e (Err f) h j = subst (λ s. IsFault (judged s e) f) h j
