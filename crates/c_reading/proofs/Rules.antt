-- What a text is read as keeps to the typing rules.
use Rattle.std.proofs.Common.{◌≡◌, ap, subst, ℕ, List, Option}
use Rattle.c_trees.specs.Expressions.{Tree}
use Rattle.c_tree.specs.declared.typed.Typed.{Typed}
use Rattle.c_tree.specs.declared.rows.Program.{Program}
use Rattle.c_typing.specs.Statements.{locals_at, function_at}
use Rattle.c_judge.specs.Judgement.{judged}
use Rattle.c_reading.specs.Scope.{as_completed, scope_with, function_or_0, scope_of}
use Rattle.c_reading.specs.Kept.{KeepsRules}
use Rattle.c_reading.specs.Readings.{Use, AsValue, AsAssignment, Unreadable, Reading, Read, Unread, IsTypedAs, Reads}
use Rattle.c_reading.specs.Rules.{IsOfUse, ReadsTyped}
use Rattle.c_reading.proofs.Keeping.{known_first, value_told, assigns_told}

never_read : {A : Type 0} (r : Unreadable) (e : Typed) → Unread r ≡ Read e → A
never_read {A} r e k = absurd (subst (λ (q : Reading). elim q as (λ _. Type 0) [ Unread u ↦ Unit {0} | Read y ↦ ⊥ ]) k tt)

one_read : (z e : Typed) → Read z ≡ Read e → z ≡ e
one_read z e k = ap (λ (q : Reading). elim q as (λ _. Typed) [ Unread u ↦ z | Read y ↦ y ]) k

module _ (p : Program) where
  of_use : (u : Use) (q : ℕ) (t : Tree) (z : Typed) → IsTypedAs p u q t z → IsOfUse u z × KeepsRules (scope_with p (function_or_0 (function_at p q)) (locals_at p q) (as_completed p)) z
  of_use AsValue q t z (n, k, f, e) = let (j, g) = known_first (judged (scope_of p q) t) _ k in value_told (scope_of p q) t z j g f e
  of_use AsAssignment q t z (n, k, f, e) = let (j, g) = known_first (judged (scope_of p q) t) _ k in assigns_told (scope_of p q) t z j g f e

  pub reads_typed : (u : Use) (q : ℕ) (text : List ℕ) (x : Reading) → Reads p u q text x → ReadsTyped p u q text x
  reads_typed u q text (Unread r) h f e k g = never_read r e g
  reads_typed u q text (Read z) (t, i, c) f e k g =
      let d = of_use u q t z c in
      subst (λ w. IsOfUse u w × KeepsRules (scope_with p f (locals_at p q) (as_completed p)) w) (one_read z e g)
      (d.0, subst (λ o. KeepsRules (scope_with p (function_or_0 o) (locals_at p q) (as_completed p)) z) k d.1)
