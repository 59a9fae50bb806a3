-- What is kept of external declarations of a known height.
use Rattle.std.proofs.Common.{◌≡◌, ℕ, ◌≤◌, ◌<◌, max, Bool, true, false, List, [], ◌∷◌, ◌++◌, Option, Some, None, nat_le, refl, sym, ◌∙◌, ap, ap₂, subst, inl, inr, arith, le-leb}
use Rattle.std.specs.Prelude.{if◌then◌else◌}
use Rattle.std.proofs.Math.Nat.{max-le, le-max_left, le-max_right}
use Rattle.std.proofs.lemmas.Bool.{cases_lt}
use Rattle.std.proofs.lemmas.Bool.Decides.{nat_tests}
use Rattle.c_lex.specs.declared.token.Place.{Place}
use Rattle.c_trees.specs.declared.declaration.Head.{Head}
use Rattle.c_trees.specs.declared.declaration.FunctionHead.{FunctionHead}
use Rattle.c_declaration.specs.Grown.{cut}
use Rattle.c_declaration.specs.Laws.{kept}
use Rattle.c_trees.specs.Statements.{StatementTree}
use Rattle.c_trees.specs.declared.unit.External.{External}
use Rattle.c_trees.specs.declared.unit.External.TheVariants.{Declaration, Definition}
use Rattle.c_syntax.specs.declared.state.Kept.{Kept}
use Rattle.c_syntax.specs.declared.state.Kept.TheVariants.{All, TooDeep}
use Rattle.c_syntax.specs.Machine.{more, declared_of, defined_of}

gt-leb : (a b : ℕ) → b < a → nat_le a b ≡ false
gt-leb a b h = grind (arith, nat_tests)

if_true : {T : Type 0} (b : Bool) (x y : T) → b ≡ true → (if b then x else y) ≡ x
if_true b x y e = ap (λ v. if v then x else y) e

if_false : {T : Type 0} (b : Bool) (x y : T) → b ≡ false → (if b then x else y) ≡ y
if_false b x y e = ap (λ v. if v then x else y) e

pub kept_some : {T : Type 0} (x : T) (h : ℕ) → h ≤ 64 → kept x h ≡ Some x
kept_some x h le = if_true _ _ _ (le-leb h 64 le)

pub kept_none : {T : Type 0} (x : T) (h : ℕ) → 64 < h → kept x h ≡ None
kept_none x h gt = if_false _ _ _ (gt-leb h 64 gt)

cut_some : {T : Type 0} (x : T) (h : ℕ) → h ≤ 64 → cut x h ≡ Some (record { height = h; tree = x })
cut_some x h le = if_true _ _ _ (le-leb h 64 le)

cut_none : {T : Type 0} (x : T) (h : ℕ) → 64 < h → cut x h ≡ None
cut_none x h gt = if_false _ _ _ (gt-leb h 64 gt)

-- these external declarations, of this height, are kept so
abbrev pub KeptIs : Kept → List External → ℕ → Type 0
KeptIs (All fs) es h = (fs ≡ es) × (h ≤ 64)
KeptIs (TooDeep at) es h = 64 < h

more_all : (fs es : List External) (m : ℕ) → fs ≡ es → m ≤ 64 → (at : Place) (e : External) (n : ℕ) → KeptIs (more (All fs) at (kept e n)) (es ++ e ∷ []) (max m n)
more_all fs es m same low at e n =
    let P : Option External → Type 0 = λ o. KeptIs (more (All fs) at o) (es ++ e ∷ []) (max m n) in
    elim (cases_lt 64 n) [
      | inl hi ↦ subst P (sym (kept_none e n hi)) (omega (arith, le-max_right m n))
      | inr lo ↦ subst P (sym (kept_some e n lo)) (ap (λ l. l ++ e ∷ []) same, max-le low lo)
    ]

pub more_is : (k : Kept) (es : List External) (m : ℕ) → KeptIs k es m → (at : Place) (e : External) (n : ℕ) → KeptIs (more k at (kept e n)) (es ++ e ∷ []) (max m n)
more_is (All fs) es m d at e n = more_all fs es m d.0 d.1 at e n
more_is (TooDeep first) es m d at e n = omega (arith, d, le-max_left m n)

pub first_is : (at : Place) (e : External) (n : ℕ) → KeptIs (more (All []) at (kept e n)) (e ∷ []) n
first_is at e n =
    let P : Option External → Type 0 = λ o. KeptIs (more (All []) at o) (e ∷ []) n in
    elim (cases_lt 64 n) [
      | inl hi ↦ subst P (sym (kept_none e n hi)) hi
      | inr lo ↦ subst P (sym (kept_some e n lo)) (refl, lo)
    ]

pub declared_kept : (d : Head) (h : ℕ) → declared_of (kept d h) ≡ kept (Declaration d) h
declared_kept d h =
    elim (cases_lt 64 h) [
      | inl hi ↦ ap declared_of (kept_none d h hi) ∙ sym (kept_none (Declaration d) h hi)
      | inr lo ↦ ap declared_of (kept_some d h lo) ∙ sym (kept_some (Declaration d) h lo)
    ]

pub defined_kept : (d : FunctionHead) (x : StatementTree) (m n : ℕ) → defined_of (kept d m) (cut x n) ≡ kept (Definition d x) (max m n)
defined_kept d x m n =
    elim (cases_lt 64 m) [
      | inl hi ↦ ap (λ o. defined_of o (cut x n)) (kept_none d m hi) ∙ sym (kept_none (Definition d x) (max m n) (omega (arith, le-max_left m n)))
      | inr lo ↦ elim (cases_lt 64 n) [
        | inl hi ↦ ap₂ defined_of (kept_some d m lo) (cut_none x n hi) ∙ sym (kept_none (Definition d x) (max m n) (omega (arith, le-max_right m n)))
        | inr lo' ↦ ap₂ defined_of (kept_some d m lo) (cut_some x n lo') ∙ sym (kept_some (Definition d x) (max m n) (max-le lo lo'))
      ]
    ]
