-- Parts of a statement of a known height.
use Rattle.std.proofs.Common.{◌≡◌, ℕ, suc, ◌+◌, ◌≤◌, ◌<◌, max, Bool, true, false, Option, Some, None, nat_le, nat_lt, refl, sym, ◌∙◌, ap, ap₂, inl, inr, arith, le-leb, add-one}
use Rattle.std.specs.Prelude.{if◌then◌else◌}
use Rattle.std.proofs.Math.Nat.{max-le, le-max_left, le-max_right}
use Rattle.std.proofs.lemmas.Bool.{cases_lt}
use Rattle.std.proofs.lemmas.Bool.Decides.{nat_tests}
use Rattle.c_trees.specs.Expressions.{Tree}
use Rattle.c_expr.specs.Grown.{cut as expr_cut}
use Rattle.c_declaration.specs.declared.built.Built.{Built}
use Rattle.c_declaration.specs.Grown.{cut}
use Rattle.c_statement.specs.Parts.{kept, taller, paired, expr_part}

pub if_true : {T : Type 0} (b : Bool) (x y : T) → b ≡ true → (if b then x else y) ≡ x
if_true b x y e = ap (λ v. if v then x else y) e

pub if_false : {T : Type 0} (b : Bool) (x y : T) → b ≡ false → (if b then x else y) ≡ y
if_false b x y e = ap (λ v. if v then x else y) e

gt-leb : (a b : ℕ) → b < a → nat_le a b ≡ false
gt-leb a b h = grind (arith, nat_tests)

pub cut_some : {T : Type 0} (x : T) (h : ℕ) → h ≤ 64 → cut x h ≡ Some (record { height = h; tree = x })
cut_some x h le = if_true _ _ _ (le-leb h 64 le)

pub cut_none : {T : Type 0} (x : T) (h : ℕ) → 64 < h → cut x h ≡ None
cut_none x h gt = if_false _ _ _ (gt-leb h 64 gt)

pub kept_cut : {A B : Type 0} (f : A → B) (x : A) (h : ℕ) → kept f (cut x h) ≡ cut (f x) h
kept_cut f x h =
    elim (cases_lt 64 h) [
      | inl hi ↦ ap (kept f) (cut_none x h hi) ∙ sym (cut_none (f x) h hi)
      | inr lo ↦ ap (kept f) (cut_some x h lo) ∙ sym (cut_some (f x) h lo)
    ]

taller_some : {T : Type 0} (x : T) (h : ℕ) → (if nat_lt h 64 then Some (record { height = h + 1; tree = x }) else None) ≡ cut x (suc h)
taller_some {T} x h = let make : ℕ → Built T = λ n. record { height = n; tree = x } in ap (λ n. if nat_le (suc h) 64 then Some (make n) else None) (add-one h)

pub taller_cut : {T : Type 0} (x : T) (h : ℕ) → taller (cut x h) ≡ cut x (suc h)
taller_cut x h =
    elim (cases_lt 64 h) [
      | inl hi ↦ ap taller (cut_none x h hi) ∙ sym (cut_none x (suc h) (omega arith))
      | inr lo ↦ ap taller (cut_some x h lo) ∙ taller_some x h
    ]

pub paired_cut : {A B : Type 0} (a : A) (b : B) (m n : ℕ) → paired (cut a m) (cut b n) ≡ cut (a, b) (max m n)
paired_cut a b m n =
    elim (cases_lt 64 m) [
      | inl hi ↦ ap (λ o. paired o (cut b n)) (cut_none a m hi) ∙ sym (cut_none (a, b) (max m n) (omega (arith, le-max_left m n)))
      | inr lo ↦ elim (cases_lt 64 n) [
        | inl hi ↦ ap₂ paired (cut_some a m lo) (cut_none b n hi) ∙ sym (cut_none (a, b) (max m n) (omega (arith, le-max_right m n)))
        | inr lo' ↦ ap₂ paired (cut_some a m lo) (cut_some b n lo') ∙ sym (cut_some (a, b) (max m n) (max-le lo lo'))
      ]
    ]

part_if : (b : Bool) (e : Tree) (h : ℕ) → expr_part (if b then Some (record { height = h; expr = e }) else None) ≡ (if b then Some (record { height = h; tree = e }) else None)
part_if true e h = refl
part_if false e h = refl

pub expr_part_cut : (e : Tree) (h : ℕ) → expr_part (expr_cut e h) ≡ cut e h
expr_part_cut e h = part_if (nat_le h 64) e h

-- a tree that is one higher than its part, and than both of its parts
pub kept_taller : {A B : Type 0} (f : A → B) (x : A) (h : ℕ) → kept f (taller (cut x h)) ≡ cut (f x) (suc h)
kept_taller f x h = ap (kept f) (taller_cut x h) ∙ kept_cut f x (suc h)

pub kept_paired : {A B C : Type 0} (f : A × B → C) (a : A) (b : B) (m n : ℕ) → kept f (paired (cut a m) (cut b n)) ≡ cut (f (a, b)) (max m n)
kept_paired f a b m n = ap (kept f) (paired_cut a b m n) ∙ kept_cut f (a, b) (max m n)

pub kept_both : {A B C : Type 0} (f : A × B → C) (a : A) (b : B) (m n : ℕ) → kept f (taller (paired (cut a m) (cut b n))) ≡ cut (f (a, b)) (suc (max m n))
kept_both f a b m n = ap (λ p. kept f (taller p)) (paired_cut a b m n) ∙ kept_taller f (a, b) (max m n)
