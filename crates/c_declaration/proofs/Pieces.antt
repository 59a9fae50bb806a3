-- Trees of a known height.
use Rattle.std.proofs.Common.{◌≡◌, ℕ, suc, ◌+◌, ◌≤◌, ◌<◌, max, Bool, true, false, List, [], ◌∷◌, ◌++◌, Option, Some, None, nat_le, nat_lt, nat_eq, lit≤, refl, sym, ◌∙◌, ap, ap₂, inl, inr, arith, le-leb, add-one}
use Rattle.std.specs.Prelude.{if◌then◌else◌}
use Rattle.std.proofs.Math.Nat.{max-le, le-max_left, le-max_right}
use Rattle.std.proofs.lemmas.Bool.{cases_lt}
use Rattle.std.proofs.lemmas.Bool.Decides.{nat_tests}
use Rattle.c_lex.specs.declared.token.Place.{Place}
use Rattle.c_trees.specs.declared.expression.Spec.{Spec}
use Rattle.c_trees.specs.Expressions.{Tree, Stars, Around, Unbounded}
use Rattle.c_expr.specs.Grammar.{stars_height}
use Rattle.c_expr.specs.Grown as expr_grown
use Rattle.c_declaration.specs.declared.built.Built.{Built}
use Rattle.c_declaration.specs.declared.front.Stars as front
use Rattle.c_trees.specs.Declarators.{DeclaratorTree}
use Rattle.c_trees.specs.Declarators as tree
use Rattle.c_trees.specs.Initializers.{InitialTree, Value}
use Rattle.c_declaration.specs.Grown.{cut, taller, grow, grow_two, grow_list, expr_of, pointers_of, unnamed_of, stars_of, around_of, unbounded_of, value_of, bare_name, bare_of}
use Rattle.c_trees.specs.declared.declaration.Declared.{Declared}

pub if_true : {T : Type 0} (b : Bool) (x y : T) → b ≡ true → (if b then x else y) ≡ x
if_true b x y e = ap (λ v. if v then x else y) e

pub if_false : {T : Type 0} (b : Bool) (x y : T) → b ≡ false → (if b then x else y) ≡ y
if_false b x y e = ap (λ v. if v then x else y) e

max_le : (a b c : ℕ) → a ≤ c → b ≤ c → max a b ≤ c
max_le a b c h k = max-le h k

pub gt-leb : (a b : ℕ) → b < a → nat_le a b ≡ false
gt-leb a b h = grind (arith, nat_tests)

pub cut_some : {T : Type 0} (e : T) (h : ℕ) → h ≤ 64 → cut e h ≡ Some (record { height = h; tree = e })
cut_some e h le = if_true _ _ _ (le-leb h 64 le)

pub cut_none : {T : Type 0} (e : T) (h : ℕ) → 64 < h → cut e h ≡ None
cut_none e h gt = if_false _ _ _ (gt-leb h 64 gt)

pub taller_cut : {T : Type 0} (h : ℕ) (t : T) → taller h t ≡ cut t (suc h)
taller_cut {T} h t = let make : ℕ → Built T = λ n. record { height = n; tree = t } in ap (λ n. if nat_le (suc h) 64 then Some (make n) else None) (add-one h)

pub grow_cut : {A B : Type 0} (f : A → B) (e : A) (h : ℕ) → grow f (cut e h) ≡ cut (f e) (suc h)
grow_cut f e h =
    elim (cases_lt 64 h) [
      | inl hi ↦ ap (grow f) (cut_none e h hi) ∙ sym (cut_none (f e) (suc h) (omega arith))
      | inr lo ↦ ap (grow f) (cut_some e h lo) ∙ taller_cut h (f e)
    ]

pub grow_two_cut : {A B C : Type 0} (f : A → B → C) (a : A) (b : B) (m n : ℕ) → grow_two f (cut a m) (cut b n) ≡ cut (f a b) (suc (max m n))
grow_two_cut f a b m n =
    elim (cases_lt 64 m) [
      | inl hi ↦ ap (λ o. grow_two f o (cut b n)) (cut_none a m hi) ∙ sym (cut_none (f a b) (suc (max m n)) (omega (arith, le-max_left m n)))
      | inr lo ↦ elim (cases_lt 64 n) [
        | inl hi ↦ ap₂ (grow_two f) (cut_some a m lo) (cut_none b n hi) ∙ sym (cut_none (f a b) (suc (max m n)) (omega (arith, le-max_right m n)))
        | inr lo' ↦ ap₂ (grow_two f) (cut_some a m lo) (cut_some b n lo') ∙ taller_cut (max m n) (f a b)
      ]
    ]

list_cut : {T : Type 0} (most more : ℕ) → most + more ≡ 65 → (t : T) (m n : ℕ) → m ≤ 64
    → (if nat_lt n most then Some (record { height = max m (n + more); tree = t }) else None) ≡ cut t (max m (n + more))
list_cut most more e t m n lo =
    elim (cases_lt n most) [
      | inl low ↦ if_true _ _ _ (le-leb (suc n) most low) ∙ sym (cut_some t (max m (n + more)) (max_le m (n + more) 64 lo (omega (arith, e))))
      | inr high ↦ if_false _ _ _ (gt-leb (suc n) most (omega arith)) ∙ sym (cut_none t (max m (n + more)) (omega (arith, e, le-max_right m (n + more))))
    ]

-- one more in a list
pub grow_list_cut : {A B C : Type 0} (most more : ℕ) → most + more ≡ 65 → (f : A → B → C) (a : A) (b : B) (m n : ℕ) → grow_list most more f (cut a m) (cut b n) ≡ cut (f a b) (max m (n + more))
grow_list_cut most more e f a b m n =
    elim (cases_lt 64 m) [
      | inl hi ↦ ap (λ o. grow_list most more f o (cut b n)) (cut_none a m hi) ∙ sym (cut_none (f a b) (max m (n + more)) (omega (arith, le-max_left m (n + more))))
      | inr lo ↦ elim (cases_lt 64 n) [
        | inl hi ↦ ap₂ (grow_list most more f) (cut_some a m lo) (cut_none b n hi) ∙ sym (cut_none (f a b) (max m (n + more)) (omega (arith, e, le-max_right m (n + more))))
        | inr lo' ↦ ap₂ (grow_list most more f) (cut_some a m lo) (cut_some b n lo') ∙ list_cut most more e (f a b) m n lo
      ]
    ]

-- expressions
pub expr_cut : (e : Tree) (h : ℕ) → expr_of (expr_grown.cut e h) ≡ cut e h
expr_cut e h =
    elim (cases_lt 64 h) [
      | inl hi ↦ ap expr_of (if_false _ _ _ (gt-leb h 64 hi)) ∙ sym (cut_none e h hi)
      | inr lo ↦ ap expr_of (if_true _ _ _ (le-leb h 64 lo)) ∙ sym (cut_some e h lo)
    ]

pub value_cut : (e : Tree) (h : ℕ) → value_of (cut e h) ≡ cut (Value e) h
value_cut e h =
    elim (cases_lt 64 h) [
      | inl hi ↦ ap value_of (cut_none e h hi) ∙ sym (cut_none (Value e) h hi)
      | inr lo ↦ ap value_of (cut_some e h lo) ∙ sym (cut_some (Value e) h lo)
    ]

pub bare_cut : (d : DeclaratorTree) (h : ℕ) → bare_of (cut d h) ≡ cut (bare_name d) h
bare_cut d h =
    elim (cases_lt 64 h) [
      | inl hi ↦ ap bare_of (cut_none d h hi) ∙ sym (cut_none (bare_name d) h hi)
      | inr lo ↦ ap bare_of (cut_some d h lo) ∙ sym (cut_some (bare_name d) h lo)
    ]

-- declarators
pub pointers_cut : (s : front.Stars) (d : DeclaratorTree) (h : ℕ) → pointers_of s (cut d h) ≡ cut (tree.Pointers s.place s.count d) (suc (max 2 h))
pointers_cut s d h =
    elim (cases_lt 64 h) [
      | inl hi ↦ ap (pointers_of s) (cut_none d h hi) ∙ sym (cut_none (tree.Pointers s.place s.count d) (suc (max 2 h)) (omega (arith, le-max_right 2 h)))
      | inr lo ↦ ap (pointers_of s) (cut_some d h lo) ∙ taller_cut (max 2 h) (tree.Pointers s.place s.count d)
    ]

pub unnamed_cut : (at : Place) (spec : Spec) (a : Tree) (m : ℕ) → unnamed_of at spec (cut a m) ≡ cut (tree.Unnamed at spec a) (suc (max 1 m))
unnamed_cut at spec a m =
    elim (cases_lt 64 m) [
      | inl hi ↦ ap (unnamed_of at spec) (cut_none a m hi) ∙ sym (cut_none (tree.Unnamed at spec a) (suc (max 1 m)) (omega (arith, le-max_right 1 m)))
      | inr lo ↦ ap (unnamed_of at spec) (cut_some a m lo) ∙ taller_cut (max 1 m) (tree.Unnamed at spec a)
    ]

small : (b : Bool) → (if b then 0 else 2) ≤ 64
small true = lit≤ tt
small false = lit≤ tt

stars_small : (n : ℕ) → stars_height n ≤ 64
stars_small n = small (nat_eq n 0)

pub stars_cut : (n : ℕ) → stars_of n ≡ cut (Stars n) (stars_height n)
stars_cut n = sym (cut_some (Stars n) (stars_height n) (stars_small n))

around_low : (n : ℕ) (d : Tree) (m : ℕ) → m ≤ 64 → around_of n (Some (record { height = m; tree = d })) ≡ cut (Around n d) (max (stars_height n) (m + 1))
around_low n d m lo =
    elim (cases_lt m 64) [
      | inl low ↦ if_true _ _ _ (le-leb (suc m) 64 low) ∙ sym (cut_some (Around n d) (max (stars_height n) (m + 1)) (max_le (stars_height n) (m + 1) 64 (stars_small n) (omega arith)))
      | inr high ↦ if_false _ _ _ (gt-leb (suc m) 64 (omega arith)) ∙ sym (cut_none (Around n d) (max (stars_height n) (m + 1)) (omega (arith, le-max_right (stars_height n) (m + 1))))
    ]

pub around_cut : (n : ℕ) (d : Tree) (m : ℕ) → around_of n (cut d m) ≡ cut (Around n d) (max (stars_height n) (m + 1))
around_cut n d m =
    elim (cases_lt 64 m) [
      | inl hi ↦ ap (around_of n) (cut_none d m hi) ∙ sym (cut_none (Around n d) (max (stars_height n) (m + 1)) (omega (arith, le-max_right (stars_height n) (m + 1))))
      | inr lo ↦ ap (around_of n) (cut_some d m lo) ∙ around_low n d m lo
    ]

pub unbounded_cut : (d : Tree) (m : ℕ) → unbounded_of (cut d m) ≡ cut (Unbounded d) (max m 2)
unbounded_cut d m =
    elim (cases_lt 64 m) [
      | inl hi ↦ ap unbounded_of (cut_none d m hi) ∙ sym (cut_none (Unbounded d) (max m 2) (omega (arith, le-max_left m 2)))
      | inr lo ↦ ap unbounded_of (cut_some d m lo) ∙ sym (cut_some (Unbounded d) (max m 2) (max_le m 2 64 lo (lit≤ tt)))
    ]
