-- Parts of an expression of a known height.
use Rattle.std.proofs.Common.{◌≡◌, ℕ, suc, ◌+◌, ◌≤◌, ◌<◌, max, Bool, true, false, Some, None, nat_le, nat_lt, nat_eq, lit≤, sym, ◌∙◌, ap, ap₂, inl, inr, arith, le-leb, add-one}
use Rattle.std.specs.Prelude.{if◌then◌else◌}
use Rattle.std.proofs.Math.Nat.{max-le, le-max_left, le-max_right}
use Rattle.std.proofs.lemmas.Bool.{cases_lt}
use Rattle.std.proofs.lemmas.Bool.Decides.{nat_tests}
use Rattle.c_lex.specs.declared.token.Place.{Place}
use Rattle.c_expr.specs.declared.grown.Built.{Built}
use Rattle.c_expr.specs.declared.grown.Grown.{Grown}
use Rattle.c_trees.specs.declared.expression.Spec.{Spec}
use Rattle.c_trees.specs.Expressions.{Tree, SizeofType, Cast, Stars, Around, Unbounded}
use Rattle.c_expr.specs.Grammar.{stars_height, name_height}
use Rattle.c_expr.specs.Grown.{cut, taller, grow, grow_two, grow_three, grow_list, stars_of, around_of, unbounded_of, sized, cast_tree}

abbrev pub piece : ℕ → Tree → Place → ℕ → Grown
piece level e at h = record { place = at; level = level; tree = cut e h }

pub if_true : {T : Type 0} (b : Bool) (x y : T) → b ≡ true → (if b then x else y) ≡ x
if_true b x y e = ap (λ v. if v then x else y) e

pub if_false : {T : Type 0} (b : Bool) (x y : T) → b ≡ false → (if b then x else y) ≡ y
if_false b x y e = ap (λ v. if v then x else y) e

max_le : (a b c : ℕ) → a ≤ c → b ≤ c → max a b ≤ c
max_le a b c h k = max-le h k

pub gt-leb : (a b : ℕ) → b < a → nat_le a b ≡ false
gt-leb a b h = grind (arith, nat_tests)

pub cut_some : (e : Tree) (h : ℕ) → h ≤ 64 → cut e h ≡ Some (record { height = h; expr = e })
cut_some e h le = if_true _ _ _ (le-leb h 64 le)

pub cut_none : (e : Tree) (h : ℕ) → 64 < h → cut e h ≡ None
cut_none e h gt = if_false _ _ _ (gt-leb h 64 gt)

pub taller_cut : (h : ℕ) (t : Tree) → taller h t ≡ cut t (suc h)
taller_cut h t = let make : ℕ → Built = λ n. record { height = n; expr = t } in ap (λ n. if nat_le (suc h) 64 then Some (make n) else None) (add-one h)

pub grow_cut : (f : Tree → Tree) (e : Tree) (h : ℕ) → grow f (cut e h) ≡ cut (f e) (suc h)
grow_cut f e h =
    elim (cases_lt 64 h) [
      | inl hi ↦ ap (grow f) (cut_none e h hi) ∙ sym (cut_none (f e) (suc h) (omega arith))
      | inr lo ↦ ap (grow f) (cut_some e h lo) ∙ taller_cut h (f e)
    ]

pub grow_two_cut : (f : Tree → Tree → Tree) (a b : Tree) (m n : ℕ) → grow_two f (cut a m) (cut b n) ≡ cut (f a b) (suc (max m n))
grow_two_cut f a b m n =
    elim (cases_lt 64 m) [
      | inl hi ↦ ap (λ o. grow_two f o (cut b n)) (cut_none a m hi) ∙ sym (cut_none (f a b) (suc (max m n)) (omega (arith, le-max_left m n)))
      | inr lo ↦ elim (cases_lt 64 n) [
        | inl hi ↦ ap₂ (grow_two f) (cut_some a m lo) (cut_none b n hi) ∙ sym (cut_none (f a b) (suc (max m n)) (omega (arith, le-max_right m n)))
        | inr lo' ↦ ap₂ (grow_two f) (cut_some a m lo) (cut_some b n lo') ∙ taller_cut (max m n) (f a b)
      ]
    ]

list_cut : (most more : ℕ) → most + more ≡ 65 → (f : Tree → Tree → Tree) (a b : Tree) (m n : ℕ) → m ≤ 64
    → (if nat_lt n most then Some (record { height = max m (n + more); expr = f a b }) else None) ≡ cut (f a b) (max m (n + more))
list_cut most more e f a b m n lo =
    elim (cases_lt n most) [
      | inl low ↦ if_true _ _ _ (le-leb (suc n) most low) ∙ sym (cut_some (f a b) (max m (n + more)) (max_le m (n + more) 64 lo (omega (arith, e))))
      | inr high ↦ if_false _ _ _ (gt-leb (suc n) most (omega arith)) ∙ sym (cut_none (f a b) (max m (n + more)) (omega (arith, e, le-max_right m (n + more))))
    ]

-- one more in a list
pub grow_list_cut : (most more : ℕ) → most + more ≡ 65 → (f : Tree → Tree → Tree) (a b : Tree) (m n : ℕ) → grow_list most more f (cut a m) (cut b n) ≡ cut (f a b) (max m (n + more))
grow_list_cut most more e f a b m n =
    elim (cases_lt 64 m) [
      | inl hi ↦ ap (λ o. grow_list most more f o (cut b n)) (cut_none a m hi) ∙ sym (cut_none (f a b) (max m (n + more)) (omega (arith, le-max_left m (n + more))))
      | inr lo ↦ elim (cases_lt 64 n) [
        | inl hi ↦ ap₂ (grow_list most more f) (cut_some a m lo) (cut_none b n hi) ∙ sym (cut_none (f a b) (max m (n + more)) (omega (arith, le-max_right m (n + more))))
        | inr lo' ↦ ap₂ (grow_list most more f) (cut_some a m lo) (cut_some b n lo') ∙ list_cut most more e f a b m n lo
      ]
    ]

-- declarators
small : (b : Bool) → (if b then 0 else 2) ≤ 64
small true = lit≤ tt
small false = lit≤ tt

stars_small : (n : ℕ) → stars_height n ≤ 64
stars_small n = small (nat_eq n 0)

pub stars_cut : (n : ℕ) → stars_of n ≡ cut (Stars n) (stars_height n)
stars_cut n = sym (cut_some (Stars n) (stars_height n) (stars_small n))

around_low : (n : ℕ) (d : Tree) (m : ℕ) → m ≤ 64 → around_of n (Some (record { height = m; expr = d })) ≡ cut (Around n d) (max (stars_height n) (m + 1))
around_low n d m lo =
    elim (cases_lt m 64) [
      | inl low ↦ if_true _ _ _ (le-leb (suc m) 64 low) ∙ sym (cut_some (Around n d) (max (stars_height n) (m + 1)) (max_le (stars_height n) (m + 1) 64 (stars_small n) (omega arith)))
      | inr high ↦ if_false _ _ _ (gt-leb (suc m) 64 (omega arith)) ∙ sym (cut_none (Around n d) (max (stars_height n) (m + 1)) (omega (arith, le-max_right (stars_height n) (m + 1))))
    ]

pub around_cut : (n : ℕ) (d : Tree) (m : ℕ) → around_of n (cut d m) ≡ cut (Around n d) (max (stars_height n) (m + 1))
around_cut n d m =
    elim (cases_lt 64 m) [
      | inl hi ↦ ap (around_of n) (cut_none d m hi) ∙ sym (cut_none (Around n d) (max (stars_height n) (m + 1)) (omega (arith, le-max_right (stars_height n) (m + 1))))
      | inr lo ↦ ap (around_of n) (cut_some d m lo) ∙ around_low n d m lo
    ]

pub unbounded_cut : (d : Tree) (m : ℕ) → unbounded_of (cut d m) ≡ cut (Unbounded d) (max m 2)
unbounded_cut d m =
    elim (cases_lt 64 m) [
      | inl hi ↦ ap unbounded_of (cut_none d m hi) ∙ sym (cut_none (Unbounded d) (max m 2) (omega (arith, le-max_left m 2)))
      | inr lo ↦ ap unbounded_of (cut_some d m lo) ∙ sym (cut_some (Unbounded d) (max m 2) (max_le m 2 64 lo (lit≤ tt)))
    ]

pub sized_cut : (at : Place) (spec : Spec) (d : Tree) (m : ℕ) → sized at spec (cut d m) ≡ cut (SizeofType at spec d) (suc (name_height m))
sized_cut at spec d m =
    elim (cases_lt 64 m) [
      | inl hi ↦ ap (sized at spec) (cut_none d m hi) ∙ sym (cut_none (SizeofType at spec d) (suc (name_height m)) (omega (arith, le-max_right 1 m)))
      | inr lo ↦ ap (sized at spec) (cut_some d m lo) ∙ taller_cut (name_height m) (SizeofType at spec d)
    ]

pub cast_cut : (at : Place) (spec : Spec) (d a : Tree) (m h : ℕ) → cast_tree at spec (cut d m) (cut a h) ≡ cut (Cast at spec d a) (suc (max (name_height m) h))
cast_cut at spec d a m h =
    elim (cases_lt 64 m) [
      | inl hi ↦ ap (λ o. cast_tree at spec o (cut a h)) (cut_none d m hi) ∙ sym (cut_none (Cast at spec d a) (suc (max (name_height m) h)) (omega (arith, le-max_right 1 m, le-max_left (name_height m) h)))
      | inr lo ↦ elim (cases_lt 64 h) [
        | inl hi ↦ ap₂ (cast_tree at spec) (cut_some d m lo) (cut_none a h hi) ∙ sym (cut_none (Cast at spec d a) (suc (max (name_height m) h)) (omega (arith, le-max_right (name_height m) h)))
        | inr lo' ↦ ap₂ (cast_tree at spec) (cut_some d m lo) (cut_some a h lo') ∙ taller_cut (max (name_height m) h) (Cast at spec d a)
      ]
    ]

grow_three_low : (f : Tree → Tree → Tree → Tree) (a b e : Tree) (l m n : ℕ) → l ≤ 64 → grow_three f (cut a l) (cut b m) (cut e n) ≡ cut (f a b e) (suc (max l (max m n)))
grow_three_low f a b e l m n low =
    let first : grow_three f (cut a l) (cut b m) (cut e n) ≡ grow_three f (Some (record { height = l; expr = a })) (cut b m) (cut e n) = ap (λ o. grow_three f o (cut b m) (cut e n)) (cut_some a l low) in
    elim (cases_lt 64 m) [
      | inl hi ↦ first ∙ ap (λ o. grow_three f (Some (record { height = l; expr = a })) o (cut e n)) (cut_none b m hi)
          ∙ sym (cut_none (f a b e) (suc (max l (max m n))) (omega (arith, le-max_right l (max m n), le-max_left m n)))
      | inr lo ↦ elim (cases_lt 64 n) [
        | inl hi ↦ first ∙ ap₂ (grow_three f (Some (record { height = l; expr = a }))) (cut_some b m lo) (cut_none e n hi)
            ∙ sym (cut_none (f a b e) (suc (max l (max m n))) (omega (arith, le-max_right l (max m n), le-max_right m n)))
        | inr lo' ↦ first ∙ ap₂ (grow_three f (Some (record { height = l; expr = a }))) (cut_some b m lo) (cut_some e n lo') ∙ taller_cut (max l (max m n)) (f a b e)
      ]
    ]

pub grow_three_cut : (f : Tree → Tree → Tree → Tree) (a b e : Tree) (l m n : ℕ) → grow_three f (cut a l) (cut b m) (cut e n) ≡ cut (f a b e) (suc (max l (max m n)))
grow_three_cut f a b e l m n =
    elim (cases_lt 64 l) [
      | inl hi ↦ ap (λ o. grow_three f o (cut b m) (cut e n)) (cut_none a l hi) ∙ sym (cut_none (f a b e) (suc (max l (max m n))) (omega (arith, le-max_left l (max m n))))
      | inr lo ↦ grow_three_low f a b e l m n lo
    ]
