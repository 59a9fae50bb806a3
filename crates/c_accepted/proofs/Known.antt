-- Answers that are known have known parts.
use Rattle.std.proofs.Common.{◌≡◌, refl, sym, subst, ℕ, Bool, true, false, Option, Some, None}
use Rattle.std.specs.Prelude.{if◌then◌else◌}
use Rattle.c_typing.specs.Plain.{Plain}
use Rattle.c_typing.specs.Rules.{only}
use Rattle.c_judge.specs.Answers.{Answer, Known, Unknown, Broken, ◌then◌, two, alone, unless_broken, joint}
use Rattle.c_judge.specs.Judgement.{Judged, by_rule}

abbrev pub IsThere : {A : Type 0} → Answer A → Type 0
IsThere (Known x) = Unit {0}
IsThere _ = ⊥

pub never : {A B : Type 0} (m : Answer A) (x : A) → (IsThere m → ⊥) → m ≡ Known x → B
never {A} {B} m x n e = absurd (n (subst IsThere (sym e) tt))

pub one_known : {A : Type 0} (x y : A) → ◌≡◌ {A = Answer A} (Known x) (Known y) → x ≡ y
one_known x y e = cc

pub then_known : {A B : Type 0} (m : Answer A) (f : A → Answer B) (j : B) → (m then f) ≡ Known j → (x : A) × (m ≡ Known x) × (f x ≡ Known j)
then_known (Known x) f j e = (x, refl, e)
then_known (Unknown n) f j e = never (Unknown n) j (λ k. k) e
then_known (Broken r at) f j e = never (Broken r at) j (λ k. k) e

pub two_known : {A B C : Type 0} (f : A → B → Answer C) (a : Answer A) (b : Answer B) (j : C) → two f a b ≡ Known j → (x : A) × (y : B) × (a ≡ Known x) × (b ≡ Known y) × (f x y ≡ Known j)
two_known f (Known x) (Known y) j e = (x, y, refl, refl, e)
two_known f (Known x) (Unknown n) j e = never (Unknown n) j (λ k. k) e
two_known f (Known x) (Broken r at) j e = never (Broken r at) j (λ k. k) e
two_known f (Unknown n) (Known y) j e = never (Unknown n) j (λ k. k) e
two_known f (Unknown n) (Unknown m) j e = never (Unknown n) j (λ k. k) e
two_known f (Unknown n) (Broken r at) j e = never (Broken r at) j (λ k. k) e
two_known f (Broken r at) b j e = never (Broken r at) j (λ k. k) e

unbroken : {C : Type 0} (at : ℕ) (o : Option ℕ) (k : Answer C) (j : C) → unless_broken at o k ≡ Known j → k ≡ Known j
unbroken at None k j e = e
unbroken at (Some r) k j e = never (Broken r at) j (λ k. k) e

pub joint_known : {A B C : Type 0} (at : ℕ) (g : A → Option ℕ) (h : B → Option ℕ) (f : A → B → Answer C) (a : Answer A) (b : Answer B) (j : C) → joint at g h f a b ≡ Known j
    → (x : A) × (y : B) × (a ≡ Known x) × (b ≡ Known y) × (f x y ≡ Known j)
joint_known at g h f a b j e = two_known f a b j (unbroken at (alone g h a b) (two f a b) j e)

pub ruled : (r at : ℕ) (f : Plain → Judged) (o : Option Plain) (j : Judged) → by_rule r at f o ≡ Known j → (t : Plain) × (o ≡ Some t) × (f t ≡ j)
ruled r at f None j e = never (Broken r at) j (λ k. k) e
ruled r at f (Some t) j e = (t, refl, one_known (f t) j e)

pub only_this : (b : Bool) (t r : Plain) → only b t ≡ Some r → (b ≡ true) × (t ≡ r)
only_this true t r e = (refl, cc)
only_this false t r e = absurd (let k : None ≡ Some r = e in cc)

pub if_known : {A : Type 0} (b : Bool) (x y : A) (r at : ℕ) → (if b then Known x else Broken r at) ≡ Known y → (b ≡ true) × (x ≡ y)
if_known true x y r at h = (refl, one_known x y h)
if_known false x y r at h = never (Broken r at) y (λ k. k) h
