-- Why there is nothing of one part, of two and of three.
use Rattle.std.proofs.Common.{◌≡◌, ℕ, refl, ap, sym, subst, Option, Some, None, Result, Ok, Err}
use Rattle.c_judge.specs.declared.fault.Fault.{Fault}
use Rattle.c_judge.specs.declared.fault.Fault.TheVariants.{Unknown, Rule, NoMemory}
use Rattle.c_judge.specs.declared.part.Part.{Part}
use Rattle.c_trees.specs.Expressions.{Tree}
use Rattle.c_judge.specs.Scope.{Scope}
use Rattle.c_judge.specs.Answers.{Answer, ◌then◌, two, both_known, joint}
use Rattle.c_judge.specs.Answers as answer
use Rattle.c_judge.specs.Pairs.{graver, paired, told_alone, refused}
use Rattle.c_judge.specs.Parts.{judged_of}
use Rattle.c_judge.specs.Judgement.{judged}
use Rattle.c_judge.specs.Judges.{IsFault, Gives, Judges}

-- what is not there makes nothing
pub then_fails : {A B : Type 0} (j : Answer A) (g : A → Answer B) (e : Fault) → IsFault j e → IsFault (◌then◌ j g) e
then_fails j g (Unknown name) h = ap (λ w. ◌then◌ w g) h
then_fails j g (Rule r at) h = ap (λ w. ◌then◌ w g) h
then_fails j g NoMemory h = tt

pub then_gives : {A B : Type 0} (j : Answer A) (x : A) (g : A → Answer B) → j ≡ answer.Known x → ◌then◌ j g ≡ g x
then_gives j x g h = ap (λ w. ◌then◌ w g) h

-- of two parts, what there is
abbrev OnFault : {A B : Type 0} → Answer A → Result B Fault → Type 0
OnFault j (Ok x) = Unit {0}
OnFault j (Err e) = IsFault j e

module _ {A B C : Type 0} (f : A → B → Answer C) where
  right_fails : (a : Answer A) (b : Answer B) (x : A) (e : Fault) → a ≡ answer.Known x → IsFault b e → IsFault (two f a b) e
  right_fails a b x (Unknown name) h k = rw (h, k) refl
  right_fails a b x (Rule r at) h k = rw (h, k) refl
  right_fails a b x NoMemory h k = tt

  left_fails : {Y : Type 0} (k : Y → B) (a : Answer A) (b : Answer B) (e : Fault) (y : Result Y Fault) → IsFault a e → Gives k b y → IsFault (two f a b) (graver e y)
  left_fails k a b (Rule r at) y h m = rw h refl
  left_fails k a b NoMemory y h m = tt
  left_fails k a b (Unknown name) (Ok y) h m = rw (h, m) refl
  left_fails k a b (Unknown name) (Err (Unknown other)) h m = rw (h, m) refl
  left_fails k a b (Unknown name) (Err (Rule r at)) h m = rw (h, m) refl
  left_fails k a b (Unknown name) (Err NoMemory) h m = tt

  two_fault : {X Y : Type 0} (g : X → A) (k : Y → B) (a : Answer A) (b : Answer B) (x : Result X Fault) (y : Result Y Fault) → Gives g a x → Gives k b y → OnFault (two f a b) (paired x y)
  two_fault g k a b (Ok x) (Ok y) h m = tt
  two_fault g k a b (Ok x) (Err e) h m = right_fails a b (g x) e h m
  two_fault g k a b (Err e) y h m = left_fails k a b e y h m

  pub two_fails : {X Y : Type 0} (g : X → A) (k : Y → B) (a : Answer A) (b : Answer B) (x : Result X Fault) (y : Result Y Fault) (e : Fault) → Gives g a x → Gives k b y → paired x y ≡ Err e → IsFault (two f a b) e
  two_fails g k a b x y e h m p = subst (OnFault (two f a b)) p (two_fault g k a b x y h m)

  pub two_known : (a : Answer A) (b : Answer B) (x : A) (y : B) → a ≡ answer.Known x → b ≡ answer.Known y → two f a b ≡ f x y
  two_known a b x y h m = rw (h, m) refl

left_or : {X Y : Type 0} → X → Result (X × Y) Fault → X
left_or x (Ok p) = p.0
left_or x (Err e) = x

right_or : {X Y : Type 0} → Y → Result (X × Y) Fault → Y
right_or y (Ok p) = p.1
right_or y (Err e) = y

AreBoth : {X Y : Type 0} → Result X Fault → Result Y Fault → Result (X × Y) Fault → Type 0
AreBoth x y (Ok p) = (x ≡ Ok p.0) × (y ≡ Ok p.1)
AreBoth x y (Err e) = Unit {0}

both_there : {X Y : Type 0} (x : Result X Fault) (y : Result Y Fault) → AreBoth x y (paired x y)
unfolding AreBoth
both_there (Ok x) (Ok y) = (refl, refl)
both_there (Ok x) (Err e) = tt
both_there (Err e) y = tt

-- both parts are there
pub paired_both : {X Y : Type 0} (x : Result X Fault) (y : Result Y Fault) (p : X × Y) → paired x y ≡ Ok p → (x ≡ Ok p.0) × (y ≡ Ok p.1)
unfolding AreBoth
paired_both x y p h = subst (AreBoth x y) h (both_there x y)

-- what is made of two parts by a rule that is asked of one part alone where a name in the other is not declared
module _ {A B C X Y : Type 0} (at : ℕ) (l : A → Option ℕ) (r : B → Option ℕ) (f : A → B → Answer C) (g : X → A) (k : Y → B) where
  pub joint_known : (a : Answer A) (b : Answer B) (x : A) (y : B) → a ≡ answer.Known x → b ≡ answer.Known y → joint at l r f a b ≡ f x y
  joint_known a b x y h m = rw (h, m) refl

  told : Result X Fault → Result Y Fault → Option ℕ
  told x y = told_alone (λ p. l (g p)) (λ q. r (k q)) x y

  one_breaks : (a : Answer A) (b : Answer B) (x : Result X Fault) (y : Result Y Fault) (n : ℕ) → Gives g a x → Gives k b y → told x y ≡ Some n → joint at l r f a b ≡ answer.Broken n at
  unfolding told
  one_breaks a b (Ok x) (Err (Unknown name)) n h m t = rw (h, m, t) refl
  one_breaks a b (Err (Unknown name)) (Ok y) n h m t = rw (h, m, t) refl
  one_breaks a b x y n h m t = cc

  none_breaks : (a : Answer A) (b : Answer B) (x : Result X Fault) (y : Result Y Fault) → Gives g a x → Gives k b y → told x y ≡ None → OnFault (joint at l r f a b) (paired x y)
  unfolding told
  none_breaks a b (Ok x) (Ok y) h m t = tt
  none_breaks a b (Ok x) (Err (Unknown name)) h m t = rw (h, m, t) refl
  none_breaks a b (Ok x) (Err (Rule n i)) h m t = rw (h, m) refl
  none_breaks a b (Ok x) (Err NoMemory) h m t = tt
  none_breaks a b (Err (Rule n i)) y h m t = rw h refl
  none_breaks a b (Err NoMemory) y h m t = tt
  none_breaks a b (Err (Unknown name)) (Ok y) h m t = rw (h, m, t) refl
  none_breaks a b (Err (Unknown name)) (Err (Unknown other)) h m t = rw (h, m) refl
  none_breaks a b (Err (Unknown name)) (Err (Rule n i)) h m t = rw (h, m) refl
  none_breaks a b (Err (Unknown name)) (Err NoMemory) h m t = tt

  joint_fault : (a : Answer A) (b : Answer B) (x : Result X Fault) (y : Result Y Fault) (o : Option ℕ) → Gives g a x → Gives k b y → told x y ≡ o → OnFault (joint at l r f a b) (refused at o (paired x y))
  joint_fault a b x y None h m t = none_breaks a b x y h m t
  joint_fault a b x y (Some n) h m t = one_breaks a b x y n h m t

  pub joint_fails : (a : Answer A) (b : Answer B) (x : Result X Fault) (y : Result Y Fault) (e : Fault) → Gives g a x → Gives k b y → refused at (told_alone (λ p. l (g p)) (λ q. r (k q)) x y) (paired x y) ≡ Err e → IsFault (joint at l r f a b) e
  unfolding told
  joint_fails a b x y e h m p = subst (OnFault (joint at l r f a b)) p (joint_fault a b x y (told x y) h m refl)

-- both parts are there, and neither breaks a rule
pub joint_both : {X Y : Type 0} (at : ℕ) (o : Option ℕ) (x : Result X Fault) (y : Result Y Fault) (p : X × Y) → refused at o (paired x y) ≡ Ok p → (x ≡ Ok p.0) × (y ≡ Ok p.1)
joint_both at None x y p h = paired_both x y p h
joint_both at (Some n) x y p h = cc

pub joint_gives : {X Y A B : Type 0} (at : ℕ) (l : A → Option ℕ) (r : B → Option ℕ) (g : X → A) (k : Y → B) (a : Answer A) (b : Answer B) (x : Result X Fault) (y : Result Y Fault) (z : Result (X × Y) Fault) → Gives g a x → Gives k b y
    → z ≡ refused at (told_alone (λ p. l (g p)) (λ q. r (k q)) x y) (paired x y) → Gives (λ (p : X × Y). (g p.0, k p.1)) (joint at l r both_known a b) z
joint_gives at l r g k a b x y (Ok p) h m w =
    let there = joint_both at (told_alone (λ p. l (g p)) (λ q. r (k q)) x y) x y p (sym w) in
    joint_known at l r both_known g k a b (g p.0) (k p.1) (subst (Gives g a) there.0 h) (subst (Gives k b) there.1 m)
joint_gives at l r g k a b x y (Err e) h m w = joint_fails at l r both_known g k a b x y e h m (sym w)

pub judges_gives : (v : Scope) (e : Tree) (r : Result Part Fault) → Judges v e r → Gives judged_of (judged v e) r
judges_gives v e (Ok p) h = h.0
judges_gives v e (Err f) h = h
