-- Points whose names last, where one is added or some are left out.
use Rattle.std.proofs.Common.{Bool, true, false, if◌then◌else◌, List, [], ◌∷◌, ◌++◌, filter}
use Rattle.std.specs.List.{AllByRecursion}

pub added : {A : Type 0} (P : A → Type 0) (xs : List A) (x : A) → AllByRecursion P xs → P x → AllByRecursion P (xs ++ x ∷ [])
added P [] x all p = (p, tt)
added P (y ∷ ys) x all p = (all.0, added P ys x all.1 p)

kept_if : {A : Type 0} (P : A → Type 0) (b : Bool) (y : A) (ys : List A) → P y → AllByRecursion P ys → AllByRecursion P (if b then y ∷ ys else ys)
kept_if P true y ys p all = (p, all)
kept_if P false y ys p all = all

pub left : {A : Type 0} (P : A → Type 0) (f : A → Bool) (xs : List A) → AllByRecursion P xs → AllByRecursion P (filter f xs)
left P f [] all = tt
left P f (y ∷ ys) all = kept_if P (f y) y (filter f ys) all.0 (left P f ys all.1)
