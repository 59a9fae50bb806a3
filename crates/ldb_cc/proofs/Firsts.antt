-- Texts one by one.
use Rattle.std.proofs.Common.{◌≡◌, ◌<◌, ◌≤◌, Bool, true, false, ◌||◌, ℕ, zero, suc, ◌+◌, List, [], ◌∷◌, ◌++◌, length, map, take, get_or, Some, refl, sym, ap, ◌∙◌, subst, arith}
use Rattle.std.proofs.lemmas.List.{take_more, take_all, map-append}
use Rattle.std.proofs.lemmas.Bool.{ltb-false, true≢false}
use Rattle.std.specs.Global.{Vec}
use Rattle.std.specs.Prelude.{slice_get}
use Rattle.std.specs.List.{AllByRecursion, list_any}
use Rattle.c_file.specs.Made.{Each}
use Rattle.ldb_cc.specs.Sources.{IsFirst, is_long}
use Rattle.ldb_cc.specs.Scanning.{items_of}

-- one more, read from a list
pub more_read : {V A : Type 0} (f : V → A) (vs : List V) (i : ℕ) (v : V) → i < length vs → v ≡ get_or vs i v → map f (take (i + 1) vs) ≡ map f (take i vs) ++ f v ∷ []
more_read f vs i v l e = ap (map f) (take_more vs i v l) ∙ (map-append f (take i vs) (get_or vs i v ∷ []) ∙ ap (λ x. map f (take i vs) ++ f x ∷ []) (sym e))

pub all_more : {A : Type 0} (P : A → Type 0) (xs : List A) (x : A) → AllByRecursion P xs → P x → AllByRecursion P (xs ++ x ∷ [])
all_more P [] x a p = (p, tt)
all_more P (y ∷ ys) x a p = (a.0, all_more P ys x a.1 p)

pub each_more : {A B : Type 0} (R : A → B → Type 0) (xs : List A) (ys : List B) (x : A) (y : B) → Each R xs ys → R x y → Each R (xs ++ x ∷ []) (ys ++ y ∷ [])
each_more R [] [] x y e r = (r, tt)
each_more R [] (b ∷ bs) x y e r = absurd e
each_more R (a ∷ rest) [] x y e r = absurd e
each_more R (a ∷ rest) (b ∷ bs) x y e r = (e.0, each_more R rest bs x y e.1 r)

pub each_length : {A B : Type 0} (R : A → B → Type 0) (xs : List A) (ys : List B) → Each R xs ys → length xs ≡ length ys
each_length R [] [] e = refl
each_length R [] (b ∷ bs) e = absurd e
each_length R (a ∷ rest) [] e = absurd e
each_length R (a ∷ rest) (b ∷ bs) e = ap suc (each_length R rest bs e.1)

map_take : {V A : Type 0} (f : V → A) (vs : List V) (i : ℕ) → map f (take i vs) ≡ take i (map f vs)
map_take f vs zero = refl
map_take f [] (suc i) = refl
map_take f (v ∷ vs) (suc i) = ap (λ xs. f v ∷ xs) (map_take f vs i)

got : {V A : Type 0} (f : V → A) (vs : List V) (i : ℕ) (v : V) → i < length vs → v ≡ get_or vs i v → slice_get (map f vs) i ≡ Some (f v)
got f [] i v l e = absurd (omega arith)
got f (w ∷ vs) zero v l e = ap (λ x. Some (f x)) (sym e)
got f (w ∷ vs) (suc i) v l e = got f vs i v (omega arith) e

-- the text of a number, behind those of which something else holds
pub first_of : {V : Type 0} (f : V → List ℕ) (P Q : List ℕ → Type 0) (vs : List V) (i : ℕ) (v : V) → i < length vs → v ≡ get_or vs i v → AllByRecursion P (map f (take i vs)) → Q (f v) → IsFirst P Q i (map f vs)
first_of f P Q vs i v l e a q = record {
  those_before = subst (AllByRecursion P) (map_take f vs i) a;
  text = f v;
  is = got f vs i v l e;
  holds = q;
}

pub each_all : {A B : Type 0} (R : A → B → Type 0) (xs : List A) (ys : List B) → Each R xs ys → AllByRecursion (λ x. (y : B) × R x y) xs
each_all R [] [] e = tt
each_all R [] (b ∷ bs) e = tt
each_all R (a ∷ rest) [] e = absurd e
each_all R (a ∷ rest) (b ∷ bs) e = ((b, e.0), each_all R rest bs e.1)

-- all were read
pub all_read : {V A : Type 0} (f : V → A) (vs : List V) (i : ℕ) → length vs ≤ i → map f (take i vs) ≡ map f vs
all_read f vs i l = ap (map f) (take_all i vs l)

pub or_false : (a b : Bool) → (a || b) ≡ false → (a ≡ false) × (b ≡ false)
or_false true b e = absurd (true≢false e)
or_false false b e = (refl, e)

-- no text is too long
pub none_long : (vs : List (Vec ℕ)) (i : ℕ) (v : Vec ℕ) → i < length vs → v ≡ get_or vs i v → list_any is_long (map items_of vs) ≡ false → is_long v.items ≡ false
none_long [] i v l e n = absurd (omega arith)
none_long (w ∷ vs) zero v l e n = subst (λ (x : Vec ℕ). is_long x.items ≡ false) (sym e) (or_false (is_long w.items) (list_any is_long (map items_of vs)) n).0
none_long (w ∷ vs) (suc i) v l e n = none_long vs i v (omega arith) e (or_false (is_long w.items) (list_any is_long (map items_of vs)) n).1

pub is_short : (t : List ℕ) → is_long t ≡ false → length t ≤ 1048576
unfolding is_long
is_short t e = ltb-false 1048576 (length t) e

pub short_read : (vs : List (Vec ℕ)) (i : ℕ) (v : Vec ℕ) (t : List ℕ) → i < length vs → v ≡ get_or vs i v → t ≡ v.items → list_any is_long (map items_of vs) ≡ false → length t ≤ 1048576
short_read vs i v t l e f n = subst (λ (x : List ℕ). length x ≤ 1048576) (sym f) (is_short v.items (none_long vs i v l e n))
