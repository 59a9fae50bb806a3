-- Tags, each once: a tag that is there already adds nothing, and another is the last.
use Rattle.std.proofs.Common.{◌≡◌, ◌+◌, ℕ, suc, Bool, true, false, ◌||◌, List, [], ◌∷◌, ◌++◌, length, ◌∙◌, refl, ap, sym, subst, map, Option, Some, None, bytes_eq, if◌then◌else◌, arith}
use Rattle.std.proofs.lemmas.Slice.Eq.{bytes_eq-Decides}
use Rattle.std.specs.Map.{update}
use denote.Ref.{Bor}
use Rattle.c_typing.specs.Declarations.{is_named}
use Rattle.c_defs.specs.Numbers.{number_from, first_number}
use Rattle.c_mentions.specs.Tags.{now, each_once}

named_none : (n : ℕ) (xs : List (List ℕ)) (t : List ℕ) → number_from n xs t ≡ None → is_named xs t ≡ false
named_none n [] t h = refl
named_none n (x ∷ xs) t h = elim (bytes_eq x t) as (λ b. (if b then Some n else number_from (suc n) xs t) ≡ None → (b || is_named xs t) ≡ false) [ true ↦ λ e. absurd (let e' : Some n ≡ None = e in cc) | false ↦ λ e. named_none (suc n) xs t e ] h

named_some : (n : ℕ) (xs : List (List ℕ)) (t : List ℕ) (k : ℕ) → number_from n xs t ≡ Some k → is_named xs t ≡ true
named_some n [] t k h = absurd (let e : None ≡ Some k = h in cc)
named_some n (x ∷ xs) t k h = elim (bytes_eq x t) as (λ b. (if b then Some n else number_from (suc n) xs t) ≡ Some k → (b || is_named xs t) ≡ true) [ true ↦ λ e. refl | false ↦ λ e. named_some (suc n) xs t k e ] h

-- a name that is not there gets the number behind the others
last_same : (n : ℕ) (xs : List (List ℕ)) (x : List ℕ) → bytes_eq x x ≡ true → number_from n xs x ≡ None → number_from n (xs ++ x ∷ []) x ≡ Some (n + length xs)
last_same n [] x e h = ap (λ b. if b then Some n else None) e ∙ ap (λ m. Some m) (let f : n ≡ n + 0 = omega arith in f)
last_same n (y ∷ ys) x e h = elim (bytes_eq y x) as (λ b. (if b then Some n else number_from (suc n) ys x) ≡ None → (if b then Some n else number_from (suc n) (ys ++ x ∷ []) x) ≡ Some (n + suc (length ys))) [ true ↦ λ f. absurd (let g : Some n ≡ None = f in cc) | false ↦ λ f. last_same (suc n) ys x e f ∙ ap (λ m. Some m) (let g : suc n + length ys ≡ n + suc (length ys) = omega arith in g) ] h

last_other : (n : ℕ) (xs : List (List ℕ)) (x t : List ℕ) → bytes_eq x t ≡ false → number_from n (xs ++ x ∷ []) t ≡ number_from n xs t
last_other n [] x t e = ap (λ b. if b then Some n else None) e
last_other n (y ∷ ys) x t e = ap (λ r. if bytes_eq y t then Some n else r) (last_other (suc n) ys x t e)

same_text : (xs : List ℕ) → bytes_eq xs xs ≡ true
same_text xs = (bytes_eq-Decides xs xs).1 refl

number_last : (xs : List (List ℕ)) (x t : List ℕ) → first_number xs x ≡ None → (if bytes_eq x t then Some (length xs) else first_number xs t) ≡ first_number (xs ++ x ∷ []) t
number_last xs x t h =
    let P : Bool → Type 0 = λ b. bytes_eq x t ≡ b → (if b then Some (length xs) else first_number xs t) ≡ first_number (xs ++ x ∷ []) t in
    (elim (bytes_eq x t) as P [ true ↦ λ e. subst (λ (y : List ℕ). Some (length xs) ≡ first_number (xs ++ x ∷ []) y) ((bytes_eq-Decides x t).0 e) (sym (last_same 0 xs x (same_text x) h ∙ ap (λ m. Some m) (let g : 0 + length xs ≡ length xs = omega arith in g))) | false ↦ λ e. sym (last_other 0 xs x t e) ]) refl

once : (old new : List ℕ → Option ℕ) (xs : List (List ℕ)) (x : List ℕ) → ((t : List ℕ) → old t ≡ first_number xs t) → old x ≡ None
    → ((t : List ℕ) → new t ≡ update bytes_eq old x (Some (length xs)) t) → (t : List ℕ) → new t ≡ first_number (xs ++ x ∷ []) t
once old new xs x h n u t = u t ∙ (ap (λ r. if bytes_eq x t then Some (length xs) else r) (h t) ∙ number_last xs x t (sym (h x) ∙ n))

new_one : (xs : List (List ℕ)) (x : List ℕ) → first_number xs x ≡ None → each_once xs (x ∷ []) ≡ (xs ++ x ∷ [])
new_one xs x h = ap (λ b. if b then each_once xs [] else each_once (xs ++ x ∷ []) []) (named_none 0 xs x h)

pub again : (xs : List (List ℕ)) (x : List ℕ) (k : ℕ) → first_number xs x ≡ Some k → each_once xs (x ∷ []) ≡ xs
again xs x k h = ap (λ b. if b then each_once xs [] else each_once (xs ++ x ∷ []) []) (named_some 0 xs x k h)

-- a list behind one tag
pub one_more : (xs : List (List ℕ)) (x : List ℕ) (ys : List (List ℕ)) → each_once xs (x ∷ ys) ≡ each_once (each_once xs (x ∷ [])) ys
one_more xs x ys = elim (is_named xs x) as (λ b. (if b then each_once xs ys else each_once (xs ++ x ∷ []) ys) ≡ each_once (if b then each_once xs [] else each_once (xs ++ x ∷ []) []) ys) [ true ↦ refl | false ↦ refl ]

length_now : (xs : List (Bor (List ℕ))) → length (map now xs) ≡ length xs
length_now [] = refl
length_now (x ∷ xs) = ap suc (length_now xs)

now_last : (xs : List (Bor (List ℕ))) (x : Bor (List ℕ)) → map now (xs ++ x ∷ []) ≡ (map now xs ++ x.now ∷ [])
now_last [] x = refl
now_last (y ∷ ys) x = ap (λ zs. y.now ∷ zs) (now_last ys x)

-- a tag that was not there
pub tag_added : (old new : List (Bor (List ℕ))) (x : Bor (List ℕ)) → new ≡ (old ++ x ∷ []) → first_number (map now old) x.now ≡ None → map now new ≡ each_once (map now old) (x.now ∷ [])
tag_added old new x e h = ap (λ l. map now l) e ∙ (now_last old x ∙ sym (new_one (map now old) x.now h))

pub number_added : (old new : List (Bor (List ℕ))) (x : Bor (List ℕ)) (n : ℕ) (before behind : List ℕ → Option ℕ) → new ≡ (old ++ x ∷ []) → n ≡ length old → before x.now ≡ None
    → ((t : List ℕ) → before t ≡ first_number (map now old) t) → ((t : List ℕ) → behind t ≡ update bytes_eq before x.now (Some n) t) → (t : List ℕ) → behind t ≡ first_number (map now new) t
number_added old new x n before behind e m h f u t =
    once before behind (map now old) x.now f h (λ s. u s ∙ ap (λ k. update bytes_eq before x.now (Some k) s) (m ∙ sym (length_now old))) t ∙
    ap (λ l. first_number l t) (sym (ap (λ l. map now l) e ∙ now_last old x))
