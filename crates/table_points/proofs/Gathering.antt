-- What is gathered of some items, one item onward.
use Rattle.std.proofs.Common.{◌≡◌, ◌∙◌, refl, sym, ap, ℕ, suc, ◌+◌, ◌<◌, arith, List, [], ◌∷◌, ◌++◌, drop, length, get_or, Ok, Err}
use Rattle.std.proofs.Math.Seq.{drop-cons}
use Rattle.ps_step.specs.Results.{◌>>=◌}
use Rattle.table_model.specs.declared.lack.Lack.{Lack}
use Rattle.table_model.specs.Reading.{Walked, all_from}
use Rattle.table_read.specs.Reads.{in_ok}

abbrev pub got : {C : Type 0} → C → Walked C
got c = Ok c

pub got_is : {C : Type 0} (x y : C) → got x ≡ got y → x ≡ y
got_is x y h = cc

abbrev both : {B : Type 0} → Walked (List B) → Walked (List B) → Walked (List B)
both w rest = w >>= λ ys. rest >>= λ zs. Ok (ys ++ zs)

module _ {B C : Type 0} (go : C → List B → C) (joins : (c : C) (ys zs : List B) → go c (ys ++ zs) ≡ go (go c ys) zs) where
  step_with : (c c' : C) (ys : List B) (rest : Walked (List B)) → go c ys ≡ c' → in_ok (go c) (both (Ok ys) rest) ≡ in_ok (go c') rest
  step_with c c' ys (Ok zs) e = ap (λ (x : C). got x) (joins c ys zs ∙ ap (λ (x : C). go x zs) e)
  step_with c c' ys (Err l) e = refl

  gather_step : (c c' : C) (w rest : Walked (List B)) → in_ok (go c) w ≡ got c' → in_ok (go c) (both w rest) ≡ in_ok (go c') rest
  gather_step c c' (Ok ys) rest h = step_with c c' ys rest (got_is (go c ys) c' h)
  gather_step c c' (Err l) rest h = absurd (let k = h in cc)

  gather_stops : (c : C) (l : Lack) (w rest : Walked (List B)) → in_ok (go c) w ≡ Err l → in_ok (go c) (both w rest) ≡ Err l
  gather_stops c l (Ok ys) rest h = absurd (let k = h in cc)
  gather_stops c l (Err m) rest h = let k = h in cc

  module _ {A : Type 0} (test : ℕ → A → Walked (List B)) (n : ℕ) (xs : List A) (d : A) (less : n < length xs) (c : C) where
    pub gather_behind : (c' : C) → in_ok (go c) (test n (get_or xs n d)) ≡ got c' → in_ok (go c) (all_from test n (drop n xs)) ≡ in_ok (go c') (all_from test (n + 1) (drop (n + 1) xs))
    gather_behind c' h =
        let e : suc n ≡ n + 1 = omega arith in
        ap (λ (ys : List A). in_ok (go c) (all_from test n ys)) (drop-cons xs n d less)
        ∙ gather_step c c' (test n (get_or xs n d)) (all_from test (suc n) (drop (suc n) xs)) h
        ∙ ap (λ (k : ℕ). in_ok (go c') (all_from test k (drop k xs))) e

    pub gather_fails : (l : Lack) → in_ok (go c) (test n (get_or xs n d)) ≡ Err l → in_ok (go c) (all_from test n (drop n xs)) ≡ Err l
    gather_fails l h =
        ap (λ (ys : List A). in_ok (go c) (all_from test n ys)) (drop-cons xs n d less)
        ∙ gather_stops c l (test n (get_or xs n d)) (all_from test (suc n) (drop (suc n) xs)) h
