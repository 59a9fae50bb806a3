-- Entries of `/saved` read one after another.
use Rattle.std.proofs.Common.{◌≡◌, ◌∙◌, refl, sym, ap, ℕ, suc, Bool, true, false, nat_eq, if◌then◌else◌, List, [], ◌∷◌, ◌++◌, Option, Some, None, Result, Ok, Err}
use Rattle.ldb_words.specs.Word.{sum_of}
use Rattle.ps_store.specs.declared.object.PsObj.{PsObj}
use Rattle.ps_store.specs.StoreState.{StoreState}
use Rattle.ps_step.specs.Results.{◌>>=◌}
use Rattle.table_model.specs.Frames.{or_else, Saved, kept_at}
use Rattle.table_model.specs.Reading.{Walked, all_from}
use Rattle.table_read.specs.Saved.{pair_in, kept_in, kept_from}

-- a register that was found, or else what is left says
abbrev pub after_kept : Option ℕ → Walked (Option ℕ) → Walked (Option ℕ)
after_kept o x = x >>= λ later. Ok (or_else o later)

bind_same : {A B : Type 0} (w : Walked A) (f g : A → Walked B) → ((x : A) → f x ≡ g x) → (w >>= f) ≡ (w >>= g)
bind_same (Ok x) f g h = h x
bind_same (Err e) f g h = refl

or_if : (b : Bool) (at : ℕ) (x y : Option ℕ) → (if b then Some at else or_else x y) ≡ or_else (if b then Some at else x) y
or_if true at x y = refl
or_if false at x y = refl

kept_append : (base r : ℕ) (xs ys : List Saved) → kept_at base (xs ++ ys) r ≡ or_else (kept_at base xs r) (kept_at base ys r)
kept_append base r [] ys = refl
kept_append base r (x ∷ xs) ys =
    ap (λ (o : Option ℕ). if nat_eq x.register r then Some (sum_of base x.offset) else o) (kept_append base r xs ys)
    ∙ or_if (nat_eq x.register r) (sum_of base x.offset) (kept_at base xs r) (kept_at base ys r)

or_assoc : (o x y : Option ℕ) → or_else (or_else o x) y ≡ or_else o (or_else x y)
or_assoc None x y = refl
or_assoc (Some at) x y = refl

kept_joined : (base r : ℕ) (o : Option ℕ) (w rest : Walked (List Saved))
    → (w >>= λ p. after_kept (or_else o (kept_at base p r)) (rest >>= λ zs. Ok (kept_at base zs r))) ≡ after_kept o ((w >>= λ ys. rest >>= λ zs. Ok (ys ++ zs)) >>= λ saved. Ok (kept_at base saved r))
kept_joined base r o (Err e) rest = refl
kept_joined base r o (Ok p) (Err e) = refl
kept_joined base r o (Ok p) (Ok zs) =
    ap (λ (x : Option ℕ). Ok x) (or_assoc o (kept_at base p r) (kept_at base zs r) ∙ ap (or_else o) (sym (kept_append base r p zs)))

kept_through : (s : StoreState) (base r n : ℕ) (o : Option ℕ) (xs : List PsObj)
    → kept_from s base r o xs ≡ after_kept o (all_from (λ m x. pair_in s x) n xs >>= λ saved. Ok (kept_at base saved r))
kept_through s base r n None [] = refl
kept_through s base r n (Some at) [] = refl
kept_through s base r n o (x ∷ xs) =
    bind_same (pair_in s x) (λ p. kept_from s base r (or_else o (kept_at base p r)) xs)
    (λ p. after_kept (or_else o (kept_at base p r)) (all_from (λ m y. pair_in s y) (suc n) xs >>= λ zs. Ok (kept_at base zs r)))
    (λ p. kept_through s base r (suc n) (or_else o (kept_at base p r)) xs)
    ∙ kept_joined base r o (pair_in s x) (all_from (λ m y. pair_in s y) (suc n) xs)

unkept : (x : Walked (Option ℕ)) → after_kept None x ≡ x
unkept (Ok o) = refl
unkept (Err e) = refl

pub kept_is : (s : StoreState) (items : List PsObj) (base r : ℕ) → kept_from s base r None items ≡ kept_in s items base r
kept_is s items base r = kept_through s base r 0 None items ∙ unkept (kept_in s items base r)
