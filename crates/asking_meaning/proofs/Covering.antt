-- Parts of commands that cover each other.
use Rattle.std.proofs.Common.{◌≡◌, Result, Ok, Err, refl, sym, ◌∙◌, subst}
use Rattle.ps_store.specs.StoreState.{StoreState}
use Rattle.ps_step.specs.declared.fault.PsFault.{PsFault}
use Rattle.ps_step.specs.declared.fault.PsFault.TheVariants.{Error, Spent as SpentFault, Link, NoMemory}
use Rattle.table_model.specs.Reading.{Walked}
use Rattle.dialect_model.specs.TableUse.{TableUse, Trouble, Kind, Wanting, Refused, Eval, onward, ◌>>=◌, gives, fails, trouble_of, with_store, Looks, told, lacks, forced, broken, wanting}
use Rattle.table_asks.specs.declared.fault.Cause.{Cause}
use Rattle.asking.specs.Refusals.{refusal_of}
use Rattle.claims.specs.Side.{OnSide, Troubled}
use Rattle.asking_meaning.specs.Meant.{trouble_in, Matches, Matched, Covers}

pub gives_covers : {A B : Type 0} {P : A → B → Type 0} (x : A) (y : B) → P x y → Covers P (gives x) (gives y)
gives_covers {P = P} x y p t r t' h = record { result = Ok y; matches = subst (λ r. Matches P r (Ok y)) (sym h.0) p; comes = (refl, h.1) }

pub fails_covers : {A B : Type 0} {P : A → B → Type 0} (e : Trouble Cause) → Covers P (fails e) (fails (trouble_in e))
fails_covers {P = P} e t r t' h = record { result = Err (trouble_in e); matches = subst (λ r. Matches P r (Err (trouble_in e))) (sym h.0) refl; comes = (refl, h.1) }

-- ---- one part after another

module _ {A B C D : Type 0} {P : A → B → Type 0} {Q : C → D → Type 0} (f : A → Eval Cause C) (g : B → OnSide D) (n : OnSide B) where
  onward_covers : ((x : A) (y : B) → P x y → Covers Q (f x) (g y)) → (t u : TableUse) (a : Result A (Trouble Cause)) (b : Result B Troubled) (r : Result C (Trouble Cause)) (t' : TableUse)
      → Matches P a b → n t b u → onward f a u r t' → Matched Q (n >>= g) t r t'
  onward_covers c t u (Ok x) (Ok y) r t' m k o =
      let w : Matched Q (g y) u r t' = c x y m u r t' o in
      record { result = w.result; matches = w.matches; comes = (Ok y, u, k, w.comes) }
  onward_covers c t u (Ok x) (Err e) r t' m k o = absurd m
  onward_covers c t u (Err e) (Ok y) r t' m k o = absurd m
  onward_covers c t u (Err e) (Err f) r t' m k o =
      record { result = Err f; matches = subst (λ r. Matches Q r (Err f)) (sym o.0) m; comes = (Err f, u, k, (refl, o.1)) }

pub bind_covers : {A B C D : Type 0} {P : A → B → Type 0} {Q : C → D → Type 0} (m : Eval Cause A) (n : OnSide B) (f : A → Eval Cause C) (g : B → OnSide D)
    → Covers P m n → ((x : A) (y : B) → P x y → Covers Q (f x) (g y)) → Covers Q (m >>= f) (n >>= g)
bind_covers m n f g c d t r t' (a, u, h, o) =
    let w = c t a u h in
    onward_covers f g n d t u a w.result r t' w.matches w.comes o

-- ---- what a part is that gives its result on

pub after_gives : {A B C : Type 0} {P : A → B → Type 0} (m : Eval Cause A) (y : C) (g : C → OnSide B) → Covers P m (g y) → Covers P m (gives y >>= g)
after_gives m y g c t r t' h =
    let w = c t r t' h in
    record { result = w.result; matches = w.matches; comes = (Ok y, t, (refl, refl), w.comes) }

pub refused_behind : {A B C : Type 0} {P : A → B → Type 0} {cause : Cause} (g : C → OnSide B) → Covers P (fails (Refused cause)) (fails (Refused (refusal_of cause)) >>= g)
refused_behind {P = P} {cause = cause} g t r t' h =
    record { result = Err (Refused (refusal_of cause)); matches = subst (λ r. Matches P r (Err (Refused (refusal_of cause)))) (sym h.0) refl; comes = (Err (Refused (refusal_of cause)), t, (refl, refl), (refl, h.1)) }

module _ {A B C : Type 0} (n : OnSide A) (f : A → OnSide B) (g : B → OnSide C) where
  regrouped_onward : (t u : TableUse) (a : Result A Troubled) (r : Result C Troubled) (t' : TableUse) → n t a u → onward (λ x. f x >>= g) a u r t' → ((n >>= f) >>= g) t r t'
  regrouped_onward t u (Ok x) r t' k (b, v, h, o) = (b, v, (Ok x, u, k, h), o)
  regrouped_onward t u (Err e) r t' k o = (Err e, u, (Err e, u, k, (refl, refl)), o)

  pub regrouped : (t : TableUse) (r : Result C Troubled) (t' : TableUse) → (n >>= (λ x. f x >>= g)) t r t' → ((n >>= f) >>= g) t r t'
  regrouped t r t' (a, u, k, o) = regrouped_onward t u a r t' k o

pub regrouped_covers : {A B C D : Type 0} {P : D → C → Type 0} (m : Eval Cause D) (n : OnSide A) (f : A → OnSide B) (g : B → OnSide C) → Covers P m (n >>= (λ x. f x >>= g)) → Covers P m ((n >>= f) >>= g)
regrouped_covers m n f g c t r t' h =
    let w = c t r t' h in
    record { result = w.result; matches = w.matches; comes = regrouped n f g t w.result t' w.comes }

-- ---- queries

pub same_trouble : (f : PsFault) → trouble_of f ≡ trouble_in (trouble_of f)
same_trouble (Error e) = refl
same_trouble SpentFault = refl
same_trouble Link = refl
same_trouble NoMemory = refl

module _ {A : Type 0} (q q' : StoreState → Walked A) (same : (s : StoreState) → q s ≡ q' s) where
  pub looks_cover : Covers (λ (x y : A). x ≡ y) (Looks q) (Looks q')
  looks_cover t _ _ (told {x = x} e) = record { result = Ok x; matches = refl; comes = told (sym (same t.store) ∙ e) }
  looks_cover t _ _ (lacks {e = x} e k) = record { result = Err (Kind x); matches = refl; comes = lacks (sym (same t.store) ∙ e) k }
  looks_cover t r t' (forced {n = n} {c = c} e h l) =
      let w = looks_cover (with_store t c.store n) r t' l in
      record { result = w.result; matches = w.matches; comes = forced (sym (same t.store) ∙ e) h w.comes }
  looks_cover t _ _ (broken {f = x} e h) = record { result = Err (trouble_of x); matches = same_trouble x; comes = broken (sym (same t.store) ∙ e) h }
  looks_cover t _ _ wanting = record { result = Err Wanting; matches = refl; comes = wanting }
