-- Reading token by token: what was read splits, and a reader inside another.
use Rattle.std.proofs.Common.{◌≡◌, List, [], ◌∷◌, ◌++◌, Option, Some, None, refl, sym, ◌∙◌, ap, subst, append_assoc, append-nil}
use Rattle.c_symbol.specs.declared.terminal.Terminal.{Terminal}
use Rattle.c_declaration.specs.declared.step.Step.{Step}
use Rattle.c_declaration.specs.declared.step.Step.TheVariants.{Goes, Ends}
use Rattle.c_declaration.specs.Feeding.{feed}

abbrev pub Reader : Type 0 → Type 0 → Type 0
Reader S A = S → Terminal → Option (Step S A)

-- the tokens that follow
abbrev pub onward : {S A : Type 0} → Reader S A → List Terminal → Option (Step S A) → Option (Step S A)
onward offer ts o = elim o [ None ↦ None | Some a ↦ feed offer ts a ]

append_step : {S A : Type 0} (offer : Reader S A) (us vs : List Terminal) → ((a : Step S A) → feed offer (us ++ vs) a ≡ onward offer vs (feed offer us a)) → (o : Option (Step S A))
    → onward offer (us ++ vs) o ≡ onward offer vs (onward offer us o)
append_step offer us vs ih None = refl
append_step offer us vs ih (Some a) = ih a

pub feed_append : {S A : Type 0} (offer : Reader S A) (us vs : List Terminal) (a : Step S A) → feed offer (us ++ vs) a ≡ onward offer vs (feed offer us a)
feed_append offer [] vs a = refl
feed_append offer (t ∷ us) vs (Ends a) = refl
feed_append offer (t ∷ us) vs (Goes p) = append_step offer us vs (feed_append offer us vs) (offer p t)

-- one token
pub one_step : {S A : Type 0} (offer : Reader S A) (p : S) (t : Terminal) (ts : List Terminal) (o : Option (Step S A)) → offer p t ≡ o → feed offer (t ∷ ts) (Goes p) ≡ onward offer ts o
one_step offer p t ts o e = ap (onward offer ts) e

pub then_step : {S A : Type 0} (offer : Reader S A) (us vs : List Terminal) (a : Step S A) (o : Option (Step S A)) → feed offer us a ≡ o → feed offer (us ++ vs) a ≡ onward offer vs o
then_step offer us vs a o e = feed_append offer us vs a ∙ ap (onward offer vs) e

some_ends : {S A : Type 0} (a : Step S A) → None ≡ Some a → ⊥
some_ends a e = cc

goes_ends : {S A : Type 0} (q : S) (a : A) → Some (Goes q) ≡ Some (Ends a) → ⊥
goes_ends q a e = cc

pub record Ended {S A : Type 0} (offer : Reader S A) (ts : List Terminal) (t : Terminal) (p : S) (a : A) : Type 0 where
  pub now : S
  pub goes : feed offer ts (Goes p) ≡ Some (Goes now)
  pub ends : offer now t ≡ Some (Ends a)

last_is : {S A : Type 0} (offer : Reader S A) (t : Terminal) (q : S) (a : A) (o : Option (Step S A)) → onward offer [] o ≡ Some (Ends a) → o ≡ Some (Ends a)
last_is offer t q a None e = e
last_is offer t q a (Some b) e = e

ended_by : {S A : Type 0} (offer : Reader S A) (ts : List Terminal) (t : Terminal) (p : S) (a : A) (o : Option (Step S A)) → feed offer ts (Goes p) ≡ o → onward offer (t ∷ []) o ≡ Some (Ends a) → Ended offer ts t p a
ended_by offer ts t p a None e k = absurd (some_ends (Ends a) k)
ended_by offer ts t p a (Some (Ends b)) e k = absurd (some_ends (Ends a) k)
ended_by offer ts t p a (Some (Goes q)) e k = record { now = q; goes = e; ends = last_is offer t q a (offer q t) k }

-- an answer comes with the last token
pub ended : {S A : Type 0} (offer : Reader S A) (ts : List Terminal) (t : Terminal) (p : S) (a : A) → feed offer (ts ++ t ∷ []) (Goes p) ≡ Some (Ends a) → Ended offer ts t p a
ended offer ts t p a e = ended_by offer ts t p a (feed offer ts (Goes p)) refl (sym (feed_append offer ts (t ∷ []) (Goes p)) ∙ e)

pub ends : {S A : Type 0} (offer : Reader S A) (ts : List Terminal) (t : Terminal) (p q : S) (a : A) → feed offer ts (Goes p) ≡ Some (Goes q) → offer q t ≡ Some (Ends a) → feed offer (ts ++ t ∷ []) (Goes p) ≡ Some (Ends a)
ends offer ts t p q a e k = then_step offer ts (t ∷ []) (Goes p) (Some (Goes q)) e ∙ one_step offer q t [] (Some (Ends a)) k

-- a reader inside another, of which it is a state
abbrev pub Inside : {S A P B : Type 0} → Reader S A → Reader P B → (S → P) → Type 0
Inside {S} {A} {P} {B} inner outer embed = (s : S) (t : Terminal) (r : S) → inner s t ≡ Some (Goes r) → outer (embed s) t ≡ Some (Goes (embed r))

inside_by : {S A P B : Type 0} (inner : Reader S A) (outer : Reader P B) (embed : S → P) (ts : List Terminal) (t : Terminal) (p q : S) → Inside inner outer embed
    → ((r : S) → feed inner ts (Goes r) ≡ Some (Goes q) → feed outer ts (Goes (embed r)) ≡ Some (Goes (embed q)))
    → (o : Option (Step S A)) → inner p t ≡ o → onward inner ts o ≡ Some (Goes q) → feed outer (t ∷ ts) (Goes (embed p)) ≡ Some (Goes (embed q))
inside_by inner outer embed ts t p q i ih None e k = absurd (some_ends (Goes q) k)
inside_by inner outer embed ts t p q i ih (Some (Goes r)) e k = one_step outer (embed p) t ts (Some (Goes (embed r))) (i p t r e) ∙ ih r k
inside_by inner outer embed [] t p q i ih (Some (Ends a)) e k = absurd (goes_ends q a (sym k))
inside_by inner outer embed (u ∷ us) t p q i ih (Some (Ends a)) e k = absurd (some_ends (Goes q) k)

pub inside : {S A P B : Type 0} (inner : Reader S A) (outer : Reader P B) (embed : S → P) → Inside inner outer embed → (ts : List Terminal) (p q : S)
    → feed inner ts (Goes p) ≡ Some (Goes q) → feed outer ts (Goes (embed p)) ≡ Some (Goes (embed q))
inside inner outer embed i [] p q e = let same : p ≡ q = cc in ap (λ r. Some (Goes (embed r))) same
inside inner outer embed i (t ∷ ts) p q e = inside_by inner outer embed ts t p q i (λ r k. inside inner outer embed i ts r q k) (inner p t) refl e

-- what holds of a state holds of each later one
kept_by : {S A : Type 0} (offer : Reader S A) (H : S → List Terminal → Type 0) (t : Terminal) (ts done : List Terminal) (q : S) → ((r : S) → H r (done ++ t ∷ []) → feed offer ts (Goes r) ≡ Some (Goes q) → H q ((done ++ t ∷ []) ++ ts))
    → (o : Option (Step S A)) → ((r : S) → o ≡ Some (Goes r) → H r (done ++ t ∷ [])) → onward offer ts o ≡ Some (Goes q) → H q (done ++ t ∷ ts)
kept_by offer H t ts done q ih None h e = absurd (some_ends (Goes q) e)
kept_by offer H t ts done q ih (Some (Goes r)) h e = subst (λ l. H q l) (append_assoc done (t ∷ []) ts) (ih r (h r refl) e)
kept_by offer H t [] done q ih (Some (Ends a)) h e = absurd (goes_ends q a (sym e))
kept_by offer H t (u ∷ us) done q ih (Some (Ends a)) h e = absurd (some_ends (Goes q) e)

pub steps_kept : {S A : Type 0} (offer : Reader S A) (H : S → List Terminal → Type 0) → ((p : S) (t : Terminal) (done : List Terminal) → H p done → (r : S) → offer p t ≡ Some (Goes r) → H r (done ++ t ∷ []))
    → (ts done : List Terminal) (p q : S) → H p done → feed offer ts (Goes p) ≡ Some (Goes q) → H q (done ++ ts)
steps_kept offer H h [] done p q d e = let same : p ≡ q = cc in subst (λ l. H q l) (sym (append-nil done)) (subst (λ r. H r done) same d)
steps_kept offer H h (t ∷ ts) done p q d e = kept_by offer H t ts done q (λ r k l. steps_kept offer H h ts (done ++ t ∷ []) r q k l) (offer p t) (h p t done d) e

-- where all tokens are read to an answer, the last one gives it
pub record LastStep {S A : Type 0} (offer : Reader S A) (ts : List Terminal) (p : S) (a : A) : Type 0 where
  pub front : List Terminal
  pub token : Terminal
  pub now : S
  pub all : ts ≡ front ++ token ∷ []
  pub goes : feed offer front (Goes p) ≡ Some (Goes now)
  pub ends : offer now token ≡ Some (Ends a)

last_by : {S A : Type 0} (offer : Reader S A) (t : Terminal) (ts : List Terminal) (p : S) (a : A) → ((r : S) → feed offer ts (Goes r) ≡ Some (Ends a) → LastStep offer ts r a)
    → (o : Option (Step S A)) → offer p t ≡ o → onward offer ts o ≡ Some (Ends a) → LastStep offer (t ∷ ts) p a
last_by offer t ts p a ih None k e = absurd (some_ends (Ends a) e)
last_by offer t ts p a ih (Some (Goes r)) k e =
    let l = ih r e in
    record { front = t ∷ l.front; token = l.token; now = l.now; all = ap (λ v. t ∷ v) l.all; goes = one_step offer p t l.front (Some (Goes r)) k ∙ l.goes; ends = l.ends }
last_by offer t [] p a ih (Some (Ends b)) k e = record { front = []; token = t; now = p; all = refl; goes = refl; ends = k ∙ e }
last_by offer t (u ∷ us) p a ih (Some (Ends b)) k e = absurd (some_ends (Ends a) e)

pub last_step : {S A : Type 0} (offer : Reader S A) (ts : List Terminal) (p : S) (a : A) → feed offer ts (Goes p) ≡ Some (Ends a) → LastStep offer ts p a
last_step offer [] p a e = absurd (goes_ends p a e)
last_step offer (t ∷ ts) p a e = last_by offer t ts p a (λ r k. last_step offer ts r a k) (offer p t) refl e
