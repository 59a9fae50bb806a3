-- Moves by 2^31 bytes and more, which a text takes in two: they lead out of each object.
use Rattle.std.proofs.Common.{◌≡◌, refl, sym, ap, subst, ◌∙◌, ℕ, ℤ, zero, suc, ◌^◌, ◌<◌, ◌≤◌, ◌⊎◌, inl, inr, nat_le, true, false, Bool, if◌then◌else◌, Option, Some, None, Result, Ok, Err, List, pos, negsuc, leb-true, arith}
use Rattle.std.specs.Prelude.{◌+ℤ◌, neg_ℤ}
use Rattle.std.proofs.lemmas.Int.{ints}
use Rattle.std.proofs.lemmas.Bool.Decides.{nat_tests}
use Rattle.ldb_words.specs.Word.{sum_of}
use Rattle.ps_store.specs.declared.object.DictId.{DictId}
use Rattle.ps_store.specs.StoreState.{StoreState}
use Rattle.ps_step.specs.declared.fault.PsError.{PsError}
use Rattle.ps_step.specs.declared.fault.PsError.TheVariants.{Pointer}
use Rattle.ps_step.specs.Results.{◌>>=◌}
use Rattle.ps_places.specs.Lacks as lacks
use Rattle.ps_pointers.specs.Pointers as pointers
use Rattle.ps_pointers.specs.Pointers.{address_at}
use Rattle.table_model.specs.declared.found.Found.{Found}
use Rattle.table_model.specs.Reading.{Walked}
use Rattle.c_bytes.specs.Lvalues.{Scene}
use Rattle.serving_laws.specs.Evaluated.{IsSettled, object_there, HasSmallObjects}
use Rattle.serving_laws.proofs.Objects.{LowIn}
use Rattle.serving_laws.proofs.Pointing.{object, object_same, seen, seen_low, sum_seen}

-- 2^31 bytes or more, on or back
abbrev pub IsFar : ℤ → Type 0
IsFar z = (k : ℕ) × (2 ^ 31 ≤ k) × ((z ≡ pos k) ⊎ (z ≡ neg_ℤ (pos k)))

outside : (o : Found) (z : ℤ) → o.at ≤ o.size → o.size < 2 ^ 31 → IsFar z → address_at o (pos o.at +ℤ z) ≡ None
outside o z within low far = by (pos o.at +ℤ z) refl far.2
  where
    by : (y : ℤ) → pos o.at +ℤ z ≡ y → (z ≡ pos far.0) ⊎ (z ≡ neg_ℤ (pos far.0)) → address_at o y ≡ None
    by (negsuc i) e is = refl
    by (pos i) e (inl is) =
        let large : 2 ^ 31 ≤ far.0 = far.1 in
        let beyond : o.size < i = omega (arith, ints, e, is, large, low) in
        let no : nat_le i o.size ≡ false = grind (arith, nat_tests) in
        rw no refl
    by (pos i) e (inr is) = let large : 2 ^ 31 ≤ far.0 = far.1 in absurd (omega (arith, ints, e, is, large, low, within))

abbrev number_done : ℕ → Result ℕ PsError
number_done n = Ok n

abbrev number_failed : PsError → Result ℕ PsError
number_failed e = Err e

abbrev found_done : Option Found → Result (Option Found) PsError
found_done o = Ok o

no_value : (e : PsError) (v : ℕ) → number_failed e ≡ number_done v → ⊥
no_value e v h = cc

value_is : (x v : ℕ) → number_done x ≡ number_done v → x ≡ v
value_is x v h = cc

no_found : (e : PsError) (o : Option Found) → Err e ≡ found_done o → ⊥
no_found e o h = cc

no_object : (o : Found) → found_done None ≡ found_done (Some o) → ⊥
no_object o h = cc

found_is : (a b : Option Found) → found_done a ≡ found_done b → a ≡ b
found_is a b h = cc

failed_as : (x : Option ℕ) (e : PsError) → pointers.or_pointer x ≡ Err e → number_failed Pointer ≡ Err e
failed_as None e h = h
failed_as (Some v) e h = absurd (no_value e v (sym h))

-- where an address in an object is
address_within : (o : Found) (z : ℤ) (v : ℕ) → pointers.or_pointer (address_at o z) ≡ number_done v → (i : ℕ) × (i ≤ o.size) × (sum_of o.base i ≡ v)
address_within o (negsuc i) v h = absurd (no_value Pointer v h)
address_within o (pos i) v h = by (nat_le i o.size) refl h
  where
    by : (b : Bool) → nat_le i o.size ≡ b → pointers.or_pointer (if b then Some (sum_of o.base i) else None) ≡ number_done v → (i : ℕ) × (i ≤ o.size) × (sum_of o.base i ≡ v)
    by true e h = (i, leb-true i o.size e, value_is (sum_of o.base i) v h)
    by false e h = absurd (no_value Pointer v h)

-- what a move out of each object comes to
abbrev beyond : Result (Option Found) PsError → Result ℕ PsError
beyond r = (r >>= pointers.or_pointer) >>= λ o. number_failed Pointer

module _ (sc : Scene) (s : StoreState) (cell : ℕ) (own : DictId) (out : List ℕ) (raw : Bool) (settled : IsSettled sc s) (objects : HasSmallObjects sc s) where
  abbrev look : ℕ → Result (Option Found) PsError
  look p = seen sc s cell own out raw settled p

  abbrev there : ℕ → Walked (Option Found)
  there p = object sc s cell own out raw settled p

  abbrev sum : ℕ → ℤ → Result ℕ PsError
  sum p z = sum_seen sc s cell own out raw settled (look p) z

  small : (p : ℕ) (o : Found) → look p ≡ Ok (Some o) → o.size < 2 ^ 31
  small zero o e = absurd (no_object o e)
  small (suc n) o e = by (there (suc n)) refl e
    where
      by : (r : Walked (Option Found)) → there (suc n) ≡ r → lacks.looked r ≡ Ok (Some o) → o.size < 2 ^ 31
      by (Ok x) same e = objects.small (suc n) o (object_same sc s cell own out raw settled (suc n) ∙ same ∙ ap Ok (found_is x (Some o) e))
      by (Err l) same e = absurd (no_found (lacks.error_of l) (Some o) e)

  -- from a place in an object on, a look-up lacks nothing
  told : (p i : ℕ) (o : Found) (x : PsError) → look p ≡ Ok (Some o) → i ≤ o.size → look (sum_of o.base i) ≡ Err x → ⊥
  told zero i o x e within h = no_object o e
  told (suc n) i o x e within h = by (there (suc n)) refl e
    where
      there_is : (q : ℕ) (r : Walked (Option Found)) → there q ≡ r → q ≡ sum_of o.base i → there (suc n) ≡ Ok (Some o) → lacks.looked r ≡ Err x → ⊥
      there_is zero r same is first e = no_found x None (sym e ∙ ap lacks.looked (sym same))
      there_is (suc q) (Ok y) same is first e = no_found x y (sym e)
      there_is (suc q) (Err l) same is first e =
          objects.told (suc n) i o l (object_same sc s cell own out raw settled (suc n) ∙ first) within
          (subst (λ (q : ℕ). object_there sc s q ≡ Err l) is (object_same sc s cell own out raw settled (suc q) ∙ same))

      by : (r : Walked (Option Found)) → there (suc n) ≡ r → lacks.looked r ≡ Ok (Some o) → ⊥
      by (Ok y) same e = there_is (sum_of o.base i) (there (sum_of o.base i)) refl refl (same ∙ ap Ok (found_is y (Some o) e)) h
      by (Err l) same e = no_found (lacks.error_of l) (Some o) e

  far_from : (p : ℕ) (z : ℤ) (o : Found) → IsFar z → look p ≡ Ok (Some o) → pointers.or_pointer (address_at o (pos o.at +ℤ z)) ≡ Err Pointer
  far_from p z o far e = let low : LowIn p (Some o) = seen_low sc s cell own out raw settled p (Some o) e in ap pointers.or_pointer (outside o z low.1 (small p o e) far)

  pub far_is : (p : ℕ) (z : ℤ) → IsFar z → sum p z ≡ beyond (look p)
  far_is p z far = by (look p) refl
    where
      by : (r : Result (Option Found) PsError) → look p ≡ r → sum_seen sc s cell own out raw settled r z ≡ beyond r
      by (Err x) e = refl
      by (Ok None) e = refl
      by (Ok (Some o)) e = far_from p z o far e

  -- where the first of two moves breaks off, the whole move does; and else the second one does, as the whole move
  pub first_breaks : (p : ℕ) (z whole : ℤ) → IsFar whole → (x : PsError) → sum p z ≡ Err x → sum p whole ≡ Err x
  first_breaks p z whole far x h = far_is p whole far ∙ by (look p) h
    where
      by : (r : Result (Option Found) PsError) → sum_seen sc s cell own out raw settled r z ≡ Err x → beyond r ≡ Err x
      by (Err y) h = h
      by (Ok None) h = h
      by (Ok (Some o)) h = failed_as (address_at o (pos o.at +ℤ z)) x h

  pub second_breaks : (p : ℕ) (z z' : ℤ) (v : ℕ) → IsFar z' → sum p z ≡ Ok v → sum v z' ≡ Err Pointer
  second_breaks p z z' v far h = far_is v z' far ∙ by (look p) refl h
    where
      behind : (r : Result (Option Found) PsError) → ((x : PsError) → r ≡ Err x → ⊥) → beyond r ≡ Err Pointer
      behind (Err x) h = absurd (h x refl)
      behind (Ok None) h = refl
      behind (Ok (Some o)) h = refl

      by : (r : Result (Option Found) PsError) → look p ≡ r → sum_seen sc s cell own out raw settled r z ≡ Ok v → beyond (look v) ≡ Err Pointer
      by (Err x) e h = absurd (no_value x v h)
      by (Ok None) e h = absurd (no_value Pointer v h)
      by (Ok (Some o)) e h =
          let at = address_within o (pos o.at +ℤ z) v h in
          behind (look v) (λ x is. told p at.0 o x e at.1 (subst (λ (q : ℕ). look q ≡ Err x) (sym at.2) is))

  pub whole_breaks : (p : ℕ) (z whole : ℤ) (v : ℕ) → IsFar whole → sum p z ≡ Ok v → sum p whole ≡ Err Pointer
  whole_breaks p z whole v far h = far_is p whole far ∙ by (look p) h
    where
      by : (r : Result (Option Found) PsError) → sum_seen sc s cell own out raw settled r z ≡ Ok v → beyond r ≡ Err Pointer
      by (Err x) h = absurd (no_value x v h)
      by (Ok None) h = absurd (no_value Pointer v h)
      by (Ok (Some o)) h = refl
