-- Uses that are patched, and why they are not.
use Rattle.std.proofs.Common.{◌≡◌, ◌⊎◌, inl, inr, ℕ, ◌+◌, ◌<◌, ◌≤◌, Bool, true, false, not, ◌&&◌, ◌||◌, nat_le, List, [], ◌∷◌, length, get_or, Option, Some, None, refl, sym, ap, ap₂, ◌∙◌, subst, if◌then◌else◌, arith}
use Rattle.std.specs.Prelude.{slice_get, IsSome}
use Rattle.std.specs.List.{AllByRecursion, list_all}
use Rattle.std.proofs.lemmas.Bool.{true≢false}
use Rattle.std.proofs.lemmas.Bool.Decides.{nat_tests}
use Rattle.std.proofs.lemmas.List.Folds.{list_all_at}
use Rattle.std.proofs.lemmas.Option.{slice_get_read}
use Rattle.obj_file.specs.declared.object.Object.{Object}
use Rattle.obj_file.specs.declared.object.Use.{Use}
use Rattle.obj_placed.specs.Patched.{stands_in, patched_at, patched_by}
use Rattle.obj_placed.specs.Placed.{IsFound, IsResolved, joined}
use Rattle.link_image.specs.declared.addresses.Entry.{Entry}
use Rattle.link_image.specs.declared.fault.LinkFault.{LinkFault}
use Rattle.link_image.specs.declared.fault.LinkFault.TheVariants as fault
use Rattle.link_image.specs.Linked.{linked_address}
use Rattle.link_image.specs.Conditions.{has_form, use_lies, has_uses_inside, UsesName, IsUsed, IsDefinedOnce, HasNamesOnce, IsFault}
use Rattle.link_image.specs.Tables.{address_by, linked_entry, IsOnce, IsTwice, IsNameFault, IsTaken, HasText, HasStatics, IsUseFault, IsUsesFault, IsTableFault}
use Rattle.link_image.proofs.Named.{same_address, not_defined, defined_once, defined_twice}

-- ---- tests

lies : (s l h : Bool) → l ≡ true → h ≡ true → (not s || (l && h)) ≡ true
lies false l h e f = refl
lies true l h e f = ap₂ (λ x y. x && y) e f

elsewhere : (s l h : Bool) → s ≡ false → (not s || (l && h)) ≡ true
elsewhere false l h e = refl
elsewhere true l h e = absurd (true≢false e)

too_far : (s l h : Bool) → s ≡ true → l ≡ false → (not s || (l && h)) ≡ false
too_far false l h e f = absurd (true≢false (sym e))
too_far true l h e f = ap (λ x. x && h) f

misformed : (s l h : Bool) → s ≡ true → h ≡ false → (not s || (l && h)) ≡ false
misformed false l h e f = absurd (true≢false (sym e))
misformed true true h e f = f
misformed true false h e f = refl

lies_there : (s l h : Bool) → (not s || (l && h)) ≡ true → s ≡ true → l ≡ true
lies_there false l h e f = absurd (true≢false (sym f))
lies_there true true h e f = refl
lies_there true false h e f = e

no_and : (p q : Bool) → (p ≡ false) ⊎ (q ≡ false) → (p && q) ≡ false
no_and true q (inl e) = absurd (true≢false e)
no_and true q (inr e) = e
no_and false q h = refl

-- ---- one use

module _ (entry : List ℕ → Option Entry) (in_text : Bool) (size : ℕ) (u : Use) where
  pub taken_elsewhere : stands_in in_text u ≡ false → IsTaken entry in_text size u
  taken_elsewhere s = (elsewhere (stands_in in_text u) (nat_le (u.at + 4) size) (has_form in_text u.form) s, λ e. absurd (true≢false (sym e ∙ s)))

  pub taken_there : (name : List ℕ) (a : ℕ) → name ≡ u.name → u.at + 4 ≤ size → has_form in_text u.form ≡ true → entry name ≡ Some (record { address = a; doubled = false }) → IsTaken entry in_text size u
  taken_there name a n l h e =
      (lies (stands_in in_text u) (nat_le (u.at + 4) size) (has_form in_text u.form) (grind (arith, nat_tests)) h, λ s. subst IsOnce (sym (ap entry (sym n) ∙ e)) refl)

  pub far_fault : stands_in in_text u ≡ true → size < u.at + 4 → use_lies in_text size u ≡ false
  far_fault s l = too_far (stands_in in_text u) (nat_le (u.at + 4) size) (has_form in_text u.form) s (grind (arith, nat_tests))

  pub form_fault : stands_in in_text u ≡ true → has_form in_text u.form ≡ false → use_lies in_text size u ≡ false
  form_fault s h = misformed (stands_in in_text u) (nat_le (u.at + 4) size) (has_form in_text u.form) s h

  pub name_fault : (name : List ℕ) (f : LinkFault) → name ≡ u.name → IsNameFault (entry name) name f → IsUseFault entry in_text size u f
  name_fault name fault.Target n h = absurd h
  name_fault name fault.Words n h = absurd h
  name_fault name fault.Size n h = absurd h
  name_fault name fault.Statics n h = absurd h
  name_fault name fault.Rows n h = absurd h
  name_fault name fault.Uses n h = absurd h
  name_fault name (fault.Unresolved m) n h = (h.0 ∙ n, ap entry (sym n) ∙ h.1)
  name_fault name (fault.Doubled m) n h = (h.0 ∙ n, subst (λ k. IsTwice_of k) n h.1)
    where
      IsTwice_of : List ℕ → Type 0
      IsTwice_of k = IsTwice (entry k)
  name_fault name fault.NoMemory n h = tt

  pub patched_there : (target base : ℕ) (name : List ℕ) (a : ℕ) (old new : List ℕ) → stands_in in_text u ≡ true → name ≡ u.name → entry name ≡ Some (record { address = a; doubled = false })
      → new ≡ patched_at target base a u old → new ≡ (if stands_in in_text u then patched_by target base (address_by (entry u.name)) u old else old)
  patched_there target base name a old new s n e h =
      h ∙ sym (ap (λ b. if b then patched_by target base (address_by (entry u.name)) u old else old) s ∙ ap (λ o. patched_by target base (address_by o) u old) (ap entry (sym n) ∙ e))

  -- in the uses of an object
  uses_fault : (o : Object) (i : ℕ) (f : LinkFault) → i < length o.uses → u ≡ get_or o.uses i u → IsUseFault entry in_text size u f → IsUsesFault entry in_text size o f
  uses_fault o i fault.Target l e h = absurd h
  uses_fault o i fault.Words l e h = absurd h
  uses_fault o i fault.Size l e h = absurd h
  uses_fault o i fault.Statics l e h = absurd h
  uses_fault o i fault.Rows l e h = absurd h
  uses_fault o i fault.Uses l e h = list_all_at (use_lies in_text size) o.uses i u l (ap (use_lies in_text size) (sym e) ∙ h)
  uses_fault o i (fault.Unresolved n) l e h = ((i, u, slice_get_read o.uses (length o.uses) i u refl l e, sym h.0), ap entry h.0 ∙ h.1)
  uses_fault o i (fault.Doubled n) l e h = ((i, u, slice_get_read o.uses (length o.uses) i u refl l e, sym h.0), subst (λ k. IsTwice_of k) (sym h.0) h.1)
    where
      IsTwice_of : List ℕ → Type 0
      IsTwice_of k = IsTwice (entry k)
  uses_fault o i fault.NoMemory l e h = tt

  pub read_fault : (o : Object) (us : List Use) (i : ℕ) (f : LinkFault) → us ≡ o.uses → i < length us → u ≡ get_or us i u → IsUseFault entry in_text size u f → IsUsesFault entry in_text size o f
  read_fault o us i f same l e h = uses_fault o i f (subst (λ (vs : List Use). i < length vs) same l) (subst (λ (vs : List Use). u ≡ get_or vs i u) same e) h

  -- so many bytes, by another number of them
  pub sized_fault : (n : ℕ) (f : LinkFault) → n ≡ size → IsUseFault entry in_text n u f → IsUseFault entry in_text size u f
  sized_fault n f e h = subst (λ m. IsUseFault entry in_text m u f) e h

-- ---- the uses of an object

module _ (entry : List ℕ → Option Entry) (os : List Object) (i : ℕ) (o : Object) (l : i < length os) (e : o ≡ get_or os i o) where
  used_in : (n : List ℕ) → UsesName o n → IsUsed os n
  used_in n h = (i, o, slice_get_read os (length os) i o refl l e, h)

  lie_not : has_uses_inside o ≡ false → list_all has_uses_inside os ≡ false
  lie_not h = list_all_at has_uses_inside os i o l (ap has_uses_inside (sym e) ∙ h)

  text_fault : (f : LinkFault) → IsUsesFault entry true (length o.text) o f → IsTableFault entry os f
  text_fault fault.Target h = absurd h
  text_fault fault.Words h = absurd h
  text_fault fault.Size h = absurd h
  text_fault fault.Statics h = absurd h
  text_fault fault.Rows h = absurd h
  text_fault fault.Uses h = lie_not (no_and (list_all (use_lies true (length o.text)) o.uses) (list_all (use_lies false (length (joined o.statics))) o.uses) (inl h))
  text_fault (fault.Unresolved n) h = (used_in n h.0, h.1)
  text_fault (fault.Doubled n) h = (used_in n h.0, h.1)
  text_fault fault.NoMemory h = tt

  statics_fault : (f : LinkFault) → IsUsesFault entry false (length (joined o.statics)) o f → IsTableFault entry os f
  statics_fault fault.Target h = absurd h
  statics_fault fault.Words h = absurd h
  statics_fault fault.Size h = absurd h
  statics_fault fault.Statics h = absurd h
  statics_fault fault.Rows h = absurd h
  statics_fault fault.Uses h = lie_not (no_and (list_all (use_lies true (length o.text)) o.uses) (list_all (use_lies false (length (joined o.statics))) o.uses) (inr h))
  statics_fault (fault.Unresolved n) h = (used_in n h.0, h.1)
  statics_fault (fault.Doubled n) h = (used_in n h.0, h.1)
  statics_fault fault.NoMemory h = tt

-- ---- all objects, by their names

module _ (f : List ℕ → Option Entry) (os : List Object) (same : (t : List ℕ) → f t ≡ linked_entry os t) where
  table_fault : (x : LinkFault) → IsTableFault f os x → IsFault os x
  table_fault fault.Target h = absurd h
  table_fault fault.Words h = absurd h
  table_fault fault.Size h = absurd h
  table_fault fault.Statics h = absurd h
  table_fault fault.Rows h = absurd h
  table_fault fault.Uses h = h
  table_fault (fault.Unresolved n) h = (h.0, not_defined f os same n h.1)
  table_fault (fault.Doubled n) h = (h.0, defined_twice f os same n h.1)
  table_fault fault.NoMemory h = tt

  pub text_is_fault : (i : ℕ) (o : Object) (x : LinkFault) → i < length os → o ≡ get_or os i o → IsUsesFault f true (length o.text) o x → IsFault os x
  text_is_fault i o x l e h = table_fault x (text_fault f os i o l e x h)

  pub statics_are_fault : (i : ℕ) (o : Object) (x : LinkFault) → i < length os → o ≡ get_or os i o → IsUsesFault f false (length (joined o.statics)) o x → IsFault os x
  statics_are_fault i o x l e h = table_fault x (statics_fault f os i o l e x h)

  once_some : (e : Option Entry) → IsOnce e → IsSome (address_by e)
  once_some None h = absurd h
  once_some (Some e) h = refl

  found_one : (in_text : Bool) (size : ℕ) (u : Use) → IsTaken f in_text size u → IsFound (linked_address os) in_text size u
  found_one in_text size u h s =
      let there : nat_le (u.at + 4) size ≡ true = lies_there (stands_in in_text u) (nat_le (u.at + 4) size) (has_form in_text u.form) h.0 s in
      (subst IsSome (same_address f os same u.name) (once_some (f u.name) (h.1 s)), grind (arith, nat_tests))

  all_found : (in_text : Bool) (size : ℕ) (us : List Use) → AllByRecursion (IsTaken f in_text size) us → AllByRecursion (IsFound (linked_address os) in_text size) us
  all_found in_text size [] h = tt
  all_found in_text size (u ∷ us) h = (found_one in_text size u h.0, all_found in_text size us h.1)

  pub all_resolved : (ps : List Object) → AllByRecursion (HasText f) ps → AllByRecursion (HasStatics f) ps → AllByRecursion (IsResolved (linked_address os)) ps
  all_resolved [] h k = tt
  all_resolved (o ∷ ps) h k = (record { text = all_found true (length o.text) o.uses h.0; statics = all_found false (length (joined o.statics)) o.uses k.0 }, all_resolved ps h.1 k.1)

  all_lie : (in_text : Bool) (size : ℕ) (us : List Use) → AllByRecursion (IsTaken f in_text size) us → list_all (use_lies in_text size) us ≡ true
  all_lie in_text size [] h = refl
  all_lie in_text size (u ∷ us) h = ap₂ (λ x y. x && y) h.0.0 (all_lie in_text size us h.1)

  pub all_inside : (ps : List Object) → AllByRecursion (HasText f) ps → AllByRecursion (HasStatics f) ps → list_all has_uses_inside ps ≡ true
  all_inside [] h k = refl
  all_inside (o ∷ ps) h k = ap₂ (λ x y. x && y) (ap₂ (λ x y. x && y) (all_lie true (length o.text) o.uses h.0) (all_lie false (length (joined o.statics)) o.uses k.0)) (all_inside ps h.1 k.1)

  once_one : (in_text : Bool) (u : Use) → in_text ≡ u.in_text → (stands_in true u ≡ true → IsOnce (f u.name)) → (stands_in false u ≡ true → IsOnce (f u.name)) → IsOnce (f u.name)
  once_one true u e h k = h (sym e)
  once_one false u e h k = k (ap not (sym e))

  once_uses : (n m : ℕ) (us : List Use) → AllByRecursion (IsTaken f true n) us → AllByRecursion (IsTaken f false m) us → AllByRecursion (IsDefinedOnce os) us
  once_uses n m [] h k = tt
  once_uses n m (u ∷ us) h k = (defined_once f os same u.name (once_one u.in_text u refl h.0.1 k.0.1), once_uses n m us h.1 k.1)

  pub all_once : (ps : List Object) → AllByRecursion (HasText f) ps → AllByRecursion (HasStatics f) ps → AllByRecursion (HasNamesOnce os) ps
  all_once [] h k = tt
  all_once (o ∷ ps) h k = (once_uses (length o.text) (length (joined o.statics)) o.uses h.0 k.0, all_once ps h.1 k.1)
