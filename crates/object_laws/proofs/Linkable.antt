-- An object of well-formed slot code is linkable.
use Rattle.std.proofs.Common.{◌≡◌, ◌≤◌, ◌<◌, ◌⊎◌, inl, inr, ℕ, zero, suc, ◌+◌, ◌*◌, ◌%◌, ◌^◌, List, [], ◌∷◌, ◌++◌, length, length-append, append-nil, map, Bool, true, false, not, cond, if◌then◌else◌, ◌&&◌, ◌||◌, nat_le, nat_eq, Option, Some, None, IsSome, bytes_eq, true≢false, refl, sym, ap, ap₂, subst, ◌∙◌, arith, le-leb}
use Rattle.std.specs.List.{AllByRecursion, list_all}
use Rattle.std.specs.Map.{lookup}
use Rattle.std.proofs.lemmas.Bool.{false_from_ne_true, eq-eqb}
use Rattle.std.proofs.lemmas.Slice.Eq.{bytes_eq-Decides}
use Rattle.machine_state.specs.declared.layout.TheConstants.{MIPS, SPARC, TEXT, DATA}
use Rattle.obj_file.specs.declared.object.Name.{Name}
use Rattle.obj_file.specs.declared.object.Object.{Object}
use Rattle.obj_file.specs.declared.object.StaticDef.{StaticDef}
use Rattle.obj_file.specs.declared.object.Use.{Use}
use Rattle.gen_parts.specs.Links.{IsOneOf, AreOnce, text_names, static_names, IsInOrder}
use Rattle.obj_placed.specs.Placed.{IsFound, all_statics, anchors_at, named_at, names_of, address_of, placed_text, placed_texts}
use Rattle.obj_placed.specs.Patched.{stands_in}
use Rattle.obj_placed.proofs.WordByWord.{text_patched}
use Rattle.link_image.specs.Linked.{addresses_from, linked_addresses, linked_address, linked_text, room_of}
use Rattle.link_image.specs.Conditions.{is_known, is_for, are_for_one, has_whole_words, is_sized, are_fitting, has_rows_inside, has_uses_inside, definitions, IsDefinedOnce, HasNamesOnce, AreLinkable}
use Rattle.object_laws.specs.Found.{IsGiven}
use Rattle.object_laws.proofs.UsesInside.{Stands, all_stand}

-- ---- names with addresses

abbrev firsts : List (List ℕ × ℕ) → List (List ℕ)
firsts [] = []
firsts (p ∷ ps) = p.0 ∷ firsts ps

firsts_named : (base : ℕ) (ns : List Name) (rest : List (List ℕ × ℕ)) → firsts (map (named_at base) ns ++ rest) ≡ text_names ns ++ firsts rest
firsts_named base [] rest = refl
firsts_named base (n ∷ ns) rest = ap (λ (l : List (List ℕ)). n.name ∷ l) (firsts_named base ns rest)

firsts_anchors : (at : ℕ) (ss : List StaticDef) → firsts (anchors_at (addresses_from at ss) ss) ≡ static_names ss
firsts_anchors at [] = refl
firsts_anchors at (s ∷ ss) = ap (λ (l : List (List ℕ)). s.name ∷ l) (firsts_anchors (at + room_of s) ss)

abbrev given : Object → List (List ℕ)
given o = text_names o.names ++ static_names o.statics

firsts_are : (o : Object) → firsts (names_of (o ∷ []) (linked_addresses (o ∷ []))) ≡ given o
unfolding names_of
firsts_are o =
    ap₂ (λ (ns : List (List ℕ × ℕ)) (ss : List StaticDef). firsts (ns ++ anchors_at (addresses_from DATA ss) ss)) (append-nil (map (named_at TEXT) o.names)) (append-nil o.statics)
    ∙ (firsts_named TEXT o.names (anchors_at (addresses_from DATA o.statics) o.statics) ∙ ap (λ (l : List (List ℕ)). text_names o.names ++ l) (firsts_anchors DATA o.statics))

-- ---- a name that is given once is defined once

abbrev counted : Bool → ℕ
counted b = if b then 1 else 0

another : (name other : List ℕ) → (name ≡ other → ⊥) → bytes_eq other name ≡ false
another name other h = false_from_ne_true (bytes_eq other name) (λ e. h (sym ((bytes_eq-Decides other name).0 e)))

count_none : (ps : List (List ℕ × ℕ)) (name : List ℕ) → (IsOneOf name (firsts ps) → ⊥) → definitions ps name ≡ 0
count_none [] name h = refl
count_none (p ∷ ps) name h = ap₂ (λ (b : Bool) (n : ℕ). counted b + n) (another name p.0 (λ e. h (inl e))) (count_none ps name (λ k. h (inr k)))

count_one : (ps : List (List ℕ × ℕ)) (name : List ℕ) → IsOneOf name (firsts ps) → AreOnce (firsts ps) → definitions ps name ≡ 1
count_one [] name h once = absurd h
count_one (p ∷ ps) name (inl e) once =
    ap₂ (λ (b : Bool) (n : ℕ). counted b + n) ((bytes_eq-Decides p.0 name).1 (sym e)) (count_none ps name (λ k. once.0 (subst (λ (n : List ℕ). IsOneOf n (firsts ps)) e k)))
count_one (p ∷ ps) name (inr k) once =
    ap₂ (λ (b : Bool) (n : ℕ). counted b + n) (another name p.0 (λ e. once.0 (subst (λ (n : List ℕ). IsOneOf n (firsts ps)) e k))) (count_one ps name k once.1)

names_once : (o : Object) → AreOnce (given o) → (us : List Use) → AllByRecursion (IsGiven (given o)) us → AllByRecursion (IsDefinedOnce (o ∷ [])) us
names_once o once [] h = tt
names_once o once (u ∷ us) h =
    let ps : List (List ℕ × ℕ) = names_of (o ∷ []) (linked_addresses (o ∷ [])) in
    (count_one ps u.name (subst (λ (l : List (List ℕ)). IsOneOf u.name l) (sym (firsts_are o)) h.0) (subst AreOnce (sym (firsts_are o)) once), names_once o once us h.1)

-- ---- its address is found

found_by : (b : Bool) (a : ℕ) (o : Option ℕ) → (b ≡ false → IsSome o) → IsSome (cond b (Some a) o)
found_by true a o h = refl
found_by false a o h = h refl

found : (ps : List (List ℕ × ℕ)) (name : List ℕ) → IsOneOf name (firsts ps) → IsSome (address_of ps name)
found [] name h = absurd h
found (p ∷ ps) name (inl e) = found_by (bytes_eq p.0 name) p.1 (address_of ps name) (λ f. absurd (true≢false (sym ((bytes_eq-Decides p.0 name).1 (sym e)) ∙ f)))
found (p ∷ ps) name (inr k) = found_by (bytes_eq p.0 name) p.1 (address_of ps name) (λ f. found ps name k)

end_in : (size : ℕ) (u : Use) → Stands size u → u.in_text ≡ true → u.at + 4 ≤ size
end_in size u (inl h) e = h.1
end_in size u (inr h) e = absurd (true≢false (sym e ∙ h))

resolved : (o : Object) (size : ℕ) (us : List Use) → AllByRecursion (Stands size) us → AllByRecursion (IsGiven (given o)) us → AllByRecursion (IsFound (linked_address (o ∷ [])) true size) us
unfolding linked_address
resolved o size [] h k = tt
resolved o size (u ∷ us) h k =
    let ps : List (List ℕ × ℕ) = names_of (o ∷ []) (linked_addresses (o ∷ [])) in
    ((λ e. (found ps u.name (subst (λ (l : List (List ℕ)). IsOneOf u.name l) (sym (firsts_are o)) k.0), end_in size u h.0 e)), resolved o size us h.1 k.1)

-- ---- all of it

text_size : (o : Object) → IsInOrder o → AllByRecursion (IsGiven (given o)) o.uses → length (linked_text (o ∷ [])) ≡ length o.text
unfolding linked_text
text_size o order names =
    ap length (append-nil (placed_text (linked_address (o ∷ [])) TEXT o))
    ∙ (text_patched (linked_address (o ∷ [])) TEXT o (resolved o (length o.text) o.uses (all_stand o order) names)).size

pub linkable : (o : Object) → is_known o.target ≡ true → IsInOrder o → 4 ≤ length o.text → length o.text ≤ 2 ^ 24 → are_fitting DATA o.statics ≡ true → has_rows_inside o ≡ true → has_uses_inside o ≡ true
    → AreOnce (given o) → AllByRecursion (IsGiven (given o)) o.uses → AreLinkable (o ∷ [])
linkable o known order least most fit rows uses once names =
    let size : length (linked_text (o ∷ [])) ≡ length o.text = text_size o order names in
    record {
      target = ap₂ (λ (a b : Bool). a && (b && true)) known (eq-eqb o.target o.target refl);
      words = ap (λ (b : Bool). b && true) (eq-eqb (length o.text % 4) 0 order.size);
      size = ap₂ (λ (a b : Bool). a && b) (le-leb 4 (length (linked_text (o ∷ []))) (omega (arith, size, least))) (le-leb (length (linked_text (o ∷ []))) (2 ^ 24) (omega (arith, size, most)));
      statics = ap (are_fitting DATA) (append-nil o.statics) ∙ fit;
      rows = ap (λ (b : Bool). b && true) rows;
      uses = ap (λ (b : Bool). b && true) uses;
      names = (names_once o once o.uses names, tt);
    }
