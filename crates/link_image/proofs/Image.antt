-- The image of objects that keep what a linker asks.
use Rattle.std.proofs.Common.{◌≡◌, ◌⊎◌, inl, inr, ℕ, suc, ◌+◌, ◌%◌, ◌^◌, ◌≤◌, Bool, true, false, ◌&&◌, ◌||◌, nat_eq, nat_le, List, [], ◌∷◌, length, Option, Some, None, refl, sym, ap, ◌∙◌, subst, arith}
use Rattle.std.specs.List.{AllByRecursion, list_all}
use Rattle.std.proofs.lemmas.Bool.Decides.{nat_tests}
use Rattle.machine_state.specs.declared.layout.TheConstants.{MIPS, SPARC, TEXT, DATA, DATA_SIZE}
use Rattle.obj_file.specs.Image.{ImageFields, IsImage}
use Rattle.obj_file.specs.declared.object.Object.{Object}
use Rattle.obj_file.specs.declared.object.LoaderRows.{LoaderRows}
use Rattle.obj_placed.specs.Placed.{IsResolved, all_statics, placed_texts, placed_statics, placed_rows}
use Rattle.link_image.specs.declared.addresses.Entry.{Entry}
use Rattle.link_image.specs.Linked.{IsFor, linked_address, linked_addresses, linked_text, linked_statics, anchors_from, data_from}
use Rattle.link_image.specs.Conditions.{is_known, is_for, are_for_one, has_whole_words, has_rows_inside, is_sized, are_fitting}
use Rattle.link_image.specs.Tables.{address_by, linked_entry, HasText, HasStatics}
use Rattle.link_image.specs.Links.{IsLinked}
use Rattle.link_image.proofs.Lists.{text_linked, statics_linked}
use Rattle.link_image.proofs.Named.{same_address}
use Rattle.link_image.proofs.Uses.{all_resolved, all_inside, all_once}
use Rattle.link_image.proofs.Placing.{and_parts, placing_of, short_statics, whole_text}

-- ---- tests

or_parts : (p q : Bool) → (p || q) ≡ true → (p ≡ true) ⊎ (q ≡ true)
or_parts true q e = inl refl
or_parts false q e = inr e

equal_of : (n m : ℕ) → nat_eq n m ≡ true → n ≡ m
equal_of n m e = grind (arith, nat_tests)

known_by : (t : ℕ) → (nat_eq t MIPS ≡ true) ⊎ (nat_eq t SPARC ≡ true) → (t ≡ MIPS) ⊎ (t ≡ SPARC)
known_by t (inl e) = inl (equal_of t MIPS e)
known_by t (inr e) = inr (equal_of t SPARC e)

known_of : (t : ℕ) → is_known t ≡ true → (t ≡ MIPS) ⊎ (t ≡ SPARC)
known_of t e = known_by t (or_parts (nat_eq t MIPS) (nat_eq t SPARC) e)

at_least : (text : List ℕ) → is_sized text ≡ true → 4 ≤ length text
at_least text e = let h = (and_parts (nat_le 4 (length text)) (nat_le (length text) (2 ^ 24)) e).0 in grind (arith, nat_tests)

at_most : (text : List ℕ) → is_sized text ≡ true → length text ≤ 2 ^ 24
at_most text e = let h = (and_parts (nat_le 4 (length text)) (nat_le (length text) (2 ^ 24)) e).1 in grind (arith, nat_tests)

all_for : (t : ℕ) (os : List Object) → list_all (is_for t) os ≡ true → AllByRecursion (IsFor t) os
all_for t [] e = tt
all_for t (o ∷ os) e = let h = and_parts (is_for t o) (list_all (is_for t) os) e in (equal_of o.target t h.0, all_for t os h.1)

-- no objects have no text
pub no_texts : (os : List Object) → length os ≡ 0 → is_sized (linked_text os) ≡ false
unfolding linked_text
no_texts [] e = refl
no_texts (o ∷ os) e = absurd (omega (arith, e))

-- ---- objects that were looked through

module _ (os : List Object) (f : List ℕ → Option Entry) (same : (t : List ℕ) → f t ≡ linked_entry os t) (text statics : List ℕ)
    (texts : AllByRecursion (HasText f) os) (all_data : AllByRecursion (HasStatics f) os)
    (words : list_all has_whole_words os ≡ true) (fit : are_fitting DATA (all_statics os) ≡ true)
    (made : text ≡ placed_texts (λ n. address_by (f n)) TEXT os) (filled : statics ≡ data_from 0 (linked_addresses os) (placed_statics (λ n. address_by (f n)) os)) where
  resolved : AllByRecursion (IsResolved (linked_address os)) os
  resolved = all_resolved f os same os texts all_data

  text_is : text ≡ linked_text os
  text_is = text_linked (λ n. address_by (f n)) os text text (same_address f os same) made refl

  statics_are : statics ≡ linked_statics os
  statics_are = statics_linked (λ n. address_by (f n)) os statics statics (same_address f os same) filled refl

  pub image_is : (target : ℕ) → is_known target ≡ true → is_sized text ≡ true → IsImage (record { target = target; entry = TEXT; text = text; statics = statics })
  image_is target known sized =
      let least : 4 ≤ length text = at_least text sized in
      let data_size : length (linked_statics os) ≤ DATA_SIZE = short_statics os resolved fit in
      record {
        known = known_of target known;
        least_text = least;
        most_text = at_most text sized;
        whole_words = subst (λ (l : List ℕ). length l % 4 ≡ 0) (sym text_is) (whole_text os resolved words);
        most_data = subst (λ (l : List ℕ). length l ≤ 2 ^ 20) (sym statics_are) (omega (arith, data_size));
        entry_aligned = omega arith;
        entry_from = omega arith;
        entry_below = omega (arith, least);
      }

  pub linked_is : (target : ℕ) (image : ImageFields) (rows : LoaderRows) → are_for_one os ≡ true → list_all (is_for target) os ≡ true → list_all has_rows_inside os ≡ true → is_sized text ≡ true
      → image ≡ record { target = target; entry = TEXT; text = text; statics = statics } → rows.anchors ≡ anchors_from DATA (all_statics os) → rows.functions ≡ placed_rows TEXT os
      → IsLinked os image rows
  linked_is target image rows one each inside sized e anchors functions = record {
    linkable = record {
      target = one;
      words = words;
      size = subst (λ (l : List ℕ). is_sized l ≡ true) text_is sized;
      statics = fit;
      rows = inside;
      uses = all_inside f os same os texts all_data;
      names = all_once f os same os texts all_data;
    };
    target = subst (λ (i : ImageFields). AllByRecursion (IsFor i.target) os) (sym e) (all_for target os each);
    entry = ap (λ (i : ImageFields). i.entry) e;
    text = ap (λ (i : ImageFields). i.text) e ∙ text_is;
    statics = ap (λ (i : ImageFields). i.statics) e ∙ statics_are;
    placing = placing_of (all_statics os) fit;
    resolved = resolved;
    anchors = anchors;
    functions = functions;
  }

-- the size of a text that was made
pub unsized : (os : List Object) (f : List ℕ → Option Entry) (text : List ℕ) → ((t : List ℕ) → f t ≡ linked_entry os t) → text ≡ placed_texts (λ n. address_by (f n)) TEXT os → is_sized text ≡ false → is_sized (linked_text os) ≡ false
unsized os f text same e h = subst (λ (l : List ℕ). is_sized l ≡ false) (text_linked (λ n. address_by (f n)) os text text (same_address f os same) e refl) h
