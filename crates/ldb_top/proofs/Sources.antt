-- The names of the sources that words ask to make a session of.
use Rattle.std.proofs.Common.{◌≡◌, ℕ, Bool, true, false, List, [], ◌∷◌, length, drop, map, string_bytes, if◌then◌else◌, None, Some, refl, sym, ap, subst, ◌∙◌, ◌≤◌, leb-true}
use Rattle.std.proofs.lemmas.Bool.{and_parts}
use Rattle.cc_call.specs.Words.{is_source, are_sources, is_count}
use Rattle.compiled_tables.specs.Conditions.{AreFileNames}
use Rattle.ldb_top.specs.declared.words.GoRequest.{GoRequest}
use Rattle.ldb_top.specs.declared.words.Request.{Request}
use Rattle.ldb_top.specs.declared.words.Request.TheVariants as request
use Rattle.ldb_top.specs.Names.{Names, AreSourceNames, sources_in}
use Rattle.ldb_top.specs.Said.{IsNamed}
use Rattle.ldb_top.specs.Words.{Debug, Go, Make, Own, form_if, form_of, form_in, is_debug, is_go, is_plain_go, is_lone_number, unscheduled}

short : (names : List (List ℕ)) → are_sources names ≡ true → AreFileNames names
short [] h = tt
short (name ∷ names) h =
    let both = and_parts (is_source name) (are_sources names) h in
    let long = and_parts _ _ both.0 in
    (leb-true (length name) 255 (and_parts _ _ long.1).0, short names both.1)

few : (n : ℕ) → is_count n ≡ true → n ≤ 16
few n h = leb-true n 16 (and_parts _ _ h).1

are_few : (words : List (List ℕ)) → is_plain_go words ≡ true → AreSourceNames (sources_in words)
are_few [] h = absurd cc
are_few (target ∷ []) h = absurd cc
are_few (target ∷ input ∷ []) h = absurd cc
are_few (target ∷ input ∷ output ∷ sources) h =
    let count = and_parts (is_count (length sources)) _ h in
    record { few = few (length sources) count.0; short = short sources (and_parts (are_sources sources) _ count.1).0 }

-- which form words have whose first is one of these
chosen : (debug go make own is_debug is_go is_number : Bool)
    → (if debug then form_if is_debug Debug else (if go then form_if is_go Go else (if make then form_if is_number Make else (if own then form_if is_number Own else None)))) ≡ Some Go → is_go ≡ true
chosen true go make own true g n e = absurd cc
chosen true go make own false g n e = absurd cc
chosen false true make own d true n e = refl
chosen false true make own d false n e = absurd cc
chosen false false true own d g true e = absurd cc
chosen false false true own d g false e = absurd cc
chosen false false false true d g true e = absurd cc
chosen false false false true d g false e = absurd cc
chosen false false false false d g n e = absurd cc

are_words : (asked : List (List ℕ)) → form_of asked ≡ Some Go → is_go (drop 1 asked) ≡ true
are_words [] e = absurd cc
are_words (first ∷ rest) e = chosen _ _ _ _ (is_debug rest) (is_go rest) (is_lone_number rest) e

-- the names of a request's sources
pub source_names : (asked : List (List ℕ)) (q : Request) (r : GoRequest) → q ≡ request.Go r → Some (form_in q) ≡ form_of asked → IsNamed (drop 1 asked) q → AreSourceNames (map string_bytes r.sources.now)
source_names asked q r e f n =
    let named : map string_bytes r.sources.now ≡ sources_in (unscheduled (drop 1 asked)) = ap (λ (x : Names). x.about) (subst (IsNamed (drop 1 asked)) e n) in
    let form : form_of asked ≡ Some Go = sym (ap (λ (x : Request). Some (form_in x)) (sym e) ∙ f) in
    subst AreSourceNames (sym named) (are_few (unscheduled (drop 1 asked)) (are_words asked form))
