-- Definitions of objects and functions, one by one.
use Rattle.std.proofs.Common.{◌≡◌, ◌<◌, ◌≤◌, ℕ, zero, suc, ◌+◌, Bool, true, false, ◌&&◌, ◌||◌, ◌==◌, List, [], ◌∷◌, ◌++◌, length, map, drop, ◌∙◌, sym, refl, ap, Option, Some, slice_index_or, if◌then◌else◌, bytes_eq, arith}
use Rattle.std.proofs.lemmas.Slice.Eq.{bytes_eq-Decides}
use Rattle.std.proofs.Math.Seq.{drop-cons}
use Rattle.c_linkage.specs.declared.definitions.Definition.{Definition}
use Rattle.c_linkage.specs.declared.file_names.FileName.{FileName as NameRow}
use Rattle.c_linkage.specs.declared.state.Started.{Started as StartedRow}
use Rattle.c_linkage.specs.FileNames.{file_name}
use Rattle.c_linkage.specs.Names.{Defining, defining}
use Rattle.c_linkage.specs.Wanted.{started}
use Rattle.c_linkage.specs.Defined.{is_body, is_on, objects_from, bodies_of, number_from}
use Rattle.c_rows.specs.Linked.{is_linked}
use Rattle.c_rows.specs.Fresh.{one_object, marked, fresh}
use Rattle.c_rows.specs.Placed.{has_static, is_static_one}
use Rattle.c_rows.specs.Objects.{start_number}

-- ---- functions with bodies

pub bodies_one : (d : Defining) (ds : List Defining) → bodies_of (d ∷ ds) ≡ (bodies_of (d ∷ []) ++ bodies_of ds)
bodies_one d ds = elim (is_body d.manner) as (λ b. (if b then d ∷ bodies_of ds else bodies_of ds) ≡ ((if b then d ∷ [] else []) ++ bodies_of ds)) [ true ↦ refl | false ↦ refl ]

-- ---- objects

turned : (m n : ℕ) → (m == n) ≡ (n == m)
turned m n = grind arith

bool_alike : (a b : Bool) → (a ≡ true → b ≡ true) → (b ≡ true → a ≡ true) → a ≡ b
bool_alike true b f g = sym (f refl)
bool_alike false true f g = g refl
bool_alike false false f g = refl

text_turned : (s t : List ℕ) → bytes_eq s t ≡ bytes_eq t s
text_turned s t = bool_alike (bytes_eq s t) (bytes_eq t s) (λ h. (bytes_eq-Decides t s).1 (sym ((bytes_eq-Decides s t).0 h))) (λ h. (bytes_eq-Decides s t).1 (sym ((bytes_eq-Decides t s).0 h)))

-- a name of a file is on a list
abbrev is_there : List Defining → ℕ → List ℕ → Bool
is_there [] u t = false
is_there (e ∷ es) u t = ((e.unit == u) && bytes_eq e.name t) || is_there es u t

on_there : (d : Defining) (es : List Defining) → is_on d es ≡ is_there es d.unit d.name
on_there d [] = refl
on_there d (e ∷ es) = λ i. (turned d.unit e.unit i && text_turned d.name e.name i) || on_there d es i

pub fresh_objects : (seen ds : List Defining) → fresh (is_there seen) ds ≡ objects_from seen ds
fresh_objects seen [] = refl
fresh_objects seen (d ∷ ds) =
    (elim (is_body d.manner || is_there seen d.unit d.name) as (λ b. ((if b then [] else d ∷ []) ++ fresh (λ u t. if b then is_there seen u t else (((d.unit == u) && bytes_eq d.name t) || is_there seen u t)) ds)
    ≡ (if b then objects_from seen ds else d ∷ objects_from (d ∷ seen) ds)) [
      | true ↦ fresh_objects seen ds
      | false ↦ ap (λ l. d ∷ l) (fresh_objects (d ∷ seen) ds)
    ]) ∙ ap (λ b. if is_body d.manner || b then objects_from seen ds else d ∷ objects_from (d ∷ seen) ds) (sym (on_there d seen))

-- a definition goes from those that are left to those that were seen
pub fresh_more : (ds : List Definition) (i : ℕ) (d : Definition) (old new : ℕ → List ℕ → Bool) → i < length ds → d ≡ slice_index_or ds i d
    → ((u : ℕ) (t : List ℕ) → new u t ≡ marked old (defining d) u t)
    → (one_object old (defining d) ++ fresh new (map defining (drop (i + 1) ds))) ≡ fresh old (map defining (drop i ds))
fresh_more ds i d old new h e m =
    (λ j. one_object old (defining d) ++ fresh (λ u t. m u t j) (map defining (drop (i + 1) ds))) ∙
    (ap (λ k. one_object old (defining d) ++ fresh (marked old (defining d)) (map defining (drop k ds))) (let x : i + 1 ≡ suc i = omega arith in x) ∙
    (ap (λ g. fresh old (map defining (g ∷ drop (suc i) ds))) e ∙ ap (λ l. fresh old (map defining l)) (sym (drop-cons ds i d h))))

append_assoc : (xs ys zs : List Defining) → ((xs ++ ys) ++ zs) ≡ (xs ++ (ys ++ zs))
append_assoc [] ys zs = refl
append_assoc (x ∷ xs) ys zs = ap (λ l. x ∷ l) (append_assoc xs ys zs)

pub object_more : (ds : List Definition) (i : ℕ) (d : Definition) (os ps : List Defining) (old new : ℕ → List ℕ → Bool) → i < length ds → d ≡ slice_index_or ds i d
    → ps ≡ (os ++ one_object old (defining d)) → ((u : ℕ) (t : List ℕ) → new u t ≡ marked old (defining d) u t)
    → (ps ++ fresh new (map defining (drop (i + 1) ds))) ≡ (os ++ fresh old (map defining (drop i ds)))
object_more ds i d os ps old new h e p m =
    ap (λ l. l ++ fresh new (map defining (drop (i + 1) ds))) p ∙
    (append_assoc os (one_object old (defining d)) (fresh new (map defining (drop (i + 1) ds))) ∙ ap (λ l. os ++ l) (fresh_more ds i d old new h e m))

append_nothing : (xs : List Defining) → (xs ++ []) ≡ xs
append_nothing [] = refl
append_nothing (x ∷ xs) = ap (λ l. x ∷ l) (append_nothing xs)

pub objects_left : (os : List Defining) (ds : List Definition) (i : ℕ) (seen : ℕ → List ℕ → Bool) → length ds ≤ i → (os ++ fresh seen (map defining (drop i ds))) ≡ os
objects_left os [] zero seen h = append_nothing os
objects_left os [] (suc i) seen h = append_nothing os
objects_left os (d ∷ ds) zero seen h = absurd (omega (arith, h))
objects_left os (d ∷ ds) (suc i) seen h = objects_left os ds i seen (omega (arith, h))

-- ---- numbers

pub number_more : (ds : List Definition) (i k : ℕ) (x : Definition) (name : List ℕ) (old new : ℕ → Bool → List ℕ → Option ℕ) → i < length ds → x ≡ slice_index_or ds i x → name ≡ x.name.now → k ≡ i
    → ((u : ℕ) (s : Bool) (t : List ℕ) → new u s t ≡ (if is_linked x.unit x.is_static name u s t then Some k else old u s t))
    → ((u : ℕ) (s : Bool) (t : List ℕ) → old u s t ≡ number_from (suc i) (map defining (drop (suc i) ds)) u s t)
    → (u : ℕ) (s : Bool) (t : List ℕ) → new u s t ≡ number_from i (map defining (drop i ds)) u s t
number_more ds i k x name old new h e m c n o u s t =
    n u s t ∙
    ((λ j. if is_linked x.unit x.is_static (m j) u s t then Some (c j) else o u s t j) ∙
    (ap (λ y. number_from i (map defining (y ∷ drop (suc i) ds)) u s t) e ∙ ap (λ l. number_from i (map defining l) u s t) (sym (drop-cons ds i x h))))

pub start_more : (ss : List StartedRow) (i k : ℕ) (x : StartedRow) (name : List ℕ) (old new : ℕ → List ℕ → Option ℕ) → i < length ss → x ≡ slice_index_or ss i x → name ≡ x.name.now → k ≡ i
    → ((u : ℕ) (t : List ℕ) → new u t ≡ (if (x.unit == u) && bytes_eq name t then Some k else old u t))
    → ((u : ℕ) (t : List ℕ) → old u t ≡ start_number (suc i) (map started (drop (suc i) ss)) u t)
    → (u : ℕ) (t : List ℕ) → new u t ≡ start_number i (map started (drop i ss)) u t
start_more ss i k x name old new h e m c n o u t =
    n u t ∙
    ((λ j. if (x.unit == u) && bytes_eq (m j) t then Some (c j) else o u t j) ∙
    (ap (λ y. start_number i (map started (y ∷ drop (suc i) ss)) u t) e ∙ ap (λ l. start_number i (map started l) u t) (sym (drop-cons ss i x h))))

-- ---- names that are `static`

or_turned : (a b c : Bool) → ((a || b) || c) ≡ (b || (a || c))
or_turned true true c = refl
or_turned true false c = refl
or_turned false b c = refl

pub static_more : (fs : List NameRow) (i u : ℕ) (t : List ℕ) (f : NameRow) (old new : Bool) → i < length fs → f ≡ slice_index_or fs i f → new ≡ (is_static_one u t (file_name f) || old)
    → (new || has_static u t (map file_name (drop (i + 1) fs))) ≡ (old || has_static u t (map file_name (drop i fs)))
static_more fs i u t f old new h e n =
    ap (λ b. b || has_static u t (map file_name (drop (i + 1) fs))) n ∙
    (or_turned (is_static_one u t (file_name f)) old (has_static u t (map file_name (drop (i + 1) fs))) ∙
    ap (λ b. old || b) (ap (λ k. is_static_one u t (file_name f) || has_static u t (map file_name (drop k fs))) (let x : i + 1 ≡ suc i = omega arith in x) ∙
    (ap (λ g. has_static u t (map file_name (g ∷ drop (suc i) fs))) e ∙ ap (λ l. has_static u t (map file_name l)) (sym (drop-cons fs i f h)))))

or_false : (a : Bool) → (a || false) ≡ a
or_false true = refl
or_false false = refl

pub static_left : (fs : List NameRow) (i u : ℕ) (t : List ℕ) (b : Bool) → length fs ≤ i → (b || has_static u t (map file_name (drop i fs))) ≡ b
static_left [] zero u t b h = or_false b
static_left [] (suc i) u t b h = or_false b
static_left (f ∷ fs) zero u t b h = absurd (omega (arith, h))
static_left (f ∷ fs) (suc i) u t b h = static_left fs i u t b (omega (arith, h))
