-- The code's maps find what names mean.
use Rattle.std.proofs.Common.{◌≡◌, ℕ, Bool, true, false, ◌&&◌, ◌||◌, List, [], ◌∷◌, ◌++◌, reverse, ◌∙◌, sym, refl, ap, if◌then◌else◌}
use Rattle.std.proofs.lemmas.List.{reverse-append}
use Rattle.c_rows.specs.declared.places.Places.{Places}
use Rattle.c_linkage.specs.Names.{FileName, Defining, is_here, one_linkage}
use Rattle.c_linkage.specs.FileNames.{AreConsistent}
use Rattle.c_linkage.specs.Bounds.{is_static_in}
use Rattle.c_file.specs.Files.{State}
use Rattle.c_file.specs.Made.{objects}
use Rattle.c_linkage.specs.Defined.{bodies_of, number_from}
use Rattle.c_rows.specs.Linked.{linked_in}
use Rattle.c_rows.specs.Fresh.{sees}
use Rattle.c_rows.specs.Placed.{has_static, is_static_one}
use Rattle.c_check.specs.Placing.{ArePlaces}
use Rattle.c_check.proofs.TypesTold.{Where, linked_as}

or_assoc : (a b c : Bool) → (a || (b || c)) ≡ ((a || b) || c)
or_assoc true b c = refl
or_assoc false b c = refl

or_turned : (a b : Bool) → (a || (b || false)) ≡ (b || a)
or_turned true true = refl
or_turned true false = refl
or_turned false true = refl
or_turned false false = refl

static_append : (u : ℕ) (t : List ℕ) (fs gs : List FileName) → has_static u t (fs ++ gs) ≡ (has_static u t fs || has_static u t gs)
static_append u t [] gs = refl
static_append u t (f ∷ fs) gs = ap (λ b. is_static_one u t f || b) (static_append u t fs gs) ∙ or_assoc (is_static_one u t f) (has_static u t fs) (has_static u t gs)

static_reverse : (u : ℕ) (t : List ℕ) (fs : List FileName) → has_static u t (reverse fs) ≡ has_static u t fs
static_reverse u t [] = refl
static_reverse u t (f ∷ fs) =
    ap (has_static u t) (reverse-append (f ∷ []) fs) ∙
    (static_append u t (reverse fs) (f ∷ []) ∙
    (ap (λ b. b || (is_static_one u t f || false)) (static_reverse u t fs) ∙ or_turned (has_static u t fs) (is_static_one u t f)))

-- where no declaration of a name in a file is `static`
none_static : (u : ℕ) (t : List ℕ) (fs : List FileName) → Where (is_here u t) (λ f. f.is_static ≡ false) fs → has_static u t fs ≡ false
none_static u t [] w = refl
none_static u t (f ∷ fs) w =
    ap (λ b. is_static_one u t f || b) (none_static u t fs w.1) ∙
    elim (is_here u t f) as (λ b. (b ≡ true → f.is_static ≡ false) → ((b && f.is_static) || false) ≡ false) [ true ↦ λ h. ap (λ s. s || false) (h refl) | false ↦ λ h. refl ] w.0

one_static : (u : ℕ) (t : List ℕ) (f : FileName) (fs : List FileName) → is_here u t f ≡ true → one_linkage f fs ≡ true → (f.is_static || has_static u t fs) ≡ f.is_static
one_static u t f fs h k =
    let w = linked_as u t f fs h k in
    let P : Bool → Type 0 = λ b. Where (is_here u t) (λ g. g.is_static ≡ b) fs → (b || has_static u t fs) ≡ b in
    (elim f.is_static as P [ true ↦ λ x. refl | false ↦ λ x. none_static u t fs x ]) w

static_same : (u : ℕ) (t : List ℕ) (fs : List FileName) → AreConsistent fs → has_static u t fs ≡ is_static_in fs u t
static_same u t [] c = refl
static_same u t (f ∷ fs) c =
    let P : Bool → Type 0 = λ b. is_here u t f ≡ b → ((b && f.is_static) || has_static u t fs) ≡ (if b then f.is_static else is_static_in fs u t) in
    (elim (is_here u t f) as P [ true ↦ λ h. one_static u t f fs h c.0 | false ↦ λ h. static_same u t fs c.2 ]) refl

pub places_made : (p : Places) (q : State) (fs : List FileName) (os bs : List Defining) → reverse fs ≡ q.names → AreConsistent (reverse fs) → os ≡ objects q → bs ≡ bodies_of q.definitions
    → ((u : ℕ) (t : List ℕ) → sees p.statics u t ≡ has_static u t fs)
    → ((u : ℕ) (s : Bool) (t : List ℕ) → linked_in p.objects u s t ≡ number_from 0 os u s t)
    → ((u : ℕ) (s : Bool) (t : List ℕ) → linked_in p.functions u s t ≡ number_from 0 bs u s t) → ArePlaces p q
places_made p q fs os bs n c e b st f g =
    let same : (u : ℕ) (t : List ℕ) → sees p.statics u t ≡ is_static_in q.names u t = λ u t. st u t ∙ (sym (static_reverse u t fs) ∙ (static_same u t (reverse fs) c ∙ ap (λ l. is_static_in l u t) n)) in
    record {
      objects = λ u t. f u (sees p.statics u t) t ∙ (λ i. number_from 0 (e i) u (same u t i) t);
      functions = λ u t. g u (sees p.statics u t) t ∙ (λ i. number_from 0 (b i) u (same u t i) t);
    }
