-- Which name is defined twice, by what is known of each name.
use Rattle.std.proofs.Common.{◌≡◌, ℕ, zero, suc, ◌+◌, ◌≤◌, ◌<◌, length, slice_index_or, Bool, true, false, not, ◌&&◌, ◌||◌, ◌==◌, List, [], ◌∷◌, drop, map, ◌∙◌, sym, refl, ap, subst, Option, Some, None, bytes_eq, if◌then◌else◌, arith}
use Rattle.std.proofs.lemmas.Slice.Eq.{bytes_eq-Decides}
use Rattle.std.proofs.Math.Seq.{drop-cons}
use Rattle.std.specs.Map.{update}
use Rattle.c_linkage.specs.declared.definitions.Definition.{Definition}
use Rattle.c_linkage.specs.declared.definitions.Known.{Known}
use Rattle.c_linkage.specs.declared.definitions.Manner.{Manner}
use Rattle.c_linkage.specs.declared.definitions.Manner.TheVariants.{Body, Initialized, Tentative}
use Rattle.c_linkage.specs.Names.{Defining, defining, IsBefore, AreInOrder, same_manner, is_defined_before, twice}
use Rattle.c_linkage.specs.Known.{behind, is_again, is_body, is_initialized, added, begun}

abbrev pub noted : (List ℕ → Option Known) → Defining → List ℕ → Option Known
noted f d = update bytes_eq f d.name (Some (behind (f d.name) d))

abbrev pub first_again : (List ℕ → Option Known) → List Defining → Option (List ℕ)
first_again f [] = None
first_again f (d ∷ ds) = if is_again (f d.name) d then Some d.name else first_again (noted f d) ds

pub same_known : (f g : List ℕ → Option Known) (ds : List Defining) → ((t : List ℕ) → f t ≡ g t) → first_again f ds ≡ first_again g ds
same_known f g ds h = λ i. first_again (λ t. h t i) ds

-- what is known of a name behind some definitions, the last first
abbrev known_behind : List Defining → List ℕ → Option Known
known_behind [] = λ t. None
known_behind (d ∷ before) = noted (known_behind before) d

abbrev UpTo : ℕ → List Defining → Type 0
UpTo n [] = Unit {0}
UpTo n (e ∷ es) = (e.unit ≤ n) × UpTo n es

abbrev Descends : List Defining → Type 0
Descends [] = Unit {0}
Descends (e ∷ es) = UpTo e.unit es × Descends es

abbrev Follow : List Defining → List Defining → Type 0
Follow before [] = Unit {0}
Follow before (d ∷ ds) = UpTo d.unit before × Follow before ds

abbrev IsKnownUpTo : ℕ → Option Known → Type 0
IsKnownUpTo n None = Unit {0}
IsKnownUpTo n (Some k) = k.unit ≤ n

-- ---- numbers of files

turned : (a b : ℕ) → (a == b) ≡ (b == a)
turned a b = grind arith

between : (a b c : ℕ) → a ≤ b → b ≤ c → (a == c) ≡ ((a == b) && (b == c))
between a b c h i = grind arith

-- ---- one definition more

same_file : (m n : Manner) (k i y : Bool) → (((is_body m && (k || is_body n)) || (is_initialized m && (i || is_initialized n))) || y) ≡ (same_manner m n || (((is_body m && k) || (is_initialized m && i)) || y))
same_file Body Body true i y = refl
same_file Body Body false i y = refl
same_file Body Initialized true i y = refl
same_file Body Initialized false i y = refl
same_file Body Tentative true i y = refl
same_file Body Tentative false i y = refl
same_file Initialized Body k true y = refl
same_file Initialized Body k false y = refl
same_file Initialized Initialized k true y = refl
same_file Initialized Initialized k false y = refl
same_file Initialized Tentative k true y = refl
same_file Initialized Tentative k false y = refl
same_file Tentative n k i y = refl

next_file : (m n : Manner) (y : Bool) → (((is_body m && is_body n) || (is_initialized m && is_initialized n)) || y) ≡ (same_manner m n || y)
next_file Body Body y = refl
next_file Body Initialized y = refl
next_file Body Tentative y = refl
next_file Initialized Body y = refl
next_file Initialized Initialized y = refl
next_file Initialized Tentative y = refl
next_file Tentative n y = refl

either : (x a b : Bool) → (x && (a || b)) ≡ (x && (b || a))
either false a b = refl
either true true true = refl
either true true false = refl
either true false true = refl
either true false false = refl

other_file : (x a b c : Bool) → (x && ((a || b) || c)) ≡ ((x && b) || (x && (a || c)))
other_file false a b c = refl
other_file true true true c = refl
other_file true true false c = refl
other_file true false true c = refl
other_file true false false c = refl

other_begun : (x b c a : Bool) → (x && (b || (c || a))) ≡ ((x && b) || (x && (a || c)))
other_begun false b c a = refl
other_begun true true c a = refl
other_begun true false true true = refl
other_begun true false true false = refl
other_begun true false false true = refl
other_begun true false false false = refl

and_false : (b : Bool) → (b && false) ≡ false
and_false true = refl
and_false false = refl

or_false : (b : Bool) → (b || false) ≡ b
or_false true = refl
or_false false = refl

-- whether one definition is beside another one too many
abbrev beside : Defining → Defining → Bool
beside d e = if d.unit == e.unit then same_manner d.manner e.manner else (not d.is_static && not e.is_static)

first_one : (d e : Defining) (q : Bool) → (e.unit == d.unit) ≡ q → (d.unit == e.unit) ≡ q → is_again (Some (begun false e)) d ≡ (beside d e || false)
first_one d e true hq hs = rw (hq, hs) (next_file d.manner e.manner (not d.is_static && false) ∙ ap (λ b. same_manner d.manner e.manner || b) (and_false (not d.is_static)))
first_one d e false hq hs = rw (hq, hs) (ap (λ b. not d.is_static && b) (or_false (not e.is_static)) ∙ sym (or_false (not d.is_static && not e.is_static)))

more : (k : Known) (d e : Defining) (p q : Bool) → (k.unit == e.unit) ≡ p → (e.unit == d.unit) ≡ q → (k.unit == d.unit) ≡ (p && q) → (d.unit == e.unit) ≡ q
    → is_again (Some (behind (Some k) e)) d ≡ (beside d e || is_again (Some k) d)
more k d e true true hp hq hr hs = rw (hp, hq, hr, hs) (same_file d.manner e.manner k.body k.initialized (not d.is_static && k.elsewhere))
more k d e true false hp hq hr hs = rw (hp, hq, hr, hs) (other_file (not d.is_static) k.external (not e.is_static) k.elsewhere)
more k d e false true hp hq hr hs = rw (hp, hq, hr, hs) (next_file d.manner e.manner (not d.is_static && (k.elsewhere || k.external)) ∙ ap (λ b. same_manner d.manner e.manner || b) (either (not d.is_static) k.elsewhere k.external))
more k d e false false hp hq hr hs = rw (hp, hq, hr, hs) (other_begun (not d.is_static) (not e.is_static) k.elsewhere k.external)

one_more : (o : Option Known) (d e : Defining) → IsKnownUpTo e.unit o → e.unit ≤ d.unit → is_again (Some (behind o e)) d ≡ (beside d e || is_again o d)
one_more None d e h i = first_one d e (e.unit == d.unit) refl (turned d.unit e.unit)
one_more (Some k) d e h i = more k d e (k.unit == e.unit) (e.unit == d.unit) refl refl (between k.unit e.unit d.unit h i) (turned d.unit e.unit)

-- ---- all definitions

behind_unit : (n : ℕ) (o : Option Known) (e : Defining) → e.unit ≤ n → IsKnownUpTo n (Some (behind o e))
behind_unit n None e h = h
behind_unit n (Some k) e h = elim (k.unit == e.unit) as (λ b. IsKnownUpTo n (Some (if b then added k e else begun (k.elsewhere || k.external) e))) [ true ↦ h | false ↦ h ]

known_up_to : (n : ℕ) (es : List Defining) (t : List ℕ) → UpTo n es → IsKnownUpTo n (known_behind es t)
known_up_to n [] t h = tt
known_up_to n (e ∷ es) t h = elim (bytes_eq e.name t) as (λ b. IsKnownUpTo n (if b then Some (behind (known_behind es e.name) e) else known_behind es t)) [ true ↦ behind_unit n (known_behind es e.name) e h.0 | false ↦ known_up_to n es t h.1 ]

same_text : (xs : List ℕ) → bytes_eq xs xs ≡ true
same_text xs = (bytes_eq-Decides xs xs).1 refl

text_turned : (xs ys : List ℕ) → bytes_eq xs ys ≡ false → bytes_eq ys xs ≡ false
text_turned xs ys h =
    let P : Bool → Type 0 = λ b. bytes_eq ys xs ≡ b → b ≡ false in
    (elim (bytes_eq ys xs) as P [ true ↦ λ e. absurd (let f : true ≡ false = sym (same_text xs) ∙ (subst (λ (zs : List ℕ). bytes_eq xs zs ≡ false) ((bytes_eq-Decides ys xs).0 e) h) in cc) | false ↦ λ e. refl ]) refl

again : (d : Defining) (es : List Defining) → UpTo d.unit es → Descends es → is_again (known_behind es d.name) d ≡ is_defined_before d es
again d [] u w = refl
again d (e ∷ es) u w =
    let P : Bool → Type 0 = λ b. bytes_eq e.name d.name ≡ b → is_again (if b then Some (behind (known_behind es e.name) e) else known_behind es d.name) d ≡ ((bytes_eq d.name e.name && beside d e) || is_defined_before d es) in
    (elim (bytes_eq e.name d.name) as P [
      | true ↦ λ h.
          let same : e.name ≡ d.name = (bytes_eq-Decides e.name d.name).0 h in
          let here : bytes_eq d.name e.name ≡ true = (bytes_eq-Decides d.name e.name).1 (sym same) in
          one_more (known_behind es e.name) d e (known_up_to e.unit es e.name w.0) u.0 ∙
          (ap (λ t. beside d e || is_again (known_behind es t) d) same ∙
          (ap (λ b. beside d e || b) (again d es u.1 w.1) ∙ ap (λ b. (b && beside d e) || is_defined_before d es) (sym here)))
      | false ↦ λ h. again d es u.1 w.1 ∙ ap (λ b. (b && beside d e) || is_defined_before d es) (sym (text_turned e.name d.name h))
    ]) refl

follow_more : (d : Defining) (before ds : List Defining) → IsBefore d ds → Follow before ds → Follow (d ∷ before) ds
follow_more d before [] h f = tt
follow_more d before (e ∷ ds) h f = ((h.0, f.0), follow_more d before ds h.1 f.1)

walks : (before ds : List Defining) → Descends before → Follow before ds → AreInOrder ds → first_again (known_behind before) ds ≡ twice before ds
walks before [] w f o = refl
walks before (d ∷ ds) w f o =
    ap (λ b. if b then Some d.name else first_again (known_behind (d ∷ before)) ds) (again d before f.0 w) ∙
    ap (λ r. if is_defined_before d before then Some d.name else r) (walks (d ∷ before) ds (f.0, w) (follow_more d before ds o.0 f.1) o.1)

follow_none : (ds : List Defining) → Follow [] ds
follow_none [] = tt
follow_none (d ∷ ds) = (tt, follow_none ds)

pub first_is_twice : (ds : List Defining) → AreInOrder ds → first_again (λ t. None) ds ≡ twice [] ds
first_is_twice ds o = walks [] ds tt (follow_none ds) o

-- ---- as the code goes

pub none_left : (f : List ℕ → Option Known) (ds : List Definition) (i : ℕ) → length ds ≤ i → first_again f (map defining (drop i ds)) ≡ None
none_left f [] zero h = refl
none_left f [] (suc i) h = refl
none_left f (d ∷ ds) zero h = absurd (omega arith)
none_left f (d ∷ ds) (suc i) h = none_left f ds i (omega arith)

item_of : (ds : List Definition) (i : ℕ) (d : Definition) → i < length ds → d ≡ slice_index_or ds i d → drop i ds ≡ (d ∷ drop (i + 1) ds)
item_of ds i d h e = drop-cons ds i d h ∙ (ap (λ x. x ∷ drop (suc i) ds) (sym e) ∙ ap (λ j. d ∷ drop j ds) (let f : suc i ≡ i + 1 = omega arith in f))

pub found_again : (f : List ℕ → Option Known) (ds : List Definition) (i : ℕ) (d : Definition) → i < length ds → d ≡ slice_index_or ds i d
    → is_again (f d.name.now) (defining d) ≡ true → first_again f (map defining (drop i ds)) ≡ Some d.name.now
found_again f ds i d h e a = ap (λ l. first_again f (map defining l)) (item_of ds i d h e) ∙ ap (λ b. if b then Some d.name.now else first_again (noted f (defining d)) (map defining (drop (i + 1) ds))) a

pub not_again : (f g : List ℕ → Option Known) (ds : List Definition) (i : ℕ) (d : Definition) → i < length ds → d ≡ slice_index_or ds i d
    → is_again (f d.name.now) (defining d) ≡ false → ((t : List ℕ) → g t ≡ noted f (defining d) t) → first_again g (map defining (drop (i + 1) ds)) ≡ first_again f (map defining (drop i ds))
not_again f g ds i d h e a n =
    same_known g (noted f (defining d)) (map defining (drop (i + 1) ds)) n ∙
    (sym (ap (λ b. if b then Some d.name.now else first_again (noted f (defining d)) (map defining (drop (i + 1) ds))) a) ∙
    sym (ap (λ l. first_again f (map defining l)) (item_of ds i d h e)))
