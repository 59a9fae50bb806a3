-- What the declarations of a name tell, by the one that tells most.
use Rattle.std.proofs.Common.{◌≡◌, ◌<◌, ◌≤◌, ℕ, zero, suc, max, Bool, true, false, ◌||◌, ◌==◌, nat_lt, List, [], ◌∷◌, ◌∙◌, sym, refl, ap, subst, Option, Some, None, if◌then◌else◌, inl, inr, ◌⊎◌, ⊎_elim, arith}
use Rattle.std.proofs.lemmas.Bool.{and_parts, or_cases, eqb-true, ltb-true, ltb-false}
use Rattle.c_typing.specs.Plain.{Plain, Char, Int, Unsigned, Void, Pointer, Array, Struct, same}
use Rattle.c_typing.specs.Expressions.{Denoted, Object, Function, Hidden}
use Rattle.c_linkage.specs.Names.{FileName, agree_as, is_here, is_external}
use Rattle.c_linkage.specs.FileNames.{AreConsistent}
use Rattle.c_linkage.specs.Telling.{is_open, is_unbounded, more_told, telling, agrees_with, linked_with}
use Rattle.c_linkage.specs.Wanted.{Awaited}
use Rattle.c_linkage.specs.Bounds.{bound_in, greatest_bound, is_static_in}
use Rattle.c_rows.specs.Behind.{bound_told, static_told}
use Rattle.c_linkage.proofs.Telling.{AreRelated, agreeing, same_plain, same_linkage, agree_here, agree_outside, linked_here, here_agrees, outside_agrees, here_linked, all_related}

-- ---- bounds

abbrev greater : ℕ → ℕ → ℕ
greater a b = if nat_lt a b then b else a

abbrev greatest_of : (FileName → Bool) → List FileName → ℕ
greatest_of c [] = 0
greatest_of c (f ∷ fs) = if c f then greater (greatest_of c fs) (bound_in f.denoted) else greatest_of c fs

is_greater : (a b : ℕ) → ((a < b) × (greater a b ≡ b)) ⊎ ((b ≤ a) × (greater a b ≡ a))
is_greater a b =
    let P : Bool → Type 0 = λ t. nat_lt a b ≡ t → ((a < b) × ((if t then b else a) ≡ b)) ⊎ ((b ≤ a) × ((if t then b else a) ≡ a)) in
    (elim (nat_lt a b) as P [ true ↦ λ e. inl (ltb-true a b e, refl) | false ↦ λ e. inr (ltb-false a b e, refl) ]) refl

greater_max : (a b : ℕ) → greater a b ≡ max a b
greater_max a b = ⊎_elim (λ p. p.1 ∙ (let h = p.0 in let e : b ≡ max a b = omega arith in e)) (λ p. p.1 ∙ (let h = p.0 in let e : a ≡ max a b = omega arith in e)) (is_greater a b)

greatest_three : (a b n : ℕ) → greater (greater a b) n ≡ max (max a b) n
greatest_three a b n = greater_max (greater a b) n ∙ ap (λ k. max k n) (greater_max a b)

both_kinds : (h x : Bool) (a b n : ℕ) → (if h || x then greater (greater a b) n else greater a b) ≡ greater (if h then greater a n else a) (if x then greater b n else b)
both_kinds true true a b n =
    greatest_three a b n ∙
    ((let e : max (max a b) n ≡ max (max a n) (max b n) = omega arith in e) ∙
    sym (greater_max (greater a n) (greater b n) ∙ (ap (λ k. max k (greater b n)) (greater_max a n) ∙ ap (λ k. max (max a n) k) (greater_max b n))))
both_kinds true false a b n =
    greatest_three a b n ∙ ((let e : max (max a b) n ≡ max (max a n) b = omega arith in e) ∙ sym (greater_max (greater a n) b ∙ ap (λ k. max k b) (greater_max a n)))
both_kinds false true a b n =
    greatest_three a b n ∙ ((let e : max (max a b) n ≡ max a (max b n) = omega arith in e) ∙ sym (greater_max a (greater b n) ∙ ap (λ k. max a k) (greater_max b n)))
both_kinds false false a b n = refl

greatest_kinds : (fs : List FileName) (l : Awaited) → greatest_bound fs l ≡ greater (greatest_of (is_here l.unit l.place.name) fs) (greatest_of (is_external l.place.name) fs)
greatest_kinds [] l = refl
greatest_kinds (f ∷ fs) l =
    ap (λ g. if is_here l.unit l.place.name f || is_external l.place.name f then greater g (bound_in f.denoted) else g) (greatest_kinds fs l) ∙
    both_kinds (is_here l.unit l.place.name f) (is_external l.place.name f) (greatest_of (is_here l.unit l.place.name) fs) (greatest_of (is_external l.place.name) fs) (bound_in f.denoted)

greater_same : (a b : ℕ) → a ≡ b → greater a b ≡ a
greater_same a b e = greater_max a b ∙ (let m : max a b ≡ a = omega arith in m)

either_same : (b : Bool) (n : ℕ) → n ≡ (if b then n else n)
either_same true n = refl
either_same false n = refl

any_register : (t : Plain) (q r : Bool) → bound_in (Object t q) ≡ bound_in (Object t r)
any_register Char q r = refl
any_register Int q r = refl
any_register Unsigned q r = refl
any_register Void q r = refl
any_register (Pointer t) q r = refl
any_register (Array t n) q r = refl
any_register (Struct n) q r = refl

equal_objects : (s t : Plain) (q r : Bool) → s ≡ t → greater (bound_in (Object t r)) (bound_in (Object s q)) ≡ (if is_unbounded t then bound_in (Object s q) else bound_in (Object t r))
equal_objects s t q r e =
    let P : Plain → Type 0 = λ x. greater (bound_in (Object t r)) (bound_in (Object x q)) ≡ (if is_unbounded t then bound_in (Object x q) else bound_in (Object t r)) in
    subst P (sym e) (greater_same (bound_in (Object t r)) (bound_in (Object t q)) (any_register t r q) ∙ (either_same (is_unbounded t) (bound_in (Object t r)) ∙ ap (λ n. if is_unbounded t then n else bound_in (Object t r)) (any_register t r q)))

-- where two types agree, the one that tells more has the greater bound
more_bound : (d e : Denoted) → agree_as d e ≡ true → greater (bound_in e) (bound_in d) ≡ (if is_open e then bound_in d else bound_in e)
more_bound (Object (Array s m) q) (Object (Array t zero) r) h = greater_max 0 m ∙ (let e : max 0 m ≡ m = omega arith in e)
more_bound (Object (Array s m) q) (Object (Array t (suc n)) r) h =
    let p = and_parts (same s t) (((m == suc n) || (m == 0)) || (suc n == 0)) h in
    let below : m ≤ suc n = ⊎_elim
    (λ a. ⊎_elim (λ b. let e = eqb-true m (suc n) b in omega arith) (λ b. let e = eqb-true m 0 b in omega arith) (or_cases (m == suc n) (m == 0) a))
    (λ a. let e = eqb-true (suc n) 0 a in omega arith)
    (or_cases ((m == suc n) || (m == 0)) (suc n == 0) p.1) in
    greater_max (suc n) m ∙ (let e : max (suc n) m ≡ suc n = omega arith in e)
more_bound (Object s q) (Object t r) h = equal_objects s t q r (same_plain s t h)
more_bound (Function s ps) (Function t qs) h = refl
more_bound (Object s q) (Function t qs) h = absurd (let e : false ≡ true = h in cc)
more_bound (Object s q) Hidden h = absurd (let e : false ≡ true = h in cc)
more_bound (Function s ps) (Object t r) h = absurd (let e : false ≡ true = h in cc)
more_bound (Function s ps) Hidden h = absurd (let e : false ≡ true = h in cc)
more_bound Hidden e h = absurd (let f : false ≡ true = h in cc)

bound_if : (b : Bool) (f g : FileName) → (if b then bound_in f.denoted else bound_in g.denoted) ≡ bound_in (if b then f else g).denoted
bound_if true f g = refl
bound_if false f g = refl

bound_more : (f : FileName) (o : Option FileName) → agrees_with f.denoted o ≡ true → greater (bound_told o) (bound_in f.denoted) ≡ bound_told (Some (more_told f o))
bound_more f None h = greater_max 0 (bound_in f.denoted) ∙ (let e : max 0 (bound_in f.denoted) ≡ bound_in f.denoted = omega arith in e)
bound_more f (Some g) h = more_bound f.denoted g.denoted h ∙ bound_if (is_open g.denoted) f g

-- the greatest bound of some declarations is that of the one that tells most
greatest_told : (c : FileName → Bool) (fs : List FileName) → ((f : FileName) (gs : List FileName) → AreConsistent gs → agrees_with f.denoted (telling c gs) ≡ all_related agreeing c f gs)
    → AreConsistent fs → AreRelated agreeing c fs → greatest_of c fs ≡ bound_told (telling c fs)
greatest_told c [] w k h = refl
greatest_told c (f ∷ fs) w k h =
    let P : Bool → Type 0 = λ b. c f ≡ b → (if b then greater (greatest_of c fs) (bound_in f.denoted) else greatest_of c fs) ≡ bound_told (if b then Some (more_told f (telling c fs)) else telling c fs) in
    (elim (c f) as P [
      | true ↦ λ e. ap (λ n. greater n (bound_in f.denoted)) (greatest_told c fs w k.2 h.1) ∙ bound_more f (telling c fs) (w f fs k.2 ∙ h.0 e)
      | false ↦ λ e. greatest_told c fs w k.2 h.1
    ]) refl

pub bound_of_all : (fs : List FileName) (l : Awaited) → AreConsistent fs
    → greatest_bound fs l ≡ greater (bound_told (telling (is_here l.unit l.place.name) fs)) (bound_told (telling (is_external l.place.name) fs))
bound_of_all fs l c =
    let here = greatest_told (is_here l.unit l.place.name) fs (λ f gs k. here_agrees f l.unit l.place.name gs k) c (agree_here l.unit l.place.name fs c) in
    let outside = greatest_told (is_external l.place.name) fs (λ f gs k. outside_agrees f l.place.name gs k) c (agree_outside l.place.name fs c) in
    greatest_kinds fs l ∙
    (ap (λ n. greater n (greatest_of (is_external l.place.name) fs)) here ∙ ap (λ n. greater (bound_told (telling (is_here l.unit l.place.name) fs)) n) outside)

-- ---- linkage

static_if : (b : Bool) (f g : FileName) → f.is_static ≡ g.is_static → f.is_static ≡ (if b then f else g).is_static
static_if true f g e = refl
static_if false f g e = e

static_more : (f : FileName) (o : Option FileName) → linked_with f o ≡ true → f.is_static ≡ static_told (Some (more_told f o))
static_more f None h = refl
static_more f (Some g) h = static_if (is_open g.denoted) f g (same_linkage f.is_static g.is_static h)

pub static_of_all : (fs : List FileName) (u : ℕ) (t : List ℕ) → AreConsistent fs → is_static_in fs u t ≡ static_told (telling (is_here u t) fs)
static_of_all [] u t c = refl
static_of_all (f ∷ fs) u t c =
    let P : Bool → Type 0 = λ b. is_here u t f ≡ b → (if b then f.is_static else is_static_in fs u t) ≡ static_told (if b then Some (more_told f (telling (is_here u t) fs)) else telling (is_here u t) fs) in
    (elim (is_here u t f) as P [
      | true ↦ λ e. static_more f (telling (is_here u t) fs) (here_linked f u t fs c.2 ∙ (linked_here u t (f ∷ fs) c).0 e)
      | false ↦ λ e. static_of_all fs u t c.2
    ]) refl

-- ---- as the code goes

pub outer_bound : (fs : List FileName) (l : Awaited) (a b : ℕ) → AreConsistent fs → a ≡ bound_told (telling (is_here l.unit l.place.name) fs) → b ≡ bound_told (telling (is_external l.place.name) fs)
    → a < b → b ≡ greatest_bound fs l
outer_bound fs l a b c e f h =
    (let m : b ≡ max a b = omega arith in m) ∙
    (sym (greater_max a b) ∙ (ap (λ n. greater n b) e ∙ (ap (λ n. greater (bound_told (telling (is_here l.unit l.place.name) fs)) n) f ∙ sym (bound_of_all fs l c))))

pub inner_bound : (fs : List FileName) (l : Awaited) (a b : ℕ) → AreConsistent fs → a ≡ bound_told (telling (is_here l.unit l.place.name) fs) → b ≡ bound_told (telling (is_external l.place.name) fs)
    → b ≤ a → a ≡ greatest_bound fs l
inner_bound fs l a b c e f h =
    (let m : a ≡ max a b = omega arith in m) ∙
    (sym (greater_max a b) ∙ (ap (λ n. greater n b) e ∙ (ap (λ n. greater (bound_told (telling (is_here l.unit l.place.name) fs)) n) f ∙ sym (bound_of_all fs l c))))
