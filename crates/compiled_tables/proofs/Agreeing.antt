-- The declarations of one object have types of as many constructors, and so has its type in the program.
use Rattle.std.proofs.Common.{◌≡◌, refl, sym, ap, ◌∙◌, subst, arith, ℕ, zero, suc, Bool, true, false, not, ◌&&◌, ◌||◌, ◌==◌, true≢false, List, [], ◌∷◌, Some, None, bytes_eq, ⊎_elim, if◌then◌else◌}
use Rattle.std.specs.Prelude.{slice_get}
use Rattle.std.specs.List.{AllByRecursion}
use Rattle.std.proofs.lemmas.Bool.{or_cases}
use Rattle.std.proofs.lemmas.Slice.Eq.{bytes_eq-Decides}
use Rattle.c_typing.specs.Plain.{Plain, Char, Int, Unsigned, Void, Pointer, Array, Struct, same}
use Rattle.c_typing.specs.Expressions.{Denoted, Object, Function, Hidden}
use Rattle.c_linkage.specs.Names.{FileName, Defining, agree, agree_as, bounded_one, composite, is_here, is_external, is_same, one_type}
use Rattle.c_file.specs.Files.{State}
use Rattle.c_linkage.specs.Types.{type_or}
use Rattle.c_file.specs.Made.{type_in, first_type, as_name, object_type}
use Rattle.compiled_tables.specs.Weights.{constructors}

-- ---- tests

pub both_parts : (a b : Bool) → a && b ≡ true → (a ≡ true) × (b ≡ true)
both_parts true b h = (refl, h)
both_parts false b h = absurd (true≢false (sym h))

or_left : (a b : Bool) → a ≡ true → (a || b) ≡ true
or_left true b e = refl
or_left false b e = absurd (true≢false (sym e))

or_right : (a b : Bool) → b ≡ true → (a || b) ≡ true
or_right true b e = refl
or_right false b e = e

-- ---- types that agree

same_constructors : (s t : Plain) → same s t ≡ true → constructors s ≡ constructors t
same_constructors (Pointer s) (Pointer t) h = ap suc (same_constructors s t h)
same_constructors (Array s m) (Array t n) h = ap suc (same_constructors s t (both_parts (same s t) (m == n) h).0)
same_constructors Char Char h = refl
same_constructors Int Int h = refl
same_constructors Unsigned Unsigned h = refl
same_constructors Void Void h = refl
same_constructors (Struct m) (Struct n) h = refl
same_constructors s t h = absurd (true≢false (sym h))

agree_constructors : (s t : Plain) → agree s t ≡ true → constructors s ≡ constructors t
agree_constructors (Array s m) (Array t n) h = ap suc (same_constructors s t (both_parts (same s t) (((m == n) || (m == 0)) || (n == 0)) h).0)
agree_constructors s t h = same_constructors s t h

bounded_constructors : (s t : Plain) (n : ℕ) → constructors s ≡ n → constructors t ≡ n → constructors (bounded_one s t) ≡ n
bounded_constructors (Array s zero) t n h k = k
bounded_constructors (Array s (suc m)) t n h k = h
bounded_constructors Char t n h k = h
bounded_constructors Int t n h k = h
bounded_constructors Unsigned t n h k = h
bounded_constructors Void t n h k = h
bounded_constructors (Pointer s) t n h k = h
bounded_constructors (Struct s) t n h k = h

-- an object whose type has so many constructors
abbrev pub IsOf : ℕ → Denoted → Type 0
IsOf n (Object t r) = constructors t ≡ n
IsOf n d = ⊥

composite_of : (n : ℕ) (d e : Denoted) → IsOf n d → IsOf n e → IsOf n (composite d e)
composite_of n (Object s r) (Object t q) h k = bounded_constructors s t n h k
composite_of n (Object s r) (Function t ps) h k = h
composite_of n (Object s r) Hidden h k = h
composite_of n (Function s ps) e h k = absurd h
composite_of n Hidden e h k = absurd h

agree_before : (n : ℕ) (d e : Denoted) → IsOf n e → agree_as d e ≡ true → IsOf n d
agree_before n (Object s r) (Object t q) h k = agree_constructors s t k ∙ h
agree_before n (Function s ps) (Object t q) h k = absurd (true≢false (sym k))
agree_before n Hidden (Object t q) h k = absurd (true≢false (sym k))
agree_before n d (Function t ps) h k = absurd h
agree_before n d Hidden h k = absurd h

agree_behind : (n : ℕ) (d e : Denoted) → IsOf n d → agree_as d e ≡ true → IsOf n e
agree_behind n (Object s r) (Object t q) h k = sym (agree_constructors s t k) ∙ h
agree_behind n (Object s r) (Function t ps) h k = absurd (true≢false (sym k))
agree_behind n (Object s r) Hidden h k = absurd (true≢false (sym k))
agree_behind n (Function s ps) e h k = absurd h
agree_behind n Hidden e h k = absurd h

-- ---- declarations of one object

is_same_turned : (f g : FileName) → is_same f g ≡ true → is_same g f ≡ true
is_same_turned f g h =
    ⊎_elim (λ x. here x) (λ x. outside x) (or_cases (is_here f.unit f.name g) (not f.is_static && is_external f.name g) h)
  where
    text : (s t : List ℕ) → bytes_eq s t ≡ true → bytes_eq t s ≡ true
    text s t e = (bytes_eq-Decides t s).1 (sym ((bytes_eq-Decides s t).0 e))

    number : (m n : ℕ) → (m == n) ≡ true → (n == m) ≡ true
    number m n e = grind arith

    here : is_here f.unit f.name g ≡ true → is_same g f ≡ true
    here x =
        let q = both_parts (g.unit == f.unit) (bytes_eq g.name f.name) x in
        or_left (is_here g.unit g.name f) (not g.is_static && is_external g.name f) (λ i. number g.unit f.unit q.0 i && text g.name f.name q.1 i)

    outside : (not f.is_static && is_external f.name g) ≡ true → is_same g f ≡ true
    outside x =
        let q = both_parts (not f.is_static) (is_external f.name g) x in
        let r = both_parts (not g.is_static) (bytes_eq g.name f.name) q.1 in
        or_right (is_here g.unit g.name f) (not g.is_static && is_external g.name f) (λ i. r.0 i && (q.0 i && text g.name f.name r.1 i))

-- each declaration agrees with those before it
abbrev pub Agreeing : List FileName → Type 0
Agreeing [] = Unit {0}
Agreeing (f ∷ fs) = (one_type f fs ≡ true) × Agreeing fs

one_agrees : (f : FileName) (gs : List FileName) (n : ℕ) (g : FileName) → one_type f gs ≡ true → slice_get gs n ≡ Some g → is_same f g ≡ true → agree_as f.denoted g.denoted ≡ true
one_agrees f [] n g h e s = absurd (let q : None ≡ Some g = e in cc)
one_agrees f (x ∷ gs) zero g h e s =
    let q : Some x ≡ Some g = e in
    let k : x ≡ g = cc in
    let p = both_parts (not (is_same f x) || agree_as f.denoted x.denoted) (one_type f gs) h in
    sym (ap (λ b. not b || agree_as f.denoted g.denoted) s) ∙ subst (λ y. (not (is_same f y) || agree_as f.denoted y.denoted) ≡ true) k p.0
one_agrees f (x ∷ gs) (suc n) g h e s = one_agrees f gs n g (both_parts (not (is_same f x) || agree_as f.denoted x.denoted) (one_type f gs) h).1 e s

all_of : (fs : List FileName) (m n : ℕ) (f g : FileName) (c : ℕ) → Agreeing fs → slice_get fs n ≡ Some f → IsOf c f.denoted → slice_get fs m ≡ Some g → is_same f g ≡ true → IsOf c g.denoted
all_of [] m n f g c a d o e s = absurd (let q : None ≡ Some f = d in cc)
all_of (x ∷ fs) zero zero f g c a d o e s =
    let p : Some x ≡ Some f = d in
    let q : Some x ≡ Some g = e in
    let k : f ≡ g = cc in
    subst (λ y. IsOf c y.denoted) k o
all_of (x ∷ fs) (suc m) zero f g c a d o e s =
    let p : Some x ≡ Some f = d in
    let k : x ≡ f = cc in
    agree_behind c f.denoted g.denoted o (one_agrees f fs m g (subst (λ y. one_type y fs ≡ true) k a.0) e s)
all_of (x ∷ fs) zero (suc n) f g c a d o e s =
    let q : Some x ≡ Some g = e in
    let k : x ≡ g = cc in
    agree_before c g.denoted f.denoted o (one_agrees g fs n f (subst (λ y. one_type y fs ≡ true) k a.0) d (is_same_turned f g s))
all_of (x ∷ fs) (suc m) (suc n) f g c a d o e s = all_of fs m n f g c a.1 d o e s

-- ---- the type of an object

module _ (q : State) (f : FileName) (c : ℕ) where
  abbrev Of : List FileName → Type 0
  Of gs = AllByRecursion (λ g. is_same f g ≡ true → IsOf c g.denoted) gs

  still_of : (d : Denoted) (gs : List FileName) → IsOf c d → Of gs → IsOf c (type_in q d f gs)
  still_of d [] h a = h
  still_of d (g ∷ gs) h a = by (is_same f g) refl (still_of d gs h a.1)
    where
      by : (b : Bool) → is_same f g ≡ b → IsOf c (type_in q d f gs) → IsOf c (if b then composite (type_in q d f gs) g.denoted else type_in q d f gs)
      by true e k = composite_of c (type_in q d f gs) g.denoted k (a.0 e)
      by false e k = k

  first_of : (gs : List FileName) (n : ℕ) (h : FileName) → Of gs → slice_get gs n ≡ Some h → is_same f h ≡ true → IsOf c (first_type q f gs)
  first_of [] n h a e s = absurd (let p : None ≡ Some h = e in cc)
  first_of (g ∷ gs) zero h a e s =
      let p : Some g ≡ Some h = e in
      let same : g ≡ h = cc in
      let is : is_same f g ≡ true = ap (is_same f) same ∙ s in
      subst (λ b. IsOf c (if b then g.denoted else first_type q f gs)) (sym is) (a.0 is)
  first_of (g ∷ gs) (suc n) h a e s = by (is_same f g) refl (first_of gs n h a.1 e s)
    where
      by : (b : Bool) → is_same f g ≡ b → IsOf c (first_type q f gs) → IsOf c (if b then g.denoted else first_type q f gs)
      by true e k = a.0 e
      by false e k = k

indexed : (P : FileName → Type 0) (fs : List FileName) → ((m : ℕ) (g : FileName) → slice_get fs m ≡ Some g → P g) → AllByRecursion P fs
indexed P [] w = tt
indexed P (g ∷ fs) w = (w 0 g refl, indexed P fs (λ m h e. w (suc m) h e))

of_type : (d : Denoted) (c : ℕ) → IsOf c d → constructors (type_or d) ≡ c
of_type (Object s r) c h = h
of_type (Function s ps) c h = absurd h
of_type Hidden c h = absurd h

-- a definition is declared as an object whose type has so many constructors
pub record IsDeclaredAs (fs : List FileName) (d : Defining) (c : ℕ) : Type 0 where
  pub declaration : FileName
  pub number : ℕ
  pub there : slice_get fs number ≡ Some declaration
  pub name : declaration.name ≡ d.name
  pub unit : declaration.unit ≡ d.unit
  pub linkage : declaration.is_static ≡ d.is_static
  pub is : IsOf c declaration.denoted

pub declared_on : (f : FileName) (fs : List FileName) (d : Defining) (c : ℕ) → IsDeclaredAs fs d c → IsDeclaredAs (f ∷ fs) d c
declared_on f fs d c h = record { declaration = h.declaration; number = suc h.number; there = h.there; name = h.name; unit = h.unit; linkage = h.linkage; is = h.is }

pub object_constructors : (q : State) (d : Defining) (c : ℕ) → Agreeing q.names → IsDeclaredAs q.names d c → constructors (object_type q d) ≡ c
object_constructors q d c a h =
    let f : FileName = h.declaration in
    let same : (g : FileName) → is_same f g ≡ is_same (as_name q d) g = λ g. λ i. is_here (h.unit i) (h.name i) g || (not (h.linkage i) && is_external (h.name i) g) in
    let all = indexed (λ g. is_same (as_name q d) g ≡ true → IsOf c g.denoted) q.names (λ m g e s. all_of q.names m h.number f g c a h.there h.is e (same g ∙ s)) in
    let first = first_of q (as_name q d) c q.names h.number f all h.there (sym (same f) ∙ self f) in
    of_type (type_in q (first_type q (as_name q d) q.names) (as_name q d) q.names) c (still_of q (as_name q d) c (first_type q (as_name q d) q.names) q.names first all)
  where
    number : (m : ℕ) → (m == m) ≡ true
    number m = grind arith

    text : (s : List ℕ) → bytes_eq s s ≡ true
    text s = (bytes_eq-Decides s s).1 refl

    self : (f : FileName) → is_same f f ≡ true
    self f = ap (λ x. x || (not f.is_static && is_external f.name f)) (let h : is_here f.unit f.name f ≡ true = (λ i. number f.unit i && text f.name i) in h)
