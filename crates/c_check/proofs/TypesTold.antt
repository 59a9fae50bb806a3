-- The declaration that tells most of an object's type has the type that all of its declarations tell.
use Rattle.std.proofs.Common.{◌≡◌, ℕ, zero, suc, Bool, true, false, not, ◌&&◌, ◌||◌, ◌==◌, List, [], ◌∷◌, ◌∙◌, sym, refl, ap, subst, Option, Some, None, bytes_eq, if◌then◌else◌, arith}
use Rattle.std.proofs.lemmas.Slice.Eq.{bytes_eq-Decides}
use Rattle.c_typing.specs.Plain.{Plain, Char, Int, Unsigned, Void, Pointer, Array, Struct, same}
use Rattle.c_typing.specs.Expressions.{Denoted, Object, Function, Hidden}
use Rattle.c_linkage.specs.Names.{FileName, Defining, agree, agree_as, bounded_one, composite, is_here, is_external, is_same, one_linkage, one_type}
use Rattle.c_linkage.specs.FileNames.{AreConsistent}
use Rattle.c_linkage.specs.Telling.{is_open, more_told, telling, told_with}
use Rattle.c_file.specs.Programs.{is_object}
use Rattle.c_file.specs.Files.{State}
use Rattle.c_linkage.specs.Types.{type_or}
use Rattle.c_file.specs.Made.{type_in, first_type, as_name, object_type}

-- ---- truth

pub and_parts : (a b : Bool) → (a && b) ≡ true → (a ≡ true) × (b ≡ true)
and_parts true b h = (refl, h)
and_parts false b h = absurd (let e : false ≡ true = h in cc)

or_false : (a : Bool) → (a || false) ≡ a
or_false true = refl
or_false false = refl

or_right : (a b : Bool) → b ≡ true → (a || b) ≡ true
or_right true b h = refl
or_right false b h = h

-- where a premise holds
met : (a b : Bool) → (not a || b) ≡ true → a ≡ true → b ≡ true
met true b h t = h
met false b h t = absurd (let e : false ≡ true = t in cc)

not_true : (a : Bool) → not a ≡ true → a ≡ false
not_true true h = absurd (let e : false ≡ true = h in cc)
not_true false h = refl

alike : (a b : Bool) → (if a then b else not b) ≡ true → b ≡ a
alike true b h = h
alike false b h = not_true b h

equal_numbers : (m n : ℕ) → (m == n) ≡ true → m ≡ n
equal_numbers m n h = grind arith

abbrev value_or : {A : Type 0} → A → Option A → A
value_or a None = a
value_or a (Some b) = b

one_value : {A : Type 0} → (a b : A) → Some a ≡ Some b → a ≡ b
one_value a b e = ap (value_or a) e

-- ---- types

same_types : (s t : Plain) → same s t ≡ true → s ≡ t
same_types Char Char h = refl
same_types Int Int h = refl
same_types Unsigned Unsigned h = refl
same_types Void Void h = refl
same_types (Pointer s) (Pointer t) h = ap Pointer (same_types s t h)
same_types (Array s m) (Array t n) h =
    let q = and_parts (same s t) (m == n) h in
    ap (λ x. Array x m) (same_types s t q.0) ∙ ap (Array t) (equal_numbers m n q.1)
same_types (Struct m) (Struct n) h = ap Struct (equal_numbers m n h)
same_types _ _ h = absurd (let e : false ≡ true = h in cc)

counts : (m n : ℕ) → ((suc m == suc n) || (suc m == 0) || (suc n == 0)) ≡ true → suc m ≡ suc n
counts m n h = grind arith

abbrev closed : Plain → Bool
closed (Array t zero) = false
closed t = true

closed_alike : (s t : Plain) → agree s t ≡ true → closed s ≡ true → closed t ≡ true → s ≡ t
closed_alike (Array s zero) t h o p = absurd (let e : false ≡ true = o in cc)
closed_alike (Array s (suc m)) (Array t zero) h o p = absurd (let e : false ≡ true = p in cc)
closed_alike (Array s (suc m)) (Array t (suc n)) h o p =
    let q = and_parts (same s t) ((suc m == suc n) || (suc m == 0) || (suc n == 0)) h in
    ap (λ x. Array x (suc m)) (same_types s t q.0) ∙ ap (Array t) (counts m n q.1)
closed_alike s t h o p = same_types s t h

-- an object that may lack its bound, and one that has it
closed_stays : (s t : Plain) → closed s ≡ true → bounded_one s t ≡ s
closed_stays (Array s zero) t h = absurd (let e : false ≡ true = h in cc)
closed_stays s t h = refl

open_or_closed : (d : Denoted) → is_open d ≡ false → composite d d ≡ d
open_or_closed (Object (Array s zero) r) h = absurd (let e : true ≡ false = h in cc)
open_or_closed d h = refl

stays : (d e : Denoted) → is_open d ≡ false → composite d e ≡ d
stays (Object (Array s zero) r) e h = absurd (let e : true ≡ false = h in cc)
stays (Object s r) (Object t _) h = refl
stays d e h = refl

-- objects and functions whose bounds are told
told_alike : (d e : Denoted) → agree_as d e ≡ true → is_open d ≡ false → is_open e ≡ false → type_or d ≡ type_or e
told_alike (Object (Array s zero) r) e h o p = absurd (let e : true ≡ false = o in cc)
told_alike (Object s r) (Object (Array t zero) _) h o p = absurd (let e : true ≡ false = p in cc)
told_alike (Object s r) (Object t _) h o p = closed_alike s t h refl refl
told_alike (Object s r) e h o p = absurd (let e : false ≡ true = h in cc)
told_alike (Function s ps) (Function t qs) h o p = refl
told_alike d e h o p = absurd (let e : false ≡ true = h in cc)

-- ---- an array whose bound is not told

as_object : (s : Plain) (r : Bool) (e : Denoted) → agree_as (Object s r) e ≡ true → is_object e ≡ true
as_object s r (Object t _) h = refl
as_object s r e h = h

one_more : (a : Plain) (r : Bool) (e f : Denoted) → is_object e ≡ true → is_object f ≡ true
    → composite (composite (Object (Array a 0) r) e) f ≡ composite (Object (Array a 0) r) (if is_open e then f else e)
one_more a r (Object (Array b zero) _) (Object t _) h o = refl
one_more a r (Object s _) (Object t _) h o = refl
one_more a r (Object s _) f h o = absurd (let e : false ≡ true = o in cc)
one_more a r e f h o = absurd (let e : false ≡ true = h in cc)

type_told : (a : Plain) (r : Bool) (e : Denoted) → is_object e ≡ true → type_or (composite (Object (Array a 0) r) e) ≡ type_or e
type_told a r (Object t _) h = refl
type_told a r e h = absurd (let e : false ≡ true = h in cc)

-- ---- declarations that a test takes

abbrev pub Where : (FileName → Bool) → (FileName → Type 0) → List FileName → Type 0
Where c P [] = Unit {0}
Where c P (f ∷ fs) = (c f ≡ true → P f) × Where c P fs

where_mapped : (c : FileName → Bool) (P Q : FileName → Type 0) (fs : List FileName) → ((f : FileName) → P f → Q f) → Where c P fs → Where c Q fs
where_mapped c P Q [] k w = tt
where_mapped c P Q (f ∷ fs) k w = (λ t. k f (w.0 t), where_mapped c P Q fs k w.1)

more_one : (P : FileName → Type 0) (f g : FileName) (o : Option FileName) → P f → ((h : FileName) → o ≡ Some h → P h) → Some (more_told f o) ≡ Some g → P g
more_one P f g None p k e = subst P (one_value f g e) p
more_one P f g (Some h) p k e = elim (is_open h.denoted) as (λ b. Some (if b then f else h) ≡ Some g → P g) [ true ↦ λ e. subst P (one_value f g e) p | false ↦ λ e. subst P (one_value h g e) (k h refl) ] e

told_one : (c : FileName → Bool) (P : FileName → Type 0) (fs : List FileName) (g : FileName) → Where c P fs → telling c fs ≡ Some g → P g
told_one c P [] g w e = absurd (let x : None ≡ Some g = e in cc)
told_one c P (f ∷ fs) g w e =
    elim (c f) as (λ b. (b ≡ true → P f) → (if b then Some (more_told f (telling c fs)) else telling c fs) ≡ Some g → P g) [
      | true ↦ λ p x. more_one P f g (telling c fs) (p refl) (λ h y. told_one c P fs h w.1 y) x
      | false ↦ λ p x. told_one c P fs g w.1 x
    ] w.0 e

-- ---- how a name is linked in its file

here_parts : (u : ℕ) (name : List ℕ) (f : FileName) → is_here u name f ≡ true → (f.unit ≡ u) × (f.name ≡ name)
here_parts u name f h =
    let q = and_parts (f.unit == u) (bytes_eq f.name name) h in
    (equal_numbers f.unit u q.0, (bytes_eq-Decides f.name name).0 q.1)

here_again : (u : ℕ) (name : List ℕ) (f g : FileName) → is_here u name f ≡ true → is_here u name g ≡ true → is_here f.unit f.name g ≡ true
here_again u name f g h k =
    let q = here_parts u name f h in
    subst (λ (v : ℕ). is_here v f.name g ≡ true) (sym q.0) (subst (λ (t : List ℕ). is_here u t g ≡ true) (sym q.1) k)

pub linked_as : (u : ℕ) (name : List ℕ) (f : FileName) (fs : List FileName) → is_here u name f ≡ true → one_linkage f fs ≡ true → Where (is_here u name) (λ h. h.is_static ≡ f.is_static) fs
linked_as u name f [] h k = tt
linked_as u name f (g ∷ gs) h k =
    let q = and_parts (not (is_here f.unit f.name g) || (if f.is_static then g.is_static else not g.is_static)) (one_linkage f gs) k in
    (λ t. alike f.is_static g.is_static (met (is_here f.unit f.name g) (if f.is_static then g.is_static else not g.is_static) q.0 (here_again u name f g h t)), linked_as u name f gs h q.1)

linked : (u : ℕ) (name : List ℕ) (fs : List FileName) (g : FileName) → AreConsistent fs → telling (is_here u name) fs ≡ Some g → Where (is_here u name) (λ f. f.is_static ≡ g.is_static) fs
linked u name [] g c e = tt
linked u name (f ∷ fs) g c e =
    let P : Bool → Type 0 = λ b. is_here u name f ≡ b → (if b then Some (more_told f (telling (is_here u name) fs)) else telling (is_here u name) fs) ≡ Some g
    → Where (is_here u name) (λ h. h.is_static ≡ g.is_static) (f ∷ fs) in
    (elim (is_here u name f) as P [
      | true ↦ λ t x.
          let w = linked_as u name f fs t c.0 in
          let s = more_one (λ h. h.is_static ≡ f.is_static) f g (telling (is_here u name) fs) refl (λ h y. told_one (is_here u name) (λ h. h.is_static ≡ f.is_static) fs h w y) x in
          (λ y. sym s, where_mapped (is_here u name) (λ h. h.is_static ≡ f.is_static) (λ h. h.is_static ≡ g.is_static) fs (λ h y. y ∙ sym s) w)
      | false ↦ λ t x. (λ y. absurd (let z : false ≡ true = sym t ∙ y in cc), linked u name fs g c.2 x)
    ]) refl e

-- ---- declarations that agree

abbrev Agrees : (FileName → Bool) → Denoted → List FileName → Type 0
Agrees c d fs = Where c (λ g. agree_as d g.denoted ≡ true) fs

abbrev AllAgree : (FileName → Bool) → List FileName → Type 0
AllAgree c [] = Unit {0}
AllAgree c (f ∷ fs) = (c f ≡ true → Agrees c f.denoted fs) × AllAgree c fs

agrees_as : (c : FileName → Bool) (f : FileName) (fs : List FileName) → ((g : FileName) → c g ≡ true → is_same f g ≡ true) → one_type f fs ≡ true → Agrees c f.denoted fs
agrees_as c f [] k h = tt
agrees_as c f (g ∷ gs) k h =
    let q = and_parts (not (is_same f g) || agree_as f.denoted g.denoted) (one_type f gs) h in
    (λ t. met (is_same f g) (agree_as f.denoted g.denoted) q.0 (k g t), agrees_as c f gs k q.1)

all_agree : (c : FileName → Bool) (fs : List FileName) → ((f g : FileName) → c f ≡ true → c g ≡ true → is_same f g ≡ true) → AreConsistent fs → AllAgree c fs
all_agree c [] k a = tt
all_agree c (f ∷ fs) k a = (λ t. agrees_as c f fs (λ g u. k f g t u) a.1, all_agree c fs k a.2)

-- ---- what all tell

abbrev folded : Denoted → (FileName → Bool) → List FileName → Denoted
folded d c [] = d
folded d c (f ∷ fs) = if c f then composite (folded d c fs) f.denoted else folded d c fs

abbrev begun : (FileName → Bool) → List FileName → Denoted
begun c [] = Hidden
begun c (f ∷ fs) = if c f then f.denoted else begun c fs

folded_stays : (d : Denoted) (c : FileName → Bool) (fs : List FileName) → is_open d ≡ false → folded d c fs ≡ d
folded_stays d c [] h = refl
folded_stays d c (f ∷ fs) h =
    ap (λ x. if c f then composite x f.denoted else x) (folded_stays d c fs h) ∙
    elim (c f) as (λ b. (if b then composite d f.denoted else d) ≡ d) [ true ↦ stays d f.denoted h | false ↦ refl ]

denoted_more : (f h : FileName) → (more_told f (Some h)).denoted ≡ (if is_open h.denoted then f.denoted else h.denoted)
denoted_more f h = elim (is_open h.denoted) as (λ b. (if b then f else h).denoted ≡ (if b then f.denoted else h.denoted)) [ true ↦ refl | false ↦ refl ]

told_more : (a : Plain) (r : Bool) (f : FileName) (o : Option FileName) → is_object f.denoted ≡ true → ((h : FileName) → o ≡ Some h → is_object h.denoted ≡ true)
    → composite (told_with (Object (Array a 0) r) o) f.denoted ≡ composite (Object (Array a 0) r) (more_told f o).denoted
told_more a r f None p k = refl
told_more a r f (Some h) p k = one_more a r h.denoted f.denoted (k h refl) p ∙ ap (composite (Object (Array a 0) r)) (sym (denoted_more f h))

folded_open : (a : Plain) (r : Bool) (c : FileName → Bool) (fs : List FileName) → Agrees c (Object (Array a 0) r) fs
    → folded (Object (Array a 0) r) c fs ≡ told_with (Object (Array a 0) r) (telling c fs)
folded_open a r c [] w = refl
folded_open a r c (f ∷ fs) w =
    let d : Denoted = Object (Array a 0) r in
    ap (λ x. if c f then composite x f.denoted else x) (folded_open a r c fs w.1) ∙
    elim (c f) as (λ b. (b ≡ true → agree_as (Object (Array a 0) r) f.denoted ≡ true)
    → (if b then composite (told_with (Object (Array a 0) r) (telling c fs)) f.denoted else told_with (Object (Array a 0) r) (telling c fs))
    ≡ told_with (Object (Array a 0) r) (if b then Some (more_told f (telling c fs)) else telling c fs)) [
      | true ↦ λ p. told_more a r f (telling c fs) (as_object (Array a 0) r f.denoted (p refl))
          (λ h y. as_object (Array a 0) r h.denoted (told_one c (λ g. agree_as (Object (Array a 0) r) g.denoted ≡ true) fs h w.1 y))
      | false ↦ λ p. refl
    ] w.0

-- the newest, where all tell its type
newest_closed : (f : FileName) (o : Option FileName) → is_open f.denoted ≡ false → ((h : FileName) → o ≡ Some h → agree_as f.denoted h.denoted ≡ true)
    → type_or f.denoted ≡ type_or (more_told f o).denoted
newest_closed f None p k = refl
newest_closed f (Some h) p k =
    let P : Bool → Type 0 = λ b. is_open h.denoted ≡ b → type_or f.denoted ≡ type_or (if b then f else h).denoted in
    (elim (is_open h.denoted) as P [ true ↦ λ t. refl | false ↦ λ t. told_alike f.denoted h.denoted (k h refl) p t ]) refl

newest_open : (a : Plain) (r : Bool) (f : FileName) (o : Option FileName) → f.denoted ≡ Object (Array a 0) r → ((h : FileName) → o ≡ Some h → agree_as f.denoted h.denoted ≡ true)
    → type_or (composite (told_with (Object (Array a 0) r) o) (Object (Array a 0) r)) ≡ type_or (more_told f o).denoted
newest_open a r f None p k = ap type_or (sym p)
newest_open a r f (Some h) p k =
    let x : is_object h.denoted ≡ true = as_object (Array a 0) r h.denoted (subst (λ (d : Denoted). agree_as d h.denoted ≡ true) p (k h refl)) in
    ap type_or (one_more a r h.denoted (Object (Array a 0) r) x refl) ∙
    (elim (is_open h.denoted) as (λ b. type_or (composite (Object (Array a 0) r) (if b then Object (Array a 0) r else h.denoted)) ≡ type_or (if b then f else h).denoted) [
      | true ↦ ap type_or (sym p)
      | false ↦ type_told a r h.denoted x
    ])

open_is : (d : Denoted) → is_open d ≡ true → (a : Plain) × (r : Bool) × (d ≡ Object (Array a 0) r)
open_is (Object (Array a zero) r) h = (a, r, refl)
open_is d h = absurd (let e : false ≡ true = h in cc)

newest : (c : FileName → Bool) (f : FileName) (fs : List FileName) → Agrees c f.denoted fs
    → type_or (composite (folded f.denoted c fs) f.denoted) ≡ type_or (more_told f (telling c fs)).denoted
newest c f fs w =
    let k : (h : FileName) → telling c fs ≡ Some h → agree_as f.denoted h.denoted ≡ true = λ h y. told_one c (λ g. agree_as f.denoted g.denoted ≡ true) fs h w y in
    let P : Bool → Type 0 = λ b. is_open f.denoted ≡ b → type_or (composite (folded f.denoted c fs) f.denoted) ≡ type_or (more_told f (telling c fs)).denoted in
    (elim (is_open f.denoted) as P [
      | true ↦ λ t.
          let o = open_is f.denoted t in
          ap (λ d. type_or (composite (folded d c fs) d)) o.2 ∙
          (ap (λ x. type_or (composite x (Object (Array o.0 0) o.1))) (folded_open o.0 o.1 c fs (subst (λ (d : Denoted). Agrees c d fs) o.2 w)) ∙
          newest_open o.0 o.1 f (telling c fs) o.2 k)
      | false ↦ λ t. ap (λ x. type_or (composite x f.denoted)) (folded_stays f.denoted c fs t) ∙ (ap type_or (open_or_closed f.denoted t) ∙ newest_closed f (telling c fs) t k)
    ]) refl

told_type : (c : FileName → Bool) (fs : List FileName) (g : FileName) → AllAgree c fs → telling c fs ≡ Some g → type_or (folded (begun c fs) c fs) ≡ type_or g.denoted
told_type c [] g a e = absurd (let x : None ≡ Some g = e in cc)
told_type c (f ∷ fs) g a e =
    elim (c f) as (λ b. (b ≡ true → Agrees c f.denoted fs) → (if b then Some (more_told f (telling c fs)) else telling c fs) ≡ Some g
    → type_or (if b then composite (folded (if b then f.denoted else begun c fs) c fs) f.denoted else folded (if b then f.denoted else begun c fs) c fs) ≡ type_or g.denoted) [
      | true ↦ λ w x. newest c f fs (w refl) ∙ ap (λ h. type_or h.denoted) (one_value (more_told f (telling c fs)) g x)
      | false ↦ λ w x. told_type c fs g a.1 x
    ] a.0 e

-- ---- the declarations of an object

abbrev Alike : (c e : FileName → Bool) → List FileName → Type 0
Alike c e [] = Unit {0}
Alike c e (f ∷ fs) = (c f ≡ e f) × Alike c e fs

alike_folded : (c e : FileName → Bool) (fs : List FileName) → Alike c e fs → (d : Denoted) → folded d c fs ≡ folded d e fs
alike_folded c e [] a d = refl
alike_folded c e (f ∷ fs) a d = λ i. if a.0 i then composite (alike_folded c e fs a.1 d i) f.denoted else alike_folded c e fs a.1 d i

alike_begun : (c e : FileName → Bool) (fs : List FileName) → Alike c e fs → begun c fs ≡ begun e fs
alike_begun c e [] a = refl
alike_begun c e (f ∷ fs) a = λ i. if a.0 i then f.denoted else alike_begun c e fs a.1 i

type_folded : (q : State) (d : Denoted) (f : FileName) (fs : List FileName) → type_in q d f fs ≡ folded d (is_same f) fs
type_folded q d f [] = refl
type_folded q d f (g ∷ gs) = ap (λ x. if is_same f g then composite x g.denoted else x) (type_folded q d f gs)

first_begun : (q : State) (f : FileName) (fs : List FileName) → first_type q f fs ≡ begun (is_same f) fs
first_begun q f [] = refl
first_begun q f (g ∷ gs) = ap (λ x. if is_same f g then g.denoted else x) (first_begun q f gs)

as_told : (q : State) (f : FileName) (c : FileName → Bool) (fs : List FileName) (g : FileName) → Alike (is_same f) c fs → AllAgree c fs → telling c fs ≡ Some g
    → type_or (type_in q (first_type q f fs) f fs) ≡ type_or g.denoted
as_told q f c fs g s a e =
    ap (λ d. type_or (type_in q d f fs)) (first_begun q f fs ∙ alike_begun (is_same f) c fs s) ∙
    (ap type_or (type_folded q (begun c fs) f fs ∙ alike_folded (is_same f) c fs s (begun c fs)) ∙ told_type c fs g a e)

-- a `static` object has its declarations in its file
static_alike : (f : FileName) (fs : List FileName) → f.is_static ≡ true → Alike (is_same f) (is_here f.unit f.name) fs
static_alike f [] h = tt
static_alike f (g ∷ gs) h = (ap (λ b. is_here f.unit f.name g || (not b && is_external f.name g)) h ∙ or_false (is_here f.unit f.name g), static_alike f gs h)

static_same : (u : ℕ) (name : List ℕ) (f g : FileName) → is_here u name f ≡ true → is_here u name g ≡ true → is_same f g ≡ true
static_same u name f g h k = ap (λ b. b || (not f.is_static && is_external f.name g)) (here_again u name f g h k)

-- an external one has the external declarations of its name, of which those in its file are some
external_here : (s n b : Bool) → s ≡ false → (n || (not s && n)) ≡ n
external_here s true b h = refl
external_here s false b h = ap (λ x. not x && false) h

external_one : (u : ℕ) (name : List ℕ) (g : FileName) → (is_here u name g ≡ true → g.is_static ≡ false) → (is_here u name g || (true && is_external name g)) ≡ is_external name g
external_one u name g k =
    let P : Bool → Type 0 = λ b. is_here u name g ≡ b → (b || is_external name g) ≡ is_external name g in
    (elim (is_here u name g) as P [
      | true ↦ λ t. sym (ap (λ b. not b && bytes_eq g.name name) (k t) ∙ (and_parts (g.unit == u) (bytes_eq g.name name) t).1)
      | false ↦ λ t. refl
    ]) refl

external_alike : (f : FileName) (fs : List FileName) → f.is_static ≡ false → Where (is_here f.unit f.name) (λ g. g.is_static ≡ false) fs → Alike (is_same f) (is_external f.name) fs
external_alike f [] h w = tt
external_alike f (g ∷ gs) h w =
    (ap (λ b. is_here f.unit f.name g || (not b && is_external f.name g)) h ∙ external_one f.unit f.name g w.0, external_alike f gs h w.1)

external_again : (name : List ℕ) (f g : FileName) → is_external name f ≡ true → is_external name g ≡ true → (not f.is_static && is_external f.name g) ≡ true
external_again name f g h k =
    let q = and_parts (not f.is_static) (bytes_eq f.name name) h in
    ap (λ b. b && is_external f.name g) q.0 ∙ subst (λ (t : List ℕ). is_external t g ≡ true) (sym ((bytes_eq-Decides f.name name).0 q.1)) k

external_same : (name : List ℕ) (f g : FileName) → is_external name f ≡ true → is_external name g ≡ true → is_same f g ≡ true
external_same name f g h k = or_right (is_here f.unit f.name g) (not f.is_static && is_external f.name g) (external_again name f g h k)

-- ---- what the code finds

pub static_type : (q : State) (d : Defining) (fs : List FileName) (g : FileName) → q.names ≡ fs → AreConsistent fs → d.is_static ≡ true
    → telling (is_here d.unit d.name) fs ≡ Some g → object_type q d ≡ type_or g.denoted
static_type q d fs g n c s e =
    ap (λ l. type_or (type_in q (first_type q (as_name q d) l) (as_name q d) l)) n ∙
    as_told q (as_name q d) (is_here d.unit d.name) fs g (static_alike (as_name q d) fs s) (all_agree (is_here d.unit d.name) fs (static_same d.unit d.name) c) e

pub external_type : (q : State) (d : Defining) (fs : List FileName) (h g : FileName) → q.names ≡ fs → AreConsistent fs → d.is_static ≡ false
    → telling (is_here d.unit d.name) fs ≡ Some h → h.is_static ≡ false → telling (is_external d.name) fs ≡ Some g → object_type q d ≡ type_or g.denoted
external_type q d fs h g n c s e p f =
    let w = where_mapped (is_here d.unit d.name) (λ f. f.is_static ≡ h.is_static) (λ f. f.is_static ≡ false) fs (λ f y. y ∙ p) (linked d.unit d.name fs h c e) in
    ap (λ l. type_or (type_in q (first_type q (as_name q d) l) (as_name q d) l)) n ∙
    as_told q (as_name q d) (is_external d.name) fs g (external_alike (as_name q d) fs s w) (all_agree (is_external d.name) fs (external_same d.name) c) f
