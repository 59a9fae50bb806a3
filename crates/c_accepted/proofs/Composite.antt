-- The type of an object is that of its definition.
use Rattle.std.proofs.Common.{◌≡◌, refl, sym, ap, ◌∙◌, subst, arith, ℕ, zero, suc, Bool, true, false, not, ◌&&◌, ◌||◌, ◌==◌, true≢false, List, [], ◌∷◌, Some, None, bytes_eq, ⊎_elim, if◌then◌else◌}
use Rattle.std.specs.Prelude.{slice_get}
use Rattle.std.specs.List.{AllByRecursion}
use Rattle.std.proofs.lemmas.Bool.{or_cases, eqb-true}
use Rattle.std.proofs.lemmas.Slice.Eq.{bytes_eq-Decides}
use Rattle.c_typing.specs.Plain.{Plain, Char, Int, Unsigned, Void, Pointer, Array, Struct, same}
use Rattle.c_typing.specs.Expressions.{Denoted, Object, Function, Hidden}
use Rattle.c_linkage.specs.Names.{FileName, Defining, agree, agree_as, bounded_one, composite, is_here, is_external, is_same, one_type}
use Rattle.c_linkage.specs.FileNames.{AreConsistent}
use Rattle.c_linkage.specs.Telling.{is_unbounded}
use Rattle.c_file.specs.Files.{State}
use Rattle.c_linkage.specs.Types.{type_or}
use Rattle.c_file.specs.Made.{type_in, first_type, as_name, object_type}
use Rattle.c_linkage.proofs.Telling.{same_plain}
use Rattle.c_accepted.proofs.Growth.{both_parts}

-- a type that another completes: the same, or an array without the bound
abbrev pub IsTold : Plain → Plain → Type 0
IsTold (Array s zero) (Array t n) = s ≡ t
IsTold s t = s ≡ t

pub told_itself : (t : Plain) → IsTold t t
told_itself (Array t zero) = refl
told_itself (Array t (suc n)) = refl
told_itself Char = refl
told_itself Int = refl
told_itself Unsigned = refl
told_itself Void = refl
told_itself (Pointer t) = refl
told_itself (Struct s) = refl

bounded_told : (u v t : Plain) → IsTold u t → IsTold v t → IsTold (bounded_one u v) t
bounded_told (Array u zero) v t h k = k
bounded_told (Array u (suc n)) v t h k = h
bounded_told Char v t h k = h
bounded_told Int v t h k = h
bounded_told Unsigned v t h k = h
bounded_told Void v t h k = h
bounded_told (Pointer u) v t h k = h
bounded_told (Struct s) v t h k = h

bounded_first : (u v t : Plain) → u ≡ t → is_unbounded t ≡ false → bounded_one u v ≡ t
bounded_first (Array u zero) v t h k = absurd (true≢false (ap is_unbounded h ∙ k))
bounded_first (Array u (suc n)) v t h k = h
bounded_first Char v t h k = h
bounded_first Int v t h k = h
bounded_first Unsigned v t h k = h
bounded_first Void v t h k = h
bounded_first (Pointer u) v t h k = h
bounded_first (Struct s) v t h k = h

bounded_second : (u v t : Plain) → IsTold u t → v ≡ t → bounded_one u v ≡ t
bounded_second (Array u zero) v t h k = k
bounded_second (Array u (suc n)) v t h k = h
bounded_second Char v t h k = h
bounded_second Int v t h k = h
bounded_second Unsigned v t h k = h
bounded_second Void v t h k = h
bounded_second (Pointer u) v t h k = h
bounded_second (Struct s) v t h k = h

zero_only : (n : ℕ) → (suc n == 0) ≡ true → ⊥
zero_only n h = let e = eqb-true (suc n) 0 h in omega arith

-- of two that agree, one of which has a bound
told_after : (s t : Plain) (m n : ℕ) → same s t ≡ true → ((m == suc n) || (m == 0)) ≡ true → IsTold (Array s m) (Array t (suc n))
told_after s t zero n h k = same_plain s t h
told_after s t (suc m) n h k = ⊎_elim (λ e. (λ i. Array (same_plain s t h i) (eqb-true (suc m) (suc n) e i))) (λ e. absurd (zero_only m e)) (or_cases (suc m == suc n) (suc m == 0) k)

drop_last : (a b c : Bool) → c ≡ false → ((a || b) || c) ≡ true → (a || b) ≡ true
drop_last true b c e h = refl
drop_last false true c e h = refl
drop_last false false c e h = absurd (true≢false (sym h ∙ e))

pub not_zero : (n : ℕ) → (suc n == 0) ≡ false
not_zero n = grind arith

pub agrees_told : (s t : Plain) → is_unbounded t ≡ false → agree s t ≡ true → IsTold s t
agrees_told (Array s m) (Array t zero) u h = absurd (true≢false u)
agrees_told (Array s m) (Array t (suc n)) u h =
    let q = both_parts (same s t) (((m == suc n) || (m == 0)) || (suc n == 0)) h in
    told_after s t m n q.0 (drop_last (m == suc n) (m == 0) (suc n == 0) (not_zero n) q.1)
agrees_told Char t u h = same_plain Char t h
agrees_told Int t u h = same_plain Int t h
agrees_told Unsigned t u h = same_plain Unsigned t h
agrees_told Void t u h = same_plain Void t h
agrees_told (Pointer s) t u h = same_plain (Pointer s) t h
agrees_told (Struct s) t u h = same_plain (Struct s) t h
agrees_told (Array s m) Char u h = absurd (true≢false (sym h))
agrees_told (Array s m) Int u h = absurd (true≢false (sym h))
agrees_told (Array s m) Unsigned u h = absurd (true≢false (sym h))
agrees_told (Array s m) Void u h = absurd (true≢false (sym h))
agrees_told (Array s m) (Pointer t) u h = absurd (true≢false (sym h))
agrees_told (Array s m) (Struct t) u h = absurd (true≢false (sym h))

pub same_self : (t : Plain) → same t t ≡ true
same_self Char = refl
same_self Int = refl
same_self Unsigned = refl
same_self Void = refl
same_self (Pointer t) = same_self t
same_self (Array t n) = (λ i. same_self t i && same_number n i)
  where
    same_number : (n : ℕ) → (n == n) ≡ true
    same_number n = grind arith
same_self (Struct n) = same_number n
  where
    same_number : (n : ℕ) → (n == n) ≡ true
    same_number n = grind arith

turned_bounds : (a : Bool) (m n : ℕ) → (a && (((suc n == m) || (suc n == 0)) || (m == 0))) ≡ true → (a ≡ true) × (((m == suc n) || (m == 0)) ≡ true)
turned_bounds a m n h =
    let q = both_parts a (((suc n == m) || (suc n == 0)) || (m == 0)) h in
    (q.0, by (m == suc n) (m == 0) refl refl q.1)
  where
    by : (b c : Bool) → (m == suc n) ≡ b → (m == 0) ≡ c → (((suc n == m) || (suc n == 0)) || (m == 0)) ≡ true → (b || c) ≡ true
    by true c e f k = refl
    by false true e f k = refl
    by false false e f k = absurd (⊎_elim
        (λ x. ⊎_elim (λ y. true≢false (sym (let z = eqb-true (suc n) m y in (let w : (m == suc n) ≡ true = ap (λ j. j == suc n) (sym z) ∙ itself (suc n) in w)) ∙ e)) (λ y. zero_only n y) (or_cases (suc n == m) (suc n == 0) x))
        (λ x. true≢false (sym x ∙ f)) (or_cases ((suc n == m) || (suc n == 0)) (m == 0) k))
      where
        itself : (j : ℕ) → (j == j) ≡ true
        itself j = grind arith

pub told_agrees : (t s : Plain) → is_unbounded t ≡ false → agree t s ≡ true → IsTold s t
told_agrees (Array t zero) s u h = absurd (true≢false u)
told_agrees (Array t (suc n)) (Array s m) u h =
    let q = turned_bounds (same t s) m n h in
    let e : s ≡ t = sym (same_plain t s q.0) in
    told_after s t m n (ap (λ x. same x t) e ∙ same_self t) q.1
told_agrees (Array t (suc n)) Char u h = absurd (true≢false (sym h))
told_agrees (Array t (suc n)) Int u h = absurd (true≢false (sym h))
told_agrees (Array t (suc n)) Unsigned u h = absurd (true≢false (sym h))
told_agrees (Array t (suc n)) Void u h = absurd (true≢false (sym h))
told_agrees (Array t (suc n)) (Pointer s) u h = absurd (true≢false (sym h))
told_agrees (Array t (suc n)) (Struct s) u h = absurd (true≢false (sym h))
told_agrees Char s u h = let e : Char ≡ s = same_plain Char s h in subst (λ x. IsTold x Char) e refl
told_agrees Int s u h = let e : Int ≡ s = same_plain Int s h in subst (λ x. IsTold x Int) e refl
told_agrees Unsigned s u h = let e : Unsigned ≡ s = same_plain Unsigned s h in subst (λ x. IsTold x Unsigned) e refl
told_agrees Void s u h = let e : Void ≡ s = same_plain Void s h in subst (λ x. IsTold x Void) e refl
told_agrees (Pointer t) s u h = let e : Pointer t ≡ s = same_plain (Pointer t) s h in subst (λ x. IsTold x (Pointer t)) e refl
told_agrees (Struct t) s u h = let e : Struct t ≡ s = same_plain (Struct t) s h in subst (λ x. IsTold x (Struct t)) e refl

-- ---- what a name denotes, where its object has a type

abbrev pub IsToldOf : Denoted → Plain → Type 0
IsToldOf (Object s r) t = IsTold s t
IsToldOf _ t = ⊥

abbrev pub IsOf : Denoted → Plain → Type 0
IsOf (Object s r) t = s ≡ t
IsOf _ t = ⊥

pub composite_told : (d e : Denoted) (t : Plain) → IsToldOf d t → IsToldOf e t → IsToldOf (composite d e) t
composite_told (Object s r) (Object u q) t h k = bounded_told s u t h k
composite_told (Object s r) (Function u ps) t h k = absurd k
composite_told (Object s r) Hidden t h k = absurd k
composite_told (Function s ps) e t h k = absurd h
composite_told Hidden e t h k = absurd h

composite_first : (d e : Denoted) (t : Plain) → is_unbounded t ≡ false → IsOf d t → IsToldOf e t → IsOf (composite d e) t
composite_first (Object s r) (Object u q) t b h k = bounded_first s u t h b
composite_first (Object s r) (Function u ps) t b h k = absurd k
composite_first (Object s r) Hidden t b h k = absurd k
composite_first (Function s ps) e t b h k = absurd h
composite_first Hidden e t b h k = absurd h

composite_second : (d e : Denoted) (t : Plain) → IsToldOf d t → IsOf e t → IsOf (composite d e) t
composite_second (Object s r) (Object u q) t h k = bounded_second s u t h k
composite_second (Object s r) (Function u ps) t h k = absurd k
composite_second (Object s r) Hidden t h k = absurd k
composite_second (Function s ps) e t h k = absurd h
composite_second Hidden e t h k = absurd h

agree_before : (d e : Denoted) (t : Plain) → is_unbounded t ≡ false → IsOf e t → agree_as d e ≡ true → IsToldOf d t
agree_before (Object s r) (Object u q) t b h k = agrees_told s t b (ap (agree s) (sym h) ∙ k)
agree_before (Object s r) (Function u ps) t b h k = absurd h
agree_before (Object s r) Hidden t b h k = absurd h
agree_before (Function s ps) (Object u q) t b h k = absurd (true≢false (sym k))
agree_before (Function s ps) (Function u qs) t b h k = absurd h
agree_before (Function s ps) Hidden t b h k = absurd h
agree_before Hidden e t b h k = absurd (true≢false (sym k))

agree_behind : (d e : Denoted) (t : Plain) → is_unbounded t ≡ false → IsOf d t → agree_as d e ≡ true → IsToldOf e t
agree_behind (Object s r) (Object u q) t b h k = told_agrees t u b (ap (λ x. agree x u) (sym h) ∙ k)
agree_behind (Object s r) (Function u ps) t b h k = absurd (true≢false (sym k))
agree_behind (Object s r) Hidden t b h k = absurd (true≢false (sym k))
agree_behind (Function s ps) e t b h k = absurd h
agree_behind Hidden e t b h k = absurd h

of_is_told : (d : Denoted) (t : Plain) → IsOf d t → IsToldOf d t
of_is_told (Object s r) t h = subst (λ x. IsTold x t) (sym h) (told_itself t)
of_is_told (Function s ps) t h = absurd h
of_is_told Hidden t h = absurd h

-- ---- declarations of one object

pub is_same_turned : (f g : FileName) → is_same f g ≡ true → is_same g f ≡ true
is_same_turned f g h =
    ⊎_elim (λ x. here x) (λ x. outside x) (or_cases (is_here f.unit f.name g) (not f.is_static && is_external f.name g) h)
  where
    or_left : (a b : Bool) → a ≡ true → (a || b) ≡ true
    or_left true b e = refl
    or_left false b e = absurd (true≢false (sym e))

    or_right : (a b : Bool) → b ≡ true → (a || b) ≡ true
    or_right true b e = refl
    or_right false b e = e

    text : (s t : List ℕ) → bytes_eq s t ≡ true → bytes_eq t s ≡ true
    text s t e = (bytes_eq-Decides t s).1 (sym ((bytes_eq-Decides s t).0 e))

    number : (m n : ℕ) → (m == n) ≡ true → (n == m) ≡ true
    number m n e = grind arith

    here : is_here f.unit f.name g ≡ true → is_same g f ≡ true
    here x =
        let q = both_parts (g.unit == f.unit) (bytes_eq g.name f.name) x in
        or_left (is_here g.unit g.name f) (not g.is_static && is_external g.name f) (λ i. number g.unit f.unit q.0 i && text g.name f.name q.1 i)

    outside : (not f.is_static && is_external f.name g) ≡ true → is_same g f ≡ true
    outside x =
        let q = both_parts (not f.is_static) (is_external f.name g) x in
        let r = both_parts (not g.is_static) (bytes_eq g.name f.name) q.1 in
        or_right (is_here g.unit g.name f) (not g.is_static && is_external g.name f) (λ i. r.0 i && (q.0 i && text g.name f.name r.1 i))

pub one_agrees : (f : FileName) (gs : List FileName) (n : ℕ) (g : FileName) → one_type f gs ≡ true → slice_get gs n ≡ Some g → is_same f g ≡ true → agree_as f.denoted g.denoted ≡ true
one_agrees f [] n g h e s = absurd (let q : None ≡ Some g = e in cc)
one_agrees f (x ∷ gs) zero g h e s =
    let q : Some x ≡ Some g = e in
    let k : x ≡ g = cc in
    let p = both_parts (not (is_same f x) || agree_as f.denoted x.denoted) (one_type f gs) h in
    sym (ap (λ b. not b || agree_as f.denoted g.denoted) s) ∙ subst (λ y. (not (is_same f y) || agree_as f.denoted y.denoted) ≡ true) k p.0
one_agrees f (x ∷ gs) (suc n) g h e s = one_agrees f gs n g (both_parts (not (is_same f x) || agree_as f.denoted x.denoted) (one_type f gs) h).1 e s

-- each declaration of an object tells of its type
pub all_told : (fs : List FileName) (m n : ℕ) (f g : FileName) (t : Plain) → is_unbounded t ≡ false → AreConsistent fs → slice_get fs n ≡ Some f → IsOf f.denoted t → slice_get fs m ≡ Some g → is_same f g ≡ true → IsToldOf g.denoted t
all_told [] m n f g t b c d o e s = absurd (let q : None ≡ Some f = d in cc)
all_told (x ∷ fs) zero zero f g t b c d o e s =
    let p : Some x ≡ Some f = d in
    let q : Some x ≡ Some g = e in
    let k : f ≡ g = cc in
    subst (λ y. IsToldOf y.denoted t) k (of_is_told f.denoted t o)
all_told (x ∷ fs) (suc m) zero f g t b c d o e s =
    let p : Some x ≡ Some f = d in
    let k : x ≡ f = cc in
    agree_behind f.denoted g.denoted t b o (one_agrees f fs m g (subst (λ y. one_type y fs ≡ true) k c.1) e s)
all_told (x ∷ fs) zero (suc n) f g t b c d o e s =
    let q : Some x ≡ Some g = e in
    let k : x ≡ g = cc in
    agree_before g.denoted f.denoted t b o (one_agrees g fs n f (subst (λ y. one_type y fs ≡ true) k c.1) d (is_same_turned f g s))
all_told (x ∷ fs) (suc m) (suc n) f g t b c d o e s = all_told fs m n f g t b c.2 d o e s

-- ---- the type of an object

module _ (q : State) (f : FileName) (t : Plain) (bound : is_unbounded t ≡ false) where
  still_told : (d : Denoted) (gs : List FileName) → IsToldOf d t → AllByRecursion (λ g. is_same f g ≡ true → IsToldOf g.denoted t) gs → IsToldOf (type_in q d f gs) t
  still_told d [] h a = h
  still_told d (g ∷ gs) h a = by (is_same f g) refl (still_told d gs h a.1)
    where
      by : (b : Bool) → is_same f g ≡ b → IsToldOf (type_in q d f gs) t → IsToldOf (if b then composite (type_in q d f gs) g.denoted else type_in q d f gs) t
      by true e k = composite_told (type_in q d f gs) g.denoted t k (a.0 e)
      by false e k = k

  then_whole : (d : Denoted) (gs : List FileName) (n : ℕ) (h : FileName) → IsToldOf d t → AllByRecursion (λ g. is_same f g ≡ true → IsToldOf g.denoted t) gs → slice_get gs n ≡ Some h → is_same f h ≡ true → IsOf h.denoted t → IsOf (type_in q d f gs) t
  then_whole d [] n h k a e s o = absurd (let p : None ≡ Some h = e in cc)
  then_whole d (g ∷ gs) zero h k a e s o =
      let p : Some g ≡ Some h = e in
      let same : g ≡ h = cc in
      let whole : IsOf (composite (type_in q d f gs) g.denoted) t = composite_second (type_in q d f gs) g.denoted t (still_told d gs k a.1) (subst (λ y. IsOf y.denoted t) (sym same) o) in
      subst (λ b. IsOf (if b then composite (type_in q d f gs) g.denoted else type_in q d f gs) t) (sym (ap (is_same f) same ∙ s)) whole
  then_whole d (g ∷ gs) (suc n) h k a e s o = by (is_same f g) refl (then_whole d gs n h k a.1 e s o)
    where
      by : (b : Bool) → is_same f g ≡ b → IsOf (type_in q d f gs) t → IsOf (if b then composite (type_in q d f gs) g.denoted else type_in q d f gs) t
      by true e k = composite_first (type_in q d f gs) g.denoted t bound k (a.0 e)
      by false e k = k

  first_told : (gs : List FileName) (n : ℕ) (h : FileName) → AllByRecursion (λ g. is_same f g ≡ true → IsToldOf g.denoted t) gs → slice_get gs n ≡ Some h → is_same f h ≡ true → IsToldOf (first_type q f gs) t
  first_told [] n h a e s = absurd (let p : None ≡ Some h = e in cc)
  first_told (g ∷ gs) zero h a e s =
      let p : Some g ≡ Some h = e in
      let same : g ≡ h = cc in
      let is : is_same f g ≡ true = ap (is_same f) same ∙ s in
      subst (λ b. IsToldOf (if b then g.denoted else first_type q f gs) t) (sym is) (a.0 is)
  first_told (g ∷ gs) (suc n) h a e s = by (is_same f g) refl (first_told gs n h a.1 e s)
    where
      by : (b : Bool) → is_same f g ≡ b → IsToldOf (first_type q f gs) t → IsToldOf (if b then g.denoted else first_type q f gs) t
      by true e k = a.0 e
      by false e k = k

indexed : (P : FileName → Type 0) (fs : List FileName) → ((m : ℕ) (g : FileName) → slice_get fs m ≡ Some g → P g) → AllByRecursion P fs
indexed P [] w = tt
indexed P (g ∷ fs) w = (w 0 g refl, indexed P fs (λ m h e. w (suc m) h e))

of_type : (d : Denoted) (t : Plain) → IsOf d t → type_or d ≡ t
of_type (Object s r) t h = h
of_type (Function s ps) t h = absurd h
of_type Hidden t h = absurd h

-- where a definition is declared with a type that has its bound, all declarations together tell that type
pub object_type_is : (q : State) (d : Defining) (n : ℕ) (f : FileName) (t : Plain) → AreConsistent q.names → is_unbounded t ≡ false → slice_get q.names n ≡ Some f → f.name ≡ d.name → f.unit ≡ d.unit → f.is_static ≡ d.is_static → IsOf f.denoted t
    → object_type q d ≡ t
object_type_is q d n f t c b e name unit linkage o =
    let same : (g : FileName) → is_same f g ≡ is_same (as_name q d) g = λ g. λ i. is_here (unit i) (name i) g || (not (linkage i) && is_external (name i) g) in
    let tells = indexed (λ g. is_same (as_name q d) g ≡ true → IsToldOf g.denoted t) q.names (λ m g h s. all_told q.names m n f g t b c e o h (same g ∙ s)) in
    let itself : is_same (as_name q d) f ≡ true = sym (same f) ∙ self in
    let first = first_told q (as_name q d) t b q.names n f tells e itself in
    of_type (type_in q (first_type q (as_name q d) q.names) (as_name q d) q.names) t
    (then_whole q (as_name q d) t b (first_type q (as_name q d) q.names) q.names n f first tells e itself o)
  where
    number : (m : ℕ) → (m == m) ≡ true
    number m = grind arith

    text : (s : List ℕ) → bytes_eq s s ≡ true
    text s = (bytes_eq-Decides s s).1 refl

    self : is_same f f ≡ true
    self = ap (λ x. x || (not f.is_static && is_external f.name f)) (let h : is_here f.unit f.name f ≡ true = (λ i. number f.unit i && text f.name i) in h)
