-- Of declarations that agree, the one that tells most tells what all of them do.
use Rattle.std.proofs.Common.{◌≡◌, ℕ, zero, suc, Bool, true, false, not, ◌&&◌, ◌||◌, ◌==◌, List, [], ◌∷◌, ◌∙◌, sym, refl, ap, subst, Option, Some, None, bytes_eq, if◌then◌else◌, ⊎_elim, arith}
use Rattle.std.proofs.lemmas.Bool.{and_parts, or_cases, eqb-true, not-true}
use Rattle.std.proofs.lemmas.Slice.Eq.{bytes_eq-Decides}
use Rattle.c_typing.specs.Plain.{Plain, Char, Int, Unsigned, Void, Pointer, Array, Struct, same}
use Rattle.c_typing.specs.Expressions.{Denoted, Object, Function, Hidden}
use Rattle.c_linkage.specs.Names.{FileName, same_all, agree, agree_as, bounded_one, composite, is_here, is_external, one_linkage, one_type, told_before}
use Rattle.c_judge.specs.Answers.{Broken}
use Rattle.c_scope.specs.Findings.{Finding, nothing, ◌beside◌, holds}
use Rattle.c_linkage.specs.FileNames.{AreConsistent}
use Rattle.c_linkage.specs.Telling.{is_unbounded, is_open, more_told, telling, linked_with, agrees_with, told_with}

-- ---- types

pub same_plain : (s t : Plain) → same s t ≡ true → s ≡ t
same_plain Char Char h = refl
same_plain Int Int h = refl
same_plain Unsigned Unsigned h = refl
same_plain Void Void h = refl
same_plain (Pointer s) (Pointer t) h = ap Pointer (same_plain s t h)
same_plain (Array s m) (Array t n) h =
    let p = and_parts (same s t) (m == n) h in
    ap (λ u. Array u m) (same_plain s t p.0) ∙ ap (λ k. Array t k) (eqb-true m n p.1)
same_plain (Struct m) (Struct n) h = ap Struct (eqb-true m n h)
same_plain s t h = absurd (let e : false ≡ true = h in cc)

same_lists : (ss ts : List Plain) → same_all ss ts ≡ true → ss ≡ ts
same_lists [] [] h = refl
same_lists (s ∷ ss) (t ∷ ts) h =
    let p = and_parts (same s t) (same_all ss ts) h in
    ap (λ u. u ∷ ss) (same_plain s t p.0) ∙ ap (λ us. t ∷ us) (same_lists ss ts p.1)
same_lists [] (t ∷ ts) h = absurd (let e : false ≡ true = h in cc)
same_lists (s ∷ ss) [] h = absurd (let e : false ≡ true = h in cc)

-- ---- tests

and_true : (a : Bool) → a ≡ (a && true)
and_true true = refl
and_true false = refl

and_itself : (a : Bool) → a ≡ (a && a)
and_itself true = refl
and_itself false = refl

or_true : (a : Bool) → (a || true) ≡ true
or_true true = refl
or_true false = refl

-- ---- a type that agrees with the one that tells more

-- a bound agrees with an empty one
bound_open : (a : Bool) (k m : ℕ) → (a && (((k == m) || (k == 0)) || (m == 0))) ≡ ((a && (((k == m) || (k == 0)) || (m == 0))) && (a && (((k == 0) || (k == 0)) || (0 == 0))))
bound_open false k m = refl
bound_open true k m = and_true (((k == m) || (k == 0)) || (m == 0)) ∙ ap (λ b. (((k == m) || (k == 0)) || (m == 0)) && b) (sym (or_true ((k == 0) || (k == 0))))

turned : (a b : Bool) → (a && b) ≡ (b && a)
turned true true = refl
turned true false = refl
turned false true = refl
turned false false = refl

open_after : (d s : Plain) (m : ℕ) → agree d (Array s m) ≡ (agree d (Array s m) && agree d (Array s 0))
open_after (Array u k) s m = bound_open (same u s) k m
open_after Char s m = refl
open_after Int s m = refl
open_after Unsigned s m = refl
open_after Void s m = refl
open_after (Pointer t) s m = refl
open_after (Struct n) s m = refl

open_before : (d s : Plain) (m : ℕ) → agree d (Array s m) ≡ (agree d (Array s 0) && agree d (Array s m))
open_before d s m = open_after d s m ∙ turned (agree d (Array s m)) (agree d (Array s 0))

equal_types : (d g h : Plain) → g ≡ h → agree d (if is_unbounded h then g else h) ≡ (agree d g && agree d h)
equal_types d g h e =
    let P : Plain → Type 0 = λ x. agree d (if is_unbounded h then x else h) ≡ (agree d x && agree d h) in
    let Q : Bool → Type 0 = λ b. agree d (if b then h else h) ≡ (agree d h && agree d h) in
    subst P (sym e) (elim (is_unbounded h) as Q [ true ↦ and_itself (agree d h) | false ↦ and_itself (agree d h) ])

no_bound : (n : ℕ) → (suc n == 0) ≡ true → ⊥
no_bound n h = let e = eqb-true (suc n) 0 h in omega arith

shared_types : (d g h : Plain) → agree g h ≡ true → agree d (if is_unbounded h then g else h) ≡ (agree d g && agree d h)
shared_types d (Array s m) (Array t zero) e =
    let P : Plain → Type 0 = λ x. agree d (Array s m) ≡ (agree d (Array s m) && agree d (Array x 0)) in
    subst P (same_plain s t (and_parts (same s t) (((m == 0) || (m == 0)) || (0 == 0)) e).0) (open_after d s m)
shared_types d (Array s m) (Array t (suc n)) e =
    let p = and_parts (same s t) (((m == suc n) || (m == 0)) || (suc n == 0)) e in
    let P : Plain → Type 0 = λ x. agree d (Array t (suc n)) ≡ (agree d (Array x m) && agree d (Array t (suc n))) in
    let Q : ℕ → Type 0 = λ k. agree d (Array t (suc n)) ≡ (agree d (Array t k) && agree d (Array t (suc n))) in
    subst P (sym (same_plain s t p.0))
    (⊎_elim
    (λ q. ⊎_elim (λ r. subst Q (sym (eqb-true m (suc n) r)) (and_itself (agree d (Array t (suc n))))) (λ r. subst Q (sym (eqb-true m 0 r)) (open_before d t (suc n))) (or_cases (m == suc n) (m == 0) q))
    (λ q. absurd (no_bound n q))
    (or_cases ((m == suc n) || (m == 0)) (suc n == 0) p.1))
shared_types d g h e = equal_types d g h (same_plain g h e)

equal_denoted : (d g h : Denoted) → g ≡ h → agree_as d h ≡ (agree_as d g && agree_as d h)
equal_denoted d g h e = let P : Denoted → Type 0 = λ x. agree_as d h ≡ (agree_as d x && agree_as d h) in subst P (sym e) (and_itself (agree_as d h))

objects_if : (b : Bool) (d g h : Plain) (q r s : Bool) → agree_as (Object d q) (if b then Object g r else Object h s) ≡ agree d (if b then g else h)
objects_if true d g h q r s = refl
objects_if false d g h q r s = refl

none_if : (b : Bool) (g h : Plain) (r s : Bool) (t : Plain) (ps : List Plain) → agree_as (Function t ps) (if b then Object g r else Object h s) ≡ false
none_if true g h r s t ps = refl
none_if false g h r s t ps = refl

hidden_if : (b : Bool) (g h : Plain) (r s : Bool) → agree_as Hidden (if b then Object g r else Object h s) ≡ false
hidden_if true g h r s = refl
hidden_if false g h r s = refl

shared_objects : (d : Denoted) (g h : Plain) (r s : Bool) → agree g h ≡ true
    → agree_as d (if is_unbounded h then Object g r else Object h s) ≡ (agree_as d (Object g r) && agree_as d (Object h s))
shared_objects (Object d q) g h r s e = objects_if (is_unbounded h) d g h q r s ∙ shared_types d g h e
shared_objects (Function t ps) g h r s e = none_if (is_unbounded h) g h r s t ps
shared_objects Hidden g h r s e = hidden_if (is_unbounded h) g h r s

shared_denoted : (d g h : Denoted) → agree_as g h ≡ true → agree_as d (if is_open h then g else h) ≡ (agree_as d g && agree_as d h)
shared_denoted d (Object g r) (Object h s) e = shared_objects d g h r s e
shared_denoted d (Function s ps) (Function t qs) e =
    let p = and_parts (same s t) (same_all ps qs) e in
    equal_denoted d (Function s ps) (Function t qs) (ap (λ u. Function u ps) (same_plain s t p.0) ∙ ap (λ us. Function t us) (same_lists ps qs p.1))
shared_denoted d (Object g r) (Function t qs) e = absurd (let f : false ≡ true = e in cc)
shared_denoted d (Object g r) Hidden e = absurd (let f : false ≡ true = e in cc)
shared_denoted d (Function s ps) (Object h r) e = absurd (let f : false ≡ true = e in cc)
shared_denoted d (Function s ps) Hidden e = absurd (let f : false ≡ true = e in cc)
shared_denoted d Hidden h e = absurd (let f : false ≡ true = e in cc)

-- ---- what holds of all declarations of a kind

abbrev pub Relation : Type 0
Relation = FileName → FileName → Bool

abbrev pub related : Relation → FileName → Option FileName → Bool
related R f None = true
related R f (Some g) = R f g

abbrev pub all_related : Relation → (FileName → Bool) → FileName → List FileName → Bool
all_related R c f [] = true
all_related R c f (g ∷ gs) = (not (c g) || R f g) && all_related R c f gs

-- of two that are related, what is related with the one that tells more is related with both
abbrev pub IsShared : Relation → Type 0
IsShared R = (f g h : FileName) → R g h ≡ true → R f (more_told g (Some h)) ≡ (R f g && R f h)

abbrev pub AreRelated : Relation → (FileName → Bool) → List FileName → Type 0
AreRelated R c [] = Unit {0}
AreRelated R c (f ∷ fs) = (c f ≡ true → all_related R c f fs ≡ true) × AreRelated R c fs

module _ (R : Relation) (shared : IsShared R) (c : FileName → Bool) where
  more_related : (f g : FileName) (o : Option FileName) → related R g o ≡ true → related R f (Some (more_told g o)) ≡ (R f g && related R f o)
  more_related f g None h = and_true (R f g)
  more_related f g (Some k) h = shared f g k h

  told_related : (f : FileName) (fs : List FileName) → AreRelated R c fs → related R f (telling c fs) ≡ all_related R c f fs
  told_related f [] h = refl
  told_related f (g ∷ gs) h =
      let P : Bool → Type 0 = λ b. c g ≡ b → related R f (if b then Some (more_told g (telling c gs)) else telling c gs) ≡ ((not b || R f g) && all_related R c f gs) in
      (elim (c g) as P [
        | true ↦ λ e. more_related f g (telling c gs) (told_related g gs h.1 ∙ h.0 e) ∙ ap (λ b. R f g && b) (told_related f gs h.1)
        | false ↦ λ e. told_related f gs h.1
      ]) refl

-- ---- types that agree

abbrev pub agreeing : Relation
agreeing f g = agree_as f.denoted g.denoted

denoted_if : (b : Bool) (g h : FileName) → (if b then g else h).denoted ≡ (if b then g.denoted else h.denoted)
denoted_if true g h = refl
denoted_if false g h = refl

agreeing_shared : IsShared agreeing
agreeing_shared f g h e = ap (agree_as f.denoted) (denoted_if (is_open h.denoted) g h) ∙ shared_denoted f.denoted g.denoted h.denoted e

related_agrees : (f : FileName) (o : Option FileName) → related agreeing f o ≡ agrees_with f.denoted o
related_agrees f None = refl
related_agrees f (Some g) = refl

-- a declaration in its file and one outside of it (s static, h here, x external, a agreeing)
split : (s h x a p q : Bool) → ((not (h || (not s && x)) || a) && (p && (s || q))) ≡ (((not h || a) && p) && (s || ((not x || a) && q)))
split true true x true p q = refl
split true true x false p q = refl
split true false x a p q = refl
split false true true true p q = refl
split false true false true p q = refl
split false true x false p q = refl
split false false true true p q = refl
split false false true false true q = refl
split false false true false false q = refl
split false false false a p q = refl

two_kinds : (f : FileName) (fs : List FileName) → one_type f fs ≡ (all_related agreeing (is_here f.unit f.name) f fs && (f.is_static || all_related agreeing (is_external f.name) f fs))
two_kinds f [] = sym (or_true f.is_static)
two_kinds f (g ∷ gs) =
    ap (λ b. (not (is_here f.unit f.name g || (not f.is_static && is_external f.name g)) || agree_as f.denoted g.denoted) && b) (two_kinds f gs) ∙
    split f.is_static (is_here f.unit f.name g) (is_external f.name g) (agree_as f.denoted g.denoted) (all_related agreeing (is_here f.unit f.name) f gs) (all_related agreeing (is_external f.name) f gs)

same_file : (f : FileName) (u : ℕ) (t : List ℕ) → is_here u t f ≡ true → (f.unit ≡ u) × (f.name ≡ t)
same_file f u t e =
    let p = and_parts (f.unit == u) (bytes_eq f.name t) e in
    (eqb-true f.unit u p.0, (bytes_eq-Decides f.name t).0 p.1)

pub agree_here : (u : ℕ) (t : List ℕ) (fs : List FileName) → AreConsistent fs → AreRelated agreeing (is_here u t) fs
agree_here u t [] c = tt
agree_here u t (f ∷ fs) c = (
  λ e.
      let p = same_file f u t e in
      let q = and_parts (all_related agreeing (is_here f.unit f.name) f fs) (f.is_static || all_related agreeing (is_external f.name) f fs) (sym (two_kinds f fs) ∙ c.1) in
      ap (λ v. all_related agreeing (is_here v t) f fs) (sym p.0) ∙ (ap (λ s. all_related agreeing (is_here f.unit s) f fs) (sym p.1) ∙ q.0),
  agree_here u t fs c.2,
)

pub agree_outside : (t : List ℕ) (fs : List FileName) → AreConsistent fs → AreRelated agreeing (is_external t) fs
agree_outside t [] c = tt
agree_outside t (f ∷ fs) c = (
  λ e.
      let p = and_parts (not f.is_static) (bytes_eq f.name t) e in
      let q = and_parts (all_related agreeing (is_here f.unit f.name) f fs) (f.is_static || all_related agreeing (is_external f.name) f fs) (sym (two_kinds f fs) ∙ c.1) in
      ap (λ s. all_related agreeing (is_external s) f fs) (sym ((bytes_eq-Decides f.name t).0 p.1)) ∙
      (ap (λ b. b || all_related agreeing (is_external f.name) f fs) (sym (not-true f.is_static p.0)) ∙ q.1),
  agree_outside t fs c.2,
)

pub here_agrees : (f : FileName) (u : ℕ) (t : List ℕ) (fs : List FileName) → AreConsistent fs → agrees_with f.denoted (telling (is_here u t) fs) ≡ all_related agreeing (is_here u t) f fs
here_agrees f u t fs c = sym (related_agrees f (telling (is_here u t) fs)) ∙ told_related agreeing agreeing_shared (is_here u t) f fs (agree_here u t fs c)

pub outside_agrees : (f : FileName) (t : List ℕ) (fs : List FileName) → AreConsistent fs → agrees_with f.denoted (telling (is_external t) fs) ≡ all_related agreeing (is_external t) f fs
outside_agrees f t fs c = sym (related_agrees f (telling (is_external t) fs)) ∙ told_related agreeing agreeing_shared (is_external t) f fs (agree_outside t fs c)

-- a declaration agrees with all where it agrees with those that tell most
pub type_told : (f : FileName) (fs : List FileName) → AreConsistent fs
    → one_type f fs ≡ (agrees_with f.denoted (telling (is_here f.unit f.name) fs) && (f.is_static || agrees_with f.denoted (telling (is_external f.name) fs)))
type_told f fs c =
    two_kinds f fs ∙
    (ap (λ b. b && (f.is_static || all_related agreeing (is_external f.name) f fs)) (sym (here_agrees f f.unit f.name fs c)) ∙
    ap (λ b. agrees_with f.denoted (telling (is_here f.unit f.name) fs) && (f.is_static || b)) (sym (outside_agrees f f.name fs c)))

-- ---- linkage

abbrev pub linked : Relation
linked f g = if f.is_static then g.is_static else not g.is_static

pub same_linkage : (a b : Bool) → (if a then b else not b) ≡ true → a ≡ b
same_linkage true true h = refl
same_linkage false false h = refl
same_linkage true false h = absurd (let e : false ≡ true = h in cc)
same_linkage false true h = absurd (let e : false ≡ true = h in cc)

linked_if : (b : Bool) (f g h : FileName) → g.is_static ≡ h.is_static → linked f (if b then g else h) ≡ (linked f g && linked f h)
linked_if true f g h e = and_itself (linked f g) ∙ ap (λ x. linked f g && (if f.is_static then x else not x)) e
linked_if false f g h e = and_itself (linked f h) ∙ ap (λ x. (if f.is_static then x else not x) && linked f h) (sym e)

linked_shared : IsShared linked
linked_shared f g h e = linked_if (is_open h.denoted) f g h (same_linkage g.is_static h.is_static e)

related_linked : (f : FileName) (o : Option FileName) → related linked f o ≡ linked_with f o
related_linked f None = refl
related_linked f (Some g) = refl

all_linked : (f : FileName) (fs : List FileName) → one_linkage f fs ≡ all_related linked (is_here f.unit f.name) f fs
all_linked f [] = refl
all_linked f (g ∷ gs) = ap (λ b. (not (is_here f.unit f.name g) || linked f g) && b) (all_linked f gs)

pub linked_here : (u : ℕ) (t : List ℕ) (fs : List FileName) → AreConsistent fs → AreRelated linked (is_here u t) fs
linked_here u t [] c = tt
linked_here u t (f ∷ fs) c = (
  λ e.
      let p = same_file f u t e in
      ap (λ v. all_related linked (is_here v t) f fs) (sym p.0) ∙ (ap (λ s. all_related linked (is_here f.unit s) f fs) (sym p.1) ∙ (sym (all_linked f fs) ∙ c.0)),
  linked_here u t fs c.2,
)

pub here_linked : (f : FileName) (u : ℕ) (t : List ℕ) (fs : List FileName) → AreConsistent fs → linked_with f (telling (is_here u t) fs) ≡ all_related linked (is_here u t) f fs
here_linked f u t fs c = sym (related_linked f (telling (is_here u t) fs)) ∙ told_related linked linked_shared (is_here u t) f fs (linked_here u t fs c)

pub linkage_told : (f : FileName) (fs : List FileName) → AreConsistent fs → one_linkage f fs ≡ linked_with f (telling (is_here f.unit f.name) fs)
linkage_told f fs c = all_linked f fs ∙ sym (here_linked f f.unit f.name fs c)

-- ---- what is told

bounded_twice : (t s u : Plain) → bounded_one (bounded_one t s) u ≡ bounded_one t (if is_unbounded s then u else s)
bounded_twice (Array t zero) (Array s zero) u = refl
bounded_twice (Array t zero) (Array s (suc n)) u = refl
bounded_twice (Array t zero) Char u = refl
bounded_twice (Array t zero) Int u = refl
bounded_twice (Array t zero) Unsigned u = refl
bounded_twice (Array t zero) Void u = refl
bounded_twice (Array t zero) (Pointer s) u = refl
bounded_twice (Array t zero) (Struct n) u = refl
bounded_twice (Array t (suc n)) s u = refl
bounded_twice Char s u = refl
bounded_twice Int s u = refl
bounded_twice Unsigned s u = refl
bounded_twice Void s u = refl
bounded_twice (Pointer t) s u = refl
bounded_twice (Struct n) s u = refl

composite_if : (b : Bool) (t s u : Plain) (q r p : Bool) → composite (Object t q) (if b then Object u r else Object s p) ≡ Object (bounded_one t (if b then u else s)) q
composite_if true t s u q r p = refl
composite_if false t s u q r p = refl

composite_twice : (d h g : Denoted) → agree_as d h ≡ true → agree_as d g ≡ true → composite (composite d h) g ≡ composite d (if is_open h then g else h)
composite_twice (Object t q) (Object s p) (Object u r) e f = ap (λ x. Object x q) (bounded_twice t s u) ∙ sym (composite_if (is_unbounded s) t s u q r p)
composite_twice (Object t q) (Object s p) (Function u qs) e f = absurd (let x : false ≡ true = f in cc)
composite_twice (Object t q) (Object s p) Hidden e f = absurd (let x : false ≡ true = f in cc)
composite_twice (Object t q) (Function s qs) g e f = absurd (let x : false ≡ true = e in cc)
composite_twice (Object t q) Hidden g e f = absurd (let x : false ≡ true = e in cc)
composite_twice (Function t ps) h g e f = refl
composite_twice Hidden h g e f = refl

composite_more : (d : Denoted) (g : FileName) (o : Option FileName) → agrees_with d o ≡ true → agree_as d g.denoted ≡ true → composite (told_with d o) g.denoted ≡ told_with d (Some (more_told g o))
composite_more d g None e f = refl
composite_more d g (Some h) e f = composite_twice d h.denoted g.denoted e f ∙ ap (composite d) (sym (denoted_if (is_open h.denoted) g h))

told_all : (f : FileName) (fs : List FileName) → AreConsistent fs → all_related agreeing (is_here f.unit f.name) f fs ≡ true → told_before fs f ≡ told_with f.denoted (telling (is_here f.unit f.name) fs)
told_all f [] c a = refl
told_all f (g ∷ gs) c a =
    let k = is_here f.unit f.name in
    let p = and_parts (not (k g) || agreeing f g) (all_related agreeing k f gs) a in
    let rest = told_all f gs c.2 p.1 in
    let P : Bool → Type 0 = λ b. (not b || agreeing f g) ≡ true → (if b then composite (told_before gs f) g.denoted else told_before gs f) ≡ told_with f.denoted (if b then Some (more_told g (telling k gs)) else telling k gs) in
    (elim (k g) as P [
      | true ↦ λ e. ap (λ d. composite d g.denoted) rest ∙ composite_more f.denoted g (telling k gs) (here_agrees f f.unit f.name gs c.2 ∙ p.1) e
      | false ↦ λ e. rest
    ]) p.0

-- what the declarations in its file tell of a name
pub told_here : (f : FileName) (fs : List FileName) → AreConsistent fs → one_type f fs ≡ true → told_before fs f ≡ told_with f.denoted (telling (is_here f.unit f.name) fs)
told_here f fs c e =
    told_all f fs c (and_parts (all_related agreeing (is_here f.unit f.name) f fs) (f.is_static || all_related agreeing (is_external f.name) f fs) (sym (two_kinds f fs) ∙ e)).0

-- ---- the first rule that is broken

abbrev pub four : (a b c d : Bool) → ℕ → Finding
four a b c d at = holds a 15 at beside holds b 10 at beside holds c 7 at beside holds d 6 at

pub unbroken : (a b c d : Bool) (at : ℕ) → four a b c d at ≡ nothing → (a ≡ true) × (b ≡ true) × (c ≡ true) × (d ≡ true)
unbroken true true true true at h = (refl, refl, refl, refl)
unbroken false b c d at h = absurd (let e : Broken 15 at ≡ nothing = h in cc)
unbroken true false c d at h = absurd (let e : Broken 10 at ≡ nothing = h in cc)
unbroken true true false d at h = absurd (let e : Broken 7 at ≡ nothing = h in cc)
unbroken true true true false at h = absurd (let e : Broken 6 at ≡ nothing = h in cc)

pub found_four : (a b c d x y z w : Bool) (at : ℕ) → a ≡ x → b ≡ y → c ≡ z → d ≡ w → four a b c d at ≡ four x y z w at
found_four a b c d x y z w at p q r s =
    ap (λ t. four t b c d at) p ∙ (ap (λ t. four x t c d at) q ∙ (ap (λ t. four x y t d at) r ∙ ap (λ t. four x y z t at) s))
