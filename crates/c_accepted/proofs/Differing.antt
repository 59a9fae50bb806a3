-- A program has a function `main`, and one definition of each name.
use Rattle.std.proofs.Common.{◌≡◌, refl, sym, ap, ◌∙◌, subst, ℕ, zero, suc, Bool, true, false, not, ◌&&◌, ◌||◌, ◌==◌, true≢false, List, [], ◌∷◌, ◌++◌, map, filter, Some, None, bytes_eq, codes, if◌then◌else◌, arith}
use Rattle.std.specs.Prelude.{slice_get}
use Rattle.std.specs.List.{AllByRecursion}
use Rattle.std.proofs.lemmas.Bool.{eqb-true}
use Rattle.std.proofs.lemmas.Slice.Eq.{bytes_eq-Decides}
use Rattle.c_tree.specs.declared.rows.Function.{Function as FunctionRow}
use Rattle.c_tree.specs.declared.rows.ObjectRow.{ObjectRow}
use Rattle.c_typing.specs.Plain.{Int}
use Rattle.c_typing.specs.Expressions.{Denoted, Object, Function, Hidden}
use Rattle.c_typing.specs.Declarations.{is_named, Differ}
use Rattle.c_typing.specs.Programs.{is_main, has_main}
use Rattle.c_linkage.specs.declared.definitions.Manner.{Manner}
use Rattle.c_linkage.specs.declared.definitions.Manner.TheVariants.{Body, Initialized, Tentative}
use Rattle.c_linkage.specs.Names.{FileName, Defining, agree_as, is_here, is_same, one_type, defines, is_defined, same_manner, is_second, is_defined_before, twice}
use Rattle.c_linkage.specs.FileNames.{AreConsistent}
use Rattle.c_file.specs.Files.{State, Bodied}
use Rattle.c_file.specs.Made.{Each, IsFunctionOf, IsObjectOf}
use Rattle.c_linkage.specs.Defined.{bodies_of, is_body, is_on, objects_from}
use Rattle.c_accepted.proofs.Declarations.{Fits, IsDeclaredBy, KeepsNames, IsBodyFor}
use Rattle.c_accepted.proofs.Growth.{both_parts}

pub all_at : {A : Type 0} (P : A → Type 0) (xs : List A) (n : ℕ) (x : A) → AllByRecursion P xs → slice_get xs n ≡ Some x → P x
all_at P [] n x h e = absurd (let q : None ≡ Some x = e in cc)
all_at P (y ∷ xs) zero x h e = let q : Some y ≡ Some x = e in let k : y ≡ x = cc in subst P k h.0
all_at P (y ∷ xs) (suc n) x h e = all_at P xs n x h.1 e

or_false : (a b : Bool) → (a || b) ≡ false → (a ≡ false) × (b ≡ false)
or_false false b h = (refl, h)
or_false true b h = absurd (true≢false h)

or_true : (a b : Bool) → b ≡ true → (a || b) ≡ true
or_true true b h = refl
or_true false b h = h

same_text : (s : List ℕ) → bytes_eq s s ≡ true
same_text s = (bytes_eq-Decides s s).1 refl

-- ---- `main`

function_fits : (m : Manner) (d : Denoted) → Fits m d → agree_as d (Function Int []) ≡ true → is_body m ≡ true
function_fits Body d h e = refl
function_fits Initialized (Object t r) h e = absurd (true≢false (sym e))
function_fits Initialized (Function t ps) h e = absurd h
function_fits Initialized Hidden h e = absurd h
function_fits Tentative (Object t r) h e = absurd (true≢false (sym e))
function_fits Tentative (Function t ps) h e = absurd h
function_fits Tentative Hidden h e = absurd h

abbrev MainIsBody : Defining → Type 0
MainIsBody d = bytes_eq d.name (codes "main") ≡ true → is_body d.manner ≡ true

module _ (fs : List FileName) (rules : AllByRecursion KeepsNames fs) where
  main_body : (d : Defining) → IsDeclaredBy fs d → MainIsBody d
  main_body d h e =
      let k = (all_at KeepsNames fs h.number h.declaration rules h.there).1 in
      let m : bytes_eq h.declaration.name (codes "main") ≡ true = ap (λ s. bytes_eq s (codes "main")) h.name ∙ e in
      function_fits d.manner h.declaration.denoted h.fits (sym (ap (λ b. not b || agree_as h.declaration.denoted (Function Int [])) m) ∙ k)

  pub mains : (ds : List Defining) → AllByRecursion (IsDeclaredBy fs) ds → AllByRecursion MainIsBody ds
  mains [] h = tt
  mains (d ∷ ds) h = (main_body d h.0, mains ds h.1)

abbrev pub IsRowFor : State → Defining → FunctionRow → Type 0
IsRowFor q d f = (f.name ≡ d.name) × (f.unit ≡ d.unit) × (f.is_static ≡ d.is_static)

pub rows_for : (q : State) (ds : List Defining) (bs : List Bodied) (fs : List FunctionRow) → Each IsBodyFor ds bs → Each (IsFunctionOf q) bs fs → Each (IsRowFor q) ds fs
rows_for q [] [] [] h k = tt
rows_for q (d ∷ ds) (b ∷ bs) (f ∷ fs) h k = ((k.0.0 ∙ h.0.0, k.0.1 ∙ h.0.1, k.0.2 ∙ h.0.2), rows_for q ds bs fs h.1 k.1)
rows_for q [] [] (f ∷ fs) h k = absurd k
rows_for q [] (b ∷ bs) fs h k = absurd h
rows_for q (d ∷ ds) [] fs h k = absurd h
rows_for q (d ∷ ds) (b ∷ bs) [] h k = absurd k

module _ (q : State) where
  main_row : (d : Defining) (f : FunctionRow) → IsRowFor q d f → is_main f ≡ defines 0 false (codes "main") d
  main_row d f h = (λ i. not (h.2 i) && bytes_eq (h.0 i) (codes "main")) ∙ turned (not d.is_static) (bytes_eq d.name (codes "main"))
    where
      turned : (a b : Bool) → (a && b) ≡ (b && a)
      turned true true = refl
      turned true false = refl
      turned false true = refl
      turned false false = refl

  pub main_there : (ds : List Defining) (fs : List FunctionRow) → AllByRecursion MainIsBody ds → Each (IsRowFor q) (bodies_of ds) fs → is_defined ds 0 false (codes "main") ≡ true → has_main fs ≡ true
  main_there [] fs m e h = absurd (true≢false (sym h))
  main_there (d ∷ ds) fs m e h = by (is_body d.manner) (defines 0 false (codes "main") d) refl refl (λ gs g k. main_there ds gs m.1 g k) fs e
    where
      behind : defines 0 false (codes "main") d ≡ false → is_defined ds 0 false (codes "main") ≡ true
      behind w = sym (ap (λ b. b || is_defined ds 0 false (codes "main")) w) ∙ h

      by : (b c : Bool) → is_body d.manner ≡ b → defines 0 false (codes "main") d ≡ c → ((gs : List FunctionRow) → Each (IsRowFor q) (bodies_of ds) gs → is_defined ds 0 false (codes "main") ≡ true → has_main gs ≡ true)
          → (fs : List FunctionRow) → Each (IsRowFor q) (if b then d ∷ bodies_of ds else bodies_of ds) fs → has_main fs ≡ true
      by true true k w rest (f ∷ fs) r = ap (λ b. b || has_main fs) (main_row d f r.0 ∙ w)
      by true false k w rest (f ∷ fs) r = or_true (is_main f) (has_main fs) (rest fs r.1 (behind w))
      by true c k w rest [] r = absurd r
      by false true k w rest fs r = absurd (true≢false (sym (m.0 (both_parts (bytes_eq d.name (codes "main")) (not d.is_static) w).0) ∙ k))
      by false false k w rest fs r = rest fs r (behind w)

-- ---- definitions that are not the same

abbrev AreApart : Defining → Defining → Type 0
AreApart d e = is_second e d ≡ false

abbrev AllApart : List Defining → Type 0
AllApart [] = Unit {0}
AllApart (d ∷ ds) = AllByRecursion (AreApart d) ds × AllApart ds

once : (before ds : List Defining) (d : Defining) → twice before (d ∷ ds) ≡ None → (is_defined_before d before ≡ false) × (twice (d ∷ before) ds ≡ None)
once before ds d h = by (is_defined_before d before) h
  where
    by : (b : Bool) → (if b then Some d.name else twice (d ∷ before) ds) ≡ None → (b ≡ false) × (twice (d ∷ before) ds ≡ None)
    by false k = (refl, k)
    by true k = absurd (let q : Some d.name ≡ None = k in cc)

apart_before : (before ds : List Defining) (d : Defining) → twice before ds ≡ None → ((e : Defining) → is_defined_before e before ≡ false → AreApart d e) → AllByRecursion (AreApart d) ds
apart_before before [] d h w = tt
apart_before before (e ∷ ds) d h w =
    let q = once before ds e h in
    (w e q.0, apart_before (e ∷ before) ds d q.1 (λ g k. w g (or_false (is_second g e) (is_defined_before g before) k).1))

all_apart : (before ds : List Defining) → twice before ds ≡ None → AllApart ds
all_apart before [] h = tt
all_apart before (d ∷ ds) h =
    let q = once before ds d h in
    (apart_before (d ∷ before) ds d q.1 (λ e k. (or_false (is_second e d) (is_defined_before e before) k).0), all_apart (d ∷ before) ds q.1)

pub apart : (ds : List Defining) → twice [] ds ≡ None → AllApart ds
apart ds h = all_apart [] ds h

-- ---- names that are chosen by file and linkage

-- of two that are chosen, either both are of one file or both are external
abbrev pub Chooses : (ℕ → Bool → Bool) → Type 0
Chooses k = (u v : ℕ) (s t : Bool) → k u s ≡ true → k v t ≡ true → (u == v) ≡ false → (s ≡ false) × (t ≡ false)

abbrev pub name_of : Defining → List ℕ
name_of d = d.name

abbrev pub chosen : (ℕ → Bool → Bool) → Defining → Bool
chosen k d = k d.unit d.is_static

-- of one name in one file, both are of one manner
abbrev IsOther : Defining → Defining → Type 0
IsOther d e = bytes_eq e.name d.name ≡ true → (e.unit == d.unit) ≡ true → same_manner e.manner d.manner ≡ true

abbrev AllOther : List Defining → Type 0
AllOther [] = Unit {0}
AllOther (d ∷ ds) = AllByRecursion (IsOther d) ds × AllOther ds

-- ---- bodies and objects among the definitions

all_bodies : (P : Defining → Type 0) (ds : List Defining) → AllByRecursion P ds → AllByRecursion P (bodies_of ds)
all_bodies P [] h = tt
all_bodies P (d ∷ ds) h = by (is_body d.manner) (all_bodies P ds h.1)
  where
    by : (b : Bool) → AllByRecursion P (bodies_of ds) → AllByRecursion P (if b then d ∷ bodies_of ds else bodies_of ds)
    by true k = (h.0, k)
    by false k = k

bodies_apart : (ds : List Defining) → AllApart ds → AllApart (bodies_of ds)
bodies_apart [] h = tt
bodies_apart (d ∷ ds) h = by (is_body d.manner) (bodies_apart ds h.1)
  where
    by : (b : Bool) → AllApart (bodies_of ds) → AllApart (if b then d ∷ bodies_of ds else bodies_of ds)
    by true k = (all_bodies (AreApart d) ds h.0, k)
    by false k = k

abbrev IsABody : Defining → Type 0
IsABody d = is_body d.manner ≡ true

bodies_are : (ds : List Defining) → AllByRecursion IsABody (bodies_of ds)
bodies_are [] = tt
bodies_are (d ∷ ds) = by (is_body d.manner) refl (bodies_are ds)
  where
    by : (b : Bool) → is_body d.manner ≡ b → AllByRecursion IsABody (bodies_of ds) → AllByRecursion IsABody (if b then d ∷ bodies_of ds else bodies_of ds)
    by true e k = (e, k)
    by false e k = k

both_bodies : (m n : Manner) → is_body m ≡ true → is_body n ≡ true → same_manner m n ≡ true
both_bodies Body Body h k = refl
both_bodies Body Initialized h k = absurd (true≢false (sym k))
both_bodies Body Tentative h k = absurd (true≢false (sym k))
both_bodies Initialized n h k = absurd (true≢false (sym h))
both_bodies Tentative n h k = absurd (true≢false (sym h))

bodies_other : (ds : List Defining) → AllByRecursion IsABody ds → AllOther ds
bodies_other [] h = tt
bodies_other (d ∷ ds) h = (each ds h.1, bodies_other ds h.1)
  where
    each : (es : List Defining) → AllByRecursion IsABody es → AllByRecursion (IsOther d) es
    each [] k = tt
    each (e ∷ es) k = ((λ x y. both_bodies e.manner d.manner k.0 h.0), each es k.1)

abbrev pub IsAnObject : Defining → Type 0
IsAnObject d = is_body d.manner ≡ false

-- what holds of the objects that were not seen
pub all_objects : (P : Defining → Type 0) (seen ds : List Defining) → AllByRecursion P ds → AllByRecursion P (objects_from seen ds)
all_objects P seen [] h = tt
all_objects P seen (d ∷ ds) h = by (is_body d.manner || is_on d seen) (all_objects P seen ds h.1) (all_objects P (d ∷ seen) ds h.1)
  where
    by : (b : Bool) → AllByRecursion P (objects_from seen ds) → AllByRecursion P (objects_from (d ∷ seen) ds) → AllByRecursion P (if b then objects_from seen ds else d ∷ objects_from (d ∷ seen) ds)
    by true k g = k
    by false k g = (h.0, g)

pub unseen : (P : Defining → Type 0) (seen ds : List Defining) → ((e : Defining) → is_body e.manner ≡ false → is_on e seen ≡ false → P e) → AllByRecursion P (objects_from seen ds)
unseen P seen [] w = tt
unseen P seen (d ∷ ds) w =
    by (is_body d.manner || is_on d seen) refl (unseen P seen ds w) (unseen P (d ∷ seen) ds (λ x y z. w x y (or_false ((x.unit == d.unit) && bytes_eq x.name d.name) (is_on x seen) z).1))
  where
    by : (b : Bool) → (is_body d.manner || is_on d seen) ≡ b → AllByRecursion P (objects_from seen ds) → AllByRecursion P (objects_from (d ∷ seen) ds) → AllByRecursion P (if b then objects_from seen ds else d ∷ objects_from (d ∷ seen) ds)
    by true e k g = k
    by false e k g = let q = or_false (is_body d.manner) (is_on d seen) e in (w d q.0 q.1, g)

objects_apart : (seen ds : List Defining) → AllApart ds → AllApart (objects_from seen ds)
objects_apart seen [] h = tt
objects_apart seen (d ∷ ds) h = by (is_body d.manner || is_on d seen) (objects_apart seen ds h.1) (objects_apart (d ∷ seen) ds h.1)
  where
    by : (b : Bool) → AllApart (objects_from seen ds) → AllApart (objects_from (d ∷ seen) ds) → AllApart (if b then objects_from seen ds else d ∷ objects_from (d ∷ seen) ds)
    by true k g = k
    by false k g = (all_objects (AreApart d) (d ∷ seen) ds h.0, g)

objects_other : (seen ds : List Defining) → AllOther (objects_from seen ds)
objects_other seen [] = tt
objects_other seen (d ∷ ds) = by (is_body d.manner || is_on d seen) (objects_other seen ds) (objects_other (d ∷ seen) ds)
  where
    other : (e : Defining) → is_body e.manner ≡ false → is_on e (d ∷ seen) ≡ false → IsOther d e
    other e x y n u = absurd (true≢false (sym (λ i. (u i) && (n i)) ∙ (or_false ((e.unit == d.unit) && bytes_eq e.name d.name) (is_on e seen) y).0))

    by : (b : Bool) → AllOther (objects_from seen ds) → AllOther (objects_from (d ∷ seen) ds) → AllOther (if b then objects_from seen ds else d ∷ objects_from (d ∷ seen) ds)
    by true k g = k
    by false k g = (unseen (IsOther d) (d ∷ seen) ds other, g)

-- ---- one definition of each name that is chosen

module _ (k : ℕ → Bool → Bool) (c : Chooses k) where
  clash : (d e : Defining) → AreApart d e → chosen k d ≡ true → chosen k e ≡ true → IsOther d e → bytes_eq e.name d.name ≡ false
  clash d e a x y o = by (bytes_eq e.name d.name) refl a
    where
      files : bytes_eq e.name d.name ≡ true → (b : Bool) → (e.unit == d.unit) ≡ b → (if b then same_manner e.manner d.manner else not e.is_static && not d.is_static) ≡ false → ⊥
      files n true w f = true≢false (sym (o n w) ∙ f)
      files n false w f =
          let s = c e.unit d.unit e.is_static d.is_static y x w in
          true≢false (sym (λ i. not (s.0 i) && not (s.1 i)) ∙ f)

      by : (b : Bool) → bytes_eq e.name d.name ≡ b → (b && (if e.unit == d.unit then same_manner e.manner d.manner else not e.is_static && not d.is_static)) ≡ false → bytes_eq e.name d.name ≡ false
      by false n h = n
      by true n h = absurd (files n (e.unit == d.unit) refl h)

  not_named : (d : Defining) (es : List Defining) → chosen k d ≡ true → AllByRecursion (AreApart d) es → AllByRecursion (IsOther d) es → is_named (map name_of (filter (chosen k) es)) d.name ≡ false
  not_named d [] x a o = refl
  not_named d (e ∷ es) x a o = by (chosen k e) refl (not_named d es x a.1 o.1)
    where
      by : (b : Bool) → chosen k e ≡ b → is_named (map name_of (filter (chosen k) es)) d.name ≡ false → is_named (map name_of (if b then e ∷ filter (chosen k) es else filter (chosen k) es)) d.name ≡ false
      by true y g = ap (λ b. b || is_named (map name_of (filter (chosen k) es)) d.name) (clash d e a.0 x y o.0) ∙ g
      by false y g = g

  differ_chosen : (ds : List Defining) → AllApart ds → AllOther ds → Differ (map name_of (filter (chosen k) ds))
  differ_chosen [] a o = tt
  differ_chosen (d ∷ ds) a o = by (chosen k d) refl (differ_chosen ds a.1 o.1)
    where
      by : (b : Bool) → chosen k d ≡ b → Differ (map name_of (filter (chosen k) ds)) → Differ (map name_of (if b then d ∷ filter (chosen k) ds else filter (chosen k) ds))
      by true x g = (not_named d ds x a.0 o.0, g)
      by false x g = g

-- ---- a function and an object of one name

abbrev pub is_function : Denoted → Bool
is_function (Function t ps) = true
is_function d = false

pub body_is : (m : Manner) (d : Denoted) → Fits m d → is_body m ≡ is_function d
body_is Body (Function t ps) h = refl
body_is Initialized (Object t r) h = refl
body_is Tentative (Object t r) h = refl
body_is Body (Object t r) h = absurd h
body_is Body Hidden h = absurd h
body_is Initialized (Function t ps) h = absurd h
body_is Initialized Hidden h = absurd h
body_is Tentative (Function t ps) h = absurd h
body_is Tentative Hidden h = absurd h

pub kinds_agree : (d e : Denoted) → agree_as d e ≡ true → is_function d ≡ is_function e
kinds_agree (Object t r) (Object s q) h = refl
kinds_agree (Function t ps) (Function s qs) h = refl
kinds_agree (Object t r) (Function s qs) h = absurd (true≢false (sym h))
kinds_agree (Object t r) Hidden h = absurd (true≢false (sym h))
kinds_agree (Function t ps) (Object s q) h = absurd (true≢false (sym h))
kinds_agree (Function t ps) Hidden h = absurd (true≢false (sym h))
kinds_agree Hidden e h = absurd (true≢false (sym h))

same_number : (n : ℕ) → (n == n) ≡ true
same_number n = grind arith

pub here_is : (f g : FileName) → g.unit ≡ f.unit → g.name ≡ f.name → is_here f.unit f.name g ≡ true
here_is f g u n = (λ i. (u i == f.unit) && bytes_eq (n i) f.name) ∙ (λ i. same_number f.unit i && same_text f.name i)

type_at : (f : FileName) (gs : List FileName) (n : ℕ) (g : FileName) → one_type f gs ≡ true → slice_get gs n ≡ Some g → (not (is_same f g) || agree_as f.denoted g.denoted) ≡ true
type_at f [] n g h e = absurd (let q : None ≡ Some g = e in cc)
type_at f (x ∷ gs) zero g h e =
    let q : Some x ≡ Some g = e in
    let k : x ≡ g = cc in
    subst (λ y. (not (is_same f y) || agree_as f.denoted y.denoted) ≡ true) k (both_parts (not (is_same f x) || agree_as f.denoted x.denoted) (one_type f gs) h).0
type_at f (x ∷ gs) (suc n) g h e = type_at f gs n g (both_parts (not (is_same f x) || agree_as f.denoted x.denoted) (one_type f gs) h).1 e

pub agree_in_file : (f : FileName) (gs : List FileName) (n : ℕ) (g : FileName) → one_type f gs ≡ true → slice_get gs n ≡ Some g → g.unit ≡ f.unit → g.name ≡ f.name → agree_as f.denoted g.denoted ≡ true
agree_in_file f gs n g h e u m =
    sym (ap (λ b. not (b || (not f.is_static && (not g.is_static && bytes_eq g.name f.name))) || agree_as f.denoted g.denoted) (here_is f g u m)) ∙ type_at f gs n g h e

pub same_kind : (fs : List FileName) (m n : ℕ) (f g : FileName) → AreConsistent fs → slice_get fs m ≡ Some f → slice_get fs n ≡ Some g → f.unit ≡ g.unit → f.name ≡ g.name → is_function f.denoted ≡ is_function g.denoted
same_kind [] m n f g c d e u w = absurd (let q : None ≡ Some f = d in cc)
same_kind (x ∷ fs) zero zero f g c d e u w =
    let p : Some x ≡ Some f = d in
    let q : Some x ≡ Some g = e in
    let k : f ≡ g = cc in
    ap (λ y. is_function y.denoted) k
same_kind (x ∷ fs) zero (suc n) f g c d e u w =
    let p : Some x ≡ Some f = d in
    let k : x ≡ f = cc in
    kinds_agree f.denoted g.denoted (agree_in_file f fs n g (subst (λ y. one_type y fs ≡ true) k c.1) e (sym u) (sym w))
same_kind (x ∷ fs) (suc m) zero f g c d e u w =
    let q : Some x ≡ Some g = e in
    let k : x ≡ g = cc in
    sym (kinds_agree g.denoted f.denoted (agree_in_file g fs m f (subst (λ y. one_type y fs ≡ true) k c.1) d u w))
same_kind (x ∷ fs) (suc m) (suc n) f g c d e u w = same_kind fs m n f g c.2 d e u w

module _ (fs : List FileName) (consistent : AreConsistent fs) (k : ℕ → Bool → Bool) (c : Chooses k) where
  -- two that are chosen and have one name are both bodies or both objects
  abbrev IsOneKind : Defining → Defining → Type 0
  IsOneKind d e = chosen k d ≡ true → chosen k e ≡ true → bytes_eq e.name d.name ≡ true → is_body d.manner ≡ is_body e.manner

  kind : (d e : Defining) → IsDeclaredBy fs d → IsDeclaredBy fs e → AreApart d e → IsOneKind d e
  kind d e h g a x y n = by (e.unit == d.unit) refl (sym (ap (λ b. b && (if e.unit == d.unit then same_manner e.manner d.manner else not e.is_static && not d.is_static)) n) ∙ a)
    where
      name : e.name ≡ d.name
      name = (bytes_eq-Decides e.name d.name).0 n

      by : (b : Bool) → (e.unit == d.unit) ≡ b → (if b then same_manner e.manner d.manner else not e.is_static && not d.is_static) ≡ false → is_body d.manner ≡ is_body e.manner
      by true w f =
          let unit : e.unit ≡ d.unit = eqb-true e.unit d.unit w in
          body_is d.manner h.declaration.denoted h.fits ∙
          same_kind fs h.number g.number h.declaration g.declaration consistent h.there g.there (h.unit ∙ sym unit ∙ sym g.unit) (h.name ∙ sym name ∙ sym g.name) ∙
          sym (body_is e.manner g.declaration.denoted g.fits)
      by false w f =
          let s = c e.unit d.unit e.is_static d.is_static y x w in
          absurd (true≢false (sym (λ i. not (s.0 i) && not (s.1 i)) ∙ f))

  turned : (d e : Defining) → IsOneKind d e → IsOneKind e d
  turned d e w x y n = sym (w y x (ap (λ s. bytes_eq e.name s) (sym (sym ((bytes_eq-Decides d.name e.name).0 n))) ∙ same_text e.name))

  itself : (d : Defining) → IsOneKind d d
  itself d x y n = refl

  row_of : (d : Defining) (ds : List Defining) → IsDeclaredBy fs d → AllByRecursion (IsDeclaredBy fs) ds → AllByRecursion (AreApart d) ds → AllByRecursion (IsOneKind d) ds
  row_of d [] h g a = tt
  row_of d (e ∷ ds) h g a = (kind d e h g.0 a.0, row_of d ds h g.1 a.1)

  column : (d : Defining) (es ds : List Defining) → AllByRecursion (IsOneKind d) es → AllByRecursion (λ e. AllByRecursion (IsOneKind e) ds) es → AllByRecursion (λ e. AllByRecursion (IsOneKind e) (d ∷ ds)) es
  column d [] ds h g = tt
  column d (e ∷ es) ds h g = ((turned d e h.0, g.0), column d es ds h.1 g.1)

  all_pairs : (ds : List Defining) → AllByRecursion (IsDeclaredBy fs) ds → AllApart ds → AllByRecursion (λ e. AllByRecursion (IsOneKind e) ds) ds
  all_pairs [] h a = tt
  all_pairs (d ∷ ds) h a =
      let row = row_of d ds h.0 h.1 a.0 in
      ((itself d, row), column d ds ds row (all_pairs ds h.1 a.1))

  -- the names of objects are no names of functions
  no_object : (b : Defining) (os : List Defining) → chosen k b ≡ true → is_body b.manner ≡ true → AllByRecursion IsAnObject os → AllByRecursion (IsOneKind b) os → is_named (map name_of (filter (chosen k) os)) b.name ≡ false
  no_object b [] x i o h = refl
  no_object b (e ∷ os) x i o h = by (chosen k e) refl (no_object b os x i o.1 h.1)
    where
      not_same : chosen k e ≡ true → (c : Bool) → bytes_eq e.name b.name ≡ c → c ≡ false
      not_same y false n = refl
      not_same y true n = absurd (true≢false (sym i ∙ h.0 x y n ∙ o.0))

      by : (c : Bool) → chosen k e ≡ c → is_named (map name_of (filter (chosen k) os)) b.name ≡ false → is_named (map name_of (if c then e ∷ filter (chosen k) os else filter (chosen k) os)) b.name ≡ false
      by true y g = ap (λ c. c || is_named (map name_of (filter (chosen k) os)) b.name) (not_same y (bytes_eq e.name b.name) refl) ∙ g
      by false y g = g

  across : (bs os : List Defining) → AllByRecursion IsABody bs → AllByRecursion IsAnObject os → AllByRecursion (λ e. AllByRecursion (IsOneKind e) os) bs
      → AllByRecursion (λ n. is_named (map name_of (filter (chosen k) os)) n ≡ false) (map name_of (filter (chosen k) bs))
  across [] os i o h = tt
  across (b ∷ bs) os i o h = by (chosen k b) refl (across bs os i.1 o h.1)
    where
      by : (z : Bool) → chosen k b ≡ z → AllByRecursion (λ n. is_named (map name_of (filter (chosen k) os)) n ≡ false) (map name_of (filter (chosen k) bs))
          → AllByRecursion (λ n. is_named (map name_of (filter (chosen k) os)) n ≡ false) (map name_of (if z then b ∷ filter (chosen k) bs else filter (chosen k) bs))
      by true x g = (no_object b os x i.0 o h.0, g)
      by false x g = g

  still_none : (xs ys : List (List ℕ)) (n : List ℕ) → is_named xs n ≡ false → is_named ys n ≡ false → is_named (xs ++ ys) n ≡ false
  still_none [] ys n h g = g
  still_none (x ∷ xs) ys n h g = let q = or_false (bytes_eq x n) (is_named xs n) h in ap (λ b. b || is_named (xs ++ ys) n) q.0 ∙ still_none xs ys n q.1 g

  differ_both : (xs ys : List (List ℕ)) → Differ xs → Differ ys → AllByRecursion (λ n. is_named ys n ≡ false) xs → Differ (xs ++ ys)
  differ_both [] ys h g a = g
  differ_both (x ∷ xs) ys h g a = (still_none xs ys x h.0 a.0, differ_both xs ys h.1 g a.1)

  -- the names of the chosen functions and objects differ
  pub all_differ : (ds : List Defining) → AllByRecursion (IsDeclaredBy fs) ds → twice [] ds ≡ None
      → Differ (map name_of (filter (chosen k) (bodies_of ds)) ++ map name_of (filter (chosen k) (objects_from [] ds)))
  all_differ ds h t =
      let a = apart ds t in
      let pairs = all_pairs ds h a in
      let os = objects_from [] ds in
      let objects : AllByRecursion IsAnObject (objects_from [] ds) = unseen IsAnObject [] ds (λ e x y. x) in
      let rows : AllByRecursion (λ e. AllByRecursion (IsOneKind e) (objects_from [] ds)) ds = each_row ds pairs in
      differ_both (map name_of (filter (chosen k) (bodies_of ds))) (map name_of (filter (chosen k) (objects_from [] ds)))
      (differ_chosen k c (bodies_of ds) (bodies_apart ds a) (bodies_other (bodies_of ds) (bodies_are ds)))
      (differ_chosen k c (objects_from [] ds) (objects_apart [] ds a) (objects_other [] ds))
      (across (bodies_of ds) (objects_from [] ds) (bodies_are ds) objects (all_bodies (λ e. AllByRecursion (IsOneKind e) (objects_from [] ds)) ds rows))
    where
      each_row : (es : List Defining) → AllByRecursion (λ e. AllByRecursion (IsOneKind e) ds) es → AllByRecursion (λ e. AllByRecursion (IsOneKind e) (objects_from [] ds)) es
      each_row [] g = tt
      each_row (e ∷ es) g = (all_objects (IsOneKind e) [] ds g.0, each_row es g.1)

-- ---- the rows of the program

module _ (q : State) (k : ℕ → Bool → Bool) where
  pub function_names : (ds : List Defining) (fs : List FunctionRow) → Each (IsRowFor q) ds fs → map (λ (f : FunctionRow). f.name) (filter (λ (f : FunctionRow). k f.unit f.is_static) fs) ≡ map name_of (filter (chosen k) ds)
  function_names [] [] h = refl
  function_names (d ∷ ds) (f ∷ fs) h = by (k f.unit f.is_static) (chosen k d) (λ i. k (h.0.1 i) (h.0.2 i)) (function_names ds fs h.1)
    where
      by : (a b : Bool) → a ≡ b → map (λ (f : FunctionRow). f.name) (filter (λ (f : FunctionRow). k f.unit f.is_static) fs) ≡ map name_of (filter (chosen k) ds) → map (λ (f : FunctionRow). f.name) (if a then f ∷ filter (λ (f : FunctionRow). k f.unit f.is_static) fs else filter (λ (f : FunctionRow). k f.unit f.is_static) fs) ≡ map name_of (if b then d ∷ filter (chosen k) ds else filter (chosen k) ds)
      by true true e g = λ i. h.0.0 i ∷ g i
      by false false e g = g
      by true false e g = absurd (true≢false e)
      by false true e g = absurd (true≢false (sym e))
  function_names [] (f ∷ fs) h = absurd h
  function_names (d ∷ ds) [] h = absurd h

  pub object_names : (ds : List Defining) (os : List ObjectRow) → Each (IsObjectOf q) ds os → map (λ (o : ObjectRow). o.name) (filter (λ (o : ObjectRow). k o.unit o.is_static) os) ≡ map name_of (filter (chosen k) ds)
  object_names [] [] h = refl
  object_names (d ∷ ds) (o ∷ os) h = by (k o.unit o.is_static) (chosen k d) (λ i. k (h.0.1 i) (h.0.2 i)) (object_names ds os h.1)
    where
      by : (a b : Bool) → a ≡ b → map (λ (o : ObjectRow). o.name) (filter (λ (o : ObjectRow). k o.unit o.is_static) os) ≡ map name_of (filter (chosen k) ds) → map (λ (o : ObjectRow). o.name) (if a then o ∷ filter (λ (o : ObjectRow). k o.unit o.is_static) os else filter (λ (o : ObjectRow). k o.unit o.is_static) os) ≡ map name_of (if b then d ∷ filter (chosen k) ds else filter (chosen k) ds)
      by true true e g = λ i. h.0.0 i ∷ g i
      by false false e g = g
      by true false e g = absurd (true≢false e)
      by false true e g = absurd (true≢false (sym e))
  object_names [] (o ∷ os) h = absurd h
  object_names (d ∷ ds) [] h = absurd h
