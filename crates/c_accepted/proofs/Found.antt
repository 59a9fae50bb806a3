-- A declared object of a program is one of its objects.
use Rattle.std.proofs.Common.{◌≡◌, refl, sym, ap, ◌∙◌, subst, arith, ℕ, zero, suc, ◌+◌, Bool, true, false, not, ◌&&◌, ◌||◌, ◌==◌, true≢false, List, [], ◌∷◌, Some, None, bytes_eq, if◌then◌else◌}
use Rattle.std.specs.Prelude.{slice_get}
use Rattle.std.specs.List.{AllByRecursion}
use Rattle.std.proofs.lemmas.Bool.{eqb-true}
use Rattle.std.proofs.lemmas.Slice.Eq.{bytes_eq-Decides}
use Rattle.c_typing.specs.Plain.{Plain}
use Rattle.c_typing.specs.Expressions.{Object}
use Rattle.c_linkage.specs.Names.{FileName, Defining, is_here, is_external, is_same, one_type, defines, is_defined}
use Rattle.c_linkage.specs.FileNames.{AreConsistent}
use Rattle.c_linkage.specs.Defined.{is_body, is_on, objects_from, number_from}
use Rattle.c_accepted.proofs.Declarations.{IsDeclaredBy}
use Rattle.c_accepted.proofs.Growth.{both_parts}
use Rattle.c_accepted.proofs.Differing.{all_at, is_function, body_is, kinds_agree}
use Rattle.c_accepted.proofs.Composite.{is_same_turned, one_agrees}
use Rattle.c_accepted.proofs.Given.{one_linkage_in}

pub record IsFound (ds : List Defining) (u : ℕ) (s : Bool) (name : List ℕ) : Type 0 where
  pub number : ℕ
  pub definition : Defining
  pub there : slice_get ds number ≡ Some definition
  pub defining : defines u s name definition ≡ true

pub found_first : (ds : List Defining) (u : ℕ) (s : Bool) (name : List ℕ) → is_defined ds u s name ≡ true → IsFound ds u s name
found_first [] u s name h = absurd (true≢false (sym h))
found_first (d ∷ ds) u s name h = by (defines u s name d) refl h (λ k. found_first ds u s name k)
  where
    by : (b : Bool) → defines u s name d ≡ b → (b || is_defined ds u s name) ≡ true → (is_defined ds u s name ≡ true → IsFound ds u s name) → IsFound (d ∷ ds) u s name
    by true e k w = record { number = 0; definition = d; there = refl; defining = e }
    by false e k w = let r = w k in record { number = suc r.number; definition = r.definition; there = r.there; defining = r.defining }

-- the number of the first
pub record IsNumbered (n : ℕ) (ds : List Defining) (u : ℕ) (s : Bool) (name : List ℕ) : Type 0 where
  pub place : ℕ
  pub definition : Defining
  pub number : number_from n ds u s name ≡ Some (n + place)
  pub there : slice_get ds place ≡ Some definition
  pub defining : defines u s name definition ≡ true

pub numbered_first : (n : ℕ) (ds : List Defining) (u : ℕ) (s : Bool) (name : List ℕ) (k : ℕ) (d : Defining) → slice_get ds k ≡ Some d → defines u s name d ≡ true → IsNumbered n ds u s name
numbered_first n [] u s name k d e h = absurd (let x : None ≡ Some d = e in cc)
numbered_first n (x ∷ ds) u s name k d e h = by (defines u s name x) refl k e (λ j f. numbered_first (suc n) ds u s name j d f h)
  where
    by : (b : Bool) → defines u s name x ≡ b → (k : ℕ) → slice_get (x ∷ ds) k ≡ Some d → ((j : ℕ) → slice_get ds j ≡ Some d → IsNumbered (suc n) ds u s name) → IsNumbered n (x ∷ ds) u s name
    by true f k g w = record {
      place = 0;
      definition = x;
      number = ap (λ b. if b then Some n else number_from (suc n) ds u s name) f ∙ ap (λ m. Some m) (let z : n ≡ n + 0 = omega arith in z);
      there = refl;
      defining = f;
    }
    by false f zero g w =
        let p : Some x ≡ Some d = g in
        let q : x ≡ d = cc in
        absurd (true≢false (sym h ∙ ap (defines u s name) (sym q) ∙ f))
    by false f (suc k) g w =
        let r = w k g in
        record {
          place = suc r.place;
          definition = r.definition;
          number = ap (λ b. if b then Some n else number_from (suc n) ds u s name) f ∙ r.number ∙ ap (λ m. Some m) (let z : suc n + r.place ≡ n + suc r.place = omega arith in z);
          there = r.there;
          defining = r.defining;
        }

-- ---- each object is once on the list

record IsListed (os : List Defining) (P : Defining → Type 0) (d : Defining) : Type 0 where
  number : ℕ
  object : Defining
  there : slice_get os number ≡ Some object
  unit : object.unit ≡ d.unit
  name : object.name ≡ d.name
  holds : P object

listed_on : (os : List Defining) (P : Defining → Type 0) (x d : Defining) → IsListed os P d → IsListed (x ∷ os) P d
listed_on os P x d r = record { number = suc r.number; object = r.object; there = r.there; unit = r.unit; name = r.name; holds = r.holds }

listed : (P : Defining → Type 0) (seen ds : List Defining) (k : ℕ) (d : Defining) → AllByRecursion P ds → slice_get ds k ≡ Some d → is_body d.manner ≡ false → is_on d seen ≡ false → IsListed (objects_from seen ds) P d
listed P seen [] k d a e b h = absurd (let x : None ≡ Some d = e in cc)
listed P seen (x ∷ ds) zero d a e b h =
    let p : Some x ≡ Some d = e in
    let q : x ≡ d = cc in
    let new : (is_body x.manner || is_on x seen) ≡ false = ap (λ (y : Defining). is_body y.manner || is_on y seen) q ∙ (λ i. b i || h i) in
    subst (λ c. IsListed (if c then objects_from seen ds else x ∷ objects_from (x ∷ seen) ds) P d) (sym new)
    (record { number = 0; object = x; there = refl; unit = ap (λ (y : Defining). y.unit) q; name = ap (λ (y : Defining). y.name) q; holds = a.0 })
listed P seen (x ∷ ds) (suc k) d a e b h =
    by (is_body x.manner || is_on x seen) ((d.unit == x.unit) && bytes_eq d.name x.name) refl (listed P seen ds k d a.1 e b h) (λ w. listed P (x ∷ seen) ds k d a.1 e b w)
  where
    by : (c f : Bool) → ((d.unit == x.unit) && bytes_eq d.name x.name) ≡ f → IsListed (objects_from seen ds) P d → (is_on d (x ∷ seen) ≡ false → IsListed (objects_from (x ∷ seen) ds) P d)
        → IsListed (if c then objects_from seen ds else x ∷ objects_from (x ∷ seen) ds) P d
    by true f g r w = r
    by false true g r w =
        let p = both_parts (d.unit == x.unit) (bytes_eq d.name x.name) g in
        record { number = 0; object = x; there = refl; unit = sym (eqb-true d.unit x.unit p.0); name = sym ((bytes_eq-Decides d.name x.name).0 p.1); holds = a.0 }
    by false false g r w = listed_on (objects_from (x ∷ seen) ds) P x d (w (λ i. g i || h i))

-- ---- declarations of one object are declarations of objects

pub same_kind_of : (fs : List FileName) (m n : ℕ) (f g : FileName) → AreConsistent fs → slice_get fs n ≡ Some f → slice_get fs m ≡ Some g → is_same f g ≡ true → is_function f.denoted ≡ is_function g.denoted
same_kind_of [] m n f g c d e s = absurd (let q : None ≡ Some f = d in cc)
same_kind_of (x ∷ fs) zero zero f g c d e s =
    let p : Some x ≡ Some f = d in
    let q : Some x ≡ Some g = e in
    let k : f ≡ g = cc in
    ap (λ (y : FileName). is_function y.denoted) k
same_kind_of (x ∷ fs) (suc m) zero f g c d e s =
    let p : Some x ≡ Some f = d in
    let k : x ≡ f = cc in
    kinds_agree f.denoted g.denoted (one_agrees f fs m g (subst (λ y. one_type y fs ≡ true) k c.1) e s)
same_kind_of (x ∷ fs) zero (suc n) f g c d e s =
    let q : Some x ≡ Some g = e in
    let k : x ≡ g = cc in
    sym (kinds_agree g.denoted f.denoted (one_agrees g fs n f (subst (λ y. one_type y fs ≡ true) k c.1) d (is_same_turned f g s)))
same_kind_of (x ∷ fs) (suc m) (suc n) f g c d e s = same_kind_of fs m n f g c.2 d e s

number_self : (n : ℕ) → (n == n) ≡ true
number_self n = grind arith

text_self : (s : List ℕ) → bytes_eq s s ≡ true
text_self s = (bytes_eq-Decides s s).1 refl

pub not_true : (b : Bool) → not b ≡ true → b ≡ false
not_true false h = refl
not_true true h = absurd (true≢false (sym h))

defines_if : (u : ℕ) (s : Bool) (name : List ℕ) (d : Defining) → d.name ≡ name → ((s ≡ true) → (d.is_static ≡ true) × (d.unit ≡ u)) → ((s ≡ false) → d.is_static ≡ false) → defines u s name d ≡ true
defines_if u true name d n a b = let p = a refl in λ i. (bytes_eq-Decides d.name name).1 n i && (p.0 i && ((eqb d.unit u p.1) i))
  where
    eqb : (m k : ℕ) → m ≡ k → (m == k) ≡ true
    eqb m k e = ap (λ z. m == z) (sym e) ∙ number_self m
defines_if u false name d n a b = λ i. (bytes_eq-Decides d.name name).1 n i && not (b refl i)

-- what a definition of a name of a file is
pub said : (u : ℕ) (s : Bool) (name : List ℕ) (d : Defining) → defines u s name d ≡ true → (d.name ≡ name) × ((s ≡ true) → (d.is_static ≡ true) × (d.unit ≡ u)) × ((s ≡ false) → d.is_static ≡ false)
said u true name d h =
    let p = both_parts (bytes_eq d.name name) (d.is_static && (d.unit == u)) h in
    let q = both_parts d.is_static (d.unit == u) p.1 in
    ((bytes_eq-Decides d.name name).0 p.0, (λ e. (q.0, eqb-true d.unit u q.1)), (λ e. absurd (true≢false e)))
said u false name d h =
    let p = both_parts (bytes_eq d.name name) (not d.is_static) h in
    ((bytes_eq-Decides d.name name).0 p.0, (λ e. absurd (true≢false (sym e))), (λ e. not_true d.is_static p.1))

module _ (fs : List FileName) (consistent : AreConsistent fs) (ds : List Defining) (declared : AllByRecursion (IsDeclaredBy fs) ds) where
  pub same_entity : (f g : FileName) (b : Bool) → f.is_static ≡ b → g.name ≡ f.name → ((b ≡ true) → g.unit ≡ f.unit) → ((b ≡ false) → g.is_static ≡ false) → is_same f g ≡ true
  same_entity f g true s n u l = ap (λ x. x || (not f.is_static && is_external f.name g)) (let h : is_here f.unit f.name g ≡ true = (λ i. eqb g.unit f.unit (u refl) i && (bytes_eq-Decides g.name f.name).1 n i) in h)
    where
      eqb : (m k : ℕ) → m ≡ k → (m == k) ≡ true
      eqb m k e = ap (λ z. m == z) (sym e) ∙ number_self m
  same_entity f g false s n u l = or_right (is_here f.unit f.name g) _ (λ i. not (s i) && (not (l refl i) && (bytes_eq-Decides g.name f.name).1 n i))
    where
      or_right : (a b : Bool) → b ≡ true → (a || b) ≡ true
      or_right true b h = refl
      or_right false b h = h

  -- an object that is declared and defined has a number among the objects
  pub object_found : (n : ℕ) (f : FileName) (t : Plain) (r : Bool) → slice_get fs n ≡ Some f → f.denoted ≡ Object t r → is_defined ds f.unit f.is_static f.name ≡ true → IsNumbered 0 (objects_from [] ds) f.unit f.is_static f.name
  object_found n f t r e o h =
      let found = found_first ds f.unit f.is_static f.name h in
      let d = found.definition in
      let is = said f.unit f.is_static f.name d found.defining in
      let by = all_at (IsDeclaredBy fs) ds found.number d declared found.there in
      let g = by.declaration in
      let same = same_entity f g f.is_static refl (by.name ∙ is.0) (λ s. by.unit ∙ (is.1 s).1) (λ s. by.linkage ∙ is.2 s) in
      let object : is_body d.manner ≡ false = body_is d.manner g.denoted by.fits ∙ sym (same_kind_of fs by.number n f g consistent e by.there same) ∙ ap is_function o in
      let l = listed (IsDeclaredBy fs) [] ds found.number d declared found.there object refl in
      let x = l.object in
      let told = l.holds in
      let linkage : x.is_static ≡ d.is_static = sym told.linkage ∙ one_linkage_in fs told.number by.number told.declaration g consistent told.there by.there (told.unit ∙ l.unit ∙ sym by.unit) (told.name ∙ l.name ∙ sym by.name) ∙ by.linkage in
      numbered_first 0 (objects_from [] ds) f.unit f.is_static f.name l.number x l.there
      (defines_if f.unit f.is_static f.name x (l.name ∙ is.0) (λ s. (linkage ∙ (is.1 s).0, l.unit ∙ (is.1 s).1)) (λ s. linkage ∙ is.2 s))
