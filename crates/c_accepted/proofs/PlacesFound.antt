-- Each place that an object of a program begins with is in an object of the program, or its end.
use Rattle.std.proofs.Common.{◌≡◌, ◌≤◌, ◌⊎◌, inl, inr, refl, sym, ap, ◌∙◌, subst, arith, ℕ, zero, suc, ◌*◌, ◌==◌, Bool, true, false, not, ◌&&◌, ◌||◌, true≢false, List, [], ◌∷◌, map, replicate, Some, None, bytes_eq, ⊎_elim, if◌then◌else◌}
use Rattle.std.specs.Prelude.{nat_le, nat_lt, slice_get}
use Rattle.std.specs.List.{AllByRecursion}
use Rattle.std.proofs.lemmas.Bool.{or_cases, eqb-true}
use Rattle.std.proofs.lemmas.Slice.Eq.{bytes_eq-Decides}
use Rattle.c_tree.specs.declared.rows.Program.{Program}
use Rattle.c_tree.specs.declared.rows.ObjectRow.{ObjectRow}
use Rattle.c_typing.specs.Plain.{Plain, Char, Int, Unsigned, Void, Pointer, Array, Struct, plain}
use Rattle.c_typing.specs.Values.{size_of}
use Rattle.c_typing.specs.Expressions.{Denoted, Object, Function, Hidden}
use Rattle.c_judge.proofs.Sizes.{size_of_plain}
use Rattle.c_scope.specs.Findings.{holds}
use Rattle.c_initial.specs.Begins.{Begin, Bits, Within, Text}
use Rattle.c_linkage.specs.Names.{FileName, Defining, is_here, is_external}
use Rattle.c_linkage.specs.Telling.{is_unbounded, is_open}
use Rattle.c_file.specs.Files.{State}
use Rattle.c_linkage.specs.Wanted.{Started, Awaited}
use Rattle.c_file.specs.Programs.{Well, in_file, late_found, uncalled}
use Rattle.c_linkage.specs.Bounds.{bound_in, greatest_bound}
use Rattle.c_file.specs.Made.{Each, IsObjectOf, started, begins_in, object_number, or_zero}
use Rattle.c_linkage.specs.Defined.{objects_from}
use Rattle.c_accepted.proofs.Declarations.{AreDeclared, IsWholeIn}
use Rattle.c_accepted.proofs.Sought.{AreSought}
use Rattle.c_accepted.proofs.Growth.{both_parts}
use Rattle.c_accepted.proofs.Walked.{well_one, well_both}
use Rattle.c_accepted.proofs.Differing.{all_at}
use Rattle.c_accepted.proofs.Composite.{not_zero, IsTold, IsToldOf, IsOf, all_told}
use Rattle.c_accepted.proofs.Given.{one_linkage_in}
use Rattle.c_accepted.proofs.Found.{not_true, same_entity}
use Rattle.c_accepted.proofs.KindsOfLeaves.{IsInObject, IsPlaceStart}
use Rattle.c_accepted.proofs.Values.{holds_true, or_right, at_most}
use Rattle.c_accepted.proofs.ObjectsFound.{HasRow, has_row}
use Rattle.c_accepted.proofs.Places.{IsAwaited, IsItem, IsPlace, IsSet}
use Rattle.c_accepted.proofs.PlacesKept.{IsKnownName, AreSet, ArePlaced}

-- ---- the greatest bound that declarations tell

-- a declaration of a name of a file, or an external one of the name
abbrev tells_of : ℕ → List ℕ → FileName → Bool
tells_of unit text f = is_here unit text f || is_external text f

bounds_under : (fs : List FileName) (l : Awaited) (m : ℕ) → ((n : ℕ) (f : FileName) → slice_get fs n ≡ Some f → tells_of l.unit l.place.name f ≡ true → bound_in f.denoted ≤ m) → greatest_bound fs l ≤ m
bounds_under [] l m h = omega arith
bounds_under (f ∷ fs) l m h = by (tells_of l.unit l.place.name f) refl (nat_lt (greatest_bound fs l) (bound_in f.denoted)) (bounds_under fs l m (λ n g e. h (suc n) g e))
  where
    by : (b : Bool) → tells_of l.unit l.place.name f ≡ b → (c : Bool) → greatest_bound fs l ≤ m → (if b then (if c then bound_in f.denoted else greatest_bound fs l) else greatest_bound fs l) ≤ m
    by true e true k = h 0 f refl e
    by true e false k = k
    by false e c k = k

bound_reached : (fs : List FileName) (l : Awaited) (n : ℕ) (f : FileName) → slice_get fs n ≡ Some f → tells_of l.unit l.place.name f ≡ true → bound_in f.denoted ≤ greatest_bound fs l
bound_reached [] l n f e t = absurd (let x : None ≡ Some f = e in cc)
bound_reached (g ∷ fs) l n f e t = by (tells_of l.unit l.place.name g) refl (nat_lt (greatest_bound fs l) (bound_in g.denoted)) refl n e (λ k d. bound_reached fs l k f d t)
  where
    not_less : (a b : ℕ) → nat_lt a b ≡ false → b ≤ a
    not_less a b h = grind arith

    less : (a b : ℕ) → nat_lt a b ≡ true → a ≤ b
    less a b h = grind arith

    by : (b : Bool) → tells_of l.unit l.place.name g ≡ b → (c : Bool) → nat_lt (greatest_bound fs l) (bound_in g.denoted) ≡ c → (n : ℕ) → slice_get (g ∷ fs) n ≡ Some f
        → ((k : ℕ) → slice_get fs k ≡ Some f → bound_in f.denoted ≤ greatest_bound fs l) → bound_in f.denoted ≤ (if b then (if c then bound_in g.denoted else greatest_bound fs l) else greatest_bound fs l)
    by b x c y zero e w =
        let p : Some g ≡ Some f = e in
        let same : g ≡ f = cc in
        let yes : b ≡ true = sym x ∙ ap (tells_of l.unit l.place.name) same ∙ t in
        let bound : bound_in g.denoted ≡ bound_in f.denoted = ap (λ (z : FileName). bound_in z.denoted) same in
        subst (λ z. bound_in f.denoted ≤ (if z then (if c then bound_in g.denoted else greatest_bound fs l) else greatest_bound fs l)) (sym yes) (first c y bound)
      where
        first : (c : Bool) → nat_lt (greatest_bound fs l) (bound_in g.denoted) ≡ c → bound_in g.denoted ≡ bound_in f.denoted → bound_in f.denoted ≤ (if c then bound_in g.denoted else greatest_bound fs l)
        first true y z = omega (arith, z)
        first false y z = let k = not_less (greatest_bound fs l) (bound_in g.denoted) y in omega (arith, z, k)
    by true x true y (suc n) e w = let k = w n e in let j = less (greatest_bound fs l) (bound_in g.denoted) y in omega (arith, k, j)
    by true x false y (suc n) e w = w n e
    by false x c y (suc n) e w = w n e

-- where no bound is told the place is let be
abbrev is_under : List FileName → Awaited → Bool
is_under fs l = (greatest_bound fs l == 0) || nat_le l.place.items (greatest_bound fs l)

late_at : (fs : List FileName) (ls : List Awaited) (n : ℕ) (l : Awaited) → late_found fs ls ≡ Well → slice_get ls n ≡ Some l → is_under fs l ≡ true
late_at fs [] n l h e = absurd (let x : None ≡ Some l = e in cc)
late_at fs (x ∷ ls) n l h e = by n e (well_both [] (in_file x.unit (holds (is_under fs x) 12 x.place.at)) (late_found fs ls) h) (λ k g d. late_at fs ls k l g d)
  where
    by : (n : ℕ) → slice_get (x ∷ ls) n ≡ Some l → (in_file x.unit (holds (is_under fs x) 12 x.place.at) ≡ Well) × (late_found fs ls ≡ Well) → ((k : ℕ) → late_found fs ls ≡ Well → slice_get ls k ≡ Some l → is_under fs l ≡ true) → is_under fs l ≡ true
    by zero e q w =
        let p : Some x ≡ Some l = e in
        let same : x ≡ l = cc in
        subst (λ z. is_under fs z ≡ true) same (holds_true (is_under fs x) 12 x.place.at (well_one [] x.unit (holds (is_under fs x) 12 x.place.at) q.0))
    by (suc n) e q w = w n q.1 e

-- ---- types

told_bound : (d : Denoted) (t : Plain) (m : ℕ) → IsToldOf d (Array t m) → bound_in d ≤ m
told_bound (Object (Array s zero) r) t m h = omega arith
told_bound (Object (Array s (suc n)) r) t m h = let e : ◌≡◌ {A = Plain} (Array s (suc n)) (Array t m) = h in let k : suc n ≡ m = cc in omega (arith, k)
told_bound (Object Char r) t m h = omega arith
told_bound (Object Int r) t m h = omega arith
told_bound (Object Unsigned r) t m h = omega arith
told_bound (Object Void r) t m h = omega arith
told_bound (Object (Pointer s) r) t m h = omega arith
told_bound (Object (Struct s) r) t m h = omega arith
told_bound (Function s ps) t m h = absurd h
told_bound Hidden t m h = absurd h

bound_of : (d : Denoted) (t : Plain) (m : ℕ) → IsOf d (Array t m) → bound_in d ≡ m
bound_of (Object s r) t m h = ap (λ u. bound_in (Object u r)) h
bound_of (Function s ps) t m h = absurd h
bound_of Hidden t m h = absurd h

-- an array without a bound is told of as one with a bound
open_told : (s t : Plain) → IsTold (Array s zero) t → is_unbounded t ≡ false → (m : ℕ) × (t ≡ Array s (suc m))
open_told s (Array t zero) h b = absurd (true≢false b)
open_told s (Array t (suc m)) h b = (m, ap (λ u. Array u (suc m)) (sym h))
open_told s Char h b = absurd (true≢false (ap is_unbounded h ∙ b))
open_told s Int h b = absurd (true≢false (ap is_unbounded h ∙ b))
open_told s Unsigned h b = absurd (true≢false (ap is_unbounded h ∙ b))
open_told s Void h b = absurd (true≢false (ap is_unbounded h ∙ b))
open_told s (Pointer t) h b = absurd (true≢false (ap is_unbounded h ∙ b))
open_told s (Struct t) h b = absurd (true≢false (ap is_unbounded h ∙ b))

times_most : (a b c : ℕ) → a ≤ b → a * c ≤ b * c
times_most a b c h = grind arith

-- ---- places

module _ (p : Program) (q : State) (declared : AreDeclared q) (sought : AreSought q) (called : uncalled q q.calls ≡ None) (wholes : AllByRecursion (IsWholeIn p.defs q.names) q.definitions) (rows : Each (IsObjectOf q) (objects_from [] q.definitions) p.objects)
    (placed : ArePlaced p.defs q) (late : late_found q.names q.late ≡ Well) where
  -- the other declarations of an object that is not `static` are not either
  none_static : (n m : ℕ) (f g : FileName) → slice_get q.names n ≡ Some f → slice_get q.names m ≡ Some g → f.is_static ≡ false → tells_of f.unit f.name g ≡ true → (g.name ≡ f.name) × (g.is_static ≡ false)
  none_static n m f g d e s t =
      ⊎_elim
      (λ h. (
      let k = both_parts (g.unit == f.unit) (bytes_eq g.name f.name) h in
      let name : g.name ≡ f.name = (bytes_eq-Decides g.name f.name).0 k.1 in
      (name, one_linkage_in q.names m n g f declared.consistent e d (eqb-true g.unit f.unit k.0) name ∙ s)))
      (λ h. (let k = both_parts (not g.is_static) (bytes_eq g.name f.name) h in ((bytes_eq-Decides g.name f.name).0 k.1, not_true g.is_static k.0)))
      (or_cases (is_here f.unit f.name g) (is_external f.name g) t)

  module _ (n : ℕ) (f : FileName) (there : slice_get q.names n ≡ Some f) (outside : f.is_static ≡ false) (r : HasRow p q f) (t : Plain) (m : ℕ) (type : plain r.row.ctype ≡ Array t (suc m)) (l : Awaited) (unit : l.unit ≡ f.unit) (name : l.place.name ≡ f.name) where
    whole_outside : (r.whole.declaration.name ≡ f.name) × (r.whole.declaration.is_static ≡ false)
    whole_outside = none_static n r.whole.number f r.whole.declaration there r.whole.there outside (sym (ap (λ b. is_here f.unit f.name r.whole.declaration || (not b && is_external f.name r.whole.declaration)) outside) ∙ r.whole.same)

    each_tells : (k : ℕ) (g : FileName) → slice_get q.names k ≡ Some g → tells_of l.unit l.place.name g ≡ true → bound_in g.denoted ≤ suc m
    each_tells k g e h =
        let w = r.whole in
        let is = none_static n k f g there e outside (sym (λ i. tells_of (unit i) (name i) g) ∙ h) in
        let same = same_entity q.names declared.consistent q.definitions declared.defined w.declaration g false whole_outside.1 (is.0 ∙ sym whole_outside.0) (λ x. absurd (true≢false (sym x))) (λ x. is.1) in
        told_bound g.denoted t (suc m) (subst (IsToldOf g.denoted) type (all_told q.names k w.number w.declaration g (plain r.row.ctype) w.bounded declared.consistent w.there w.denotes e same))

    -- what the program's end asks is asked of the bound of the object
    greatest_is : greatest_bound q.names l ≡ suc m
    greatest_is =
        let w = r.whole in
        let under = bounds_under q.names l (suc m) each_tells in
        let bound = bound_of w.declaration.denoted t (suc m) (subst (IsOf w.declaration.denoted) type w.denotes) in
        let tells : tells_of l.unit l.place.name w.declaration ≡ true = (λ i. tells_of (unit i) (name i) w.declaration) ∙ (sym (ap (λ b. is_here f.unit f.name w.declaration || (not b && is_external f.name w.declaration)) outside) ∙ w.same) in
        let reached = bound_reached q.names l w.number w.declaration w.there tells in
        omega (arith, under, bound, reached)

    late_under : (k : ℕ) → slice_get q.late k ≡ Some l → l.place.items ≤ suc m
    late_under k e =
        let h : ((suc m == 0) || nat_le l.place.items (suc m)) ≡ true = subst (λ b. ((b == 0) || nat_le l.place.items b) ≡ true) greatest_is (late_at q.names q.late k l late e) in
        at_most l.place.items (suc m) (or_right (suc m == 0) (nat_le l.place.items (suc m)) (not_zero m) h)

  -- an object without a bound where it is declared is not `static`
  open_outside : (n : ℕ) (f : FileName) (s : Plain) (g : Bool) → slice_get q.names n ≡ Some f → f.denoted ≡ Object (Array s 0) g → f.is_static ≡ false
  open_outside n f s g e d = by f.is_static refl
    where
      by : (b : Bool) → f.is_static ≡ b → b ≡ false
      by false h = refl
      by true h = absurd (true≢false (sym (ap is_open d) ∙ (all_at (IsKnownName q.here.defs q.here.unit) q.names n f placed.names e).bounded h))

  items_inside : (n : ℕ) (f : FileName) (t : Plain) (g : Bool) → slice_get q.names n ≡ Some f → f.denoted ≡ Object t g → (r : HasRow p q f) (offset : ℕ) → IsItem p.defs q.late f.unit f.name offset t → offset ≤ size_of p.defs (plain r.row.ctype)
  items_inside n f t g e d r offset i =
      by i.bound (ap (λ u. Object u g) i.array) (subst (λ x. IsToldOf x (plain r.row.ctype)) (d ∙ ap (λ u. Object u g) i.array) r.tells) i.inside i.late
    where
      size : (m : ℕ) → plain r.row.ctype ≡ Array i.ctype m → i.items ≤ m → offset ≤ size_of p.defs (plain r.row.ctype)
      size m k l =
          let same : size_of p.defs (plain r.row.ctype) ≡ m * size_of p.defs i.ctype = ap (size_of p.defs) k in
          let bytes = i.bytes in
          let under = times_most i.items m (size_of p.defs i.ctype) l in
          omega (arith, same, bytes, under)

      by : (b : ℕ) → ◌≡◌ {A = Denoted} (Object t g) (Object (Array i.ctype b) g) → IsTold (Array i.ctype b) (plain r.row.ctype) → ((b == 0) || nat_le i.items b) ≡ true → (b ≡ 0 → IsAwaited q.late f.unit f.name i.items) → offset ≤ size_of p.defs (plain r.row.ctype)
      by zero is told inside late =
          let a = late refl in
          let (m, type) = open_told i.ctype (plain r.row.ctype) told r.whole.bounded in
          let under = late_under n f e (open_outside n f i.ctype g e (d ∙ is)) r i.ctype m type a.awaited a.file a.name a.number a.there in
          let items = a.items in
          size (suc m) type (omega (arith, under, items))
      by (suc b) is told inside late = size (suc b) (sym told) (at_most i.items (suc b) (or_right (suc b == 0) (nat_le i.items (suc b)) (not_zero b) inside))

  place_there : (unit : ℕ) (text : List ℕ) (offset : ℕ) → IsPlace p.defs q.names q.late unit text offset → IsInObject p offset (slice_get p.objects (or_zero q (object_number q unit text)))
  place_there unit text offset h =
      let d = h.declared in
      let f = d.declaration in
      let r = has_row p q declared sought called wholes rows d.number f h.ctype d.register d.there d.denotes in
      let reached = subst (λ u. (offset ≡ 0) ⊎ IsItem p.defs q.late u text offset h.ctype) (sym d.file) h.reached in
      let within : offset ≤ size_of p.defs (plain r.row.ctype) = by f h.ctype d.register r d.number d.there d.denotes (subst (λ s. (offset ≡ 0) ⊎ IsItem p.defs q.late f.unit s offset h.ctype) (sym d.name) reached) in
      let there : slice_get p.objects (or_zero q (object_number q unit text)) ≡ Some r.row = (λ i. slice_get p.objects (or_zero q (object_number q (sym d.file i) (sym d.name i)))) ∙ r.there in
      subst (IsInObject p offset) (sym there) (subst (λ k. offset ≤ k) (sym (size_of_plain p.defs r.row.ctype)) within)
    where
      by : (f : FileName) (t : Plain) (g : Bool) (r : HasRow p q f) (n : ℕ) → slice_get q.names n ≡ Some f → f.denoted ≡ Object t g → (offset ≡ 0) ⊎ IsItem p.defs q.late f.unit f.name offset t → offset ≤ size_of p.defs (plain r.row.ctype)
      by f t g r n e d (inl z) = omega (arith, z)
      by f t g r n e d (inr i) = items_inside n f t g e d r offset i

  begins_there : (unit : ℕ) (bs : List Begin) → AllByRecursion (IsSet p.defs q.names q.late unit) bs → AllByRecursion (IsPlaceStart p) (map (started q unit) bs)
  begins_there unit [] h = tt
  begins_there unit (Bits n ∷ bs) h = (tt, begins_there unit bs h.1)
  begins_there unit (Text k ∷ bs) h = (tt, begins_there unit bs h.1)
  begins_there unit (Within text n ∷ bs) h = (place_there unit text n h.0, begins_there unit bs h.1)

  zeros_there : (unit n : ℕ) → AllByRecursion (IsPlaceStart p) (map (started q unit) (replicate n (Bits 0)))
  zeros_there unit zero = tt
  zeros_there unit (suc n) = (tt, zeros_there unit n)

  object_there : (d : Defining) (ss : List Started) → AllByRecursion (AreSet p.defs q.names q.late) ss → AllByRecursion (IsPlaceStart p) (map (started q d.unit) (begins_in q ss d))
  object_there d [] h = zeros_there d.unit _
  object_there d (s ∷ ss) h = by ((s.unit == d.unit) && bytes_eq s.name d.name) refl (object_there d ss h.1)
    where
      by : (b : Bool) → ((s.unit == d.unit) && bytes_eq s.name d.name) ≡ b → AllByRecursion (IsPlaceStart p) (map (started q d.unit) (begins_in q ss d)) → AllByRecursion (IsPlaceStart p) (map (started q d.unit) (if b then s.begins else begins_in q ss d))
      by true e k = begins_there d.unit s.begins (subst (λ u. AllByRecursion (IsSet p.defs q.names q.late u) s.begins) (eqb-true s.unit d.unit (both_parts (s.unit == d.unit) (bytes_eq s.name d.name) e).0) h.0)
      by false e k = k

  all_there : (ds : List Defining) (os : List ObjectRow) → Each (IsObjectOf q) ds os → AllByRecursion (λ (o : ObjectRow). AllByRecursion (IsPlaceStart p) o.start) os
  all_there [] [] e = tt
  all_there (d ∷ ds) (o ∷ os) e = (subst (AllByRecursion (IsPlaceStart p)) (sym e.0.4) (object_there d q.starts placed.starts), all_there ds os e.1)
  all_there [] (o ∷ os) e = absurd e
  all_there (d ∷ ds) [] e = absurd e

  -- each place that an object of the program begins with is in one of its objects, or its end
  pub places_there : AllByRecursion (λ (o : ObjectRow). AllByRecursion (IsPlaceStart p) o.start) p.objects
  places_there = all_there (objects_from [] q.definitions) p.objects rows
