-- The function that is meant by a name, by what is kept while the table is read.
use Rattle.std.proofs.Common.{◌≡◌, ◌∙◌, refl, sym, ap, subst, ℕ, suc, Bool, true, false, not, cond, ◌&&◌, ◌||◌, nat_eq, bytes_eq, if◌then◌else◌, List, [], ◌∷◌, ◌++◌, filter, codes, Option, Some, None, Ok, Err}
use Rattle.std.proofs.lemmas.Slice.Eq.{bytes_eq-Decides}
use Rattle.ps_store.specs.declared.object.PsObj.{PsObj}
use Rattle.ps_store.specs.declared.object.DictId.{DictId}
use Rattle.ps_store.specs.StoreState.{StoreState}
use Rattle.ps_step.specs.Results.{◌>>=◌}
use Rattle.table_model.specs.declared.lack.Lack.{Lack}
use Rattle.table_model.specs.Reading.{Walked, dict_in, text_at, number_at, truth_at, all_from, all_in}
use Rattle.table_model.specs.Rows.{PointRow, functions_of, points_of, point_address}
use Rattle.table_model.specs.Places.{Named, called, called_in, are_of_unit, only, chosen, chosen_of, first_point, point_of_named}
use Rattle.table_read.specs.Reads.{in_ok}
use Rattle.table_points.specs.Naming.{Choice, nothing_read, with_external, with_static, with_one, with_all, or_inner, chosen_by, first_named, named_point, point_among}
use Rattle.table_points.proofs.Gathering.{got, got_is}

-- ---- parts of readings

pub bind_ok : {A B : Type 0} (w : Walked A) (k : A → Walked B) (y : B) → (w >>= k) ≡ Ok y → (x : A) × (w ≡ Ok x) × (k x ≡ Ok y)
bind_ok (Ok x) k y h = (x, refl, h)
bind_ok (Err l) k y h = absurd (let j = h in cc)

same_behind : {A B : Type 0} (w : Walked A) (k l : A → Walked B) → ((x : A) → k x ≡ l x) → (w >>= k) ≡ (w >>= l)
same_behind (Ok x) k l h = h x
same_behind (Err m) k l h = refl

lacked : {A B : Type 0} (f : A → B) (w : Walked A) (l : Lack) → in_ok f w ≡ Err l → w ≡ Err l
lacked f (Ok x) l h = absurd (let k = h in cc)
lacked f (Err m) l h = let k = h in cc

given : {A B : Type 0} (f : A → B) (w : Walked A) (y : B) → in_ok f w ≡ Ok y → (x : A) × (w ≡ Ok x) × (f x ≡ y)
given f (Ok x) y h = (x, refl, got_is (f x) y h)
given f (Err l) y h = absurd (let k = h in cc)

-- ---- the choice among all

pub all_joins : (c : Choice) (fs gs : List Named) → with_all c (fs ++ gs) ≡ with_all (with_all c fs) gs
all_joins c [] gs = refl
all_joins c (f ∷ fs) gs = all_joins (with_one c f) fs gs

abbrev is_outer : Named → Bool
is_outer f = not f.is_static

abbrev is_inner : Named → Bool
is_inner f = f.is_static

abbrev state : Option Named → Option Named → Bool → Choice
state e i b = record { external = e; inner = i; several = b }

-- an external one is kept
external_stays : (e : Named) (i : Option Named) (b : Bool) (fs : List Named) → chosen_by (with_all (state (Some e) i b) fs) ≡ Some e
external_stays e i b [] = refl
external_stays e None b (f ∷ fs) =
    elim f.is_static as (λ s. chosen_by (with_all (elim s [ true ↦ with_static (state (Some e) None b) f None | false ↦ with_external (state (Some e) None b) f (Some e) ]) fs) ≡ Some e) [
      | true ↦ external_stays e (Some f) b fs
      | false ↦ external_stays e None b fs
    ]
external_stays e (Some g) b (f ∷ fs) =
    elim f.is_static as (λ s. chosen_by (with_all (elim s [ true ↦ with_static (state (Some e) (Some g) b) f (Some g) | false ↦ with_external (state (Some e) (Some g) b) f (Some e) ]) fs) ≡ Some e) [
      | true ↦ external_stays e (Some g) (b || not (nat_eq f.number g.number)) fs
      | false ↦ external_stays e (Some g) b fs
    ]

-- where a static one is there already
abbrev inner_if : Named → (is_several : Bool) → Option Named
inner_if g b = if b then None else Some g

abbrev by_outer : List Named → Named → Bool → Option Named
by_outer [] g b = inner_if g b
by_outer (f ∷ fs) g b = Some f

abbrev if_true : Bool → Named → List Named → List Named
if_true b f fs = cond b (f ∷ fs) fs

or_more : (b e r : Bool) → (b || not e) || not r ≡ (b || not (e && r))
or_more true true true = refl
or_more true true false = refl
or_more true false true = refl
or_more true false false = refl
or_more false true true = refl
or_more false true false = refl
or_more false false true = refl
or_more false false false = refl

or_false : (b : Bool) → b ≡ (b || not true)
or_false true = refl
or_false false = refl

inner_stays : (g : Named) (b : Bool) (fs : List Named) → chosen_by (with_all (state None (Some g) b) fs) ≡ by_outer (filter is_outer fs) g (b || not (are_of_unit g.number (filter is_inner fs)))
inner_stays g b [] = ap (inner_if g) (or_false b)
inner_stays g b (f ∷ fs) =
    let c = state None (Some g) b in
    let outer = filter is_outer fs in
    let inner = filter is_inner fs in
    elim f.is_static as (λ s. chosen_by (with_all (elim s [ true ↦ with_static c f (Some g) | false ↦ with_external c f None ]) fs) ≡ by_outer (if_true (not s) f outer) g (b || not (are_of_unit g.number (if_true s f inner)))) [
      | true ↦ inner_stays g (b || not (nat_eq f.number g.number)) fs ∙ ap (by_outer outer g) (or_more b (nat_eq f.number g.number) (are_of_unit g.number inner))
      | false ↦ external_stays f (Some g) b fs
    ]

inner_only : (outer : List Named) (f : Named) (inner : List Named) → by_outer outer f (not (are_of_unit f.number inner)) ≡ chosen outer (f ∷ inner)
inner_only (e ∷ es) f inner = refl
inner_only [] f inner = elim (are_of_unit f.number inner) as (λ r. inner_if f (not r) ≡ (if r then Some f else None)) [ true ↦ refl | false ↦ refl ]

pub choice_is : (fs : List Named) → chosen_by (with_all nothing_read fs) ≡ chosen_of fs
choice_is [] = refl
choice_is (f ∷ fs) =
    let outer = filter is_outer fs in
    let inner = filter is_inner fs in
    elim f.is_static as (λ s. chosen_by (with_all (elim s [ true ↦ with_static nothing_read f None | false ↦ with_external nothing_read f None ]) fs) ≡ chosen (if_true (not s) f outer) (if_true s f inner)) [
      | true ↦ inner_stays f false fs ∙ inner_only outer f inner
      | false ↦ external_stays f None false fs
    ]

-- ---- each has the name

module _ (P : Named → Type 0) where
  abbrev Each : List Named → Type 0
  Each [] = Unit {0}
  Each (f ∷ fs) = P f × Each fs

  each_join : (fs gs : List Named) → Each fs → Each gs → Each (fs ++ gs)
  each_join [] gs h k = k
  each_join (f ∷ fs) gs h k = (h.0, each_join fs gs h.1 k)

  each_filter : (test : Named → Bool) (fs : List Named) → Each fs → Each (filter test fs)
  each_filter test [] h = tt
  each_filter test (f ∷ fs) h = elim (test f) as (λ b. Each (if_true b f (filter test fs))) [ true ↦ (h.0, each_filter test fs h.1) | false ↦ each_filter test fs h.1 ]

  found_is : (f g : Named) → Some f ≡ Some g → P f → P g
  found_is f g e h = let k : f ≡ g = cc in subst P k h

  each_only : (fs : List Named) (g : Named) → Each fs → only fs ≡ Some g → P g
  each_only [] g h e = absurd (let k = e in cc)
  each_only (f ∷ fs) g h e = (elim (are_of_unit f.number fs) as (λ b. (if b then Some f else None) ≡ Some g → P g) [ true ↦ (λ k. found_is f g k h.0) | false ↦ (λ k. absurd (let j = k in cc)) ]) e

  each_chosen : (outer inner : List Named) (g : Named) → Each outer → Each inner → chosen outer inner ≡ Some g → P g
  each_chosen (f ∷ fs) inner g h k e = found_is f g e h.0
  each_chosen [] inner g h k e = each_only inner g k e

  -- what is gathered
  each_all : {A : Type 0} (test : ℕ → A → Walked (List Named)) → ((n : ℕ) (x : A) (fs : List Named) → test n x ≡ Ok fs → Each fs) → (n : ℕ) (xs : List A) (fs : List Named) → all_from test n xs ≡ Ok fs → Each fs
  each_all test h n [] fs e = subst Each (got_is [] fs e) tt
  each_all test h n (x ∷ xs) fs e =
      let first = bind_ok (test n x) (λ ys. all_from test (suc n) xs >>= λ zs. Ok (ys ++ zs)) fs e in
      let rest = bind_ok (all_from test (suc n) xs) (λ zs. Ok (first.0 ++ zs)) fs first.2 in
      subst Each (got_is (first.0 ++ rest.0) fs rest.2) (each_join first.0 rest.0 (h n x first.0 first.1) (each_all test h (suc n) xs rest.0 rest.1))

module _ (s : StoreState) (text : List ℕ) where
  abbrev HasName : Named → Type 0
  HasName f = text_at s f.function (codes "name") ≡ Ok text

  abbrev if_same : Bool → Named → Walked (List Named)
  if_same b f = Ok (if b then f ∷ [] else [])

  called_if : (b : Bool) (f : Named) (fs : List Named) → if_same b f ≡ Ok fs → (b ≡ true → HasName f) → Each HasName fs
  called_if true f fs e h = subst (Each HasName) (got_is (f ∷ []) fs e) (h refl, tt)
  called_if false f fs e h = subst (Each HasName) (got_is [] fs e) tt

  called_each : (u : ℕ) (unit : DictId) (x : PsObj) (fs : List Named) → called s text u unit x ≡ Ok fs → Each HasName fs
  called_each u unit x fs e =
      let make : DictId → Bool → Named = λ f static. record { number = u; unit = unit; function = f; is_static = static } in
      let f = bind_ok (dict_in x) (λ f. text_at s f (codes "name") >>= λ name. truth_at s f (codes "static") >>= λ static. if_same (bytes_eq name text) (make f static)) fs e in
      let name = bind_ok (text_at s f.0 (codes "name")) (λ name. truth_at s f.0 (codes "static") >>= λ static. if_same (bytes_eq name text) (make f.0 static)) fs f.2 in
      let static = bind_ok (truth_at s f.0 (codes "static")) (λ static. if_same (bytes_eq name.0 text) (make f.0 static)) fs name.2 in
      called_if (bytes_eq name.0 text) (make f.0 static.0) fs static.2 (λ same. name.1 ∙ ap (λ (t : List ℕ). got t) ((bytes_eq-Decides name.0 text).0 same))

  called_in_each : (u : ℕ) (x : PsObj) (fs : List Named) → called_in s text u x ≡ Ok fs → Each HasName fs
  called_in_each u x fs e =
      let unit = bind_ok (dict_in x) (λ unit. functions_of s u unit >>= λ xs. all_in (called s text u unit) xs) fs e in
      let functions = bind_ok (functions_of s u unit.0) (λ xs. all_in (called s text u unit.0) xs) fs unit.2 in
      each_all HasName (λ n x. called s text u unit.0 x) (λ n x fs e. called_each u unit.0 x fs e) 0 functions.0 fs functions.2

  chosen_named : (us : List PsObj) (fs : List Named) (f : Named) → all_from (called_in s text) 0 us ≡ Ok fs → chosen_of fs ≡ Some f → HasName f
  chosen_named us fs f e c =
      let each = each_all HasName (called_in s text) called_in_each 0 us fs e in
      each_chosen HasName (filter is_outer fs) (filter is_inner fs) f (each_filter HasName is_outer fs each) (each_filter HasName is_inner fs each) c

  -- ---- the point

  abbrev with_name : Named → (line column at : ℕ) → List ℕ → List ℕ → Walked (Option PointRow)
  with_name f line column at file name = Ok (Some (record { file = file; function = name; line = line; column = column; at = at }))

  first_is : (f : Named) → HasName f → (xs : List PsObj) → first_named s f xs ≡ first_point s text f xs
  first_is f h [] = refl
  first_is f h (x ∷ xs) =
      same_behind (dict_in x) _ _ (λ p. same_behind (number_at s p (codes "line")) _ _ (λ line. same_behind (number_at s p (codes "column")) _ _ (λ column. same_behind (point_address s p) _ _ (λ at.
      same_behind (text_at s f.unit (codes "file")) (λ file. text_at s f.function (codes "name") >>= with_name f line column at file) (λ file. with_name f line column at file text)
      (λ file. ap (λ (w : Walked (List ℕ)). w >>= with_name f line column at file) h)))))

  abbrev gathered : List PsObj → Walked Choice
  gathered us = in_ok (with_all nothing_read) (all_from (called_in s text) 0 us)

  module _ (us : List PsObj) where
    abbrev by_all : Walked (List Named) → Walked (Option PointRow)
    by_all w = w >>= λ fs. point_of_named s text (chosen_of fs)

    pub point_fails : (l : Lack) → gathered us ≡ Err l → point_among s text us ≡ Err l
    point_fails l h = ap by_all (lacked (with_all nothing_read) (all_from (called_in s text) 0 us) l h)

    point_is : (c : Choice) (o : Option Named) → gathered us ≡ Ok c → chosen_by c ≡ o → (fs : List Named) × (all_from (called_in s text) 0 us ≡ Ok fs) × (chosen_of fs ≡ o) × (point_among s text us ≡ point_of_named s text o)
    point_is c o h e =
        let all = given (with_all nothing_read) (all_from (called_in s text) 0 us) c h in
        let is : chosen_of all.0 ≡ o = sym (choice_is all.0) ∙ ap chosen_by all.2 ∙ e in
        (all.0, all.1, is, ap by_all all.1 ∙ ap (point_of_named s text) is)

    pub point_none : (c : Choice) → gathered us ≡ Ok c → chosen_by c ≡ None → point_among s text us ≡ Ok None
    point_none c h e = (point_is c None h e).3

    pub point_some : (c : Choice) (f : Named) → gathered us ≡ Ok c → chosen_by c ≡ Some f → point_among s text us ≡ named_point s f
    point_some c f h e =
        let p = point_is c (Some f) h e in
        p.3 ∙ sym (same_behind (points_of s f.function) (first_named s f) (first_point s text f) (first_is f (chosen_named us p.0 f p.1 p.2)))
