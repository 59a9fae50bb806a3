-- A declared object of a program has a row with the type that its declarations tell.
use Rattle.std.proofs.Common.{◌≡◌, refl, sym, ap, ◌∙◌, subst, arith, ℕ, zero, suc, ◌+◌, Bool, true, false, not, ◌&&◌, ◌||◌, true≢false, List, [], ◌∷◌, Some, None, bytes_eq, codes, if◌then◌else◌}
use Rattle.std.specs.Prelude.{slice_get}
use Rattle.std.specs.List.{AllByRecursion}
use Rattle.c_tree.specs.declared.rows.Program.{Program}
use Rattle.c_tree.specs.declared.rows.ObjectRow.{ObjectRow}
use Rattle.c_typing.specs.Plain.{Plain, Int, Void, plain}
use Rattle.c_typing.specs.Declarations.{built_in}
use Rattle.c_typing.specs.Expressions as typing
use Rattle.c_typing.specs.Expressions.{Denoted}
use Rattle.c_linkage.specs.Names.{FileName, Defining, agree_as, is_same, is_built_in, as_built_in, defines}
use Rattle.c_linkage.specs.Telling.{is_unbounded}
use Rattle.c_file.specs.Files.{State}
use Rattle.c_file.specs.Programs.{uncalled}
use Rattle.c_file.specs.Made.{Each, IsObjectOf, object_number, or_zero}
use Rattle.c_linkage.specs.Defined.{objects_from, number_from}
use Rattle.c_accepted.proofs.Declarations.{AreDeclared, KeepsNames, IsWhole, IsWholeIn}
use Rattle.c_accepted.proofs.Sought.{AreSought, IsSoughtIn}
use Rattle.c_accepted.proofs.Composite.{IsOf, IsToldOf, object_type_is, all_told, is_same_turned}
use Rattle.c_accepted.proofs.Differing.{all_at, IsAnObject, all_objects, unseen}
use Rattle.c_accepted.proofs.Objects.{complete_bounded}
use Rattle.c_accepted.proofs.Wanted.{static_as, object_defined}
use Rattle.c_accepted.proofs.Found.{object_found, said, same_entity}

pub each_at : {A B : Type 0} (P : A → B → Type 0) (xs : List A) (ys : List B) (n : ℕ) (x : A) → Each P xs ys → slice_get xs n ≡ Some x → (y : B) × (slice_get ys n ≡ Some y) × P x y
each_at P [] ys n x h e = absurd (let q : None ≡ Some x = e in cc)
each_at P (z ∷ xs) (y ∷ ys) zero x h e = let q : Some z ≡ Some x = e in let k : z ≡ x = cc in (y, refl, subst (λ w. P w y) k h.0)
each_at P (z ∷ xs) (y ∷ ys) (suc n) x h e = each_at P xs ys n x h.1 e
each_at P (z ∷ xs) [] n x h e = absurd h

-- an object's name is no built-in's
no_built_in : (s : Bool) (name : List ℕ) (t : Plain) (r : Bool) → (not (is_built_in name) || (not s && agree_as (typing.Object t r) (built_in name))) ≡ true → is_built_in name ≡ false
no_built_in s name t r h = by (bytes_eq name (codes "getchar")) (bytes_eq name (codes "putchar")) (bytes_eq name (codes "exit")) h
  where
    none : (s : Bool) → (not s && false) ≡ true → ⊥
    none true h = true≢false (sym h)
    none false h = true≢false (sym h)

    by : (a b c : Bool)
        → (not (elim (if a then typing.Function Int [] else (if b then typing.Function Int (Int ∷ []) else (if c then typing.Function Void (Int ∷ []) else typing.Hidden))) as (λ _. Bool) [ typing.Object t r ↦ true | typing.Function r ps ↦ true | typing.Hidden ↦ false ])
        || (not s && agree_as (typing.Object t r) (if a then typing.Function Int [] else (if b then typing.Function Int (Int ∷ []) else (if c then typing.Function Void (Int ∷ []) else typing.Hidden))))) ≡ true
        → elim (if a then typing.Function Int [] else (if b then typing.Function Int (Int ∷ []) else (if c then typing.Function Void (Int ∷ []) else typing.Hidden))) as (λ _. Bool) [ typing.Object t r ↦ true | typing.Function r ps ↦ true | typing.Hidden ↦ false ] ≡ false
    by true b c h = absurd (none s h)
    by false true c h = absurd (none s h)
    by false false true h = absurd (none s h)
    by false false false h = refl

-- a declaration of the object of a row that tells its type whole
pub record IsToldWhole (q : State) (f : FileName) (row : ObjectRow) : Type 0 where
  pub declaration : FileName
  pub number : ℕ
  pub there : slice_get q.names number ≡ Some declaration
  pub denotes : IsOf declaration.denoted (plain row.ctype)
  pub bounded : is_unbounded (plain row.ctype) ≡ false
  pub same : is_same f declaration ≡ true

-- the row of a declared object
pub record HasRow (p : Program) (q : State) (f : FileName) : Type 0 where
  pub row : ObjectRow
  pub there : slice_get p.objects (or_zero q (object_number q f.unit f.name)) ≡ Some row
  pub whole : IsToldWhole q f row
  pub tells : IsToldOf f.denoted (plain row.ctype)

module _ (p : Program) (q : State) (declared : AreDeclared q) (sought : AreSought q) (called : uncalled q q.calls ≡ None) (wholes : AllByRecursion (IsWholeIn p.defs q.names) q.definitions) (rows : Each (IsObjectOf q) (objects_from [] q.definitions) p.objects) where
  with_whole : (f : FileName) (d : Defining) (o : ObjectRow) → defines f.unit f.is_static f.name d ≡ true → IsWhole p.defs q.names d → IsObjectOf q d o → IsToldWhole q f o
  with_whole f d o h w i =
      let is = said f.unit f.is_static f.name d h in
      let g = w.declaration in
      let of : IsOf g.denoted w.ctype = subst (λ x. IsOf x w.ctype) (sym w.denotes) refl in
      let bound = complete_bounded p.defs w.ctype w.complete in
      let type = object_type_is q d w.number g w.ctype declared.consistent bound w.there w.name w.unit w.linkage of in
      let same = same_entity q.names declared.consistent q.definitions declared.defined f g f.is_static refl (w.name ∙ is.0) (λ s. w.unit ∙ (is.1 s).1) (λ s. w.linkage ∙ is.2 s) in
      let is_type : plain o.ctype ≡ w.ctype = i.3 ∙ type in
      record { declaration = g; number = w.number; there = w.there; denotes = subst (IsOf g.denoted) (sym is_type) of; bounded = ap is_unbounded is_type ∙ bound; same = same }

  pub has_row : (n : ℕ) (f : FileName) (t : Plain) (r : Bool) → slice_get q.names n ≡ Some f → f.denoted ≡ typing.Object t r → HasRow p q f
  has_row n f t r e o =
      let rule : as_built_in f ≡ true = (all_at KeepsNames q.names n f declared.rules e).0 in
      let plain_name : is_built_in f.name ≡ false = no_built_in f.is_static f.name t r (subst (λ d. (not (is_built_in f.name) || (not f.is_static && agree_as d (built_in f.name))) ≡ true) o rule) in
      let defined = object_defined q n f t r declared.consistent called plain_name e o (all_at (IsSoughtIn q.definitions q.calls) q.names n f sought e) in
      let m = object_found q.names declared.consistent q.definitions declared.defined n f t r e o defined in
      let number : object_number q f.unit f.name ≡ Some (0 + m.place) = ap (λ s. number_from 0 (objects_from [] q.definitions) f.unit s f.name) (static_as q.names n f declared.consistent e) ∙ m.number in
      let (row, there, is) = each_at (IsObjectOf q) (objects_from [] q.definitions) p.objects m.place m.definition rows m.there in
      let objects : AllByRecursion IsAnObject (objects_from [] q.definitions) = unseen IsAnObject [] q.definitions (λ x y z. y) in
      let all : AllByRecursion (IsWholeIn p.defs q.names) (objects_from [] q.definitions) = all_objects (IsWholeIn p.defs q.names) [] q.definitions wholes in
      let whole = all_at (IsWholeIn p.defs q.names) (objects_from [] q.definitions) m.place m.definition all m.there (all_at IsAnObject (objects_from [] q.definitions) m.place m.definition objects m.there) in
      let place : or_zero q (object_number q f.unit f.name) ≡ m.place = ap (or_zero q) number ∙ (let z : 0 + m.place ≡ m.place = omega arith in z) in
      let w = with_whole f m.definition row m.defining whole is in
      let tells = all_told q.names n w.number w.declaration f (plain row.ctype) w.bounded declared.consistent w.there w.denotes e (is_same_turned f w.declaration w.same) in
      record { row = row; there = ap (slice_get p.objects) place ∙ there; whole = w; tells = tells }
