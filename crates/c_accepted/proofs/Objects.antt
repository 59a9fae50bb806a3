-- Objects have complete types within the limits, and each stands in a file.
use Rattle.std.proofs.Common.{◌≡◌, ◌<◌, refl, sym, ap, ◌∙◌, subst, arith, zero, suc, true, false, true≢false, List, [], ◌∷◌, length}
use Rattle.std.specs.Prelude.{nat_le}
use Rattle.std.specs.List.{AllByRecursion}
use Rattle.c_tree.specs.declared.types.StructDef.{StructDef}
use Rattle.c_tree.specs.declared.rows.Program.{Program}
use Rattle.c_tree.specs.declared.rows.ObjectRow.{ObjectRow}
use Rattle.c_tree.specs.Layout.{leaves_of}
use Rattle.c_typing.specs.Plain.{Plain, Char, Int, Unsigned, Void, Pointer, Array, Struct, plain, is_complete}
use Rattle.c_typing.specs.Starts.{AreStarts, IsObject}
use Rattle.c_linkage.specs.Names.{FileName, Defining}
use Rattle.c_linkage.specs.FileNames.{AreConsistent}
use Rattle.c_linkage.specs.Telling.{is_unbounded}
use Rattle.c_file.specs.Files.{State}
use Rattle.c_file.specs.Made.{Each, IsObjectOf, object_type}
use Rattle.c_linkage.specs.Defined.{objects_from}
use Rattle.c_accepted.proofs.Completed.{AreSound}
use Rattle.c_accepted.proofs.Declarations.{IsWhole, IsWholeIn}
use Rattle.c_accepted.proofs.Growth.{both_parts}
use Rattle.c_accepted.proofs.Written.{IsNamed}
use Rattle.c_accepted.proofs.Structs.{declared_in}
use Rattle.c_accepted.proofs.Types.{IsDenotedIn}
use Rattle.c_accepted.proofs.Typed.{TypedIn}
use Rattle.c_accepted.proofs.Composite.{IsOf, object_type_is}
use Rattle.c_accepted.proofs.Differing.{all_at, IsAnObject, all_objects, unseen}

pub complete_bounded : (defs : List StructDef) (t : Plain) → is_complete defs t ≡ true → is_unbounded t ≡ false
complete_bounded defs (Array t zero) h = absurd (true≢false (sym (both_parts (nat_le 1 0) (is_complete defs t) h).0))
complete_bounded defs (Array t (suc n)) h = refl
complete_bounded defs Char h = refl
complete_bounded defs Int h = refl
complete_bounded defs Unsigned h = refl
complete_bounded defs Void h = refl
complete_bounded defs (Pointer t) h = refl
complete_bounded defs (Struct s) h = refl

-- what an object of the program is, but for what it holds at first
pub record IsPlaced (p : Program) (q : State) (d : Defining) : Type 0 where
  pub named : IsNamed p.defs (object_type q d)
  pub complete : is_complete p.defs (object_type q d) ≡ true
  pub unit : d.unit < q.here.unit

module _ (p : Program) (q : State) (consistent : AreConsistent q.names) (typed : TypedIn p.defs q) (before : AllByRecursion (λ (f : FileName). f.unit < q.here.unit) q.names) where
  one_placed : (d : Defining) → IsWhole p.defs q.names d → IsPlaced p q d
  one_placed d h =
      let t = h.ctype in
      let of : IsOf h.declaration.denoted t = subst (λ x. IsOf x t) (sym h.denotes) refl in
      let same = object_type_is q d h.number h.declaration t consistent (complete_bounded p.defs t h.complete) h.there h.name h.unit h.linkage of in
      let named : IsNamed p.defs t = subst (IsDenotedIn p.defs) h.denotes (all_at (λ (f : FileName). IsDenotedIn p.defs f.denoted) q.names h.number h.declaration typed.names h.there) in
      record {
        named = subst (IsNamed p.defs) (sym same) named;
        complete = ap (is_complete p.defs) same ∙ h.complete;
        unit = subst (λ u. u < q.here.unit) h.unit (all_at (λ (f : FileName). f.unit < q.here.unit) q.names h.number h.declaration before h.there);
      }

  both : (ds : List Defining) → AllByRecursion IsAnObject ds → AllByRecursion (IsWholeIn p.defs q.names) ds → AllByRecursion (IsPlaced p q) ds
  both [] h w = tt
  both (d ∷ ds) h w = (one_placed d (w.0 h.0), both ds h.1 w.1)

  pub objects_placed : (ds : List Defining) → AllByRecursion (IsWholeIn p.defs q.names) ds → AllByRecursion (IsPlaced p q) (objects_from [] ds)
  objects_placed ds w = both (objects_from [] ds) (unseen IsAnObject [] ds (λ e x y. x)) (all_objects (IsWholeIn p.defs q.names) [] ds w)

  -- what an object holds at first
  abbrev pub Starts : ObjectRow → Type 0
  Starts o = AreStarts p (leaves_of p.defs o.ctype) o.start

  pub objects_kept : AreSound p.defs → q.here.unit ≡ length p.units → (ds : List Defining) (os : List ObjectRow) → AllByRecursion (IsPlaced p q) ds → Each (IsObjectOf q) ds os → AllByRecursion Starts os → AllByRecursion (IsObject p) os
  objects_kept sound many [] [] h e s = tt
  objects_kept sound many (d ∷ ds) (o ∷ os) h e s =
      let same : plain o.ctype ≡ object_type q d = e.0.3 in
      let named = subst (IsNamed p.defs) (sym same) h.0.named in
      let complete : is_complete p.defs (plain o.ctype) ≡ true = ap (is_complete p.defs) same ∙ h.0.complete in
      let unit = h.0.unit in
      let file : o.unit < length p.units = (let x = e.0.1 in omega (arith, x, unit, many)) in
      ((declared_in p.defs sound o.ctype named.0 named.1 complete, s.0, file), objects_kept sound many ds os h.1 e.1 s.1)
  objects_kept sound many [] (o ∷ os) h e s = absurd e
  objects_kept sound many (d ∷ ds) [] h e s = absurd e
