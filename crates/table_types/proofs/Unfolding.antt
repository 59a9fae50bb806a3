-- Types one level down.
use Rattle.std.proofs.Common.{◌≡◌, refl, sym, ap, ◌∙◌, ℕ, zero, suc, ◌-◌, ◌<◌, Bool, List, Option, None, Result, Ok, Err, codes, arith}
use Rattle.ldb_words.specs.declared.kinds.Kind.{Kind}
use Rattle.ldb_words.specs.declared.kinds.Kind.TheVariants.{Byte, Word, Address}
use Rattle.ps_store.specs.declared.object.PsObj.{PsObj}
use Rattle.ps_store.specs.declared.object.DictId.{DictId}
use Rattle.ps_store.specs.StoreState.{StoreState}
use Rattle.ps_step.specs.Results.{◌>>=◌}
use Rattle.table_model.specs.declared.lack.Lack.{Lack}
use Rattle.table_model.specs.declared.lack.Lack.TheVariants.{TooDeep}
use Rattle.table_model.specs.declared.found.Found.{Found}
use Rattle.table_model.specs.Reading.{Walked, dict_at, items_at, number_at}
use Rattle.table_model.specs.Types.{TypeKind, IntKind, UnsignedKind, CharKind, PointerKind, ArrayKind, StructKind, type_kind, is_within, each_part}
use Rattle.table_read.specs.Reads.{in_ok}
use Rattle.table_types.specs.declared.kinds.TypeKind as code
use Rattle.table_types.specs.declared.kinds.TypeKind.TheVariants as code_kind
use Rattle.table_types.specs.Views.{kind_of}
use Rattle.table_types.specs.Offsets.{scalar_at, item_at, holder, member_at, leaf_within, kind_live, items_live, members_live, type_live}

-- the kind that was read
pub kind_is : (r : Result code.TypeKind Lack) (m : Walked TypeKind) (k : code.TypeKind) → in_ok kind_of r ≡ m → r ≡ Ok k → m ≡ Ok (kind_of k)
kind_is r m k e was = sym e ∙ ap (in_ok kind_of) was

-- what was read, seen in a way
pub seen_is : {A B : Type 0} (f : A → B) (r : Result A Lack) (m : Walked B) (x : A) → in_ok f r ≡ m → r ≡ Ok x → m ≡ Ok (f x)
seen_is f r m x e was = sym e ∙ ap (in_ok f) was

-- ---- how deep a type is

module _ (s : StoreState) (t : DictId) where
  abbrev beyond : ℕ → DictId → Walked TypeKind → Walked (Unit {0})
  beyond n to k = k >>= λ kind. elim kind [ StructKind ↦ Ok tt | _ ↦ is_within s n to ]

  abbrev depth_of : ℕ → Walked TypeKind → Walked (Unit {0})
  depth_of n k = k >>= λ kind. elim kind [
    | IntKind ↦ Ok tt
    | UnsignedKind ↦ Ok tt
    | CharKind ↦ Ok tt
    | PointerKind ↦ dict_at s t (codes "to") >>= λ to. beyond n to (type_kind s to)
    | ArrayKind ↦ dict_at s t (codes "to") >>= λ item. is_within s n item
    | StructKind ↦ items_at s t (codes "members") >>= each_part s (λ m. is_within s n m)
  ]

  pub within_none : (deep : ℕ) → deep ≡ 0 → is_within s deep t ≡ Err TooDeep
  within_none zero z = refl
  within_none (suc n) z = absurd (omega (arith, z))

  pub within_by : (deep : ℕ) (k : Walked TypeKind) → 0 < deep → type_kind s t ≡ k → is_within s deep t ≡ depth_of (deep - 1) k
  within_by zero k some e = absurd (omega (arith, some))
  within_by (suc n) k some e =
      let same : n ≡ suc n - 1 = omega arith in
      ap (depth_of n) e ∙ ap (λ m. depth_of m k) same

  beyond_not : (n : ℕ) (to : DictId) (k : code.TypeKind) → (k ≡ code_kind.Struct → ⊥) → beyond n to (Ok (kind_of k)) ≡ is_within s n to
  beyond_not n to code_kind.Int other = refl
  beyond_not n to code_kind.Unsigned other = refl
  beyond_not n to code_kind.Char other = refl
  beyond_not n to code_kind.Pointer other = refl
  beyond_not n to code_kind.Array other = refl
  beyond_not n to code_kind.Struct other = absurd (other refl)

  module _ (deep : ℕ) (some : 0 < deep) where
    pub within_beyond : (to : DictId) (k : code.TypeKind) → type_kind s t ≡ Ok PointerKind → dict_at s t (codes "to") ≡ Ok to → type_kind s to ≡ Ok (kind_of k) → (k ≡ code_kind.Struct → ⊥)
        → is_within s deep t ≡ is_within s (deep - 1) to
    within_beyond to k e d kind other =
        within_by deep (Ok PointerKind) some e ∙ (ap (λ (o : Walked DictId). o >>= λ to. beyond (deep - 1) to (type_kind s to)) d ∙ (ap (beyond (deep - 1) to) kind ∙ beyond_not (deep - 1) to k other))

    pub within_item : (item : DictId) → type_kind s t ≡ Ok ArrayKind → dict_at s t (codes "to") ≡ Ok item → is_within s deep t ≡ is_within s (deep - 1) item
    within_item item e d = within_by deep (Ok ArrayKind) some e ∙ ap (λ (o : Walked DictId). o >>= λ item. is_within s (deep - 1) item) d

    pub within_members : (xs : List PsObj) → type_kind s t ≡ Ok StructKind → items_at s t (codes "members") ≡ Ok xs → is_within s deep t ≡ each_part s (λ m. is_within s (deep - 1) m) xs
    within_members xs e d = within_by deep (Ok StructKind) some e ∙ ap (λ (o : Walked (List PsObj)). o >>= each_part s (λ m. is_within s (deep - 1) m)) d

-- ---- the leaf at an offset

module _ (s : StoreState) (t : DictId) (i : ℕ) where
  abbrev leaf_of : ℕ → Walked TypeKind → Walked (Option Kind)
  leaf_of n k = k >>= λ kind. elim kind [
    | IntKind ↦ Ok (scalar_at Word i)
    | UnsignedKind ↦ Ok (scalar_at Word i)
    | CharKind ↦ Ok (scalar_at Byte i)
    | PointerKind ↦ Ok (scalar_at Address i)
    | ArrayKind ↦ dict_at s t (codes "to") >>= λ item. number_at s item (codes "size") >>= λ size. number_at s t (codes "count") >>= λ count.
        item_at (λ j. leaf_within s n item j) size count i
    | StructKind ↦ items_at s t (codes "members") >>= λ xs. holder s i None xs >>= member_at (λ m j. leaf_within s n m j) i
  ]

  pub leaf_none : (deep : ℕ) → deep ≡ 0 → leaf_within s deep t i ≡ Err TooDeep
  leaf_none zero z = refl
  leaf_none (suc n) z = absurd (omega (arith, z))

  pub leaf_by : (deep : ℕ) (k : Walked TypeKind) → 0 < deep → type_kind s t ≡ k → leaf_within s deep t i ≡ leaf_of (deep - 1) k
  leaf_by zero k some e = absurd (omega (arith, some))
  leaf_by (suc n) k some e =
      let same : n ≡ suc n - 1 = omega arith in
      ap (leaf_of n) e ∙ ap (λ m. leaf_of m k) same

  module _ (deep : ℕ) (some : 0 < deep) where
    pub leaf_item : (item : DictId) (size count : ℕ) → type_kind s t ≡ Ok ArrayKind → dict_at s t (codes "to") ≡ Ok item → number_at s item (codes "size") ≡ Ok size → number_at s t (codes "count") ≡ Ok count
        → leaf_within s deep t i ≡ item_at (λ j. leaf_within s (deep - 1) item j) size count i
    leaf_item item size count e d f g =
        leaf_by deep (Ok ArrayKind) some e
        ∙ (ap (λ (o : Walked DictId). o >>= λ item. number_at s item (codes "size") >>= λ size. number_at s t (codes "count") >>= λ count. item_at (λ j. leaf_within s (deep - 1) item j) size count i) d
        ∙ (ap (λ (o : Walked ℕ). o >>= λ size. number_at s t (codes "count") >>= λ count. item_at (λ j. leaf_within s (deep - 1) item j) size count i) f
        ∙ ap (λ (o : Walked ℕ). o >>= λ count. item_at (λ j. leaf_within s (deep - 1) item j) size count i) g))

    pub leaf_member : (xs : List PsObj) (o : Walked (Option (ℕ × DictId))) → type_kind s t ≡ Ok StructKind → items_at s t (codes "members") ≡ Ok xs → holder s i None xs ≡ o
        → leaf_within s deep t i ≡ (o >>= member_at (λ m j. leaf_within s (deep - 1) m j) i)
    leaf_member xs o e d h =
        leaf_by deep (Ok StructKind) some e
        ∙ (ap (λ (o : Walked (List PsObj)). o >>= λ xs. holder s i None xs >>= member_at (λ m j. leaf_within s (deep - 1) m j) i) d
        ∙ ap (λ (o : Walked (Option (ℕ × DictId))). o >>= member_at (λ m j. leaf_within s (deep - 1) m j) i) h)

-- ---- leaves that are live

module _ (s : StoreState) (found : Option Found) (t : DictId) (i : ℕ) where
  abbrev live_of : ℕ → Walked TypeKind → Walked Bool
  live_of n k = k >>= λ kind. elim kind [
    | IntKind ↦ kind_live s found Word i
    | UnsignedKind ↦ kind_live s found Word i
    | CharKind ↦ kind_live s found Byte i
    | PointerKind ↦ kind_live s found Address i
    | ArrayKind ↦ dict_at s t (codes "to") >>= λ item. number_at s item (codes "size") >>= λ size. number_at s t (codes "count") >>= λ count.
        items_live (λ j. type_live s found n item j) count size i
    | StructKind ↦ items_at s t (codes "members") >>= members_live s (λ m j. type_live s found n m j) i
  ]

  pub live_none : (deep : ℕ) → deep ≡ 0 → type_live s found deep t i ≡ Err TooDeep
  live_none zero z = refl
  live_none (suc n) z = absurd (omega (arith, z))

  pub live_by : (deep : ℕ) (k : Walked TypeKind) → 0 < deep → type_kind s t ≡ k → type_live s found deep t i ≡ live_of (deep - 1) k
  live_by zero k some e = absurd (omega (arith, some))
  live_by (suc n) k some e =
      let same : n ≡ suc n - 1 = omega arith in
      ap (live_of n) e ∙ ap (λ m. live_of m k) same

  module _ (deep : ℕ) (some : 0 < deep) where
    pub live_items : (item : DictId) (size count : ℕ) → type_kind s t ≡ Ok ArrayKind → dict_at s t (codes "to") ≡ Ok item → number_at s item (codes "size") ≡ Ok size → number_at s t (codes "count") ≡ Ok count
        → type_live s found deep t i ≡ items_live (λ j. type_live s found (deep - 1) item j) count size i
    live_items item size count e d f g =
        live_by deep (Ok ArrayKind) some e
        ∙ (ap (λ (o : Walked DictId). o >>= λ item. number_at s item (codes "size") >>= λ size. number_at s t (codes "count") >>= λ count. items_live (λ j. type_live s found (deep - 1) item j) count size i) d
        ∙ (ap (λ (o : Walked ℕ). o >>= λ size. number_at s t (codes "count") >>= λ count. items_live (λ j. type_live s found (deep - 1) item j) count size i) f
        ∙ ap (λ (o : Walked ℕ). o >>= λ count. items_live (λ j. type_live s found (deep - 1) item j) count size i) g))

    pub live_members : (xs : List PsObj) → type_kind s t ≡ Ok StructKind → items_at s t (codes "members") ≡ Ok xs
        → type_live s found deep t i ≡ members_live s (λ m j. type_live s found (deep - 1) m j) i xs
    live_members xs e d = live_by deep (Ok StructKind) some e ∙ ap (λ (o : Walked (List PsObj)). o >>= members_live s (λ m j. type_live s found (deep - 1) m j) i) d
