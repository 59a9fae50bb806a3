-- What is known of types in a later store.
use Rattle.std.proofs.Common.{◌≡◌, ℕ, ℤ, pos, ◌+◌, ◌<◌, ◌≤◌, Some, List, [], ◌∷◌, codes, refl, sym, ap, ◌∙◌, subst, bytes_eq, if◌then◌else◌, Option, None}
use Rattle.ps_store.specs.declared.object.PsObj.{PsObj}
use Rattle.ps_store.specs.declared.object.DictId.{DictId}
use Rattle.ps_store.specs.declared.object.Pair.{Pair}
use Rattle.ps_store.specs.declared.key.Key.{Key}
use Rattle.ps_store.specs.declared.key.Key.TheVariants.{Name as NameKey}
use Rattle.ps_store.specs.Entries.{value_at}
use Rattle.ps_store.specs.StoreState.{StoreState}
use Rattle.ps_store.specs.Store.{entries_of}
use Rattle.ps_tables.specs.Dictionaries.{Fields, AreFields, none as no_fields, field}
use Rattle.ps_tables.specs.Making.{AreThere}
use Rattle.ps_tables.specs.Later.{Later}
use Rattle.ps_tables.specs.Makers.{body}
use Rattle.ps_tables.specs.TableWords.{pointer_to}
use Rattle.ps_tables.specs.Types.{Type', Basic, Nothing, To, Many, Numbered, IsSized, IsType, KnowsType, of_pointers, array_body}
use Rattle.ps_tables.proofs.Stores.{named_later, fields_later, means_later, ready_later}

-- the value of a name among fields
abbrev pub value_of : Fields → List ℕ → Option PsObj
value_of [] name = None
value_of (f ∷ fs) name = if bytes_eq name f.0 then Some f.1 else value_of fs name

pub fields_value : (s : StoreState) (es : List (Key × Pair)) (fs : Fields) (name : List ℕ) → AreFields s es fs → value_at es (NameKey name) ≡ value_of fs name
fields_value s _ _ name no_fields = refl
fields_value s _ _ name (field other t v es fs is r) = ap (λ (o : Option PsObj). if bytes_eq name other then Some v else o) (fields_value s es fs name r)

module _ (u : ℕ) (s s' : StoreState) (later : Later u s s') where
  pub sized_later : (x : PsObj) (n : ℕ) → IsSized s x n → IsSized s' x n
  sized_later x n h =
      let kept = later.dicts h.dict h.there in
      record { dict = h.dict; is = h.is; there = kept.0; has = ap (λ (es : List (Key × Pair)). value_at es (NameKey (codes "size"))) kept.1 ∙ h.has }

  pub type_later : (x : PsObj) (t : Type') → IsType s x t → IsType s' x t
  type_later x Nothing h = h
  type_later x (Basic word size) h = sized_later x size h
  type_later x (To t) h = sized_later x 4 h
  type_later x (Many t n) h = sized_later x _ h
  type_later x (Numbered n size) h = sized_later x size h

  pub knows_type_later : (ds : List DictId) → AreThere s ds → (t : Type') → KnowsType s ds t → KnowsType s' ds t
  knows_type_later ds there (Basic word size) h = (h.0, h.1, named_later u s s' later ds word there ∙ h.2, sized_later h.1 size h.3)
  knows_type_later ds there Nothing h = h
  knows_type_later ds there (To t) h =
      (knows_type_later ds there t h.0, h.1, h.2, h.3, means_later u s s' later ds (codes "PointerTo") (body (pointer_to h.1 (of_pointers h.2 h.3))) there h.4, ready_later u s s' later ds there (pointer_to h.1 (of_pointers h.2 h.3)) h.5)
  knows_type_later ds there (Many t n) h =
      (knows_type_later ds there t h.0, h.1, h.2, h.3, h.4, h.5, h.6, means_later u s s' later ds (codes "ArrayOf") array_body there h.7, named_later u s s' later ds (codes "ArrayType") there ∙ h.8, fields_later u s s' later h.4 _ h.9)
  knows_type_later ds there (Numbered n size) h =
      (h.0, h.1, h.2, h.3, named_later u s s' later ds (codes "structs") there ∙ h.4, later.arrays h.1 h.2 h.5, h.6, sized_later h.3 size h.7)
