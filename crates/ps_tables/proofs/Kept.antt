-- What is as it was where a dictionary was made or changed.
use Rattle.std.proofs.Common.{◌≡◌, ℕ, ◌<◌, Option, List, [], ◌∷◌, length, drop, slice_index_or, refl, sym, ap, ◌∙◌, subst}
use Rattle.std.specs.Prelude.{option_map}
use Rattle.std.proofs.lemmas.List.{get_or_append_left}
use Rattle.ps_store.specs.declared.object.Part.{Part}
use Rattle.ps_store.specs.declared.object.Part.TheVariants.{Table, Command}
use Rattle.ps_store.specs.declared.object.PsObj.{PsObj}
use Rattle.ps_store.specs.declared.object.PsObj.TheVariants.{Op}
use Rattle.ps_store.specs.declared.object.DictId.{DictId}
use Rattle.ps_store.specs.declared.object.StringId.{StringId}
use Rattle.ps_store.specs.declared.object.ArrayId.{ArrayId}
use Rattle.ps_store.specs.declared.object.Pair.{Pair}
use Rattle.ps_store.specs.declared.key.Key.{Key}
use Rattle.ps_store.specs.declared.key.Key.TheVariants.{Name as NameKey}
use Rattle.ps_store.specs.Entries.{value_at}
use Rattle.ps_store.specs.Operators.{operator_number}
use Rattle.ps_store.specs.StoreState.{StoreState}
use Rattle.ps_store.specs.Store.{held, bytes_of, elements_of, entries_of}
use Rattle.ps_step.specs.declared.item.Item.{Item}
use Rattle.ps_step.specs.Keys.{or_else, found_in, named}
use Rattle.ps_text.specs.Code.{Code, Stop, Num, Word, Lit, Text, Proc}
use Rattle.ps_text.specs.Grown.{IsString, IsArray}
use Rattle.ps_text.specs.Spells.{Spells}
use Rattle.ps_terms.specs.Stands.{Frames, bottom, frame}
use Rattle.ps_tables.specs.Dictionaries.{with_dict}
use Rattle.ps_tables.specs.Making.{AreThere}

-- stores with the same arrays and strings
pub record Same (s s' : StoreState) : Type 0 where
  pub arrays : (p : Part) → (held s' p).arrays ≡ (held s p).arrays
  pub strings : (p : Part) → (held s' p).strings ≡ (held s p).strings

pub same_back : (s s' : StoreState) → Same s s' → Same s' s
same_back s s' same = record { arrays = λ p. sym (same.arrays p); strings = λ p. sym (same.strings p) }

pub made_same : (s : StoreState) (es : List (Key × Pair)) → Same s (with_dict s es)
made_same s es = record { arrays = same_arrays; strings = same_strings }
  where
    same_arrays : (p : Part) → (held (with_dict s es) p).arrays ≡ (held s p).arrays
    same_arrays Table = refl
    same_arrays Command = refl

    same_strings : (p : Part) → (held (with_dict s es) p).strings ≡ (held s p).strings
    same_strings Table = refl
    same_strings Command = refl

pub changed_same : (s : StoreState) (es fs : List (Key × Pair)) → Same (with_dict s es) (with_dict s fs)
changed_same s es fs = record { arrays = same_arrays; strings = same_strings }
  where
    same_arrays : (p : Part) → (held (with_dict s fs) p).arrays ≡ (held (with_dict s es) p).arrays
    same_arrays Table = refl
    same_arrays Command = refl

    same_strings : (p : Part) → (held (with_dict s fs) p).strings ≡ (held (with_dict s es) p).strings
    same_strings Table = refl
    same_strings Command = refl

module _ (s s' : StoreState) (same : Same s s') where
  pub kept_bytes : (t : StringId) → bytes_of s' t ≡ bytes_of s t
  kept_bytes t = ap (λ (xs : List (List ℕ)). slice_index_or xs t.index []) (same.strings t.part)

  kept_elements : (a : ArrayId) → elements_of s' a ≡ elements_of s a
  kept_elements a = ap (λ (xs : List (List PsObj)). slice_index_or xs a.index []) (same.arrays a.part)

  pub kept_string : (t : StringId) (text : List ℕ) → IsString s t text → IsString s' t text
  kept_string t text is = record { has = subst (λ (xs : List (List ℕ)). t.index < length xs) (sym (same.strings t.part)) is.has; bytes = kept_bytes t ∙ is.bytes }

  pub kept_array : (a : ArrayId) (xs : List PsObj) → IsArray s a xs → IsArray s' a xs
  kept_array a xs is = record { has = subst (λ (xs : List (List PsObj)). a.index < length xs) (sym (same.arrays a.part)) is.has; items = kept_elements a ∙ is.items }

  kept_spells : (k : Code) (xs : List PsObj) → Spells s xs k → Spells s' xs k
  kept_spells Stop xs h = h
  kept_spells (Num n rest) xs h = (h.0, h.1, kept_spells rest h.0 h.2)
  kept_spells (Word name rest) xs h = (h.0, h.1, h.2, kept_string h.0 name h.3, kept_spells rest h.1 h.4)
  kept_spells (Lit name rest) xs h = (h.0, h.1, h.2, kept_string h.0 name h.3, kept_spells rest h.1 h.4)
  kept_spells (Text bytes rest) xs h = (h.0, h.1, h.2, kept_string h.0 bytes h.3, kept_spells rest h.1 h.4)
  kept_spells (Proc body rest) xs h = (h.0, h.1, h.2, h.3, kept_array h.0 h.1 h.4, kept_spells body h.1 h.5, kept_spells rest h.2 h.6)

  pub kept_frames : (under items : List Item) (ks : List Code) → Frames s under items ks → Frames s' under items ks
  kept_frames under _ _ bottom = bottom
  kept_frames under _ _ (frame a n items k ks has sp below) =
      frame a n items k ks (subst (λ (xs : List (List PsObj)). a.index < length xs) (sym (same.arrays a.part)) has) (subst (λ (xs : List PsObj). Spells s' (drop n xs) k) (sym (kept_elements a)) (kept_spells k (drop n (elements_of s a)) sp)) (kept_frames under items ks below)

-- ---- names

module _ (s : StoreState) (es : List (Key × Pair)) where
  pub dict_kept : (p : Part) (i : ℕ) → i < length (held s p).dicts → slice_index_or (held (with_dict s es) p).dicts i [] ≡ slice_index_or (held s p).dicts i []
  dict_kept Table i h = get_or_append_left s.table.dicts (es ∷ []) [] i h
  dict_kept Command i h = refl

  found_kept : (ds : List DictId) (key : Key) → AreThere s ds → found_in (with_dict s es) ds key ≡ found_in s ds key
  found_kept [] key h = refl
  found_kept (d ∷ ds) key h =
      ap (λ (xs : List (Key × Pair)). or_else (value_at xs key) (found_in (with_dict s es) ds key)) (dict_kept d.part d.index h.0)
      ∙ ap (or_else (value_at (entries_of s d) key)) (found_kept ds key h.1)

  pub named_kept : (ds : List DictId) (text : List ℕ) → AreThere s ds → named (with_dict s es) ds text ≡ named s ds text
  named_kept ds text h = ap (λ (o : Option PsObj). or_else o (option_map (λ n. Op n) (operator_number text))) (found_kept ds (NameKey text) h)
