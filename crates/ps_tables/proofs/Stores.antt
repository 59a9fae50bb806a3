-- What stays as it was in a later store.
use Rattle.std.proofs.Common.{◌≡◌, ℕ, ◌+◌, ◌<◌, ◌≤◌, Option, Some, List, [], ◌∷◌, ◌++◌, length, map, drop, slice_index_or, refl, sym, ap, ◌∙◌, subst, arith, length-append}
use Rattle.std.specs.Prelude.{option_map}
use Rattle.ps_store.specs.declared.object.Part.{Part}
use Rattle.ps_store.specs.declared.object.Part.TheVariants.{Table, Command}
use Rattle.ps_store.specs.declared.object.PsObj.{PsObj}
use Rattle.ps_store.specs.declared.object.PsObj.TheVariants.{Op}
use Rattle.ps_store.specs.declared.object.ArrayId.{ArrayId}
use Rattle.ps_store.specs.declared.object.DictId.{DictId}
use Rattle.ps_store.specs.declared.object.StringId.{StringId}
use Rattle.ps_store.specs.declared.object.Pair.{Pair}
use Rattle.ps_store.specs.declared.object.Mark.{Mark}
use Rattle.ps_store.specs.declared.key.Key.{Key}
use Rattle.ps_store.specs.declared.key.Key.TheVariants.{Name as NameKey}
use Rattle.ps_store.specs.Entries.{value_at}
use Rattle.ps_store.specs.Operators.{operator_number}
use Rattle.ps_store.specs.StoreState.{StoreState}
use Rattle.ps_store.specs.Store.{held, with_held, elements_of, entries_of}
use Rattle.ps_step.specs.Keys.{or_else, found_in, named}
use Rattle.ps_text.specs.Code.{Code, Stop, Num, Word, Lit, Text, Proc}
use Rattle.ps_text.specs.Grown.{more_held, Grown, HasArray, IsArray, IsString}
use Rattle.ps_text.specs.Spells.{Spells}
use Rattle.ps_text.proofs.Growing.{string_kept, array_kept, total_grown}
use Rattle.ps_terms.specs.Machine.{Does}
use Rattle.ps_terms.specs.Stands.{Means}
use Rattle.ps_tables.specs.Dictionaries.{Fields, AreFields, none as no_fields, field, with_dict}
use Rattle.ps_tables.specs.Making.{AreThere, IsMaking, HasFields}
use Rattle.ps_tables.specs.Later.{IsThere, IsOpen, Later, StandsAt}
use Rattle.ps_tables.specs.Makers.{Maker, Fresh, Begun, Twice, More, Told, body, Ready, MadeBy}
use Rattle.ps_tables.proofs.Kept.{Same, made_same, kept_string, kept_array, dict_kept}

-- ---- how a store comes of another one

pub later_none : (s : StoreState) → Later 0 s s
later_none s = record {
  strings = λ t text is. is;
  arrays = λ a xs is. is;
  dicts = λ d there. (there, refl);
  part = refl;
  closed = refl;
  base = refl;
  command = λ e. refl;
  more = omega arith;
  counted = omega arith;
}

pub later_then : (u v : ℕ) (s s₁ s₂ : StoreState) → Later u s s₁ → Later v s₁ s₂ → Later (u + v) s s₂
later_then u v s s₁ s₂ a b =
    let more₁ = a.more in
    let more₂ = b.more in
    let counted₁ = a.counted in
    let counted₂ = b.counted in
    record {
      strings = λ t text is. b.strings t text (a.strings t text is);
      arrays = λ x xs is. b.arrays x xs (a.arrays x xs is);
      dicts = λ d there. let one = a.dicts d there in let two = b.dicts d one.0 in (two.0, two.1 ∙ one.1);
      part = b.part ∙ a.part;
      closed = b.closed ∙ a.closed;
      base = b.base ∙ a.base;
      command = λ e. b.command (a.part ∙ e) ∙ a.command e;
      more = omega arith;
      counted = omega arith;
    }

pub later_within : (u v : ℕ) (s s' : StoreState) → u ≤ v → Later u s s' → Later v s s'
later_within u v s s' less a =
    let counted₁ = a.counted in
    record { strings = a.strings; arrays = a.arrays; dicts = a.dicts; part = a.part; closed = a.closed; base = a.base; command = a.command; more = a.more; counted = omega arith }

abbrev grown_in : StoreState → Part → List (List PsObj) → List (List ℕ) → ℕ → StoreState
grown_in s p arrays strings units = with_held s p (more_held (held s p) arrays strings units)

dicts_in : (s : StoreState) (p q : Part) (a : List (List PsObj)) (t : List (List ℕ)) (u : ℕ) → (held (grown_in s p a t u) q).dicts ≡ (held s q).dicts
dicts_in s Table Table a t u = refl
dicts_in s Table Command a t u = refl
dicts_in s Command Table a t u = refl
dicts_in s Command Command a t u = refl

part_in : (s : StoreState) (p : Part) (a : List (List PsObj)) (t : List (List ℕ)) (u : ℕ) → (grown_in s p a t u).part ≡ s.part
part_in s Table a t u = refl
part_in s Command a t u = refl

closed_in : (s : StoreState) (p : Part) (a : List (List PsObj)) (t : List (List ℕ)) (u : ℕ) → (grown_in s p a t u).closed ≡ s.closed
closed_in s Table a t u = refl
closed_in s Command a t u = refl

base_in : (s : StoreState) (p : Part) (a : List (List PsObj)) (t : List (List ℕ)) (u : ℕ) → (grown_in s p a t u).base ≡ s.base
base_in s Table a t u = refl
base_in s Command a t u = refl

command_in : (s : StoreState) (p : Part) (a : List (List PsObj)) (t : List (List ℕ)) (u : ℕ) → p ≡ Table → (grown_in s p a t u).command ≡ s.command
command_in s Table a t u e = refl
command_in s Command a t u e = absurd cc

pub later_grown : (u : ℕ) (s s' : StoreState) → Grown u s s' → Later u s s'
later_grown u s s' g =
    let all : s'.table.units + s'.command.units ≡ s.table.units + s.command.units + u = total_grown u s s' g in
    let same : (p : Part) → (held s' p).dicts ≡ (held s p).dicts = λ p. ap (λ (x : StoreState). (held x p).dicts) g.store ∙ dicts_in s s.part p g.arrays g.strings u in
    let table : length s'.table.dicts ≡ length s.table.dicts = ap length (same Table) in
    record {
      strings = λ t text is. string_kept u s s' t text g is;
      arrays = λ a xs is. array_kept u s s' a xs g is;
      dicts = λ d there. (subst (λ (xs : List (List (Key × Pair))). d.index < length xs) (sym (same d.part)) there, ap (λ (xs : List (List (Key × Pair))). slice_index_or xs d.index []) (same d.part));
      part = ap (λ (x : StoreState). x.part) g.store ∙ part_in s s.part g.arrays g.strings u;
      closed = ap (λ (x : StoreState). x.closed) g.store ∙ closed_in s s.part g.arrays g.strings u;
      base = ap (λ (x : StoreState). x.base) g.store ∙ base_in s s.part g.arrays g.strings u;
      command = λ e. ap (λ (x : StoreState). x.command) g.store ∙ command_in s s.part g.arrays g.strings u e;
      more = omega arith;
      counted = omega arith;
    }

pub later_made : (s : StoreState) (es : List (Key × Pair)) → s.part ≡ Table → Later (1 + length es) s (with_dict s es)
later_made s es table = record {
  strings = kept_string s (with_dict s es) (made_same s es);
  arrays = kept_array s (with_dict s es) (made_same s es);
  dicts = λ d there. (there_in d.part d.index there, dict_kept s es d.part d.index there);
  part = sym table;
  closed = refl;
  base = refl;
  command = λ e. refl;
  more = let len : length (s.table.dicts ++ es ∷ []) ≡ length s.table.dicts + 1 = length-append s.table.dicts (es ∷ []) in omega arith;
  counted = omega arith;
}
  where
    there_in : (p : Part) (i : ℕ) → i < length (held s p).dicts → i < length (held (with_dict s es) p).dicts
    there_in Table i h = let len : length (s.table.dicts ++ es ∷ []) ≡ length s.table.dicts + 1 = length-append s.table.dicts (es ∷ []) in omega arith
    there_in Command i h = h

-- ---- what is known of it

module _ (u : ℕ) (s s' : StoreState) (later : Later u s s') where
  all_there : (ds : List DictId) → AreThere s ds → AreThere s' ds
  all_there [] h = tt
  all_there (d ∷ ds) h = ((later.dicts d h.0).0, all_there ds h.1)

  pub found_later : (ds : List DictId) (key : Key) → AreThere s ds → found_in s' ds key ≡ found_in s ds key
  found_later [] key h = refl
  found_later (d ∷ ds) key h =
      ap (λ (xs : List (Key × Pair)). or_else (value_at xs key) (found_in s' ds key)) (later.dicts d h.0).1
      ∙ ap (or_else (value_at (entries_of s d) key)) (found_later ds key h.1)

  pub named_later : (ds : List DictId) (text : List ℕ) → AreThere s ds → named s' ds text ≡ named s ds text
  named_later ds text h = ap (λ (o : Option PsObj). or_else o (option_map (λ n. Op n) (operator_number text))) (found_later ds (NameKey text) h)

  pub making_later : (ds : List DictId) → IsMaking s ds → IsMaking s' ds
  making_later ds is =
      let closed : s.closed.dicts ≤ length s.table.dicts = is.closed in
      let more = later.more in
      let few : s.closed.dicts ≤ length s'.table.dicts = omega arith in
      record {
        part = later.part ∙ is.part;
        closed = subst (λ (m : Mark). m.dicts ≤ length s'.table.dicts) (sym later.closed) few;
        there = all_there ds is.there;
        operators = λ name n e. named_later ds name is.there ∙ is.operators name n e;
      }

  pub fields_are_later : (es : List (Key × Pair)) (fields : Fields) → AreFields s es fields → AreFields s' es fields
  fields_are_later _ _ no_fields = no_fields
  fields_are_later _ _ (field name t v es fs i r) = field name t v es fs (later.strings t name i) (fields_are_later es fs r)

  pub fields_later : (d : DictId) (fields : Fields) → HasFields s d fields → HasFields s' d fields
  fields_later d fields has =
      let kept = later.dicts d has.is_there in
      record {
        is_there = kept.0;
        are = subst (λ (es : List (Key × Pair)). AreFields s' es fields) (sym kept.1) (fields_are_later (entries_of s d) fields has.are);
        short = has.short;
      }

  pub has_array_later : (a : ArrayId) → HasArray s a → IsArray s' a (elements_of s a)
  has_array_later a has = later.arrays a (elements_of s a) (record { has = has; items = refl })

  pub spells_later : (k : Code) (xs : List PsObj) → Spells s xs k → Spells s' xs k
  spells_later Stop xs h = h
  spells_later (Num n rest) xs h = (h.0, h.1, spells_later rest h.0 h.2)
  spells_later (Word name rest) xs h = (h.0, h.1, h.2, later.strings h.0 name h.3, spells_later rest h.1 h.4)
  spells_later (Lit name rest) xs h = (h.0, h.1, h.2, later.strings h.0 name h.3, spells_later rest h.1 h.4)
  spells_later (Text bytes rest) xs h = (h.0, h.1, h.2, later.strings h.0 bytes h.3, spells_later rest h.1 h.4)
  spells_later (Proc body rest) xs h = (h.0, h.1, h.2, h.3, later.arrays h.0 h.1 h.4, spells_later body h.1 h.5, spells_later rest h.2 h.6)

  -- the term of a procedure that is there
  pub body_later : (k : Code) (a : ArrayId) → HasArray s a → Spells s (elements_of s a) k → Spells s' (elements_of s' a) k
  body_later k a has h = subst (λ (xs : List PsObj). Spells s' xs k) (sym (has_array_later a has).items) (spells_later k (elements_of s a) h)

  pub means_later : (ds : List DictId) (word : List ℕ) (k : Code) → AreThere s ds → Means s ds word (Does k) → Means s' ds word (Does k)
  means_later ds word k there m = (m.0, named_later ds word there ∙ m.1, (has_array_later m.0 m.2).has, body_later k m.0 m.2 m.3)

  pub ready_later : (ds : List DictId) → AreThere s ds → (m : Maker) → Ready s ds m → Ready s' ds m
  ready_later ds there (Fresh room keys) h = h
  ready_later ds there (Begun word dict fields room keys) h = (named_later ds word there ∙ h.0, fields_later dict fields h.1, h.2, h.3)
  ready_later ds there (Twice word dict fields room keys first second) h = (named_later ds word there ∙ h.0, fields_later dict fields h.1, h.2, h.3)
  ready_later ds there (More word m keys) h = (means_later ds word (body m) there h.0, ready_later ds there m h.1, h.2, h.3)
  ready_later ds there (Told word m key name) h = (means_later ds word (body m) there h.0, ready_later ds there m h.1, h.2, h.3)

  pub made_later : (m : Maker) (vs : List PsObj) (fields : Fields) → MadeBy s m vs fields → MadeBy s' m vs fields
  made_later (Fresh room keys) vs fields h = h
  made_later (Begun word dict begun room keys) vs fields h = h
  made_later (Twice word dict begun room keys first second) vs fields h = h
  made_later (More word m keys) vs fields h = (h.0, h.1, h.2, h.3, made_later m h.0 h.2 h.4, h.5, h.6)
  made_later (Told word m key name) vs fields h = (h.0, h.1, later.strings h.1 name h.2, made_later m vs h.0 h.3, h.4)

  pub open_later : (d : DictId) → IsOpen s d → IsOpen s' d
  open_later d h = (h.0, h.1, subst (λ (m : Mark). m.dicts ≤ h.0) (sym later.closed) h.2)

  pub stands_later : (t : StringId) (at : ℕ) (rest : List ℕ) → StandsAt s t at rest → StandsAt s' t at rest
  stands_later t at rest h = record { text = h.text; lead = h.lead; is_lead = h.is_lead; is = later.strings t h.text h.is; here = h.here; within = h.within }
