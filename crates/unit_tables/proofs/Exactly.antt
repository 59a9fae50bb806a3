-- Words that make a dictionary of so many pairs, and a copy of the topmost one.
use Rattle.std.proofs.Common.{◌≡◌, ℕ, suc, ◌+◌, ◌≤◌, true, List, [], ◌∷◌, ◌++◌, length, map, refl, sym, ap, ◌∙◌, subst, arith, length-append}
use Rattle.ps_store.specs.declared.object.PsObj.{PsObj}
use Rattle.ps_store.specs.declared.object.PsObj.TheVariants.{Array, Dict}
use Rattle.ps_store.specs.declared.object.DictId.{DictId}
use Rattle.ps_store.specs.declared.object.StringId.{StringId}
use Rattle.ps_store.specs.declared.object.Pair.{Pair}
use Rattle.ps_store.specs.declared.key.Key.{Key}
use Rattle.ps_store.specs.StoreState.{StoreState}
use Rattle.ps_store.specs.Store.{elements_of, entries_of}
use Rattle.ps_step.specs.declared.item.Item.{Item}
use Rattle.ps_step.specs.declared.item.Item.TheVariants.{Text as TextItem}
use Rattle.ps_step.specs.declared.machine.PsCore.{PsCore}
use Rattle.ps_step.specs.Results.{at as at_state}
use Rattle.ps_step.specs.State.{Made}
use Rattle.ps_step.specs.Executing.{alone}
use Rattle.ps_run.specs.Step.{Next, settled, step}
use Rattle.ps_text.specs.Code.{Code, Stop, Word, render}
use Rattle.ps_text.specs.Grown.{HasArray}
use Rattle.ps_text.specs.Spells.{Spells, Fine, units}
use Rattle.ps_terms.specs.Machine.{Does, entered}
use Rattle.ps_terms.specs.Stands.{bottom, core, Means}
use Rattle.ps_terms.specs.Printing.{further}
use Rattle.ps_terms.proofs.Sound.{Enters, enters}
use Rattle.ps_tables.specs.Taken.{Takes}
use Rattle.ps_tables.specs.Dictionaries.{Fields, AreFields, with_dict, next_dict, filled, joined}
use Rattle.ps_tables.specs.Making.{copying, taking_steps, IsMaking, HasFields, AreShort, Makes}
use Rattle.ps_tables.specs.Later.{Later, StandsAt}
use Rattle.ps_tables.specs.Makers.{Maker, body, making_steps, taken_by, most, calls, Ready, Leaves, MadeBy}
use Rattle.ps_tables.proofs.Going.{takes_then, takes_one}
use Rattle.ps_tables.proofs.Putting.{entries_there}
use Rattle.ps_tables.proofs.Copies.{fields_length, copies_all}
use Rattle.ps_tables.proofs.Stores.{later_then, later_within, later_made, making_later, fields_later, has_array_later, body_later, means_later, ready_later, stands_later, fields_are_later}
use Rattle.ps_tables.proofs.Makers.{short_made, leaves, body_frames}
use Rattle.ps_tables.proofs.Tokens.{Acted, word_acts}

module _ (s : StoreState) (ds : List DictId) (is : IsMaking s ds) (t : StringId) (under : List Item) where
  -- a dictionary takes the place of operands
  pub record MakesDict (steps : ℕ) (fields : Fields) (all o : List PsObj) (at : ℕ) (text : List ℕ) (cost : ℕ) : Type 0 where
    pub store : StoreState
    pub dict : DictId
    pub to : ℕ
    pub later : Later cost s store
    pub has : HasFields store dict fields
    pub stands : StandsAt store t to text
    pub takes : Takes steps (core s ds all (TextItem t at ∷ under)) (core store ds (Dict dict ∷ o) (TextItem t to ∷ under))

  made_dict : (u n : ℕ) (k : Code) (post : List ℕ) (steps : ℕ) (fields : Fields) (all o : List PsObj) (at : ℕ) (s₁ : StoreState) (to : ℕ) → IsMaking s₁ ds → Later u s s₁ → (after : List Item)
      → step (core s ds all (TextItem t at ∷ under)) ≡ Next (core s₁ ds all after) → StandsAt s₁ t to (render k ++ post) → Makes steps s₁ ds fields all after o (TextItem t to ∷ under)
      → length fields ≤ n → AreShort (map (λ f. f.0) fields) → MakesDict (suc steps) fields all o at (render k ++ post) (u + (1 + n))
  made_dict u n k post steps fields all o at s₁ to is₁ later after entering stands makes few short =
      let es : List (Key × Pair) = makes.entries in
      let s₂ : StoreState = with_dict s₁ es in
      let made : Later (1 + length es) s₁ s₂ = later_made s₁ es is₁.part in
      let size : length es ≡ length fields = fields_length s₁ es fields makes.are in
      let there : entries_of s₂ (next_dict s₁) ≡ es = entries_there s₁ is₁.closed es in
      let c₀ : PsCore = core s ds all (TextItem t at ∷ under) in
      let c₁ : PsCore = core s₁ ds all after in
      let c₂ : PsCore = core s₂ ds (Dict (next_dict s₁) ∷ o) (TextItem t to ∷ under) in
      record {
        store = s₂;
        dict = next_dict s₁;
        to = to;
        later = later_within (u + (1 + length es)) (u + (1 + n)) s s₂ (omega arith) (later_then u (1 + length es) s s₁ s₂ later made);
        has = record {
          is_there = let len : length (s₁.table.dicts ++ es ∷ []) ≡ length s₁.table.dicts + 1 = length-append s₁.table.dicts (es ∷ []) in omega arith;
          are = subst (λ (l : List (Key × Pair)). AreFields s₂ l fields) (sym there) (fields_are_later (1 + length es) s₁ s₂ made es fields makes.are);
          short = short;
        };
        stands = stands_later (1 + length es) s₁ s₂ made t to (render k ++ post) stands;
        takes = takes_then 1 steps c₀ c₁ c₂ (takes_one c₀ c₁ entering) makes.takes;
      }

  -- a word by a maker, where the fields are known
  pub makes_exactly : (word : List ℕ) (m : Maker) (k : Code) (post : List ℕ) (zs o : List PsObj) (at : ℕ) (n : ℕ) → Fine (Word word Stop) → Means s ds word (Does (body m)) → Ready s ds m
      → length zs ≡ taken_by m → calls m ≤ 80 → length (zs ++ o) + 110 ≤ 100000 → s.table.units + s.command.units + (units (Word word Stop) + (1 + most m)) ≤ 8000000
      → length under + 100 ≤ 1000 → StandsAt s t at (render (Word word k) ++ post) → ((s' : StoreState) (fields : Fields) → MadeBy s' m zs fields → length fields ≤ n)
      → (fields : Fields) × MakesDict (suc (making_steps m)) fields (zs ++ o) o at (render k ++ post) (units (Word word Stop) + (1 + n)) × ((s' : StoreState) × MadeBy s' m zs fields)
  makes_exactly word m k post zs o at n fine means ready same nested stack units_fit items_fit h few =
      let u : ℕ = units (Word word Stop) in
      let a : Acted s ds (zs ++ o) t at under (Array means.0 true) u (render k ++ post) =
      word_acts s ds (zs ++ o) t at under word k post (Array means.0 true) fine means.1 is.there h (omega arith) in
      let s₁ : StoreState = a.store in
      let is₁ : IsMaking s₁ ds = making_later u s s₁ a.later ds is in
      let means₁ : Means s₁ ds word (Does (body m)) = means_later u s s₁ a.later ds word (body m) is.there means in
      let has₁ : HasArray s₁ means.0 = (has_array_later u s s₁ a.later means.0 means.2).has in
      let spells₁ : Spells s₁ (elements_of s₁ means.0) (body m) = body_later u s s₁ a.later (body m) means.0 means.2 means.3 in
      let own : List Item = TextItem t a.to ∷ under in
      let e : Enters s₁ s₁ ds own own means.0 (entered (body m) []) = enters s₁ s₁ ds own own means.0 [] bottom (omega arith) has₁ refl (body m) spells₁ in
      let counted : s₁.table.units + s₁.command.units ≤ s.table.units + s.command.units + u = a.later.counted in
      let ready₁ : Ready s₁ ds m = ready_later u s s₁ a.later ds is.there m ready in
      let l : Leaves s₁ ds m zs o e.after own = leaves s₁ ds is₁ m zs o e.after own ready₁ same (omega arith) (omega arith) (omega arith) (body_frames s₁ m e.after own e.frames) in
      let entering : step (core s ds (zs ++ o) (TextItem t at ∷ under)) ≡ Next (core s₁ ds (zs ++ o) e.after) =
      a.steps ∙ ap (λ (r : Made). settled (alone (at_state (core s₁ ds (zs ++ o) own) r))) (e.calls (zs ++ o)) in (
        l.fields,
        made_dict u n k post (making_steps m) l.fields (zs ++ o) o at s₁ a.to is₁ a.later e.after entering a.stands l.makes (few s₁ l.fields l.are) (short_made s₁ ds m zs l.fields ready₁ l.are),
        (s₁, l.are),
      )

  -- a word that copies the topmost dictionary, and puts operands below it into the copy
  pub makes_copy : (word : List ℕ) (room : ℕ) (keys : List (List ℕ)) (gs : Fields) (b : DictId) (k : Code) (post : List ℕ) (vs o : List PsObj) (at : ℕ) (n : ℕ) → Fine (Word word Stop) → Means s ds word (Does (copying room keys Stop))
      → HasFields s b gs → AreShort keys → length vs ≡ length keys → length gs + length keys ≤ 90 → length (vs ++ o) + 110 ≤ 100000
      → s.table.units + s.command.units + (units (Word word Stop) + (1 + (length gs + length keys))) ≤ 8000000 → length under + 100 ≤ 1000 → StandsAt s t at (render (Word word k) ++ post)
      → length (filled (joined [] gs) keys vs) ≤ n → AreShort (map (λ f. f.0) (filled (joined [] gs) keys vs))
      → MakesDict (suc (further 3 (taking_steps keys 0))) (filled (joined [] gs) keys vs) (Dict b ∷ (vs ++ o)) o at (render k ++ post) (units (Word word Stop) + (1 + n))
  makes_copy word room keys gs b k post vs o at n fine means has short same small stack units_fit items_fit h few short_all =
      let u : ℕ = units (Word word Stop) in
      let all : List PsObj = Dict b ∷ (vs ++ o) in
      let fields : Fields = filled (joined [] gs) keys vs in
      let a : Acted s ds all t at under (Array means.0 true) u (render k ++ post) =
      word_acts s ds all t at under word k post (Array means.0 true) fine means.1 is.there h (omega arith) in
      let s₁ : StoreState = a.store in
      let is₁ : IsMaking s₁ ds = making_later u s s₁ a.later ds is in
      let has₁ : HasArray s₁ means.0 = (has_array_later u s s₁ a.later means.0 means.2).has in
      let spells₁ : Spells s₁ (elements_of s₁ means.0) (copying room keys Stop) = body_later u s s₁ a.later (copying room keys Stop) means.0 means.2 means.3 in
      let own : List Item = TextItem t a.to ∷ under in
      let e : Enters s₁ s₁ ds own own means.0 (entered (copying room keys Stop) []) = enters s₁ s₁ ds own own means.0 [] bottom (omega arith) has₁ refl (copying room keys Stop) spells₁ in
      let counted : s₁.table.units + s₁.command.units ≤ s.table.units + s.command.units + u = a.later.counted in
      let m : Makes (further 3 (taking_steps keys 0)) s₁ ds fields all e.after o own =
      copies_all s₁ ds is₁ room gs keys vs b o e.after own (fields_later u s s₁ a.later b gs has) short same small (record { units = omega arith; operands = omega arith; items = omega arith }) e.frames in
      let entering : step (core s ds all (TextItem t at ∷ under)) ≡ Next (core s₁ ds all e.after) =
      a.steps ∙ ap (λ (r : Made). settled (alone (at_state (core s₁ ds all own) r))) (e.calls all) in
      made_dict u n k post (further 3 (taking_steps keys 0)) fields all o at s₁ a.to is₁ a.later e.after entering a.stands m few short_all
