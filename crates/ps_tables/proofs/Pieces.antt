-- Each piece of a text leaves its values.
use Rattle.std.proofs.Common.{◌≡◌, ℕ, ℤ, pos, suc, ◌+◌, ◌*◌, ◌<◌, ◌≤◌, true, false, Option, Some, None, Result, Ok, Err, List, [], ◌∷◌, ◌++◌, length, reverse, take, drop, slice_get, codes, refl, sym, ap, ◌∙◌, subst, arith, length-append, take_at, drop_at, append_assoc}
use Rattle.std.proofs.lemmas.List.{length-reverse}
use Rattle.ps_scan.specs.Bytes.{is_regular, is_white, is_special}
use Rattle.ps_store.specs.declared.object.Part.TheVariants.{Table}
use Rattle.ps_store.specs.declared.object.PsObj.{PsObj}
use Rattle.ps_store.specs.declared.object.PsObj.TheVariants.{Int, Name, Str, Array, Dict, Op, Mark}
use Rattle.ps_store.specs.declared.object.ArrayId.{ArrayId}
use Rattle.ps_store.specs.declared.object.DictId.{DictId}
use Rattle.ps_store.specs.declared.object.StringId.{StringId}
use Rattle.ps_store.specs.declared.object.Pair.{Pair}
use Rattle.ps_store.specs.declared.key.Key.{Key}
use Rattle.ps_store.specs.declared.key.Key.TheVariants.{Int as IntKey}
use Rattle.ps_store.specs.Operators.{operator_number}
use Rattle.ps_store.specs.StoreState.{StoreState}
use Rattle.ps_store.specs.Store.{Given, elements_of, entries_of, making_array, text_units}
use Rattle.ps_step.specs.declared.fault.PsError.{PsError}
use Rattle.ps_step.specs.declared.fault.PsError.TheVariants.{UnmatchedMark}
use Rattle.ps_step.specs.declared.item.Item.{Item}
use Rattle.ps_step.specs.declared.item.Item.TheVariants.{Text as TextItem}
use Rattle.ps_step.specs.declared.machine.PsCore.{PsCore}
use Rattle.ps_step.specs.Results.{◌>>=◌, stored, at as at_state}
use Rattle.ps_step.specs.State.{Made, pushing}
use Rattle.ps_step.specs.Values.{within}
use Rattle.ps_step.specs.Keys.{found_in, under as under_key}
use Rattle.ps_step.specs.Executing.{alone, acting}
use Rattle.ps_run.specs.Step.{Next, settled, step}
use Rattle.ps_text.specs.Code.{Code, Stop, Num, Word, Lit, Text, Proc, render}
use Rattle.ps_text.specs.Grown.{HasArray, IsArray, IsString}
use Rattle.ps_text.specs.Spells.{Spells, Fine, units}
use Rattle.ps_text.specs.Reading.{first}
use Rattle.ps_text.proofs.Checks.{fine}
use Rattle.ps_text.proofs.Growing.{MadeArray, array_made}
use Rattle.ps_terms.specs.Machine.{Does, entered}
use Rattle.ps_terms.specs.Stands.{Frames, bottom, core, Means}
use Rattle.ps_terms.specs.Printing.{further}
use Rattle.ps_terms.proofs.Sound.{push_next, Enters, enters}
use Rattle.ps_tables.specs.Taken.{Takes}
use Rattle.ps_tables.specs.Dictionaries.{Fields, AreFields, with_dict, next_dict}
use Rattle.ps_tables.specs.Making.{IsMaking, HasFields}
use Rattle.ps_tables.specs.Later.{Later, StandsAt}
use Rattle.ps_tables.specs.Makers.{Maker, body, making_steps, taken_by, most, calls, Ready, Leaves, MadeBy}
use Rattle.ps_tables.specs.Pieces.{Piece, End, Number, Literal, Chars, Quote, Value, Element, Make, Row, Loaded, Deferred, Field, Pairs, Typed, New, Entries, putting_steps, putting_cost, entry_values, fields_in, code, steps, left_by, cost, IsValue, Gives, itself, Knows, HasRoom, Values, Bottom, This, Named, Written, Quoted, Listed, Entry, Runs, Under, Paired, OfType, after, Show, Performs}
use Rattle.ps_tables.specs.Types.{Type', type_steps, type_cost}
use Rattle.ps_tables.proofs.Going.{takes_then, takes_one}
use Rattle.ps_tables.proofs.Putting.{entries_there}
use Rattle.ps_tables.proofs.Copies.{fields_length}
use Rattle.ps_tables.proofs.Words.{count_is}
use Rattle.ps_tables.proofs.Stores.{found_later, later_none, later_then, later_within, later_grown, later_made, making_later, fields_later, has_array_later, body_later, means_later, ready_later, stands_later, made_later, fields_are_later}
use Rattle.ps_tables.proofs.Makers.{only, short_made, most_made, leaves, body_frames}
use Rattle.ps_tables.proofs.Pairs.{ClosesPairs, closes_pairs}
use Rattle.ps_tables.proofs.Tokens.{head_is, gives_value, Met, meets, Stays, met_step, Pushed, Acted, word_acts, word_pushes, number_pushes}
use Rattle.ps_tables.proofs.PieceSteps.{pairs_fine, pairs_number, open_fine, open_number, steps_on, push_on, met_on, MakesEntry, makes_entry, Closes, closes, opens, Gets, gets, Loads, loads, Turns, turns}
use Rattle.ps_tables.proofs.TypeTexts.{TypeDone, type_done}
use Rattle.ps_tables.proofs.News.{MakesNew, makes_new}
use Rattle.ps_tables.proofs.Values.{only_pairs, fields_left, left_length, mark_shown, show_later, knows_later, room_now, room_behind}

module _ (ds : List DictId) (t : StringId) (under : List Item) (items_fit : length under + 100 ≤ 1000) (post : List ℕ) where
  abbrev Done : Piece → Code → Values → StoreState → List PsObj → List PsObj → ℕ → Type 0
  Done p k vs s xs o at = Performs (cost p) (steps p) (after p vs) s ds (xs ++ o) o t at (render k ++ post) under

  -- what is to be shown of a piece
  abbrev Performing : Piece → Type 0
  Performing p =
      (k : Code) (vs : Values) (s : StoreState) (xs o : List PsObj) (at : ℕ) → IsMaking s ds → Knows s ds p → HasRoom (length (xs ++ o)) p → s.table.units + s.command.units + cost p ≤ 8000000
      → Show s xs vs → StandsAt s t at (render (code p k) ++ post) → Done p k vs s xs o at

  end_performs : Performing End
  end_performs k vs s xs o at is knows room units_fit shows h =
      record { store = s; operands = xs; to = at; later = later_none s; shows = shows; stands = h; takes = refl }

  number_performs : (n : ℤ) (rest : Piece) → Performing rest → Performing (Number n rest)
  number_performs n rest of_rest k vs s xs o at is knows room units_fit shows h =
      let p : Pushed s ds (xs ++ o) t at under (Int n) 0 (render (code rest k) ++ post) =
      number_pushes s ds (xs ++ o) t at under n (code rest k) post knows.0 h (omega arith) (omega (arith, room_now rest (suc (length (xs ++ o))) room)) in
      let counted : p.store.table.units + p.store.command.units ≤ s.table.units + s.command.units + 0 = p.later.counted in
      push_on ds o t under (render k ++ post) 0 (cost rest) (cost rest) (steps rest) (after rest (This (Int n) vs)) s (xs ++ o) at (Int n) (render (code rest k) ++ post) (omega arith) p
      (of_rest k (This (Int n) vs) p.store (Int n ∷ xs) o p.to (making_later 0 s p.store p.later ds is) (knows_later 0 s p.store p.later ds is.there rest knows.1) room (omega arith)
      (xs, refl, tt, show_later 0 s p.store p.later vs xs shows) p.stands)

  literal_performs : (name : List ℕ) (rest : Piece) → Performing rest → Performing (Literal name rest)
  literal_performs name rest of_rest k vs s xs o at is knows room units_fit shows h =
      let u : ℕ = units (Lit name Stop) in
      let m : Met s ds (xs ++ o) t at under (Lit name (code rest k)) post = meets s ds (xs ++ o) t at under (Lit name (code rest k)) post tt knows.0 h (omega arith) in
      let sp = m.spells in
      let x : PsObj = Name sp.0 false in
      let counted : m.store.table.units + m.store.command.units ≤ s.table.units + s.command.units + u = m.later.counted in
      met_on ds o t under (render k ++ post) (Lit name (code rest k)) post (cost rest) (text_units name + cost rest) (steps rest) (after rest (Named name vs)) s (xs ++ o) at m x (omega arith) (head_is m.object x sp.1 sp.2) (omega (arith, room_now rest (suc (length (xs ++ o))) room)) (λ c. refl)
      (of_rest k (Named name vs) m.store (x ∷ xs) o m.to (making_later u s m.store m.later ds is) (knows_later u s m.store m.later ds is.there rest knows.1) room (omega arith)
      (sp.0, xs, refl, sp.3, show_later u s m.store m.later vs xs shows) m.stands)

  chars_performs : (text : List ℕ) (rest : Piece) → Performing rest → Performing (Chars text rest)
  chars_performs text rest of_rest k vs s xs o at is knows room units_fit shows h =
      let u : ℕ = units (Text text Stop) in
      let m : Met s ds (xs ++ o) t at under (Text text (code rest k)) post = meets s ds (xs ++ o) t at under (Text text (code rest k)) post tt knows.0 h (omega arith) in
      let sp = m.spells in
      let x : PsObj = Str sp.0 false in
      let counted : m.store.table.units + m.store.command.units ≤ s.table.units + s.command.units + u = m.later.counted in
      met_on ds o t under (render k ++ post) (Text text (code rest k)) post (cost rest) (text_units text + cost rest) (steps rest) (after rest (Written text vs)) s (xs ++ o) at m x (omega arith) (head_is m.object x sp.1 sp.2) (omega (arith, room_now rest (suc (length (xs ++ o))) room)) (λ c. refl)
      (of_rest k (Written text vs) m.store (x ∷ xs) o m.to (making_later u s m.store m.later ds is) (knows_later u s m.store m.later ds is.there rest knows.1) room (omega arith)
      (sp.0, xs, refl, sp.3, show_later u s m.store m.later vs xs shows) m.stands)

  quote_performs : (term : Code) (rest : Piece) → Performing rest → Performing (Quote term rest)
  quote_performs term rest of_rest k vs s xs o at is knows room units_fit shows h =
      let u : ℕ = units (Proc term Stop) in
      let m : Met s ds (xs ++ o) t at under (Proc term (code rest k)) post = meets s ds (xs ++ o) t at under (Proc term (code rest k)) post tt knows.0 h (omega arith) in
      let sp = m.spells in
      let x : PsObj = Array sp.0 true in
      let counted : m.store.table.units + m.store.command.units ≤ s.table.units + s.command.units + u = m.later.counted in
      let spells : Spells m.store (elements_of m.store sp.0) term = subst (λ (l : List PsObj). Spells m.store l term) (sym sp.4.items) sp.5 in
      met_on ds o t under (render k ++ post) (Proc term (code rest k)) post (cost rest) (u + cost rest) (steps rest) (after rest (Quoted term vs)) s (xs ++ o) at m x (omega arith) (head_is m.object x sp.2 sp.3) (omega (arith, room_now rest (suc (length (xs ++ o))) room)) (λ c. refl)
      (of_rest k (Quoted term vs) m.store (x ∷ xs) o m.to (making_later u s m.store m.later ds is) (knows_later u s m.store m.later ds is.there rest knows.1) room (omega arith)
      (sp.0, xs, refl, sp.4.has, spells, show_later u s m.store m.later vs xs shows) m.stands)

  value_performs : (word : List ℕ) (x : PsObj) (rest : Piece) → Performing rest → Performing (Value word x rest)
  value_performs word x rest of_rest k vs s xs o at is knows room units_fit shows h =
      let u : ℕ = units (Word word Stop) in
      let p : Pushed s ds (xs ++ o) t at under x u (render (code rest k) ++ post) =
      word_pushes s ds (xs ++ o) t at under word (code rest k) post knows.1 x knows.0 knows.2 knows.3 is.there h (omega arith) (omega (arith, room_now rest (suc (length (xs ++ o))) room)) in
      let counted : p.store.table.units + p.store.command.units ≤ s.table.units + s.command.units + u = p.later.counted in
      push_on ds o t under (render k ++ post) u (cost rest) (text_units word + cost rest) (steps rest) (after rest (This x vs)) s (xs ++ o) at x (render (code rest k) ++ post) (omega arith) p
      (of_rest k (This x vs) p.store (x ∷ xs) o p.to (making_later u s p.store p.later ds is) (knows_later u s p.store p.later ds is.there rest knows.4) room (omega arith)
      (xs, refl, gives_value knows.1 x knows.3, show_later u s p.store p.later vs xs shows) p.stands)

  element_performs : (word : List ℕ) (place : ℕ) (x : PsObj) (rest : Piece) → Performing rest → Performing (Element word place x rest)
  element_performs word place x rest of_rest k vs s xs o at is knows room units_fit shows h =
      let u : ℕ = units (Word word Stop) in
      let g : ℕ = units (Word (codes "get") Stop) in
      let fits : length (xs ++ o) + 1 + 110 ≤ 100000 = omega (arith, room_now rest (suc (length (xs ++ o))) room) in
      let array : PsObj = Array knows.2 false in
      let last : Code = Word (codes "get") (code rest k) in
      let p : Pushed s ds (xs ++ o) t at under array u (render (Num (pos place) last) ++ post) =
      word_pushes s ds (xs ++ o) t at under word (Num (pos place) last) post array array knows.0 knows.4 (itself array tt) is.there h (omega arith) (omega arith) in
      let s₁ : StoreState = p.store in
      let counted : s₁.table.units + s₁.command.units ≤ s.table.units + s.command.units + u = p.later.counted in
      let is₁ : IsMaking s₁ ds = making_later u s s₁ p.later ds is in
      let q : Pushed s₁ ds (array ∷ (xs ++ o)) t p.to under (Int (pos place)) 0 (render last ++ post) =
      number_pushes s₁ ds (array ∷ (xs ++ o)) t p.to under (pos place) last post knows.1 p.stands (omega arith) (omega arith) in
      let s₂ : StoreState = q.store in
      let counted₂ : s₂.table.units + s₂.command.units ≤ s₁.table.units + s₁.command.units + 0 = q.later.counted in
      let is₂ : IsMaking s₂ ds = making_later 0 s₁ s₂ q.later ds is₁ in
      let there : IsArray s₂ knows.2 knows.3 = q.later.arrays knows.2 knows.3 (p.later.arrays knows.2 knows.3 knows.5) in
      let w : Gets ds t under post s₂ (code rest k) x (xs ++ o) knows.2 place q.to = gets ds t under post s₂ (code rest k) x (xs ++ o) knows.3 knows.2 place q.to is₂ there knows.6 q.stands (omega arith) in
      let s₃ : StoreState = w.store in
      let counted₃ : s₃.table.units + s₃.command.units ≤ s₂.table.units + s₂.command.units + g = w.later.counted in
      let two : Later (u + 0) s s₂ = later_then u 0 s s₁ s₂ p.later q.later in
      let all : Later (u + 0 + g) s s₃ = later_then (u + 0) g s s₂ s₃ two w.later in
      let c₀ : PsCore = core s ds (xs ++ o) (TextItem t at ∷ under) in
      let c₁ : PsCore = core s₁ ds (array ∷ (xs ++ o)) (TextItem t p.to ∷ under) in
      let c₂ : PsCore = core s₂ ds (Int (pos place) ∷ array ∷ (xs ++ o)) (TextItem t q.to ∷ under) in
      let c₃ : PsCore = core s₃ ds (x ∷ (xs ++ o)) (TextItem t w.to ∷ under) in
      steps_on ds o t under (render k ++ post) (u + 0 + g) (cost rest) (cost (Element word place x rest)) 3 (steps rest) (after rest (This x vs)) s s₃ (xs ++ o) (x ∷ (xs ++ o)) at w.to (omega arith) all
      (takes_then 1 2 c₀ c₁ c₃ (takes_one c₀ c₁ p.steps) (takes_then 1 1 c₁ c₂ c₃ (takes_one c₁ c₂ q.steps) (takes_one c₂ c₃ w.steps)))
      (of_rest k (This x vs) s₃ (x ∷ xs) o w.to (making_later (u + 0 + g) s s₃ all ds is) (knows_later (u + 0 + g) s s₃ all ds is.there rest knows.8) room (omega arith)
      (xs, refl, knows.7, show_later (u + 0 + g) s s₃ all vs xs shows) w.stands)

  make_performs : (word : List ℕ) (m : Maker) (parts : Piece) (rest : Piece) → Performing parts → Performing rest → Performing (Make word m parts rest)
  make_performs word m parts rest of_parts of_rest k vs s xs o at is knows room units_fit shows h =
      let u : ℕ = units (Word word Stop) + (1 + most m) in
      let a : Performs (cost parts) (steps parts) (after parts Bottom) s ds (xs ++ o) (xs ++ o) t at (render (Word word (code rest k)) ++ post) under =
      of_parts (Word word (code rest k)) Bottom s [] (xs ++ o) at is knows.5 room.0 (omega arith) refl h in
      let s₁ : StoreState = a.store in
      let counted : s₁.table.units + s₁.command.units ≤ s.table.units + s.command.units + cost parts = a.later.counted in
      let is₁ : IsMaking s₁ ds = making_later (cost parts) s s₁ a.later ds is in
      let zs : List PsObj = a.operands in
      let long : length zs ≡ left_by parts = left_length s₁ parts zs a.shows in
      let whole : length (zs ++ (xs ++ o)) ≡ length zs + length (xs ++ o) = length-append zs (xs ++ o) in
      let fits : length (xs ++ o) + left_by parts + 110 ≤ 100000 = room_behind parts (length (xs ++ o)) room.0 in
      let same : length zs ≡ taken_by m = long ∙ knows.3 in
      let w : MakesEntry s₁ ds is₁ t under m (after parts Bottom) zs (xs ++ o) a.to (render (code rest k) ++ post) u =
      makes_entry s₁ ds is₁ t under word m (code rest k) post (after parts Bottom) zs (xs ++ o) a.to knows.0 (means_later (cost parts) s s₁ a.later ds word (body m) is.there knows.1)
      (ready_later (cost parts) s s₁ a.later ds is.there m knows.2) same knows.4 (omega arith) (omega arith) items_fit a.stands in
      let s₂ : StoreState = w.store in
      let counted₂ : s₂.table.units + s₂.command.units ≤ s₁.table.units + s₁.command.units + u = w.later.counted in
      let all : Later (cost parts + u) s s₂ = later_then (cost parts) u s s₁ s₂ a.later w.later in
      let p : Performs (cost rest) (steps rest) (after rest (Entry m (after parts Bottom) vs)) s₂ ds (Dict w.dict ∷ (xs ++ o)) o t w.to (render k ++ post) under =
      of_rest k (Entry m (after parts Bottom) vs) s₂ (Dict w.dict ∷ xs) o w.to (making_later (cost parts + u) s s₂ all ds is) (knows_later (cost parts + u) s s₂ all ds is.there rest knows.6) room.1 (omega arith)
      (w.dict, zs, xs, w.fields, refl, w.has, w.are, w.opened, show_later u s₁ s₂ w.later (after parts Bottom) zs a.shows, show_later (cost parts + u) s s₂ all vs xs shows) w.stands in
      steps_on ds o t under (render k ++ post) (cost parts) (u + cost rest) (cost (Make word m parts rest)) (steps parts) (suc (further (making_steps m) (steps rest))) (after rest (Entry m (after parts Bottom) vs)) s s₁
      (xs ++ o) (zs ++ (xs ++ o)) at a.to (omega arith) a.later a.takes
      (steps_on ds o t under (render k ++ post) u (cost rest) (u + cost rest) (suc (making_steps m)) (steps rest) (after rest (Entry m (after parts Bottom) vs)) s₁ s₂
      (zs ++ (xs ++ o)) (Dict w.dict ∷ (xs ++ o)) a.to w.to (omega arith) w.later w.takes p)

  row_performs : (items : Piece) (rest : Piece) → Performing items → Performing rest → Performing (Row items rest)
  row_performs items rest of_items of_rest k vs s xs o at is knows room units_fit shows h =
      let u : ℕ = units (Word (codes "[") Stop) in
      let v : ℕ = units (Word (codes "]") Stop) in
      let last : Code = Word (codes "]") (code rest k) in
      let begun : Pushed s ds (xs ++ o) t at under Mark u (render (code items last) ++ post) =
      opens ds t under post s (codes "[") 9 open_fine open_number (λ c. refl) (code items last) (xs ++ o) at is h (omega arith) (omega (arith, room_now rest (suc (length (xs ++ o))) room.1)) in
      let s₁ : StoreState = begun.store in
      let counted : s₁.table.units + s₁.command.units ≤ s.table.units + s.command.units + u = begun.later.counted in
      let is₁ : IsMaking s₁ ds = making_later u s s₁ begun.later ds is in
      let a : Performs (cost items) (steps items) (after items Bottom) s₁ ds (Mark ∷ (xs ++ o)) (Mark ∷ (xs ++ o)) t begun.to (render last ++ post) under =
      of_items last Bottom s₁ [] (Mark ∷ (xs ++ o)) begun.to is₁ (knows_later u s s₁ begun.later ds is.there items knows.1) room.0 (omega arith) refl begun.stands in
      let s₂ : StoreState = a.store in
      let counted₂ : s₂.table.units + s₂.command.units ≤ s₁.table.units + s₁.command.units + cost items = a.later.counted in
      let is₂ : IsMaking s₂ ds = making_later (cost items) s₁ s₂ a.later ds is₁ in
      let zs : List PsObj = a.operands in
      let long : length zs ≡ left_by items = left_length s₂ items zs a.shows in
      let w : Closes s₂ ds is₂ t under zs (xs ++ o) a.to (render (code rest k) ++ post) (v + (1 + length zs)) =
      closes s₂ ds is₂ t under (after items Bottom) (code rest k) post zs (xs ++ o) a.to a.shows (omega arith) (omega arith) a.stands in
      let s₃ : StoreState = w.store in
      let counted₃ : s₃.table.units + s₃.command.units ≤ s₂.table.units + s₂.command.units + (v + (1 + length zs)) = w.later.counted in
      let one : Later (u + cost items) s s₂ = later_then u (cost items) s s₁ s₂ begun.later a.later in
      let all : Later (u + cost items + (v + (1 + length zs))) s s₃ = later_then (u + cost items) (v + (1 + length zs)) s s₂ s₃ one w.later in
      let n : ℕ = u + cost items + (v + (1 + length zs)) in
      let p : Performs (cost rest) (steps rest) (after rest (Listed (after items Bottom) vs)) s₃ ds (Array w.array false ∷ (xs ++ o)) o t w.to (render k ++ post) under =
      of_rest k (Listed (after items Bottom) vs) s₃ (Array w.array false ∷ xs) o w.to (making_later n s s₃ all ds is) (knows_later n s s₃ all ds is.there rest knows.2) room.1 (omega arith)
      (w.array, zs, xs, refl, w.is_array, show_later (v + (1 + length zs)) s₂ s₃ w.later (after items Bottom) zs a.shows, show_later n s s₃ all vs xs shows) w.stands in
      let c₀ : PsCore = core s ds (xs ++ o) (TextItem t at ∷ under) in
      let c₁ : PsCore = core s₁ ds (Mark ∷ (xs ++ o)) (TextItem t begun.to ∷ under) in
      let c₂ : PsCore = core s₂ ds (zs ++ Mark ∷ (xs ++ o)) (TextItem t a.to ∷ under) in
      let c₃ : PsCore = core s₃ ds (Array w.array false ∷ (xs ++ o)) (TextItem t w.to ∷ under) in
      steps_on ds o t under (render k ++ post) u (cost items + (v + (1 + length zs) + cost rest)) (cost (Row items rest)) 1 (further (steps items) (suc (steps rest))) (after rest (Listed (after items Bottom) vs)) s s₁
      (xs ++ o) (Mark ∷ (xs ++ o)) at begun.to (omega arith) begun.later (takes_one c₀ c₁ begun.steps)
      (steps_on ds o t under (render k ++ post) (cost items) (v + (1 + length zs) + cost rest) (cost items + (v + (1 + length zs) + cost rest)) (steps items) (suc (steps rest)) (after rest (Listed (after items Bottom) vs)) s₁ s₂
      (Mark ∷ (xs ++ o)) (zs ++ Mark ∷ (xs ++ o)) begun.to a.to (omega arith) a.later a.takes
      (steps_on ds o t under (render k ++ post) (v + (1 + length zs)) (cost rest) (v + (1 + length zs) + cost rest) 1 (steps rest) (after rest (Listed (after items Bottom) vs)) s₂ s₃
      (zs ++ Mark ∷ (xs ++ o)) (Array w.array false ∷ (xs ++ o)) a.to w.to (omega arith) w.later (takes_one c₂ c₃ w.steps) p))

  loaded_performs : (key : ℤ) (x : PsObj) (rest : Piece) → Performing rest → Performing (Loaded key x rest)
  loaded_performs key x rest of_rest k vs s xs o at is knows room units_fit shows h =
      let u : ℕ = units (Word (codes "load") Stop) in
      let fits : length (xs ++ o) + 1 + 110 ≤ 100000 = omega (arith, room_now rest (suc (length (xs ++ o))) room) in
      let last : Code = Word (codes "load") (code rest k) in
      let p : Pushed s ds (xs ++ o) t at under (Int key) 0 (render last ++ post) = number_pushes s ds (xs ++ o) t at under key last post knows.0 h (omega arith) (omega arith) in
      let s₁ : StoreState = p.store in
      let counted : s₁.table.units + s₁.command.units ≤ s.table.units + s.command.units + 0 = p.later.counted in
      let w : Loads ds t under post s₁ (code rest k) x (xs ++ o) key p.to =
      loads ds t under post s₁ (code rest k) x (xs ++ o) key p.to (making_later 0 s s₁ p.later ds is) (found_later 0 s s₁ p.later ds (IntKey key) is.there ∙ knows.1) p.stands (omega arith) in
      let s₂ : StoreState = w.store in
      let counted₂ : s₂.table.units + s₂.command.units ≤ s₁.table.units + s₁.command.units + u = w.later.counted in
      let all : Later (0 + u) s s₂ = later_then 0 u s s₁ s₂ p.later w.later in
      let c₀ : PsCore = core s ds (xs ++ o) (TextItem t at ∷ under) in
      let c₁ : PsCore = core s₁ ds (Int key ∷ (xs ++ o)) (TextItem t p.to ∷ under) in
      let c₂ : PsCore = core s₂ ds (x ∷ (xs ++ o)) (TextItem t w.to ∷ under) in
      steps_on ds o t under (render k ++ post) (0 + u) (cost rest) (cost (Loaded key x rest)) 2 (steps rest) (after rest (This x vs)) s s₂ (xs ++ o) (x ∷ (xs ++ o)) at w.to (omega arith) all
      (takes_then 1 1 c₀ c₁ c₂ (takes_one c₀ c₁ p.steps) (takes_one c₁ c₂ w.steps))
      (of_rest k (This x vs) s₂ (x ∷ xs) o w.to (making_later (0 + u) s s₂ all ds is) (knows_later (0 + u) s s₂ all ds is.there rest knows.3) room (omega arith)
      (xs, refl, knows.2, show_later (0 + u) s s₂ all vs xs shows) w.stands)

  deferred_performs : (text : List ℕ) (rest : Piece) → Performing rest → Performing (Deferred text rest)
  deferred_performs text rest of_rest k vs s xs o at is knows room units_fit shows h =
      let u : ℕ = units (Text text Stop) in
      let v : ℕ = units (Word (codes "cvx") Stop) in
      let last : Code = Word (codes "cvx") (code rest k) in
      let m : Met s ds (xs ++ o) t at under (Text text last) post = meets s ds (xs ++ o) t at under (Text text last) post tt knows.0 h (omega arith) in
      let sp = m.spells in
      let x : PsObj = Str sp.0 false in
      let met : step (core s ds (xs ++ o) (TextItem t at ∷ under)) ≡ Next (core m.store ds (x ∷ (xs ++ o)) (TextItem t m.to ∷ under)) =
      met_step s ds (xs ++ o) t at under (Text text last) post m x (head_is m.object x sp.1 sp.2) (omega (arith, room_now rest (suc (length (xs ++ o))) room)) (λ c. refl) in
      let s₁ : StoreState = m.store in
      let counted : s₁.table.units + s₁.command.units ≤ s.table.units + s.command.units + u = m.later.counted in
      let w : Turns ds t under post s₁ (code rest k) (xs ++ o) sp.0 m.to = turns ds t under post s₁ (code rest k) (xs ++ o) sp.0 m.to (making_later u s s₁ m.later ds is) m.stands (omega arith) in
      let s₂ : StoreState = w.store in
      let counted₂ : s₂.table.units + s₂.command.units ≤ s₁.table.units + s₁.command.units + v = w.later.counted in
      let all : Later (u + v) s s₂ = later_then u v s s₁ s₂ m.later w.later in
      let c₀ : PsCore = core s ds (xs ++ o) (TextItem t at ∷ under) in
      let c₁ : PsCore = core s₁ ds (x ∷ (xs ++ o)) (TextItem t m.to ∷ under) in
      let c₂ : PsCore = core s₂ ds (Str sp.0 true ∷ (xs ++ o)) (TextItem t w.to ∷ under) in
      steps_on ds o t under (render k ++ post) (u + v) (cost rest) (cost (Deferred text rest)) 2 (steps rest) (after rest (Runs text vs)) s s₂ (xs ++ o) (Str sp.0 true ∷ (xs ++ o)) at w.to (omega arith) all
      (takes_then 1 1 c₀ c₁ c₂ (takes_one c₀ c₁ met) (takes_one c₁ c₂ w.steps))
      (of_rest k (Runs text vs) s₂ (Str sp.0 true ∷ xs) o w.to (making_later (u + v) s s₂ all ds is) (knows_later (u + v) s s₂ all ds is.there rest knows.1) room (omega arith)
      (sp.0, xs, refl, w.later.strings sp.0 text sp.3, show_later (u + v) s s₂ all vs xs shows) w.stands)

  field_performs : (name : List ℕ) (value : Piece) (rest : Piece) → Performing value → Performing rest → Performing (Field name value rest)
  field_performs name value rest of_value of_rest k vs s xs o at is knows room units_fit shows h =
      let u : ℕ = units (Lit name Stop) in
      let next : Code = code value (code rest k) in
      let m : Met s ds (xs ++ o) t at under (Lit name next) post = meets s ds (xs ++ o) t at under (Lit name next) post tt knows.0 h (omega arith) in
      let sp = m.spells in
      let x : PsObj = Name sp.0 false in
      let met : step (core s ds (xs ++ o) (TextItem t at ∷ under)) ≡ Next (core m.store ds (x ∷ (xs ++ o)) (TextItem t m.to ∷ under)) =
      met_step s ds (xs ++ o) t at under (Lit name next) post m x (head_is m.object x sp.1 sp.2) (omega (arith, room_now value (suc (length (xs ++ o))) room.0)) (λ c. refl) in
      let s₁ : StoreState = m.store in
      let counted : s₁.table.units + s₁.command.units ≤ s.table.units + s.command.units + u = m.later.counted in
      let is₁ : IsMaking s₁ ds = making_later u s s₁ m.later ds is in
      let a : Performs (cost value) (steps value) (after value Bottom) s₁ ds (x ∷ (xs ++ o)) (x ∷ (xs ++ o)) t m.to (render (code rest k) ++ post) under =
      of_value (code rest k) Bottom s₁ [] (x ∷ (xs ++ o)) m.to is₁ (knows_later u s s₁ m.later ds is.there value knows.2) room.0 (omega arith) refl m.stands in
      let s₂ : StoreState = a.store in
      let counted₂ : s₂.table.units + s₂.command.units ≤ s₁.table.units + s₁.command.units + cost value = a.later.counted in
      let one : (v : PsObj) × (a.operands ≡ v ∷ []) = only a.operands (left_length s₂ value a.operands a.shows ∙ knows.1) in
      let v : PsObj = one.0 in
      let all : Later (u + cost value) s s₂ = later_then u (cost value) s s₁ s₂ m.later a.later in
      let shown : Show s₂ (v ∷ []) (after value Bottom) = subst (λ (l : List PsObj). Show s₂ l (after value Bottom)) one.1 a.shows in
      let named : IsString s₂ sp.0 name = a.later.strings sp.0 name sp.3 in
      let c₀ : PsCore = core s ds (xs ++ o) (TextItem t at ∷ under) in
      let c₁ : PsCore = core s₁ ds (x ∷ (xs ++ o)) (TextItem t m.to ∷ under) in
      let c₂ : PsCore = core s₂ ds (v ∷ x ∷ (xs ++ o)) (TextItem t a.to ∷ under) in
      let takes : Takes (steps value) c₁ c₂ = subst (λ (l : List PsObj). Takes (steps value) c₁ (core s₂ ds (l ++ x ∷ (xs ++ o)) (TextItem t a.to ∷ under))) one.1 a.takes in
      steps_on ds o t under (render k ++ post) (u + cost value) (cost rest) (cost (Field name value rest)) (suc (steps value)) (steps rest) (after rest (Under name (after value Bottom) vs)) s s₂
      (xs ++ o) (v ∷ x ∷ (xs ++ o)) at a.to (omega arith) all (takes_then 1 (steps value) c₀ c₁ c₂ (takes_one c₀ c₁ met) takes)
      (of_rest k (Under name (after value Bottom) vs) s₂ (v ∷ x ∷ xs) o a.to (making_later (u + cost value) s s₂ all ds is) (knows_later (u + cost value) s s₂ all ds is.there rest knows.3) room.1 (omega arith)
      (v, sp.0, xs, refl, named, knows.0.1, shown, show_later (u + cost value) s s₂ all vs xs shows) a.stands)

  pairs_performs : (fields : Piece) (rest : Piece) → Performing fields → Performing rest → Performing (Pairs fields rest)
  pairs_performs fields rest of_fields of_rest k vs s xs o at is knows room units_fit shows h =
      let u : ℕ = units (Word (codes "<<") Stop) in
      let v : ℕ = units (Word (codes ">>") Stop) in
      let n : ℕ = fields_in fields in
      let last : Code = Word (codes ">>") (code rest k) in
      let begun : Pushed s ds (xs ++ o) t at under Mark u (render (code fields last) ++ post) =
      opens ds t under post s (codes "<<") 11 pairs_fine pairs_number (λ c. refl) (code fields last) (xs ++ o) at is h (omega arith) (omega (arith, room_now rest (suc (length (xs ++ o))) room.1)) in
      let s₁ : StoreState = begun.store in
      let counted : s₁.table.units + s₁.command.units ≤ s.table.units + s.command.units + u = begun.later.counted in
      let is₁ : IsMaking s₁ ds = making_later u s s₁ begun.later ds is in
      let items : Values = after fields Bottom in
      let a : Performs (cost fields) (steps fields) items s₁ ds (Mark ∷ (xs ++ o)) (Mark ∷ (xs ++ o)) t begun.to (render last ++ post) under =
      of_fields last Bottom s₁ [] (Mark ∷ (xs ++ o)) begun.to is₁ (knows_later u s s₁ begun.later ds is.there fields knows.2) room.0 (omega arith) refl begun.stands in
      let s₂ : StoreState = a.store in
      let counted₂ : s₂.table.units + s₂.command.units ≤ s₁.table.units + s₁.command.units + cost fields = a.later.counted in
      let is₂ : IsMaking s₂ ds = making_later (cost fields) s₁ s₂ a.later ds is₁ in
      let zs : List PsObj = a.operands in
      let long : length zs ≡ left_by fields = left_length s₂ fields zs a.shows in
      let double : left_by fields ≡ 2 * n = fields_left fields knows.0 in
      let w : ClosesPairs s₂ ds is₂ t under items zs (xs ++ o) a.to (render (code rest k) ++ post) (v + (1 + n)) =
      closes_pairs s₂ ds is₂ t under items (code rest k) post zs (xs ++ o) a.to n (only_pairs fields knows.0) a.shows (omega arith) (omega arith) (omega arith) a.stands
      (λ s' later. (making_later v s₂ s' later ds is₂, show_later v s₂ s' later items zs a.shows)) in
      let s₃ : StoreState = w.store in
      let counted₃ : s₃.table.units + s₃.command.units ≤ s₂.table.units + s₂.command.units + (v + (1 + n)) = w.later.counted in
      let one : Later (u + cost fields) s s₂ = later_then u (cost fields) s s₁ s₂ begun.later a.later in
      let all : Later (u + cost fields + (v + (1 + n))) s s₃ = later_then (u + cost fields) (v + (1 + n)) s s₂ s₃ one w.later in
      let j : ℕ = u + cost fields + (v + (1 + n)) in
      let p : Performs (cost rest) (steps rest) (after rest (Paired items vs)) s₃ ds (Dict w.dict ∷ (xs ++ o)) o t w.to (render k ++ post) under =
      of_rest k (Paired items vs) s₃ (Dict w.dict ∷ xs) o w.to (making_later j s s₃ all ds is) (knows_later j s s₃ all ds is.there rest knows.3) room.1 (omega arith)
      (w.dict, zs, xs, refl, w.has, show_later (v + (1 + n)) s₂ s₃ w.later items zs a.shows, show_later j s s₃ all vs xs shows) w.stands in
      let c₀ : PsCore = core s ds (xs ++ o) (TextItem t at ∷ under) in
      let c₁ : PsCore = core s₁ ds (Mark ∷ (xs ++ o)) (TextItem t begun.to ∷ under) in
      let c₂ : PsCore = core s₂ ds (zs ++ Mark ∷ (xs ++ o)) (TextItem t a.to ∷ under) in
      let c₃ : PsCore = core s₃ ds (Dict w.dict ∷ (xs ++ o)) (TextItem t w.to ∷ under) in
      steps_on ds o t under (render k ++ post) u (cost fields + (v + (1 + n) + cost rest)) (cost (Pairs fields rest)) 1 (further (steps fields) (suc (steps rest))) (after rest (Paired items vs)) s s₁
      (xs ++ o) (Mark ∷ (xs ++ o)) at begun.to (omega arith) begun.later (takes_one c₀ c₁ begun.steps)
      (steps_on ds o t under (render k ++ post) (cost fields) (v + (1 + n) + cost rest) (cost fields + (v + (1 + n) + cost rest)) (steps fields) (suc (steps rest)) (after rest (Paired items vs)) s₁ s₂
      (Mark ∷ (xs ++ o)) (zs ++ Mark ∷ (xs ++ o)) begun.to a.to (omega arith) a.later a.takes
      (steps_on ds o t under (render k ++ post) (v + (1 + n)) (cost rest) (v + (1 + n) + cost rest) 1 (steps rest) (after rest (Paired items vs)) s₂ s₃
      (zs ++ Mark ∷ (xs ++ o)) (Dict w.dict ∷ (xs ++ o)) a.to w.to (omega arith) w.later (takes_one c₂ c₃ w.steps) p))

  typed_performs : (t' : Type') (rest : Piece) → Performing rest → Performing (Typed t' rest)
  typed_performs t' rest of_rest k vs s xs o at is knows room units_fit shows h =
      let u : ℕ = type_cost t' in
      let p : TypeDone ds t under items_fit post t' (code rest k) s (xs ++ o) at =
      type_done ds t under items_fit post t' (code rest k) s (xs ++ o) at is knows.0 (omega (arith, room_now rest (suc (length (xs ++ o))) room)) (omega arith) h in
      let counted : p.store.table.units + p.store.command.units ≤ s.table.units + s.command.units + u = p.later.counted in
      steps_on ds o t under (render k ++ post) u (cost rest) (u + cost rest) (type_steps t') (steps rest) (after rest (OfType t' vs)) s p.store (xs ++ o) (p.object ∷ (xs ++ o)) at p.to (omega arith) p.later p.takes
      (of_rest k (OfType t' vs) p.store (p.object ∷ xs) o p.to (making_later u s p.store p.later ds is) (knows_later u s p.store p.later ds is.there rest knows.1) room (omega arith)
      (p.object, xs, refl, p.is, show_later u s p.store p.later vs xs shows) p.stands)

  new_performs : (room : ℕ) (entries : Entries) (rest : Piece) → Performing rest → Performing (New room entries rest)
  new_performs size entries rest of_rest k vs s xs o at is knows room units_fit shows h =
      let u : ℕ = text_units (codes "dict") + 1 + putting_cost entries in
      let fits : length (xs ++ o) + 120 ≤ 100000 = room.0 in
      let p : MakesNew ds t under post entries (code rest k) s (xs ++ o) size at = makes_new ds t under post entries (code rest k) s (xs ++ o) size at is knows.0 knows.1 knows.2 fits (omega arith) h in
      let counted : p.store.table.units + p.store.command.units ≤ s.table.units + s.command.units + u = p.later.counted in
      steps_on ds o t under (render k ++ post) u (cost rest) (cost (New size entries rest)) (further 2 (putting_steps entries)) (steps rest) (after rest (Paired (entry_values entries Bottom) vs)) s p.store
      (xs ++ o) (Dict p.dict ∷ (xs ++ o)) at p.to (omega arith) p.later p.takes
      (of_rest k (Paired (entry_values entries Bottom) vs) p.store (Dict p.dict ∷ xs) o p.to (making_later u s p.store p.later ds is) (knows_later u s p.store p.later ds is.there rest knows.3) room.1 (omega arith)
      (p.dict, p.values, xs, refl, p.has, p.shows, show_later u s p.store p.later vs xs shows) p.stands)

  pub performs : (p : Piece) → Performing p
  performs End = end_performs
  performs (Number n rest) = number_performs n rest (performs rest)
  performs (Literal name rest) = literal_performs name rest (performs rest)
  performs (Chars text rest) = chars_performs text rest (performs rest)
  performs (Quote term rest) = quote_performs term rest (performs rest)
  performs (Value word x rest) = value_performs word x rest (performs rest)
  performs (Element word place x rest) = element_performs word place x rest (performs rest)
  performs (Make word m parts rest) = make_performs word m parts rest (performs parts) (performs rest)
  performs (Row items rest) = row_performs items rest (performs items) (performs rest)
  performs (Loaded key x rest) = loaded_performs key x rest (performs rest)
  performs (Deferred text rest) = deferred_performs text rest (performs rest)
  performs (Field name value rest) = field_performs name value rest (performs value) (performs rest)
  performs (Pairs fields rest) = pairs_performs fields rest (performs fields) (performs rest)
  performs (Typed t' rest) = typed_performs t' rest (performs rest)
  performs (New room entries rest) = new_performs room entries rest (performs rest)
