-- `def` in a text.
use Rattle.std.proofs.Common.{◌≡◌, ℕ, suc, ◌+◌, ◌<◌, ◌≤◌, false, Some, Result, Ok, Err, List, [], ◌∷◌, ◌++◌, length, codes, refl, sym, ap, ◌∙◌, subst, arith}
use Rattle.ps_scan.specs.Bytes.{is_regular, is_white, is_special}
use Rattle.ps_store.specs.declared.object.Part.TheVariants.{Table}
use Rattle.ps_store.specs.declared.object.Mark.{Mark}
use Rattle.ps_store.specs.declared.object.Pair.{Pair}
use Rattle.ps_store.specs.declared.key.Key.{Key}
use Rattle.ps_store.specs.declared.object.PsObj.{PsObj}
use Rattle.ps_store.specs.declared.object.PsObj.TheVariants.{Name, Op}
use Rattle.ps_store.specs.declared.object.DictId.{DictId}
use Rattle.ps_store.specs.declared.object.StringId.{StringId}
use Rattle.ps_store.specs.Operators.{operator_number}
use Rattle.ps_store.specs.StoreState.{StoreState}
use Rattle.ps_store.specs.Store.{entries_of}
use Rattle.ps_step.specs.declared.fault.PsError.{PsError}
use Rattle.ps_step.specs.declared.item.Item.{Item}
use Rattle.ps_step.specs.declared.item.Item.TheVariants.{Text as TextItem}
use Rattle.ps_step.specs.declared.machine.PsCore.{PsCore}
use Rattle.ps_step.specs.Results.{◌>>=◌, at as at_state}
use Rattle.ps_step.specs.Executing.{alone, acting}
use Rattle.ps_run.specs.Step.{Next, settled, step}
use Rattle.ps_text.specs.Code.{Code, Stop, Word, Lit, render}
use Rattle.ps_text.specs.Grown.{IsString}
use Rattle.ps_text.specs.Spells.{Fine, units}
use Rattle.ps_text.proofs.Checks.{fine}
use Rattle.ps_terms.specs.Stands.{core}
use Rattle.ps_terms.specs.Printing.{further}
use Rattle.ps_tables.specs.Making.{IsMaking}
use Rattle.ps_tables.specs.Later.{IsThere, Later, StandsAt}
use Rattle.ps_tables.specs.Pieces.{Piece, End, Field, code, cost, steps, left_by, Knows, HasRoom, Values, Bottom, Under, after, Show, Performs}
use Rattle.ps_tables.specs.Defined.{Puts, Defines}
use Rattle.ps_tables.proofs.Going.{takes_then, takes_one}
use Rattle.ps_tables.proofs.Stores.{later_then, making_later}
use Rattle.ps_tables.proofs.Tokens.{Acted, word_acts}
use Rattle.ps_tables.proofs.Values.{show_later}
use Rattle.ps_tables.proofs.Pieces.{performs}
use Rattle.ps_tables.proofs.Defining.{put_store, puts, put_defined}

def_fine : Fine (Word (codes "def") Stop)
unfolding is_white is_special is_regular
def_fine = fine (Word (codes "def") Stop) refl

def_number : operator_number (codes "def") ≡ Some 28
unfolding operator_number
def_number = refl

module _ (i : ℕ) (ds : List DictId) (t : StringId) (under : List Item) (items_fit : length under + 100 ≤ 1000) (post : List ℕ) where
  abbrev D : DictId
  D = record { part = Table; index = i }

  abbrev all : List DictId
  all = D ∷ ds

  pub defines : (name : List ℕ) (value : Piece) (k : Code) (s : StoreState) (o : List PsObj) (at : ℕ) → IsMaking s all → s.closed.dicts ≤ i → length (entries_of s D) < 1000000 → Fine (Lit name Stop) → left_by value ≡ 1
      → Knows s all value → HasRoom (suc (length o)) value → length o + 112 ≤ 100000 → s.table.units + s.command.units + (cost (Field name value End) + units (Word (codes "def") Stop) + 1) ≤ 8000000
      → StandsAt s t at (render (Lit name (code value (Word (codes "def") k))) ++ post)
      → Defines (cost (Field name value End) + units (Word (codes "def") Stop)) (further (steps (Field name value End)) 1) name (after value Bottom) s D ds o t at (render k ++ post) under
  defines name value k s o at is unclosed few named one knows room stack units_fit here =
      let u : ℕ = units (Word (codes "def") Stop) in
      let f : Piece = Field name value End in
      let p : Performs (cost f) (steps f) (Under name (after value Bottom) Bottom) s all o o t at (render (Word (codes "def") k) ++ post) under =
      performs all t under items_fit post f (Word (codes "def") k) Bottom s [] o at is (named, one, knows, tt) (room, (omega arith)) (omega arith) refl here in
      let s₁ : StoreState = p.store in
      let counted₁ : s₁.table.units + s₁.command.units ≤ s.table.units + s.command.units + cost f = p.later.counted in
      let is₁ : IsMaking s₁ all = making_later (cost f) s s₁ p.later all is in
      let v : PsObj = p.shows.0 in
      let n : StringId = p.shows.1 in
      let whole : p.operands ≡ v ∷ Name n false ∷ [] = p.shows.3 ∙ ap (λ (l : List PsObj). v ∷ Name n false ∷ l) p.shows.7 in
      let w : Acted s₁ all (p.operands ++ o) t p.to under (Op 28) u (render k ++ post) =
      word_acts s₁ all (p.operands ++ o) t p.to under (codes "def") k post (Op 28) def_fine (is₁.operators (codes "def") 28 def_number) is₁.there p.stands (omega arith) in
      let s₂ : StoreState = w.store in
      let counted₂ : s₂.table.units + s₂.command.units ≤ s₁.table.units + s₁.command.units + u = w.later.counted in
      let later : Later (cost f + u) s s₂ = later_then (cost f) u s s₁ s₂ p.later w.later in
      let kept : IsThere s₂ D × (entries_of s₂ D ≡ entries_of s D) = later.dicts D is.there.0 in
      let same : length (entries_of s₂ D) ≡ length (entries_of s D) = ap length kept.1 in
      let still : s₂.closed.dicts ≤ i = subst (λ (m : Mark). m.dicts ≤ i) (sym later.closed) unclosed in
      let written : IsString s₂ n name = w.later.strings n name p.shows.4 in
      let s₃ : StoreState = put_store s₂ i still kept.0 name n v in
      let put : Puts s₂ s₃ D name v = puts s₂ i still kept.0 name n v in
      let c : PsCore = core s₂ all (p.operands ++ o) (TextItem t w.to ∷ under) in
      let c' : PsCore = core s₂ all (v ∷ Name n false ∷ o) (TextItem t w.to ∷ under) in
      let c₀ : PsCore = core s all o (TextItem t at ∷ under) in
      let c₁ : PsCore = core s₁ all (p.operands ++ o) (TextItem t p.to ∷ under) in
      let c₂ : PsCore = core s₃ all o (TextItem t w.to ∷ under) in
      let last : step c₁ ≡ Next c₂ =
      w.steps ∙ ap (λ (l : List PsObj). settled (acting (Op 28) (core s₂ all (l ++ o) (TextItem t w.to ∷ under)))) whole
      ∙ ap (λ (r : Result StoreState PsError). settled (alone (at_state c' (r >>= λ x. Ok (core x all o (TextItem t w.to ∷ under)))))) (put_defined s₂ i still kept.0 name n v p.shows.5 written.bytes (omega arith) (omega arith)) in
      record {
        made = s₂;
        object = v;
        later = later;
        shows = show_later u s₁ s₂ w.later (after value Bottom) (v ∷ []) p.shows.6;
        store = s₃;
        puts = put;
        to = w.to;
        stands = record { text = w.stands.text; lead = w.stands.lead; is_lead = w.stands.is_lead; is = put.strings t w.stands.text w.stands.is; here = w.stands.here; within = w.stands.within };
        takes = takes_then (steps f) 1 c₀ c₁ c₂ p.takes (takes_one c₁ c₂ last);
      }
