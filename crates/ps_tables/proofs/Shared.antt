-- A dictionary that has one operand under two names.
use Rattle.std.proofs.Common.{◌≡◌, ℕ, suc, Bool, true, false, bytes_eq, if◌then◌else◌, ◌+◌, ◌<◌, ◌≤◌, Some, List, [], ◌∷◌, ◌++◌, length, codes, refl, ap, ◌∙◌, arith, length-append}
use Rattle.ps_store.specs.declared.object.PsObj.{PsObj}
use Rattle.ps_store.specs.declared.object.PsObj.TheVariants.{Dict}
use Rattle.ps_store.specs.declared.object.DictId.{DictId}
use Rattle.ps_store.specs.declared.object.StringId.{StringId}
use Rattle.ps_store.specs.declared.object.Pair.{Pair}
use Rattle.ps_store.specs.declared.key.Key.{Key}
use Rattle.ps_store.specs.Operators.{operator_number}
use Rattle.ps_store.specs.StoreState.{StoreState}
use Rattle.ps_step.specs.declared.item.Item.{Item}
use Rattle.ps_step.specs.declared.machine.PsCore.{PsCore}
use Rattle.ps_step.specs.Keys.{named}
use Rattle.ps_run.specs.Step.{Next, step}
use Rattle.ps_text.specs.Grown.{IsString}
use Rattle.ps_text.specs.Code.{Code, Stop, Word}
use Rattle.ps_terms.specs.Machine.{Obj, Key as KeyVal, Dup, Index, Acts, Words, state, entered}
use Rattle.ps_terms.specs.Stands.{Are, none, more, Frames, core, Knows}
use Rattle.ps_terms.specs.Printing.{further}
use Rattle.ps_terms.proofs.Steps.{Room}
use Rattle.ps_tables.specs.Taken.{Takes}
use Rattle.ps_tables.specs.Dictionaries.{Fields, updated, filled, joined, with_dict, next_dict}
use Rattle.ps_tables.specs.Making.{taking, copying, begun_as, sharing, taking_steps, IsMaking, Fits, AreShort, HasFields, Makes}
use Rattle.ps_tables.proofs.Going.{takes_then, takes_one, known, Went, goes}
use Rattle.ps_tables.proofs.Putting.{put_at, put_length, fields_at}
use Rattle.ps_tables.proofs.Words.{dup_number, means, Placed, placed, Fills, fills, to_end}
use Rattle.ps_tables.proofs.Copies.{fields_length, Copies, copies_more, Pushed, pushes}

index_number : operator_number (codes "index") ≡ Some 4
unfolding operator_number
index_number = refl

abbrev moves : Words
moves = (codes "dup", Acts Dup) ∷ (codes "index", Acts Index) ∷ []

-- ---- how many fields there are

pub updated_length : (fs : Fields) (name : List ℕ) (v : PsObj) → length (updated fs name v) ≤ length fs + 1
updated_length [] name v = omega arith
updated_length (f ∷ fs) name v = by (bytes_eq name f.0) (updated_length fs name v)
  where
    by : (b : Bool) → length (updated fs name v) ≤ length fs + 1 → length (if b then (f.0, v) ∷ fs else f ∷ updated fs name v) ≤ suc (length fs) + 1
    by true h = omega arith
    by false h = omega arith

pub joined_length : (gs fs : Fields) → length (joined fs gs) ≤ length fs + length gs
joined_length [] fs = omega arith
joined_length (g ∷ gs) fs =
    let a : length (joined (updated fs g.0 g.1) gs) ≤ length (updated fs g.0 g.1) + length gs = joined_length gs (updated fs g.0 g.1) in
    let b = updated_length fs g.0 g.1 in
    omega arith

pub filled_length : (keys : List (List ℕ)) (vs : List PsObj) (fs : Fields) → length (filled fs keys vs) ≤ length fs + length keys
filled_length [] vs fs = omega arith
filled_length (key ∷ keys) [] fs = omega arith
filled_length (key ∷ keys) (v ∷ vs) fs =
    let a : length (filled (updated fs key v) keys vs) ≤ length (updated fs key v) + length keys = filled_length keys vs (updated fs key v) in
    let b = updated_length fs key v in
    omega arith

module _ (s : StoreState) (ds : List DictId) (is : IsMaking s ds) where
  abbrev D : DictId
  D = next_dict s

  knows : (es : List (Key × Pair)) → Knows (with_dict s es) ds moves
  knows es = known (with_dict s es) ds moves (means s ds is es (codes "dup") 1 dup_number, (means s ds is es (codes "index") 4 index_number, tt))

  record Shares (es : List (Key × Pair)) (key : List ℕ) (rest : Code) (v : PsObj) (o : List PsObj) (under items : List Item) : Type 0 where
    pub name : StringId
    pub left : List Item
    pub is_key : IsString s name key
    pub frames : Frames (with_dict s (put_at es key name v)) under left (entered rest [])
    pub takes : Takes 5 (core (with_dict s es) ds (Dict D ∷ v ∷ o) items) (core (with_dict s (put_at es key name v)) ds (Dict D ∷ v ∷ o) left)

  module _ (es : List (Key × Pair)) (key : List ℕ) (rest : Code) (v : PsObj) (o : List PsObj) (under : List Item) (short : length key ≤ 127) (few : length es < 1000000)
      (room : s.table.units + s.command.units + (2 + length es) ≤ 8000000) (fits : length o + 102 ≤ 100000) (items_fit : length under + 10 ≤ 1000) where
    abbrev S : StoreState
    S = with_dict s es

    record Shared (before : PsCore) : Type 0 where
      pub name : StringId
      pub left : List Item
      pub is_key : IsString s name key
      pub frames : Frames (with_dict s (put_at es key name v)) under left (entered rest [])
      pub steps : step before ≡ Next (core (with_dict s (put_at es key name v)) ds (Dict D ∷ v ∷ o) left)

    shared : (xs : List PsObj) (before : List Item) → Are S xs (Obj v ∷ KeyVal key ∷ Obj (Dict D) ∷ Obj (Dict D) ∷ Obj v ∷ []) → Frames S under before (Word (codes "put") rest ∷ []) → Shared (core S ds (xs ++ o) before)
    shared _ before (more x _ _ _ i (more y _ _ _ j (more z _ _ _ k (more z' _ _ _ l (more w _ _ _ m none))))) frames =
        let own : Room (w ∷ o) under = record { operands = omega arith; items = items_fit } in
        let p : Placed s ds is es key rest v (w ∷ o) under short few room own (x ∷ y ∷ z ∷ z' ∷ []) before =
        placed s ds is es key rest v (w ∷ o) under short few room own (x ∷ y ∷ z ∷ z' ∷ []) before
        (more x (Obj v) (y ∷ z ∷ z' ∷ []) (KeyVal key ∷ Obj (Dict D) ∷ Obj (Dict D) ∷ []) i
        (more y (KeyVal key) (z ∷ z' ∷ []) (Obj (Dict D) ∷ Obj (Dict D) ∷ []) j (more z (Obj (Dict D)) (z' ∷ []) (Obj (Dict D) ∷ []) k (more z' (Obj (Dict D)) [] [] l none)))) frames in
        record {
          name = p.name;
          left = p.left;
          is_key = p.is_key;
          frames = p.frames;
          steps = p.steps ∙ ap (λ (q : PsObj). Next (core (with_dict s (put_at es key p.name v)) ds (Dict D ∷ q ∷ o) p.left)) m;
        }

    shares : (items : List Item) → Frames S under items (sharing key rest ∷ []) → Shares es key rest v o under items
    shares items frames =
        let own : Room o under = record { operands = omega arith; items = items_fit } in
        let w : Went S ds moves (knows es) o under own 4 (Dict D ∷ v ∷ []) items (state (Word (codes "put") rest ∷ []) (Obj v ∷ KeyVal key ∷ Obj (Dict D) ∷ Obj (Dict D) ∷ Obj v ∷ [])) =
        goes S ds moves (knows es) o under own 4 (state (sharing key rest ∷ []) (Obj (Dict D) ∷ Obj v ∷ []))
        (state (Word (codes "put") rest ∷ []) (Obj v ∷ KeyVal key ∷ Obj (Dict D) ∷ Obj (Dict D) ∷ Obj v ∷ [])) refl (Dict D ∷ v ∷ []) items
        (more (Dict D) (Obj (Dict D)) (v ∷ []) (Obj v ∷ []) refl (more v (Obj v) [] [] refl none)) frames in
        let p : Shared (core S ds (w.operands ++ o) w.left) = shared w.operands w.left w.are w.frames in
        record {
          name = p.name;
          left = p.left;
          is_key = p.is_key;
          frames = p.frames;
          takes = takes_then 4 1 (core S ds (Dict D ∷ v ∷ o) items) (core S ds (w.operands ++ o) w.left) (core (with_dict s (put_at es key p.name v)) ds (Dict D ∷ v ∷ o) p.left) w.takes
              (takes_one (core S ds (w.operands ++ o) w.left) (core (with_dict s (put_at es key p.name v)) ds (Dict D ∷ v ∷ o) p.left) p.steps);
        }

  -- one operand under two names, behind others
  pub names_twice : (word : List ℕ) (room : ℕ) (gs : Fields) (keys : List (List ℕ)) (first second : List ℕ) (vs : List PsObj) (v : PsObj) (b : DictId) (o : List PsObj) (items under : List Item) → named s ds word ≡ Some (Dict b)
      → HasFields s b gs → AreShort (first ∷ second ∷ keys) → length vs ≡ length keys → length gs + length keys ≤ 90 → Fits (3 + (length gs + length keys)) s (Dict b ∷ (vs ++ v ∷ o)) under
      → Frames s under items (begun_as word room keys (sharing first (taking (second ∷ []) Stop)) ∷ [])
      → Makes (further 4 (further (taking_steps keys 0) 11)) s ds (updated (updated (filled (joined [] gs) keys vs) first v) second v) (vs ++ v ∷ o) items o under
  names_twice word room gs keys first second vs v b o items under mean has short same few fits frames =
      let last : Code = taking (second ∷ []) Stop in
      let stack = fits.operands in
      let units = fits.units in
      let len : length (vs ++ v ∷ o) ≡ length vs + suc (length o) = length-append vs (v ∷ o) in
      let p : Pushed s ds is word (copying room keys (sharing first last)) (Dict b) (vs ++ v ∷ o) under items = pushes s ds is word (copying room keys (sharing first last)) b (vs ++ v ∷ o) under items mean (omega arith) frames in
      let c : Copies s ds is room gs keys vs (sharing first last) b (v ∷ o) under p.left =
      copies_more s ds is room gs keys vs (sharing first last) b (v ∷ o) under p.left has short.1.1 same few (record { units = omega arith; operands = fits.operands; items = fits.items }) p.frames in
      let long : length c.entries ≡ length (filled (joined [] gs) keys vs) = fields_length s c.entries (filled (joined [] gs) keys vs) c.are in
      let most : length (filled (joined [] gs) keys vs) ≤ length (joined [] gs) + length keys = filled_length keys vs (joined [] gs) in
      let most' : length (joined [] gs) ≤ 0 + length gs = joined_length gs [] in
      let h : Shares c.entries first last v o under c.left = shares c.entries first last v o under short.0 (omega arith) (omega arith) (omega arith) fits.items c.left c.frames in
      let es : List (Key × Pair) = put_at c.entries first h.name v in
      let longer : length es ≤ length c.entries + 1 = put_length c.entries first h.name v in
      let fs : Fields = updated (filled (joined [] gs) keys vs) first v in
      let f : Fills s ds is es fs (second ∷ []) (v ∷ []) Stop o under h.left =
      fills s ds is (second ∷ []) (v ∷ []) es fs Stop o under h.left (short.1.0, tt) refl (omega arith) (omega arith) (omega arith) fits.items
      (fields_at s c.entries (filled (joined [] gs) keys vs) first h.name v h.is_key c.are) h.frames in
      let x : ℕ = taking_steps keys 0 in
      let c₀ : PsCore = core s ds (vs ++ v ∷ o) items in
      let c₁ : PsCore = core s ds (Dict b ∷ (vs ++ v ∷ o)) p.left in
      let c₂ : PsCore = core (with_dict s c.entries) ds (Dict D ∷ v ∷ o) c.left in
      let c₃ : PsCore = core (with_dict s es) ds (Dict D ∷ v ∷ o) h.left in
      let c₄ : PsCore = core (with_dict s f.entries) ds (Dict D ∷ o) under in
      let last_takes : Takes 6 c₃ c₄ = to_end 6 c₃ (with_dict s f.entries) ds (Dict D ∷ o) under f.left f.frames f.takes in
      record {
        entries = f.entries;
        are = f.are;
        takes = takes_then 1 (further (further 3 x) 11) c₀ c₁ c₄ (takes_one c₀ c₁ p.steps) (takes_then (further 3 x) 11 c₁ c₂ c₄ c.takes (takes_then 5 6 c₂ c₃ c₄ h.takes last_takes));
      }
