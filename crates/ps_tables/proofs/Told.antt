-- A literal name is put under a key of a new dictionary.
use Rattle.std.proofs.Common.{◌≡◌, ℕ, suc, ◌+◌, ◌<◌, ◌≤◌, false, List, [], ◌∷◌, ◌++◌, length, codes, refl, arith}
use Rattle.ps_store.specs.declared.object.PsObj.{PsObj}
use Rattle.ps_store.specs.declared.object.PsObj.TheVariants.{Name, Dict}
use Rattle.ps_store.specs.declared.object.DictId.{DictId}
use Rattle.ps_store.specs.declared.object.StringId.{StringId}
use Rattle.ps_store.specs.declared.object.Pair.{Pair}
use Rattle.ps_store.specs.declared.key.Key.{Key}
use Rattle.ps_store.specs.StoreState.{StoreState}
use Rattle.ps_step.specs.declared.item.Item.{Item}
use Rattle.ps_step.specs.declared.machine.PsCore.{PsCore}
use Rattle.ps_run.specs.Step.{Next, step}
use Rattle.ps_text.specs.Code.{Code, Stop, Word}
use Rattle.ps_text.specs.Grown.{IsString}
use Rattle.ps_terms.specs.Machine.{Obj, Key as KeyVal, Dup, Acts, Words, state, entered}
use Rattle.ps_terms.specs.Stands.{Are, none, more, Frames, core, Knows}
use Rattle.ps_terms.specs.Printing.{further}
use Rattle.ps_terms.proofs.Steps.{Room}
use Rattle.ps_tables.specs.Taken.{Takes}
use Rattle.ps_tables.specs.Dictionaries.{Fields, updated, AreFields, with_dict, next_dict}
use Rattle.ps_tables.specs.Making.{IsMaking, Makes}
use Rattle.ps_tables.specs.Makers.{telling}
use Rattle.ps_tables.proofs.Kept.{made_same, same_back, kept_string, kept_frames}
use Rattle.ps_tables.proofs.Going.{takes_then, takes_one, known, Went, goes}
use Rattle.ps_tables.proofs.Putting.{put_at, put_length, fields_at}
use Rattle.ps_tables.proofs.Words.{dup_number, means, Placed, placed, to_end}
use Rattle.ps_tables.proofs.Copies.{fields_length}
use Rattle.ps_tables.proofs.Called.{Calls}

abbrev moves : Words
moves = (codes "dup", Acts Dup) ∷ []

module _ (s : StoreState) (ds : List DictId) (is : IsMaking s ds) where
  abbrev D : DictId
  D = next_dict s

  record Tells (es : List (Key × Pair)) (key name : List ℕ) (rest : Code) (o : List PsObj) (under items : List Item) : Type 0 where
    pub value : StringId
    pub at : StringId
    pub left : List Item
    pub is_name : IsString s value name
    pub is_key : IsString s at key
    pub frames : Frames (with_dict s (put_at es key at (Name value false))) under left (entered rest [])
    pub takes : Takes 4 (core (with_dict s es) ds (Dict D ∷ o) items) (core (with_dict s (put_at es key at (Name value false))) ds (Dict D ∷ o) left)

  module _ (es : List (Key × Pair)) (key name : List ℕ) (rest : Code) (o : List PsObj) (under : List Item) (short : length key ≤ 127) (few : length es < 1000000)
      (room : s.table.units + s.command.units + (2 + length es) ≤ 8000000) (own : Room o under) where
    abbrev S : StoreState
    S = with_dict s es

    knows : Knows S ds moves
    knows = known S ds moves (means s ds is es (codes "dup") 1 dup_number, tt)

    told : (items : List Item) (xs : List PsObj) (before : List Item) → Are S xs (KeyVal name ∷ KeyVal key ∷ Obj (Dict D) ∷ Obj (Dict D) ∷ []) → Frames S under before (Word (codes "put") rest ∷ [])
        → Takes 3 (core S ds (Dict D ∷ o) items) (core S ds (xs ++ o) before) → Tells es key name rest o under items
    told items _ before (more x _ xs _ i others) frames takes =
        let v : PsObj = Name i.0 false in
        let p : Placed s ds is es key rest v o under short few room own (x ∷ xs) before =
        placed s ds is es key rest v o under short few room own (x ∷ xs) before (more x (Obj v) xs (KeyVal key ∷ Obj (Dict D) ∷ Obj (Dict D) ∷ []) i.1 others) frames in
        let c₁ : PsCore = core S ds ((x ∷ xs) ++ o) before in
        let c₂ : PsCore = core (with_dict s (put_at es key p.name v)) ds (Dict D ∷ o) p.left in
        record {
          value = i.0;
          at = p.name;
          left = p.left;
          is_name = kept_string S s (same_back s S (made_same s es)) i.0 name i.2;
          is_key = p.is_key;
          frames = p.frames;
          takes = takes_then 3 1 (core S ds (Dict D ∷ o) items) c₁ c₂ takes (takes_one c₁ c₂ p.steps);
        }

    tells : (items : List Item) → Frames S under items (telling key name rest ∷ []) → Tells es key name rest o under items
    tells items frames =
        let w : Went S ds moves knows o under own 3 (Dict D ∷ []) items (state (Word (codes "put") rest ∷ []) (KeyVal name ∷ KeyVal key ∷ Obj (Dict D) ∷ Obj (Dict D) ∷ [])) =
        goes S ds moves knows o under own 3 (state (telling key name rest ∷ []) (Obj (Dict D) ∷ []))
        (state (Word (codes "put") rest ∷ []) (KeyVal name ∷ KeyVal key ∷ Obj (Dict D) ∷ Obj (Dict D) ∷ [])) refl (Dict D ∷ []) items
        (more (Dict D) (Obj (Dict D)) [] [] refl none) frames in
        told items w.operands w.left w.are w.frames w.takes

  -- what another word made, and a literal name
  pub record MakesTold (n : ℕ) (fields : Fields) (key name : List ℕ) (xs o : List PsObj) (items under : List Item) : Type 0 where
    pub value : StringId
    pub is_name : IsString s value name
    pub makes : Makes (suc (further n 4)) s ds (updated fields key (Name value false)) xs items o under

  pub makes_told : (n : ℕ) (fields : Fields) (key name : List ℕ) (xs o : List PsObj) (items under : List Item) (body : Code) (c : Calls s ds is body (telling key name Stop) xs under items)
      → Makes n s ds fields xs c.after o c.left → length key ≤ 127 → length fields ≤ 99999
      → s.table.units + s.command.units + (2 + length fields) ≤ 8000000 → length o + 101 ≤ 100000 → length under + 10 ≤ 1000
      → MakesTold n fields key name xs o items under
  makes_told n fields key name xs o items under body c m short few units stack room =
      let long : length m.entries ≡ length fields = fields_length s m.entries fields m.are in
      let own : Room o under = record { operands = stack; items = room } in
      let f : Tells m.entries key name Stop o under c.left =
      tells m.entries key name Stop o under short (omega arith) (omega arith) own c.left
      (kept_frames s (with_dict s m.entries) (made_same s m.entries) under c.left (telling key name Stop ∷ []) c.frames) in
      let es : List (Key × Pair) = put_at m.entries key f.at (Name f.value false) in
      let c₀ : PsCore = core s ds xs items in
      let c₁ : PsCore = core s ds xs c.after in
      let c₂ : PsCore = core (with_dict s m.entries) ds (Dict D ∷ o) c.left in
      let c₃ : PsCore = core (with_dict s es) ds (Dict D ∷ o) under in
      record {
        value = f.value;
        is_name = f.is_name;
        makes = record {
          entries = es;
          are = fields_at s m.entries fields key f.at (Name f.value false) f.is_key m.are;
          takes = takes_then 1 (further n 4) c₀ c₁ c₃ (takes_one c₀ c₁ c.steps) (takes_then n 4 c₁ c₂ c₃ m.takes (to_end 4 c₂ (with_dict s es) ds (Dict D ∷ o) under f.left f.frames f.takes));
        };
      }
