-- A dictionary that begins as a copy of another one.
use Rattle.std.proofs.Common.{◌≡◌, ℕ, suc, ◌+◌, ◌<◌, ◌≤◌, Bool, true, false, ◌&&◌, ◌==◌, if◌then◌else◌, Some, Result, Ok, List, [], ◌∷◌, ◌++◌, length, map, codes, refl, ap, ◌∙◌, arith, ne_eqb}
use Rattle.ps_store.specs.declared.object.Part.{Part}
use Rattle.ps_store.specs.declared.object.Part.TheVariants.{Table, Command}
use Rattle.ps_store.specs.declared.object.PsObj.{PsObj}
use Rattle.ps_store.specs.declared.object.PsObj.TheVariants.{Name, Dict, Op}
use Rattle.ps_store.specs.declared.object.DictId.{DictId}
use Rattle.ps_store.specs.declared.object.Pair.{Pair}
use Rattle.ps_store.specs.declared.key.Key.{Key}
use Rattle.ps_store.specs.Operators.{operator_number}
use Rattle.ps_store.specs.StoreState.{StoreState}
use Rattle.ps_store.specs.Store.{held, entries_of, elements_of}
use Rattle.ps_step.specs.declared.fault.PsError.{PsError}
use Rattle.ps_step.specs.declared.item.Item.{Item}
use Rattle.ps_step.specs.declared.item.Item.TheVariants.{Procedure}
use Rattle.ps_step.specs.declared.machine.PsCore.{PsCore}
use Rattle.ps_step.specs.Compare.{same_part}
use Rattle.ps_step.specs.Results.{◌>>=◌, at}
use Rattle.ps_step.specs.Composites.{MadePart, copied_dict, putting_pairs}
use Rattle.ps_step.specs.CopyOperators.{replacing}
use Rattle.ps_step.specs.Executing.{alone}
use Rattle.ps_step.specs.Keys.{named}
use Rattle.ps_run.specs.Step.{Next, settled, going_on, step}
use Rattle.ps_text.specs.Code.{Code, Stop, Word}
use Rattle.ps_terms.specs.Machine.{entered}
use Rattle.ps_terms.specs.Stands.{Frames, frame, core}
use Rattle.ps_terms.specs.Printing.{further}
use Rattle.ps_terms.proofs.Steps.{Room}
use Rattle.ps_terms.proofs.Sound.{step_is, then_is, name_acts, push_next}
use Rattle.ps_tables.specs.Taken.{Takes}
use Rattle.ps_tables.specs.Dictionaries.{Fields, updated, filled, joined, AreFields, none as no_fields, field, with_dict, next_dict}
use Rattle.ps_tables.specs.Making.{taking, copying, begun_as, taking_steps, IsMaking, Fits, AreShort, HasFields, Makes}
use Rattle.ps_tables.proofs.Kept.{made_same, changed_same, kept_bytes, kept_frames, named_kept, dict_kept}
use Rattle.ps_tables.proofs.Going.{takes_then, takes_one}
use Rattle.ps_tables.proofs.Putting.{put_at, put_made, put_length, fields_at}
use Rattle.ps_tables.proofs.Words.{Starts, starts, Fills, fills, to_end}

copy_number : operator_number (codes "copy") ≡ Some 3
unfolding operator_number
copy_number = refl

pub fields_length : (s : StoreState) (es : List (Key × Pair)) (fs : Fields) → AreFields s es fs → length es ≡ length fs
fields_length s _ _ no_fields = refl
fields_length s _ _ (field name t v es fs i r) = ap suc (fields_length s es fs r)

module _ (s : StoreState) (ds : List DictId) (is : IsMaking s ds) where
  abbrev D : DictId
  D = next_dict s

  -- ---- the pairs

  record Joins (acc es : List (Key × Pair)) (fs gs : Fields) : Type 0 where
    pub entries : List (Key × Pair)
    pub are : AreFields s entries (joined fs gs)
    pub few : length entries ≤ length acc + length gs
    pub put : putting_pairs (with_dict s acc) D es ≡ Ok (with_dict s entries)

  joins : (es : List (Key × Pair)) (gs : Fields) → AreFields s es gs → AreShort (map (λ f. f.0) gs) → (acc : List (Key × Pair)) (fs : Fields) → AreFields s acc fs
      → length acc + length gs < 1000000 → s.table.units + s.command.units + (1 + (length acc + length gs)) ≤ 8000000 → Joins acc es fs gs
  joins _ _ no_fields short acc fs are few room = record { entries = acc; are = are; few = omega arith; put = refl }
  joins _ _ (field name t v es gs i r) short acc fs are few room =
      let acc' : List (Key × Pair) = put_at acc name t v in
      let longer : length acc' ≤ length acc + 1 = put_length acc name t v in
      let rest : Joins acc' es (updated fs name v) gs = joins es gs r short.1 acc' (updated fs name v) (fields_at s acc fs name t v i are) (omega arith) (omega arith) in
      let few' : length rest.entries ≤ length acc' + length gs = rest.few in
      record {
        entries = rest.entries;
        are = rest.are;
        few = omega arith;
        put = ap (λ (x : Result StoreState PsError). at (with_dict s acc) x >>= λ s'. putting_pairs s' D es) (put_made s is.closed acc name t v (omega arith) (omega arith) short.0 (kept_bytes s (with_dict s acc) (made_same s acc) t ∙ i.bytes)) ∙ rest.put;
      }

  other_dict : (p : Part) (i : ℕ) → i < length (held s p).dicts → (same_part p Table && i == length s.table.dicts) ≡ false
  other_dict Table i h = ne_eqb _ _ (omega arith)
  other_dict Command i h = refl

  module _ (b : DictId) (gs : Fields) (has : HasFields s b gs) (few : length gs < 1000000) (room : s.table.units + s.command.units + (1 + length gs) ≤ 8000000) where
    whole : Joins [] (entries_of s b) [] gs
    whole = joins (entries_of s b) gs has.are has.short [] [] no_fields (omega arith) (omega arith)

    copied : copied_dict (with_dict s []) b D ≡ Ok (Dict D, with_dict s whole.entries)
    copied =
        ap (λ (same : Bool). if same then Ok (Dict D, with_dict s []) else (putting_pairs (with_dict s []) D (entries_of (with_dict s []) b) >>= λ s'. Ok (Dict D, s'))) (other_dict b.part b.index has.is_there)
        ∙ ap (λ (es : List (Key × Pair)). putting_pairs (with_dict s []) D es >>= λ s'. Ok (Dict D, s')) (dict_kept s [] b.part b.index has.is_there)
        ∙ ap (λ (r : Result StoreState (PsError × StoreState)). r >>= λ s'. Ok (Dict D, s')) whole.put

    module _ (rest : Code) (o : List PsObj) (under : List Item) where
      record Copied (before : PsCore) : Type 0 where
        pub left : List Item
        pub frames : Frames (with_dict s whole.entries) under left (entered rest [])
        pub steps : step before ≡ Next (core (with_dict s whole.entries) ds (Dict D ∷ o) left)

      copies : (before : List Item) → Frames (with_dict s []) under before (Word (codes "copy") rest ∷ []) → Copied (core (with_dict s []) ds (Dict D ∷ Dict b ∷ o) before)
      copies _ (frame a n items _ _ has sp below) =
          let S : StoreState = with_dict s [] in
          let left : List Item = going_on (n + 1) (length (elements_of S a)) (Procedure a (n + 1)) items in
          let c : PsCore = core S ds (Dict D ∷ Dict b ∷ o) left in
          record {
            left = left;
            frames = kept_frames S (with_dict s whole.entries) (changed_same s [] whole.entries) under left (entered rest []) (then_is S under a n items (Name sp.0 true) sp.1 [] sp.2 has below rest sp.4);
            steps = step_is S under a n items (Name sp.0 true) sp.1 [] sp.2 has below S refl ds (Dict D ∷ Dict b ∷ o)
                ∙ ap settled (name_acts S ds (Dict D ∷ Dict b ∷ o) left sp.0 (codes "copy") (Op 3) sp.3.bytes (named_kept s [] ds (codes "copy") is.there ∙ is.operators (codes "copy") 3 copy_number))
                ∙ ap (λ (m : MadePart). settled (alone (replacing 2 c m))) copied;
          }

  -- ---- a copy with more

  pub record Copies (room : ℕ) (gs : Fields) (keys : List (List ℕ)) (vs : List PsObj) (rest : Code) (b : DictId) (o : List PsObj) (under items : List Item) : Type 0 where
    pub entries : List (Key × Pair)
    pub left : List Item
    pub are : AreFields s entries (filled (joined [] gs) keys vs)
    pub frames : Frames (with_dict s entries) under left (entered rest [])
    pub takes : Takes (further 3 (taking_steps keys 0)) (core s ds (Dict b ∷ (vs ++ o)) items) (core (with_dict s entries) ds (Dict D ∷ o) left)

  pub copies_more : (room : ℕ) (gs : Fields) (keys : List (List ℕ)) (vs : List PsObj) (rest : Code) (b : DictId) (o : List PsObj) (under items : List Item) → HasFields s b gs → AreShort keys
      → length vs ≡ length keys → length gs + length keys ≤ 90 → Fits (1 + (length gs + length keys)) s (Dict b ∷ (vs ++ o)) under → Frames s under items (copying room keys rest ∷ [])
      → Copies room gs keys vs rest b o under items
  copies_more room gs keys vs rest b o under items has short same few fits frames =
      let units = fits.units in
      let stack = fits.operands in
      let own : Room (Dict b ∷ (vs ++ o)) under = record { operands = fits.operands; items = fits.items } in
      let begins : Starts s ds is room (Word (codes "copy") (taking keys rest)) (Dict b ∷ (vs ++ o)) under (omega arith) own items =
      starts s ds is room (Word (codes "copy") (taking keys rest)) (Dict b ∷ (vs ++ o)) under (omega arith) own items frames in
      let few₁ : length gs < 1000000 = omega arith in
      let room₁ : s.table.units + s.command.units + (1 + length gs) ≤ 8000000 = omega arith in
      let all : Joins [] (entries_of s b) [] gs = whole b gs has few₁ room₁ in
      let short_all : length all.entries ≤ 0 + length gs = all.few in
      let c : Copied b gs has few₁ room₁ (taking keys rest) (vs ++ o) under (core (with_dict s []) ds (Dict D ∷ Dict b ∷ (vs ++ o)) begins.left) =
      copies b gs has few₁ room₁ (taking keys rest) (vs ++ o) under begins.left begins.frames in
      let f : Fills s ds is all.entries (joined [] gs) keys vs rest o under c.left =
      fills s ds is keys vs all.entries (joined [] gs) rest o under c.left short same (omega arith) (omega arith) (omega arith) fits.items all.are c.frames in
      record {
        entries = f.entries;
        left = f.left;
        are = f.are;
        frames = f.frames;
        takes = takes_then 2 (further 1 (taking_steps keys 0)) (core s ds (Dict b ∷ (vs ++ o)) items) (core (with_dict s []) ds (Dict D ∷ Dict b ∷ (vs ++ o)) begins.left) (core (with_dict s f.entries) ds (Dict D ∷ o) f.left)
            begins.takes
            (takes_then 1 (taking_steps keys 0) (core (with_dict s []) ds (Dict D ∷ Dict b ∷ (vs ++ o)) begins.left) (core (with_dict s all.entries) ds (Dict D ∷ (vs ++ o)) c.left) (core (with_dict s f.entries) ds (Dict D ∷ o) f.left)
            (takes_one (core (with_dict s []) ds (Dict D ∷ Dict b ∷ (vs ++ o)) begins.left) (core (with_dict s all.entries) ds (Dict D ∷ (vs ++ o)) c.left) c.steps) f.takes);
      }

  pub copies_all : (room : ℕ) (gs : Fields) (keys : List (List ℕ)) (vs : List PsObj) (b : DictId) (o : List PsObj) (items under : List Item) → HasFields s b gs → AreShort keys
      → length vs ≡ length keys → length gs + length keys ≤ 90 → Fits (1 + (length gs + length keys)) s (Dict b ∷ (vs ++ o)) under → Frames s under items (copying room keys Stop ∷ [])
      → Makes (further 3 (taking_steps keys 0)) s ds (filled (joined [] gs) keys vs) (Dict b ∷ (vs ++ o)) items o under
  copies_all room gs keys vs b o items under has short same few fits frames =
      let f : Copies room gs keys vs Stop b o under items = copies_more room gs keys vs Stop b o under items has short same few fits frames in
      record {
        entries = f.entries;
        are = f.are;
        takes = to_end (further 3 (taking_steps keys 0)) (core s ds (Dict b ∷ (vs ++ o)) items) (with_dict s f.entries) ds (Dict D ∷ o) under f.left f.frames f.takes;
      }

  -- ---- of a dictionary that a word stands for

  pub record Pushed (word : List ℕ) (rest : Code) (x : PsObj) (o : List PsObj) (under items : List Item) : Type 0 where
    pub left : List Item
    pub frames : Frames s under left (entered rest [])
    pub steps : step (core s ds o items) ≡ Next (core s ds (x ∷ o) left)

  pub pushes : (word : List ℕ) (rest : Code) (b : DictId) (o : List PsObj) (under items : List Item) → named s ds word ≡ Some (Dict b) → length o + 101 ≤ 100000 → Frames s under items (Word word rest ∷ [])
      → Pushed word rest (Dict b) o under items
  pushes word rest b o under _ means room (frame a n items _ _ has sp below) =
      let left : List Item = going_on (n + 1) (length (elements_of s a)) (Procedure a (n + 1)) items in
      record {
        left = left;
        frames = then_is s under a n items (Name sp.0 true) sp.1 [] sp.2 has below rest sp.4;
        steps = step_is s under a n items (Name sp.0 true) sp.1 [] sp.2 has below s refl ds o
            ∙ ap settled (name_acts s ds o left sp.0 word (Dict b) sp.3.bytes means)
            ∙ push_next (Dict b) (core s ds o left) (omega arith);
      }

  pub begins_as : (word : List ℕ) (room : ℕ) (gs : Fields) (keys : List (List ℕ)) (vs : List PsObj) (b : DictId) (o : List PsObj) (items under : List Item) → named s ds word ≡ Some (Dict b) → HasFields s b gs
      → AreShort keys → length vs ≡ length keys → length gs + length keys ≤ 90 → Fits (1 + (length gs + length keys)) s (Dict b ∷ (vs ++ o)) under → Frames s under items (begun_as word room keys Stop ∷ [])
      → Makes (further 4 (taking_steps keys 0)) s ds (filled (joined [] gs) keys vs) (vs ++ o) items o under
  begins_as word room gs keys vs b o items under means has short same few fits frames =
      let stack = fits.operands in
      let p : Pushed word (copying room keys Stop) (Dict b) (vs ++ o) under items = pushes word (copying room keys Stop) b (vs ++ o) under items means (omega arith) frames in
      let m : Makes (further 3 (taking_steps keys 0)) s ds (filled (joined [] gs) keys vs) (Dict b ∷ (vs ++ o)) p.left o under = copies_all room gs keys vs b o p.left under has short same few fits p.frames in
      record {
        entries = m.entries;
        are = m.are;
        takes = takes_then 1 (further 3 (taking_steps keys 0)) (core s ds (vs ++ o) items) (core s ds (Dict b ∷ (vs ++ o)) p.left) (core (with_dict s m.entries) ds (Dict D ∷ o) under)
            (takes_one (core s ds (vs ++ o) items) (core s ds (Dict b ∷ (vs ++ o)) p.left) p.steps) m.takes;
      }
