-- A word that calls another one and gives its dictionary more fields.
use Rattle.std.proofs.Common.{◌≡◌, ℕ, suc, ◌+◌, ◌<◌, ◌≤◌, true, Some, List, [], ◌∷◌, ◌++◌, length, refl, ap, ◌∙◌, arith}
use Rattle.ps_store.specs.declared.object.PsObj.{PsObj}
use Rattle.ps_store.specs.declared.object.PsObj.TheVariants.{Name, Array, Dict}
use Rattle.ps_store.specs.declared.object.ArrayId.{ArrayId}
use Rattle.ps_store.specs.declared.object.DictId.{DictId}
use Rattle.ps_store.specs.StoreState.{StoreState}
use Rattle.ps_store.specs.Store.{elements_of}
use Rattle.ps_step.specs.declared.item.Item.{Item}
use Rattle.ps_step.specs.declared.item.Item.TheVariants.{Procedure}
use Rattle.ps_step.specs.declared.machine.PsCore.{PsCore}
use Rattle.ps_step.specs.Keys.{named}
use Rattle.ps_step.specs.Results.{at}
use Rattle.ps_step.specs.State.{Made}
use Rattle.ps_step.specs.Executing.{alone}
use Rattle.ps_run.specs.Step.{Next, settled, going_on, step}
use Rattle.ps_text.specs.Code.{Code, Stop, Num, Word, Lit, Text, Proc}
use Rattle.ps_text.specs.Spells.{Spells}
use Rattle.ps_terms.specs.Machine.{Does, entered}
use Rattle.ps_terms.specs.Stands.{Frames, bottom, frame, core, Means}
use Rattle.ps_terms.specs.Printing.{further}
use Rattle.ps_terms.proofs.Sound.{frames_length, step_is, then_is, name_acts, Enters, enters}
use Rattle.ps_tables.specs.Dictionaries.{Fields, filled, with_dict, next_dict}
use Rattle.ps_tables.specs.Making.{taking, taking_steps, IsMaking, Fits, AreShort, Makes}
use Rattle.ps_tables.proofs.Kept.{made_same, kept_frames}
use Rattle.ps_tables.proofs.Going.{takes_then, takes_one}
use Rattle.ps_tables.proofs.Words.{Fills, fills, to_end}
use Rattle.ps_tables.proofs.Copies.{fields_length}

pub one_frame : (k : Code) → length (entered k []) ≤ 1
one_frame Stop = omega arith
one_frame (Num n rest) = omega arith
one_frame (Word name rest) = omega arith
one_frame (Lit name rest) = omega arith
one_frame (Text bytes rest) = omega arith
one_frame (Proc body rest) = omega arith

module _ (s : StoreState) (ds : List DictId) (is : IsMaking s ds) where
  -- a procedure is entered
  pub record Calls (body rest : Code) (o : List PsObj) (under items : List Item) : Type 0 where
    pub left : List Item
    pub after : List Item
    pub few : length left ≤ length under + 1
    pub inner : Frames s left after (entered body [])
    pub frames : Frames s under left (entered rest [])
    pub steps : step (core s ds o items) ≡ Next (core s ds o after)

  pub calls : (word : List ℕ) (body rest : Code) (o : List PsObj) (under items : List Item) → Means s ds word (Does body) → length under + 11 ≤ 1000
      → Frames s under items (Word word rest ∷ []) → Calls body rest o under items
  calls word body rest o under _ means room (frame b n items _ _ has sp below) =
      let left : List Item = going_on (n + 1) (length (elements_of s b)) (Procedure b (n + 1)) items in
      let frames : Frames s under left (entered rest []) = then_is s under b n items (Name sp.0 true) sp.1 [] sp.2 has below rest sp.4 in
      let long : length left ≡ length under + length (entered rest []) = frames_length s under left (entered rest []) frames in
      let one : length (entered rest []) ≤ 1 = one_frame rest in
      let fits : length left < 1000 = omega arith in
      let e : Enters s s ds left left means.0 (entered body []) = enters s s ds left left means.0 [] bottom fits means.2 refl body means.3 in
      record {
        left = left;
        after = e.after;
        few = omega arith;
        inner = e.frames;
        frames = frames;
        steps = step_is s under b n items (Name sp.0 true) sp.1 [] sp.2 has below s refl ds o
            ∙ ap settled (name_acts s ds o left sp.0 word (Array means.0 true) sp.3.bytes means.1)
            ∙ ap (λ (r : Made). settled (alone (at (core s ds o left) r))) (e.calls o);
      }

  -- a dictionary that another word made takes more operands
  pub makes_more : (n : ℕ) (fields : Fields) (keys : List (List ℕ)) (xs vs o : List PsObj) (items under : List Item) (body : Code) (c : Calls body (taking keys Stop) xs under items)
      → Makes n s ds fields xs c.after (vs ++ o) c.left → AreShort keys → length vs ≡ length keys → length fields + length keys ≤ 999999
      → s.table.units + s.command.units + (1 + (length fields + length keys)) ≤ 8000000 → length (vs ++ o) + 101 ≤ 100000 → length under + 10 ≤ 1000
      → Makes (suc (further n (taking_steps keys 0))) s ds (filled fields keys vs) xs items o under
  makes_more n fields keys xs vs o items under body c m short same few units stack room =
      let long : length m.entries ≡ length fields = fields_length s m.entries fields m.are in
      let f : Fills s ds is m.entries fields keys vs Stop o under c.left =
      fills s ds is keys vs m.entries fields Stop o under c.left short same (omega arith) (omega arith) stack room m.are
      (kept_frames s (with_dict s m.entries) (made_same s m.entries) under c.left (entered (taking keys Stop) []) c.frames) in
      let c₀ : PsCore = core s ds xs items in
      let c₁ : PsCore = core s ds xs c.after in
      let c₂ : PsCore = core (with_dict s m.entries) ds (Dict (next_dict s) ∷ (vs ++ o)) c.left in
      let c₃ : PsCore = core (with_dict s f.entries) ds (Dict (next_dict s) ∷ o) under in
      let x : ℕ = taking_steps keys 0 in
      record {
        entries = f.entries;
        are = f.are;
        takes = takes_then 1 (further n x) c₀ c₁ c₃ (takes_one c₀ c₁ c.steps)
            (takes_then n x c₁ c₂ c₃ m.takes (to_end x c₂ (with_dict s f.entries) ds (Dict (next_dict s) ∷ o) under f.left f.frames f.takes));
      }
