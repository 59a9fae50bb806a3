-- Values are printed under the debugger's dialect.
use Rattle.std.proofs.Common.{◌≡◌, refl, sym, ap, ◌∙◌, ℕ, suc, ◌+◌, ◌≤◌, Ok, List, [], ◌∷◌, ◌++◌, option_map}
use Rattle.ps_store.specs.declared.key.Key.TheVariants.{Name as NameKey}
use Rattle.ps_store.specs.declared.object.Part.TheVariants.{Command}
use Rattle.ps_store.specs.declared.object.PsObj.{PsObj}
use Rattle.ps_store.specs.declared.object.PsObj.TheVariants.{Int, Dict, Op as OpObj}
use Rattle.ps_store.specs.declared.object.ArrayId.{ArrayId}
use Rattle.ps_store.specs.declared.object.DictId.{DictId}
use Rattle.ps_store.specs.StoreState.{StoreState}
use Rattle.ps_store.specs.Entries.{value_at}
use Rattle.ps_store.specs.Operators.{operator_number}
use Rattle.ps_store.specs.Store.{closed_part, entries_of}
use Rattle.ps_store.specs.Settled.{Settled}
use Rattle.ps_step.specs.Keys.{or_else, found_in, named}
use Rattle.ps_step.specs.declared.item.Item.{Item}
use Rattle.ps_step.specs.declared.item.Item.TheVariants.{Object}
use Rattle.c_tree.specs.declared.types.CType.{CType}
use Rattle.c_tree.specs.declared.types.StructDef.{StructDef}
use Rattle.c_show.specs.Printed.{Showing, shown}
use Rattle.frame_bytes.specs.declared.frame.Space.{Space}
use Rattle.ps_places.specs.Places.{space_named}
use Rattle.ps_terms.specs.Machine.{Obj, Key}
use Rattle.ps_terms.specs.Stands.{Are, Frames, Keeps, core}
use Rattle.ps_terms.specs.Printing.{word, Looked}
use Rattle.ps_terms.specs.Faring.{shut, HoldsDicts, Comes}
use Rattle.ps_terms.proofs.Kept.{closed_keeps}
use Rattle.ps_print.specs.Prelude.{print_body}
use Rattle.ps_print.specs.Words.{Holds, IsPrinter, RoomFor}
use Rattle.ps_print.specs.Items.{Thing}
use Rattle.ps_print.specs.Laid.{Laid}
use Rattle.ps_print.specs.Things.{print_steps, steps_within}
use Rattle.ps_print.proofs.Printed.{printed, printed_by}
use Rattle.ps_print.proofs.Steps.{print_within}
use Rattle.dialect_model.specs.Dial.{Dial}
use Rattle.dialect_model.specs.Operating.{Operates}
use Rattle.printing_laws.specs.Dialect.{append, needs}
use Rattle.printing_laws.specs.Lookups.{Reached}
use Rattle.printing_laws.specs.Lies.{Lies}
use Rattle.printing_laws.specs.Stays.{Above, Remains, StaysEmpty}
use Rattle.printing_laws.proofs.Printer.{printing}
use Rattle.printing_laws.proofs.Acts.{acts_leave}
use Rattle.printing_laws.proofs.Runs.{runs_leave}
use Rattle.printing_laws.proofs.Finding.{reached_settles, looked_reached}
use Rattle.printing_laws.proofs.Found.{StringsStay}
use Rattle.printing_laws.proofs.Laid.{lies_laid}

-- what is reached was settled
pub settles : (first now : StoreState) → Above first → Reached first now → Settled (closed_part first) (closed_part now)
settles first now above reached = (reached_settles (runs_leave acts_leave) acts_leave first above now reached).0

-- what operators leave behind them is reached by running functions of units
pub looked : (first now : StoreState) (j : ℕ) → Above first → Looked Operates needs first now j → Reached first now
looked first now j above found = looked_reached (runs_leave acts_leave) acts_leave first above now j found

-- what is closed remains
pub closed_remains : (first : StoreState) (ds : List DictId) → Above first → HoldsDicts (shut first) ds → Remains (shut first) ds first
closed_remains first ds above there now reached = closed_keeps first now (settles first now above reached) ds there

-- so do the meanings of names under a dictionary of a command that stays empty
named_below : (s : StoreState) (d : DictId) (ds : List DictId) (name : List ℕ) → entries_of s d ≡ [] → named s (d ∷ ds) name ≡ named s ds name
named_below s d ds name empty = ap (λ es. or_else (or_else (value_at es (NameKey name)) (found_in s ds (NameKey name))) (option_map (λ n. OpObj n) (operator_number name))) empty

pub own_remains : (first : StoreState) (i : ℕ) (ds : List DictId) → Remains (shut first) ds first → StaysEmpty first (record { part = Command; index = i }) → Remains (shut first) (record { part = Command; index = i } ∷ ds) first
own_remains first i ds remains empty now reached =
    let own : DictId = record { part = Command; index = i } in
    let keeps : Keeps (shut first) ds now = remains now reached in
    record {
      strings = keeps.strings;
      arrays = keeps.arrays;
      names = λ name x is plain. named_below now own ds name (empty now reached) ∙ keeps.names name x (sym (named_below (shut first) own ds name refl) ∙ is) plain;
      values = keeps.values;
    }

module _ (s first : StoreState) (ds : List DictId) (digits : ArrayId) (d : Dial) (space : List ℕ) (sp : Space) (defs : List StructDef) (t : CType) (type : DictId) (place : ℕ) (xs : List Showing) (i : Thing) (left : ℕ)
    (operands o : List PsObj) (items under : List Item) where
  strings : Remains s ds first → StringsStay s first
  strings remains now reached = (remains now reached).strings

  pub laid : Above first → Remains s ds first → space_named space ≡ Ok sp → Lies s first d sp defs 63 999 t type place xs i → Laid Operates printing s first d space defs 63 999 t type place xs i
  laid above remains named' lies = lies_laid (runs_leave acts_leave) acts_leave first above s (strings remains) d space sp named' defs 63 999 t type place xs i lies

  pub printed_so : Above first → Holds s ds digits → Remains s ds first → space_named space ≡ Ok sp → Lies s first d sp defs 63 999 t type place xs i → RoomFor 400 o under
      → Are s operands (Obj (Dict type) ∷ Obj (Int (word place)) ∷ Key space ∷ []) → Frames s under items (print_body ∷ [])
      → Comes Operates needs first (print_steps i left) d (core first ds (operands ++ o) items) ds left (append d (shown defs t xs)) o under
  printed_so above holds remains named' lies room are frames =
      printed Operates printing s first ds digits d space defs t type place xs i left operands o items under holds (λ now j found. remains now (looked first now j above found))
      (laid above remains named' lies) room are frames

-- so is it where a printer is executed
module _ (s first : StoreState) (ds : List DictId) (digits : ArrayId) (d : Dial) (space : List ℕ) (sp : Space) (defs : List StructDef) (t : CType) (type : DictId) (place : ℕ) (xs : List Showing) (i : Thing) (left : ℕ)
    (operands o : List PsObj) (x : PsObj) (under : List Item) where
  pub printed_by_one : Above first → Holds s ds digits → Remains s ds first → space_named space ≡ Ok sp → Lies s first d sp defs 63 999 t type place xs i → RoomFor 400 o under
      → Are s operands (Obj (Dict type) ∷ Obj (Int (word place)) ∷ Key space ∷ []) → IsPrinter s x
      → Comes Operates needs first (suc (print_steps i left)) d (core first ds (operands ++ o) (Object x ∷ under)) ds left (append d (shown defs t xs)) o under
  printed_by_one above holds remains named' lies room are is =
      printed_by Operates printing s first ds digits d space defs t type place xs i left operands o x under holds (λ now j found. remains now (looked first now j above found))
      (laid s first ds digits d space sp defs t type place xs i left operands o [] under above remains named' lies) room are is

pub steps_so : (s first : StoreState) (ds : List DictId) (d : Dial) (space : List ℕ) (sp : Space) (defs : List StructDef) (k : ℕ) (t : CType) (type : DictId) (place : ℕ) (xs : List Showing) (i : Thing) (left : ℕ)
    → Above first → Remains s ds first → space_named space ≡ Ok sp → Lies s first d sp defs k 999 t type place xs i → print_steps i left ≤ left + steps_within k
steps_so s first ds d space sp defs k t type place xs i left above remains named' lies =
    print_within Operates printing s first d space defs k t type place xs i left
    (lies_laid (runs_leave acts_leave) acts_leave first above s (λ now reached. (remains now reached).strings) d space sp named' defs k 999 t type place xs i lies)
