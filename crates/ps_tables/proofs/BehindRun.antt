-- The text of a table runs to its end behind the prelude.
use Rattle.std.proofs.Common.{◌≡◌, ℕ, zero, suc, ◌+◌, ◌≤◌, true, Ok, Err, List, [], ◌∷◌, length, refl, sym, ap, ◌∙◌, subst, arith}
use Rattle.c_tree.specs.declared.rows.Program.{Program}
use Rattle.ps_store.specs.declared.object.PsObj.{PsObj}
use Rattle.ps_store.specs.declared.object.PsObj.TheVariants.{Str, Dict}
use Rattle.ps_store.specs.declared.object.DictId.{DictId}
use Rattle.ps_store.specs.declared.object.StringId.{StringId}
use Rattle.ps_store.specs.StoreState.{StoreState}
use Rattle.ps_store.specs.Store.{Given, making_string, text_units}
use Rattle.ps_step.specs.declared.item.Item.TheVariants.{Object}
use Rattle.ps_step.specs.declared.item.Item.TheVariants as item
use Rattle.ps_step.specs.declared.machine.PsCore.{PsCore}
use Rattle.ps_run.specs.Runs.{Answer, Operates, Runs, ended, next}
use Rattle.ps_run.specs.Step.{Ended, step}
use Rattle.ps_run.proofs.Apart.{finished}
use Rattle.ps_text.specs.Grown.{IsString}
use Rattle.ps_text.proofs.Growing.{MadeText, text_made}
use Rattle.ps_terms.specs.Stands.{core}
use Rattle.ps_terms.specs.Printing.{further}
use Rattle.ps_print.specs.Loaded.{loaded}
use Rattle.ps_emit.specs.declared.placement.Placement.{Placement}
use Rattle.ps_emit.specs.Table.{table_text}
use Rattle.ps_tables.specs.Later.{Later}
use Rattle.ps_tables.specs.Runnable.{Runnable}
use Rattle.ps_tables.specs.Defined.{in_table}
use Rattle.ps_tables.specs.Senses.{Knowing}
use Rattle.ps_tables.specs.WordsKnown.{printer_senses}
use Rattle.ps_tables.specs.Taken.{Takes}
use Rattle.ps_tables.specs.Tabled.{table_made, table_steps, LeavesTop, EndsAtTop, RunsToTop}
use Rattle.ps_tables.specs.Behind.{prelude_dict, loaded_printers}
use Rattle.ps_tables.proofs.Stores.{later_grown}
use Rattle.ps_tables.proofs.Sequence.{knowing_later}
use Rattle.ps_tables.specs.Left.{LeavesTable}
use Rattle.ps_tables.proofs.Going.{taken}
use Rattle.ps_tables.proofs.TableRun.{text_leaves_table, runs_to_top}
use Rattle.ps_tables.proofs.Behind.{no_marks, stacked, no_operands, prelude_known}

abbrev S : StoreState
S = loaded.store

-- the string of the text is made
record Begun (t : StringId) (s : StoreState) (text : List ℕ) : Type 0 where
  pub knowing : Knowing s 1 prelude_dict 0 (printer_senses loaded_printers)
  pub is : IsString s t text
  pub counted : s.table.units + s.command.units ≤ S.table.units + S.command.units + text_units text

abbrev id_in : Given StringId → StringId → StringId
id_in (Ok given) t = given.0
id_in (Err e) t = t

abbrev store_in : Given StringId → StoreState → StoreState
store_in (Ok given) s = given.1
store_in (Err e) s = s

begun : (t : StringId) (s : StoreState) (text : List ℕ) → length text ≤ 16777216 → S.table.units + S.command.units + text_units text ≤ 8000000 → making_string S text ≡ Ok (t, s) → Begun t s text
begun t s text short room made =
    let g : MadeText 16777216 S text = text_made 16777216 S text short room in
    let one : Given StringId = Ok (g.id, g.store) in
    let other : Given StringId = Ok (t, s) in
    let same : one ≡ other = sym g.made ∙ made in
    let t_is : g.id ≡ t = ap (λ (x : Given StringId). id_in x t) same in
    let s_is : g.store ≡ s = ap (λ (x : Given StringId). store_in x s) same in
    let later : Later (text_units text) S g.store = later_grown (text_units text) S g.store g.grown in
    let knows : Knowing g.store 1 prelude_dict 0 (printer_senses loaded_printers) = knowing_later (text_units text) S g.store later 1 prelude_dict 0 (printer_senses loaded_printers) prelude_known in
    record {
      knowing = subst (λ (x : StoreState). Knowing x 1 prelude_dict 0 (printer_senses loaded_printers)) s_is knows;
      is = subst (λ (i : StringId). IsString s i text) t_is (subst (λ (x : StoreState). IsString x g.id text) s_is g.is);
      counted = subst (λ (x : StoreState). x.table.units + x.command.units ≤ S.table.units + S.command.units + text_units text) s_is later.counted;
    }

abbrev begins_with : StringId → StoreState → PsCore
begins_with t s = record loaded { store = s; execution = Object (Str t true) ∷ [] }

same_start : (t : StringId) (s : StoreState) → begins_with t s ≡ core s (in_table 1 ∷ prelude_dict) [] (Object (Str t true) ∷ [])
same_start t s =
    ap (λ (ds : List DictId). core s ds loaded.operands (Object (Str t true) ∷ [])) stacked ∙ ap (λ (o : List PsObj). core s (in_table 1 ∷ prelude_dict) o (Object (Str t true) ∷ [])) no_operands

-- the text leaves a table there
pub behind_leaves_table : (p : Program) (at : Placement) (t : StringId) (s : StoreState) → Runnable p at → length (table_text p at) ≤ 16777216 → S.table.units + S.command.units + text_units (table_text p at) + table_made p at ≤ 8000000
    → making_string S (table_text p at) ≡ Ok (t, s) → LeavesTable 1 prelude_dict t loaded_printers 20 p at s 0
behind_leaves_table p at t s run short room made =
    let b : Begun t s (table_text p at) = begun t s (table_text p at) short (omega arith) made in
    let counted = b.counted in
    text_leaves_table 1 prelude_dict t loaded_printers p at 0 s run no_marks b.knowing (omega arith) (omega arith) b.is

pub behind_leaves : (p : Program) (at : Placement) (t : StringId) (s : StoreState) → Runnable p at → length (table_text p at) ≤ 16777216 → S.table.units + S.command.units + text_units (table_text p at) + table_made p at ≤ 8000000
    → making_string S (table_text p at) ≡ Ok (t, s) → LeavesTop 1 prelude_dict t (table_steps p at) (table_made p at) at.target s 0
behind_leaves p at t s run short room made = (behind_leaves_table p at t s run short room made).leaves

module _ {D : Type 0} (Op : Operates D) where
  pub behind_runs : (p : Program) (at : Placement) (t : StringId) (s : StoreState) (left m : ℕ) (d d' : D) (c' : PsCore) (r : Answer) → Runnable p at → length (table_text p at) ≤ 16777216
      → S.table.units + S.command.units + text_units (table_text p at) + table_made p at ≤ 8000000 → making_string S (table_text p at) ≡ Ok (t, s)
      → Runs Op (further (suc (table_steps p at)) (suc left)) d (begins_with t s) r m d' c' → EndsAtTop 1 prelude_dict t (table_steps p at) (table_made p at) at.target s (suc left) d r m d' c'
  behind_runs p at t s left m d d' c' r run short room made runs =
      let n : ℕ = further (suc (table_steps p at)) (suc left) in
      runs_to_top 1 prelude_dict t loaded_printers Op (table_steps p at) (table_made p at) at.target left s d d' m c' r (behind_leaves p at t s run short room made)
      (subst (λ (c : PsCore). Runs Op n d c r m d' c') (same_start t s) runs)

  -- where a run ends by what the text leaves
  pub behind_ends : (p : Program) (at : Placement) (t : StringId) (s : StoreState) (l : LeavesTop 1 prelude_dict t (table_steps p at) (table_made p at) at.target s 0) (left m : ℕ) (d d' : D) (c' : PsCore) (r : Answer)
      → Runs Op (further (suc (table_steps p at)) (suc left)) d (begins_with t s) r m d' c' → c' ≡ core l.store (in_table 1 ∷ prelude_dict) (Dict l.top ∷ []) []
  behind_ends p at t s l left m d d' c' r runs =
      let n : ℕ = further (suc (table_steps p at)) (suc left) in
      let all : List DictId = in_table 1 ∷ prelude_dict in
      let c₀ : PsCore = core s all [] (Object (Str t true) ∷ []) in
      let c₁ : PsCore = core s all [] (item.Text t 0 ∷ []) in
      let c₂ : PsCore = core l.store all (Dict l.top ∷ []) (item.Text t l.to ∷ []) in
      let c₃ : PsCore = core l.store all (Dict l.top ∷ []) [] in
      (finished Op left d c₂ c₃ r m d' c' l.ends (taken Op (suc (table_steps p at)) (suc left) m d d' c₀ c₂ c' r (c₁, refl, l.takes) (subst (λ (c : PsCore). Runs Op n d c r m d' c') (same_start t s) runs))).core

  -- steps that ask nothing of a dialect, up to an end, are a run
  ran : (k n : ℕ) (d : D) (c c₁ c₂ : PsCore) → Takes k c c₁ → step c₁ ≡ Ended c₂ → Runs Op (further k (suc n)) d c (Ok tt) (suc n) d c₂
  ran zero n d c c₁ c₂ e ends = subst (λ (x : PsCore). Runs Op (suc n) d x (Ok tt) (suc n) d c₂) (sym e) (ended n d c₁ c₂ ends)
  ran (suc k) n d c c₁ c₂ g ends = next (further k (suc n)) (suc n) d d c g.0 c₂ (Ok tt) g.1 (ran k n d g.0 c₁ c₂ g.2 ends)

  pub behind_there : (p : Program) (at : Placement) (t : StringId) (s : StoreState) (left : ℕ) (d : D) → Runnable p at → length (table_text p at) ≤ 16777216
      → S.table.units + S.command.units + text_units (table_text p at) + table_made p at ≤ 8000000 → making_string S (table_text p at) ≡ Ok (t, s) → RunsToTop Op 1 prelude_dict t (table_steps p at) (table_made p at) at.target s (suc left) d (begins_with t s)
  behind_there p at t s left d run short room made =
      let n : ℕ = further (suc (table_steps p at)) (suc left) in
      let a : LeavesTop 1 prelude_dict t (table_steps p at) (table_made p at) at.target s 0 = behind_leaves p at t s run short room made in
      let all : List DictId = in_table 1 ∷ prelude_dict in
      let c₀ : PsCore = core s all [] (Object (Str t true) ∷ []) in
      let c₁ : PsCore = core s all [] (item.Text t 0 ∷ []) in
      let c₂ : PsCore = core a.store all (Dict a.top ∷ []) (item.Text t a.to ∷ []) in
      let c₃ : PsCore = core a.store all (Dict a.top ∷ []) [] in
      record {
        leaves = a;
        runs = subst (λ (c : PsCore). Runs Op n d c (Ok tt) (suc left) d c₃) (sym (same_start t s)) (ran (suc (table_steps p at)) left d c₀ c₂ c₃ (c₁, refl, a.takes) a.ends);
      }
