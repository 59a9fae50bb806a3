-- The text of a table comes to a table.
use Rattle.std.proofs.Common.{◌≡◌, ◌≢◌, ◌⊎◌, inl, inr, ℕ, zero, suc, ◌+◌, ◌-◌, ◌≤◌, Bool, true, false, ◌&&◌, nat_eq, if◌then◌else◌, Some, None, Result, Ok, Err, List, [], ◌∷◌, length, refl, sym, ap, ◌∙◌, subst, arith}
use Rattle.std.specs.Cmp.Lexicographic.{bytes_decides}
use Rattle.std.specs.Fmt.{digits}
use Rattle.ps_scan.specs.Bytes.{is_regular, is_white, is_special, is_hexadecimal}
use Rattle.c_tree.specs.declared.rows.Program.{Program}
use Rattle.machine_state.specs.declared.layout.TheConstants.{MIPS, SPARC}
use Rattle.ps_store.specs.declared.object.Part.TheVariants.{Table}
use Rattle.ps_store.specs.declared.object.PsObj.TheVariants.{Str, Dict}
use Rattle.ps_store.specs.declared.object.DictId.{DictId}
use Rattle.ps_store.specs.declared.object.StringId.{StringId}
use Rattle.ps_store.specs.Operators.{operator_number}
use Rattle.ps_store.specs.StoreState.{StoreState}
use Rattle.ps_store.specs.Store.{Given, making_string, text_units, bytes_of}
use Rattle.ps_step.specs.declared.item.Item.{Item}
use Rattle.ps_step.specs.declared.item.Item.TheVariants.{Object}
use Rattle.ps_step.specs.declared.machine.PsCore.{PsCore}
use Rattle.ps_step.specs.declared.fault.PsFault.TheVariants as ps
use Rattle.ps_run.specs.Runs.{Answer, Runs}
use Rattle.ps_text.proofs.Growing.{MadeText, text_made}
use Rattle.ps_terms.specs.Stands.{core}
use Rattle.ps_terms.specs.Printing.{further}
use Rattle.ps_print.specs.Loaded.{loaded}
use Rattle.ps_emit.specs.declared.placement.Placement.{Placement}
use Rattle.ps_emit.specs.Table.{table_text, target_name}
use Rattle.dialect_model.specs.Forcing.{NoTarget}
use Rattle.ps_bare.specs.Bare.{bare}
use Rattle.table_run.specs.declared.run.TableFault.{TableFault}
use Rattle.table_run.specs.declared.run.TableFault.TheVariants.{Raised, Spent, Shape, NoMemory}
use Rattle.table_run.specs.Shape.{target_text, has_entries, is_text, is_unused}
use Rattle.table_run.specs.Tables.{RunsString, runs_made, RunsBehind, closed_with, table_with, table_in, IsTableOf}
use Rattle.ps_tables.specs.Later.{Later}
use Rattle.ps_tables.specs.Runnable.{Runnable}
use Rattle.ps_tables.specs.Defined.{in_table}
use Rattle.ps_tables.specs.Behind.{prelude_dict}
use Rattle.ps_tables.specs.Tabled.{table_made, table_steps, IsTop, EndsAtTop, RunsToTop}
use Rattle.ps_tables.proofs.Stores.{later_grown}
use Rattle.ps_tables.proofs.MembersRun.{further_is}
use Rattle.claims.specs.Tables.{RunsTable}
use Rattle.table_ends.specs.Joined.{MakesTable}
use Rattle.table_ends.proofs.Joining.{tables_run}
use Rattle.ps_tables.specs.Rows.{HasRows, IsParted}
use Rattle.ps_tables.specs.Within.{IsWithin, HasTypes}
use Rattle.ps_tables.proofs.Within.{runnable, text_within, few_units, few_steps}
use Rattle.ps_tables.proofs.BehindRun.{behind_runs, behind_there}

abbrev all : List DictId
all = in_table 1 ∷ prelude_dict

two_bases : length loaded.store.base ≡ 2
unfolding digits is_white is_special is_regular is_hexadecimal operator_number
two_bases = refl

no_commands : is_unused loaded.store.command ≡ true
unfolding digits is_white is_special is_regular is_hexadecimal operator_number
no_commands = refl

made_in : loaded.store.part ≡ Table
unfolding digits is_white is_special is_regular is_hexadecimal operator_number
made_in = refl

-- the target's two names
same_name : (target : ℕ) → target ≤ 2 → 1 ≤ target → target_name target ≡ target_text target
same_name zero h k = absurd (omega arith)
same_name (suc zero) h k = refl
same_name (suc (suc zero)) h k = refl
same_name (suc (suc (suc n))) h k = absurd (omega arith)

-- ---- the shape

module _ (s : StoreState) (d : DictId) (target : ℕ) (top : IsTop s d target) (named : target_name target ≡ target_text target) (bases : length s.base ≡ 2) (unused : is_unused s.command ≡ true) where
  text_is : is_text s (target_text target) (Some (Str top.name false)) ≡ true
  text_is = (bytes_decides (bytes_of s top.name) (target_text target)).1 (top.told.bytes ∙ named)

  entries_are : has_entries s target d ≡ true
  entries_are = rw (top.version, top.is_target, top.has_anchors, top.has_structs, top.has_units, text_is) refl

  comes_to : (e : List Item) → table_in target (core s all (Dict d ∷ []) e) ≡ Ok (closed_with (core s all (Dict d ∷ []) e) d)
  comes_to e =
      let c : PsCore = core s all (Dict d ∷ []) e in
      ap (λ (n : ℕ). table_with target c (if nat_eq 2 n then Some d else None)) bases
      ∙ ap (λ (b : Bool). if b && is_unused s.command then Ok (closed_with c d) else Err Shape) entries_are
      ∙ ap (λ (b : Bool). if b then Ok (closed_with c d) else Err Shape) unused

-- ---- the run

module _ (p : Program) (at : Placement) (run : Runnable p at) (low : 1 ≤ at.target) (high : at.target ≤ 2) (short : length (table_text p at) ≤ 16777216)
    (room : loaded.store.table.units + loaded.store.command.units + text_units (table_text p at) + table_made p at ≤ 8000000) (few : table_steps p at + 2 ≤ 10000000) where
  record Came (r : Answer) (c : PsCore) : Type 0 where
    pub answer : r ≡ Ok tt
    pub store : StoreState
    pub table : table_in at.target c ≡ Ok store

  ran : (t : StringId) (s : StoreState) (r : Answer) (c : PsCore) → making_string loaded.store (table_text p at) ≡ Ok (t, s) → Later (text_units (table_text p at)) loaded.store s → r ≢ Err ps.NoMemory → RunsString loaded (t, s) r c → Came r c
  ran t s r c made later other h =
      let runs = h.runs other in
      let left : ℕ = 10000000 - table_steps p at - 2 in
      let e : 10000000 ≡ further (suc (table_steps p at)) (suc left) = omega (arith, further_is (suc (table_steps p at)) (suc left)) in
      let c₀ : PsCore = record loaded { store = s; execution = Object (Str t true) ∷ [] } in
      let c₁ : PsCore = record c { execution = runs.0 } in
      let moved : Runs NoTarget (further (suc (table_steps p at)) (suc left)) (bare 0) c₀ r h.left h.dial c₁ = subst (λ n. Runs NoTarget n (bare 0) c₀ r h.left h.dial c₁) e runs.1 in
      let a : EndsAtTop 1 prelude_dict t (table_steps p at) (table_made p at) at.target s (suc left) (bare 0) r h.left h.dial c₁ =
      behind_runs NoTarget p at t s left h.left (bare 0) h.dial c₁ r run short room made moved in
      let now : StoreState = a.leaves.store in
      let whole : c ≡ core now all (Dict a.leaves.top ∷ []) c.execution = ap (λ (x : PsCore). record x { execution = c.execution }) a.state in
      let bases : length now.base ≡ 2 = ap length (a.leaves.owned.base ∙ later.base) ∙ two_bases in
      let unused : is_unused now.command ≡ true = ap is_unused (a.leaves.owned.command ∙ later.command made_in) ∙ no_commands in
      record {
        answer = a.answer;
        store = closed_with (core now all (Dict a.leaves.top ∷ []) c.execution) a.leaves.top;
        table = ap (table_in at.target) whole ∙ comes_to now a.leaves.top at.target a.leaves.is_top (same_name at.target high low) bases unused c.execution;
      }

  came : (r : Answer) (c : PsCore) → r ≢ Err ps.NoMemory → RunsBehind (table_text p at) r c → Came r c
  came r c other h =
      let text : List ℕ = table_text p at in
      let g : MadeText 16777216 loaded.store text = text_made 16777216 loaded.store text short (omega arith) in
      let runs : runs_made loaded (making_string loaded.store text) r c = subst (λ (x : PsCore). runs_made x (making_string x.store text) r c) h.is_loaded h.runs in
      ran g.id g.store r c g.made (later_grown (text_units text) loaded.store g.store g.grown) other (subst (λ (x : Given StringId). runs_made loaded x r c) g.made runs)

  result_is : (result : Result StoreState TableFault) → IsTableOf (table_text p at) at.target result → result ≢ Err NoMemory → (s : StoreState) × (result ≡ Ok s)
  result_is (Ok s) h other = (s, refl)
  result_is (Err Shape) h other = let a = came (Ok tt) h.0 (λ e. cc) h.1 in absurd (let f : Ok a.store ≡ Err Shape = sym a.table ∙ h.2 in cc)
  result_is (Err (Raised e)) h other = let a = came (Err (ps.Error e)) h.0 (λ f. cc) h.1 in absurd (let f = a.answer in cc)
  result_is (Err Spent) h other = let a = came (Err ps.Spent) h.0 (λ f. cc) h.1 in absurd (let f = a.answer in cc)
  result_is (Err NoMemory) h other = absurd (other refl)

  -- ---- that it is there

  table_there : (t : StringId) (s : StoreState) → making_string loaded.store (table_text p at) ≡ Ok (t, s) → Later (text_units (table_text p at)) loaded.store s → (x : StoreState) × IsTableOf (table_text p at) at.target (Ok x)
  table_there t s made later =
      let left : ℕ = 10000000 - table_steps p at - 2 in
      let e : further (suc (table_steps p at)) (suc left) ≡ 10000000 = omega (arith, further_is (suc (table_steps p at)) (suc left)) in
      let a : RunsToTop NoTarget 1 prelude_dict t (table_steps p at) (table_made p at) at.target s (suc left) (bare 0) (record loaded { store = s; execution = Object (Str t true) ∷ [] }) =
      behind_there NoTarget p at t s left (bare 0) run short room made in
      let c₀ : PsCore = record loaded { store = s; execution = Object (Str t true) ∷ [] } in
      let now : StoreState = a.leaves.store in
      let c : PsCore = core now all (Dict a.leaves.top ∷ []) [] in
      let bases : length now.base ≡ 2 = ap length (a.leaves.owned.base ∙ later.base) ∙ two_bases in
      let unused : is_unused now.command ≡ true = ap is_unused (a.leaves.owned.command ∙ later.command made_in) ∙ no_commands in
      let moved : Runs NoTarget 10000000 (bare 0) c₀ (Ok tt) (suc left) (bare 0) c = subst (λ n. Runs NoTarget n (bare 0) c₀ (Ok tt) (suc left) (bare 0) c) e a.runs in
      let ended : RunsString loaded (t, s) (Ok tt) c = record { left = suc left; dial = bare 0; runs = λ other. ([], moved) } in (
        closed_with c a.leaves.top,
        (
          c,
          record { start = loaded; is_loaded = refl; runs = subst (λ (x : Given StringId). runs_made loaded x (Ok tt) c) (sym made) ended },
          comes_to now a.leaves.top at.target a.leaves.is_top (same_name at.target high low) bases unused [],
        ),
      )

  is_there : (x : StoreState) × IsTableOf (table_text p at) at.target (Ok x)
  is_there =
      let text : List ℕ = table_text p at in
      let g : MadeText 16777216 loaded.store text = text_made 16777216 loaded.store text short (omega arith) in
      table_there g.id g.store g.made (later_grown (text_units text) loaded.store g.store g.grown)

-- ---- as the claims have it

known_target : (target : ℕ) → 1 ≤ target → target ≤ 2 → (target ≡ MIPS) ⊎ (target ≡ SPARC)
known_target zero low high = absurd (omega arith)
known_target (suc zero) low high = inl refl
known_target (suc (suc zero)) low high = inr refl
known_target (suc (suc (suc n))) low high = absurd (omega arith)

claimed : (text : List ℕ) (target : ℕ) (s : StoreState) → 1 ≤ target → target ≤ 2 → IsTableOf text target (Ok s) → RunsTable loaded.store text target (Ok s)
claimed text target s low high h = tables_run loaded.store text target (Ok s) refl (known_target target low high) h

pub comes : (p : Program) (at : Placement) (result : Result StoreState TableFault) → Runnable p at → 1 ≤ at.target → at.target ≤ 2 → length (table_text p at) ≤ 16777216
    → loaded.store.table.units + loaded.store.command.units + text_units (table_text p at) + table_made p at ≤ 8000000 → table_steps p at + 2 ≤ 10000000 → IsTableOf (table_text p at) at.target result → result ≢ Err NoMemory
    → (s : StoreState) × (result ≡ Ok s) × RunsTable loaded.store (table_text p at) at.target (Ok s)
comes p at result run low high short room few is other =
    let a = result_is p at run low high short room few result is other in
    (a.0, a.1, claimed (table_text p at) at.target a.0 low high (subst (IsTableOf (table_text p at) at.target) a.1 is))

pub there : (p : Program) (at : Placement) → Runnable p at → 1 ≤ at.target → at.target ≤ 2 → length (table_text p at) ≤ 16777216
    → loaded.store.table.units + loaded.store.command.units + text_units (table_text p at) + table_made p at ≤ 8000000 → table_steps p at + 2 ≤ 10000000
    → (s : StoreState) × IsTableOf (table_text p at) at.target (Ok s) × RunsTable loaded.store (table_text p at) at.target (Ok s)
there p at run low high short room few =
    let a = is_there p at run low high short room few in
    (a.0, a.1, claimed (table_text p at) at.target a.0 low high a.1)

-- a run that comes to a store comes to no fault but want of memory
only_memory : (text : List ℕ) (target : ℕ) → ((result : Result StoreState TableFault) → IsTableOf text target result → result ≢ Err NoMemory → (s : StoreState) × (result ≡ Ok s)) → (f : TableFault) → IsTableOf text target (Err f) → f ≡ NoMemory
only_memory text target comes NoMemory h = refl
only_memory text target comes Shape h = let is = (comes (Err Shape) h (λ e. cc)).1 in absurd cc
only_memory text target comes Spent h = let is = (comes (Err Spent) h (λ e. cc)).1 in absurd cc
only_memory text target comes (Raised e) h = let is = (comes (Err (Raised e)) h (λ f. cc)).1 in absurd cc

pub counted_come : (p : Program) (at : Placement) → HasRows p at → IsParted p → HasTypes p → IsWithin p → 1 ≤ at.target → at.target ≤ 2 → MakesTable (table_text p at) at.target
counted_come p at rows parted types within low high =
    let a = few_units p at rows parted within in
    let b = within.units in
    let room : loaded.store.table.units + loaded.store.command.units + text_units (table_text p at) + table_made p at ≤ 8000000 = omega arith in
    let run = runnable p at rows parted within types in
    let short = text_within p at rows parted within in
    let few = few_steps p at rows parted within in
    let made = there p at run low high short room few in
    record { store = made.0; comes = made.1; claimed = made.2; only = only_memory (table_text p at) at.target (result_is p at run low high short room few) }
