-- A table's units are such as they are run, and come to their functions.
use Rattle.std.proofs.Common.{◌≡◌, ◌≢◌, ℕ, suc, ◌+◌, ◌-◌, ◌<◌, ◌≤◌, Bool, true, false, ◌&&◌, nat_eq, if◌then◌else◌, Option, Some, None, Ok, Err, List, [], ◌∷◌, length, reverse, codes, slice_get, refl, sym, ap, ◌∙◌, subst, arith}
use Rattle.std.specs.Fmt.{digits}
use Rattle.ps_scan.specs.Bytes.{is_regular, is_white, is_special, is_hexadecimal}
use Rattle.c_tree.specs.declared.rows.Program.{Program}
use Rattle.c_tree.specs.declared.rows.UnitRow.{UnitRow}
use Rattle.obj_file.specs.declared.object.FunctionRow.{FunctionRow as Placed}
use Rattle.ps_store.specs.declared.object.Part.{Part}
use Rattle.ps_store.specs.declared.object.Part.TheVariants.{Table}
use Rattle.ps_store.specs.declared.object.PsObj.{PsObj}
use Rattle.ps_store.specs.declared.object.PsObj.TheVariants.{Str, Dict}
use Rattle.ps_store.specs.declared.object.DictId.{DictId}
use Rattle.ps_store.specs.declared.object.StringId.{StringId}
use Rattle.ps_store.specs.Cut.{mark_of}
use Rattle.ps_store.specs.Entries.{value_at}
use Rattle.ps_store.specs.Operators.{operator_number}
use Rattle.ps_store.specs.StoreState.{StoreState}
use Rattle.ps_store.specs.Store.{Given, entries_of, making_string, text_units}
use Rattle.ps_step.specs.Results.{◌>>=◌}
use Rattle.ps_step.specs.declared.fault.PsFault.TheVariants as ps
use Rattle.ps_step.specs.declared.item.Item.TheVariants.{Object}
use Rattle.ps_step.specs.declared.machine.PsCore.{PsCore}
use Rattle.ps_run.specs.Runs.{Answer, Runs}
use Rattle.ps_text.proofs.Growing.{MadeText, text_made}
use Rattle.ps_terms.specs.Stands.{core}
use Rattle.ps_terms.specs.Printing.{further}
use Rattle.ps_print.specs.Loaded.{loaded}
use Rattle.ps_force.specs.Forcing.{apart, Forces}
use Rattle.ps_emit.specs.declared.placement.Placement.{Placement}
use Rattle.ps_emit.specs.Table.{table_text}
use Rattle.table_model.specs.Reading.{Walked, or_missing, items_in}
use Rattle.table_model.specs.Rows.{units_of}
use Rattle.dialect_model.specs.Dial.{no_target}
use Rattle.dialect_model.specs.Forcing.{NoTarget, FUNCTIONS, deferred_in, deferred, answer_of, ForcesUnit}
use Rattle.ps_bare.specs.Bare.{bare}
use Rattle.table_run.specs.declared.run.TableFault.TheVariants.{Shape}
use Rattle.table_run.specs.Shape.{is_table}
use Rattle.table_run.specs.Tables.{RunsString, runs_made, dict_of, closed_with, table_with, table_in, IsTableOf}
use Rattle.ps_tables.specs.Later.{Later}
use Rattle.ps_tables.specs.Runnable.{Runnable}
use Rattle.ps_tables.specs.Defined.{in_table}
use Rattle.ps_tables.specs.Behind.{prelude_dict, loaded_printers}
use Rattle.ps_tables.specs.Tabled.{table_made, table_steps}
use Rattle.ps_tables.specs.Left.{IsDeferred, AreDeferred, LeavesTable}
use Rattle.ps_tables.proofs.Stores.{later_grown}
use Rattle.ps_tables.proofs.Types.{fields_value}
use Rattle.ps_tables.proofs.MembersRun.{further_is}
use Rattle.ps_tables.proofs.BehindRun.{behind_leaves_table, behind_ends}
use Rattle.unit_tables.specs.Conditions.{RunsUnits, FunctionsFollowed}
use Rattle.unit_tables.specs.Functions.{unit_steps, unit_made}
use Rattle.unit_tables.specs.Units.{Furnished}
use Rattle.unit_tables.specs.Settled.{Gives}
use Rattle.unit_tables.proofs.Furnishing.{furnished_left, deferred_left}
use Rattle.unit_tables.proofs.Forced.{forced_gives}
use Rattle.unit_ends.specs.Ends.{HasUnits, Comes}

abbrev all : List DictId
all = in_table 1 ∷ prelude_dict

turned : reverse loaded.store.base ≡ all
unfolding digits is_white is_special is_regular is_hexadecimal operator_number
turned = refl

two_bases : length loaded.store.base ≡ 2
unfolding digits is_white is_special is_regular is_hexadecimal operator_number
two_bases = refl

-- ---- the shape

closed_by : (target : ℕ) (c : PsCore) (d : DictId) (s : StoreState) → table_with target c (Some d) ≡ Ok s → s ≡ closed_with c d
closed_by target c d s = by (is_table (closed_with c d) target d)
  where
    by : (b : Bool) → (if b then Ok (closed_with c d) else Err Shape) ≡ Ok s → s ≡ closed_with c d
    by true e = cc
    by false e = absurd cc

shaped : (target : ℕ) (c : PsCore) (top : DictId) (s : StoreState) → c.operands ≡ Dict top ∷ [] → table_in target c ≡ Ok s → s ≡ closed_with c top
shaped target c top s one e = by (nat_eq (length c.operands) 1 && nat_eq (length c.dictionaries) (length c.store.base)) e
  where
    by : (b : Bool) → table_with target c (if b then dict_of (slice_get c.operands 0) else None) ≡ Ok s → s ≡ closed_with c top
    by true e = closed_by target c top s (ap (λ (o : List PsObj). table_with target c (dict_of (slice_get o 0))) (sym one) ∙ e)
    by false e = absurd cc

-- ---- the table's end

module _ (p : Program) (at : Placement) (run : Runnable p at) (short : length (table_text p at) ≤ 16777216)
    (room : loaded.store.table.units + loaded.store.command.units + text_units (table_text p at) + table_made p at ≤ 8000000) (few : table_steps p at + 2 ≤ 10000000) where
  has_units : (t : StringId) (s x : StoreState) (c : PsCore) → making_string loaded.store (table_text p at) ≡ Ok (t, s) → Later (text_units (table_text p at)) loaded.store s → RunsString loaded (t, s) (Ok tt) c → table_in at.target c ≡ Ok x → HasUnits p at x
  has_units t s x c made later h is =
      let runs = h.runs (λ e. cc) in
      let few_structs = run.few_structs in
      let small : length p.defs ≤ 90000 = omega arith in
      let few_dicts : length prelude_dict < 63 = omega arith in
      let left : ℕ = 10000000 - table_steps p at - 2 in
      let e : 10000000 ≡ further (suc (table_steps p at)) (suc left) = omega (arith, further_is (suc (table_steps p at)) (suc left)) in
      let c₀ : PsCore = record loaded { store = s; execution = Object (Str t true) ∷ [] } in
      let c₁ : PsCore = record c { execution = runs.0 } in
      let moved : Runs NoTarget (further (suc (table_steps p at)) (suc left)) (bare 0) c₀ (Ok tt) h.left h.dial c₁ = subst (λ n. Runs NoTarget n (bare 0) c₀ (Ok tt) h.left h.dial c₁) e runs.1 in
      let l : LeavesTable 1 prelude_dict t loaded_printers 20 p at s 0 = behind_leaves_table p at t s run short room made in
      let now : StoreState = l.leaves.store in
      let top : DictId = l.leaves.top in
      let ends : c₁ ≡ core now all (Dict top ∷ []) [] = behind_ends NoTarget p at t s l.leaves left h.left (bare 0) h.dial c₁ (Ok tt) moved in
      let closed : x ≡ closed_with c top = shaped at.target c top x (ap (λ (k : PsCore). k.operands) ends) is in
      let y : StoreState = record now { closed = mark_of now.table; top = Some top } in
      let same : x ≡ y = closed ∙ ap (λ (z : StoreState). record z { closed = mark_of z.table; top = Some top }) (ap (λ (k : PsCore). k.store) ends) in
      let base : now.base ≡ loaded.store.base = l.leaves.owned.base ∙ later.base in
      let before : length s.base ≤ 2 = subst (λ (b : List DictId). length b ≤ 2) (sym later.base) (subst (λ (n : ℕ). n ≤ 2) (sym two_bases) (omega arith)) in
      let behind : length now.base ≤ 2 = subst (λ (b : List DictId). length b ≤ 2) (sym base) (subst (λ (n : ℕ). n ≤ 2) (sym two_bases) (omega arith)) in
      let f : Furnished p (record y { part = Table }) all =
      furnished_left p at loaded_printers s 1 20 0 prelude_dict t (mark_of now.table) now.base (Some top) l run.structs small few_dicts before (omega arith) behind in
      let is_table : record y { part = Table } ≡ y = ap (λ (q : Part). record y { part = q }) (sym l.knowing.making.part) in
      let d : AreDeferred p at.functions (record y { part = Table }) l.units p.units = deferred_left p at loaded_printers s 1 20 0 prelude_dict t (mark_of now.table) now.base (Some top) l in
      let units : units_of y ≡ Ok l.units =
      ap (λ (o : Option PsObj). or_missing o >>= items_in y) l.leaves.is_top.has_units ∙ ap Ok l.holds.items in
      subst (HasUnits p at) (sym same)
      (record {
        furnished = subst (λ (ds : List DictId). Furnished p (record y { part = Table }) ds) (sym (ap reverse base ∙ turned)) f;
        units = l.units;
        listed = units;
        deferred = subst (λ (z : StoreState). AreDeferred p at.functions z l.units p.units) is_table d;
      })

pub comes : (p : Program) (at : Placement) (x : StoreState) → Runnable p at → length (table_text p at) ≤ 16777216 → loaded.store.table.units + loaded.store.command.units + text_units (table_text p at) + table_made p at ≤ 8000000
    → table_steps p at + 2 ≤ 10000000 → IsTableOf (table_text p at) at.target (Ok x) → HasUnits p at x
comes p at x run short room few is =
    let text : List ℕ = table_text p at in
    let c : PsCore = is.0 in
    let g : MadeText 16777216 loaded.store text = text_made 16777216 loaded.store text short (omega arith) in
    let runs : runs_made loaded (making_string loaded.store text) (Ok tt) c = subst (λ (k : PsCore). runs_made k (making_string k.store text) (Ok tt) c) is.1.is_loaded is.1.runs in
    has_units p at run short room few g.id g.store x c g.made (later_grown (text_units text) loaded.store g.store g.grown) (subst (λ (k : Given StringId). runs_made loaded k (Ok tt) c) g.made runs) is.2

-- ---- a use

abbrev dict_given : Walked (DictId × PsObj) → DictId → DictId
dict_given (Ok given) d = given.0
dict_given (Err e) d = d

abbrev text_given : Walked (DictId × PsObj) → PsObj → PsObj
text_given (Ok given) x = given.1
text_given (Err e) x = x

pub forced : (p : Program) (fs : List Placed) (u : UnitRow) (c c' : PsCore) (k index left left' : ℕ) (t : StringId) (units : List PsObj) (answer : Answer) → RunsUnits p fs → FunctionsFollowed p fs 0 u.functions → length u.functions ≤ 40000
    → Furnished p (apart c).store (reverse c.store.base) → IsDeferred p fs u c.store index t → units_of c.store ≡ Ok units → slice_get units k ≡ Some (Dict (in_table index)) → c.store.table.units + c.store.command.units + unit_made p fs u ≤ 8000000
    → ForcesUnit k c (further (suc (unit_steps p fs u)) (suc left)) answer left' c' → Comes p fs u c index (suc left) answer left' c'
forced p fs u c c' k index left left' t units answer runs followed few furnished unit listed here room forces =
    let D : DictId = in_table index in
    let has : value_at (entries_of c.store D) FUNCTIONS ≡ Some (Str t true) =
    fields_value c.store (entries_of c.store D) ((codes "functions", Str t true) ∷ (codes "file", unit.file) ∷ []) (codes "functions") unit.fields.are in
    let stands : deferred c.store k ≡ Ok (D, Str t true) =
    ap (λ (us : Walked (List PsObj)). us >>= λ xs. or_missing (slice_get xs k) >>= deferred_in c.store) listed
    ∙ ap (λ (o : Option PsObj). or_missing o >>= deferred_in c.store) here
    ∙ ap (λ (o : Option PsObj). or_missing o >>= λ text. Ok (D, text)) has in
    let one : Walked (DictId × PsObj) = Ok (D, Str t true) in
    let other : Walked (DictId × PsObj) = Ok (forces.unit, forces.text) in
    let same : one ≡ other = sym stands ∙ forces.stands in
    let dict : forces.unit ≡ D = ap (λ (w : Walked (DictId × PsObj)). dict_given w D) (sym same) in
    let text : forces.text ≡ Str t true = ap (λ (w : Walked (DictId × PsObj)). text_given w (Str t true)) (sym same) in
    let f : Forces NoTarget (further (suc (unit_steps p fs u)) (suc left)) no_target c D FUNCTIONS (Str t true) forces.given left' forces.dial c' =
    subst (λ (x : PsObj). Forces NoTarget (further (suc (unit_steps p fs u)) (suc left)) no_target c D FUNCTIONS x forces.given left' forces.dial c') text
    (subst (λ (d : DictId). Forces NoTarget (further (suc (unit_steps p fs u)) (suc left)) no_target c d FUNCTIONS forces.text forces.given left' forces.dial c') dict forces.forces) in
    let found : forces.given ≢ Err ps.NoMemory = λ e. forces.found_memory (forces.answers ∙ ap answer_of e) in
    let g : Gives p fs u c index (suc left) no_target forces.given left' forces.dial c' = forced_gives NoTarget p fs runs u c c' index left left' t no_target forces.dial forces.given followed few furnished unit room f found in
    record { answered = forces.answers ∙ ap answer_of g.answer; remains = g.remains; object = g.object; functions = g.functions }
