-- The text of a table runs to its end.
use Rattle.std.proofs.Common.{◌≡◌, ℕ, suc, ◌+◌, ◌*◌, ◌<◌, ◌≤◌, ◌^◌, true, List, [], ◌∷◌, ◌++◌, length, drop, reverse, refl, sym, ap, ◌∙◌, subst, arith, append-nil}
use Rattle.c_tree.specs.declared.rows.Program.{Program}
use Rattle.ps_store.specs.declared.object.PsObj.{PsObj}
use Rattle.ps_store.specs.declared.object.PsObj.TheVariants.{Str, Dict}
use Rattle.ps_store.specs.declared.object.DictId.{DictId}
use Rattle.ps_store.specs.declared.object.StringId.{StringId}
use Rattle.ps_store.specs.StoreState.{StoreState}
use Rattle.ps_step.specs.declared.item.Item.{Item}
use Rattle.ps_step.specs.declared.item.Item.TheVariants.{Object, Text as TextItem}
use Rattle.ps_step.specs.declared.machine.PsCore.{PsCore}
use Rattle.ps_run.specs.Scan.{Nothing, reading_object}
use Rattle.ps_run.specs.Step.{Ended, Next, step}
use Rattle.ps_run.specs.Runs.{Answer, Operates, Runs}
use Rattle.ps_run.proofs.Apart.{finished}
use Rattle.ps_text.specs.Code.{Code, Stop, Num, Word, Lit, Text, Proc, render}
use Rattle.ps_text.specs.Grown.{IsString}
use Rattle.ps_text.specs.Reading.{bare}
use Rattle.ps_text.proofs.First.{reads_end}
use Rattle.ps_terms.specs.Stands.{core}
use Rattle.ps_terms.specs.Printing.{further}
use Rattle.ps_emit.specs.declared.placement.Placement.{Placement}
use Rattle.ps_emit.specs.Terms.{◌⋯◌}
use Rattle.ps_emit.specs.Types.{filled_structs}
use Rattle.ps_emit.specs.Places.{objects_code}
use Rattle.ps_emit.specs.Table.{top_code, parts_code, table_code, table_text}
use Rattle.ps_tables.specs.Taken.{Takes}
use Rattle.ps_tables.specs.Later.{StandsAt}
use Rattle.ps_tables.specs.Pieces.{cost, steps, Bottom, after, Performs}
use Rattle.ps_tables.specs.TablePieces.{anchors, tags, units, top}
use Rattle.ps_tables.specs.Runnable.{Runnable}
use Rattle.ps_tables.specs.Defined.{in_table}
use Rattle.ps_tables.specs.Senses.{Knowing}
use Rattle.ps_tables.specs.Reached.{Owned, Reaches}
use Rattle.ps_tables.specs.WordsKnown.{Printers, AreNoMarks, printer_senses, word_senses}
use Rattle.ps_tables.specs.PartsKnown.{with_structs, with_objects}
use Rattle.ps_tables.specs.Tabled.{structs_made, filling_made, filling_steps, object_units, object_steps, top_made, top_steps, table_made, table_steps, LeavesTop, EndsAtTop}
use Rattle.ps_tables.specs.Left.{LeavesTable}
use Rattle.ps_tables.proofs.Going.{takes_then, taken}
use Rattle.ps_tables.proofs.Texts.{step_reads}
use Rattle.ps_tables.proofs.TablePieces.{top_performs}
use Rattle.ps_tables.proofs.Sequence.{owned_then, owned_within, owned_later, knowing_later}
use Rattle.ps_tables.proofs.WordsKnown.{words_reached}
use Rattle.ps_tables.proofs.MembersRun.{further_is, fill_all}
use Rattle.ps_tables.proofs.StructsRun.{structs_reached}
use Rattle.ps_tables.proofs.ObjectsRun.{objects_reached}
use Rattle.ps_tables.proofs.TopRun.{top_cost, top_take, top_room, TopShown, top_has, units_left_in, structs_long, Parts, parts}

follow_stop : (c : Code) → (c ⋯ Stop) ≡ c
follow_stop Stop = refl
follow_stop (Num n rest) = ap (λ k. Num n k) (follow_stop rest)
follow_stop (Word name rest) = ap (λ k. Word name k) (follow_stop rest)
follow_stop (Lit name rest) = ap (λ k. Lit name k) (follow_stop rest)
follow_stop (Text bytes rest) = ap (λ k. Text bytes k) (follow_stop rest)
follow_stop (Proc body rest) = ap (λ k. Proc body k) (follow_stop rest)

module _ (index : ℕ) (ds : List DictId) (t : StringId) (pr : Printers) where
  abbrev all : List DictId
  all = in_table index ∷ ds

  -- the end of the text
  text_ends : (s : StoreState) (o : List PsObj) (to : ℕ) → StandsAt s t to [] → step (core s all o (TextItem t to ∷ [])) ≡ Ended (core s all o [])
  text_ends s o to h = step_reads (core s all o (TextItem t to ∷ [])) t to [] refl (Nothing s) (reads_end h.lead h.text s t to h.is_lead h.is h.within (h.here ∙ append-nil h.lead))

  -- the definitions
  pub definitions_reached : (p : Program) (at : Placement) (n : ℕ) (s : StoreState) (from : ℕ) → Runnable p at → AreNoMarks pr → Knowing s index ds n (printer_senses pr) → n < 800000
      → s.table.units + s.command.units + table_made p at ≤ 8000000 → StandsAt s t from (render (table_code p at) ++ [])
      → Reaches index ds t [] (139 + (4 + 19 * length p.defs) + filling_steps p.defs p.defs + object_steps p) (796 + (10 + length p.defs + structs_made p.defs) + filling_made p.defs p.defs + object_units p) (n + 20)
      (with_objects pr (4 + length p.defs) (length p.objects) p.defs) s from (render (top_code p at) ++ [])
  definitions_reached p at n s from run marks knowing few units_fit here =
      let few_defs = run.few_structs in
      let a : ℕ = 10 + length p.defs + structs_made p.defs in
      let b : ℕ = filling_made p.defs p.defs in
      let c : ℕ = object_units p in
      let w : Reaches index ds t [] 139 796 (n + 18) (word_senses ++ printer_senses pr) s from (render (parts_code p at) ++ []) =
      words_reached index ds t [] (omega arith) [] pr (parts_code p at) n s from marks knowing (omega arith) (omega arith) here in
      let counted₁ = w.owned.counted in
      let last : Code = objects_code p ⋯ top_code p at in
      let st : Reaches index ds t [] (4 + 19 * length p.defs) a (n + 18 + 1) (with_structs pr 4 p.defs) w.store w.to (render (filled_structs 0 p.defs ⋯ last) ++ []) =
      structs_reached index ds t [] (omega arith) [] pr p.defs run.structs (omega arith) (filled_structs 0 p.defs ⋯ last) (n + 18) w.store w.to w.knowing (omega arith) (omega arith) w.stands in
      let counted₂ = st.owned.counted in
      let fl : Reaches index ds t [] (filling_steps p.defs p.defs) b (n + 18 + 1) (with_structs pr (4 + length p.defs) p.defs) st.store st.to (render last ++ []) =
      fill_all index ds t [] (omega arith) [] pr p.defs run.structs (omega arith) 0 p.defs last (n + 18 + 1) 4 st.store st.to st.knowing (omega arith) run.structs (omega arith) (omega arith) st.stands in
      let counted₃ = fl.owned.counted in
      let ob : Reaches index ds t [] (object_steps p) c (n + 18 + 1 + 1) (with_objects pr (4 + length p.defs) (length p.objects) p.defs) fl.store fl.to (render (top_code p at) ++ []) =
      objects_reached index ds t [] (omega arith) [] pr p (top_code p at) (n + 18 + 1) (4 + length p.defs) fl.store fl.to run.structs (omega arith) run.objects run.strings run.few_objects fl.knowing (omega arith) (omega arith) fl.stands in
      let c₀ : PsCore = core s all [] (TextItem t from ∷ []) in
      let c₁ : PsCore = core w.store all [] (TextItem t w.to ∷ []) in
      let c₂ : PsCore = core st.store all [] (TextItem t st.to ∷ []) in
      let c₃ : PsCore = core fl.store all [] (TextItem t fl.to ∷ []) in
      let c₄ : PsCore = core ob.store all [] (TextItem t ob.to ∷ []) in
      let x : ℕ = 4 + 19 * length p.defs in
      let y : ℕ = filling_steps p.defs p.defs in
      let z : ℕ = object_steps p in
      let two : Takes (139 + x) c₀ c₂ = subst (λ m. Takes m c₀ c₂) (further_is 139 x) (takes_then 139 x c₀ c₁ c₂ w.takes st.takes) in
      let three : Takes (139 + x + y) c₀ c₃ = subst (λ m. Takes m c₀ c₃) (further_is (139 + x) y) (takes_then (139 + x) y c₀ c₂ c₃ two fl.takes) in
      record {
        store = ob.store;
        to = ob.to;
        knowing = subst (λ (m : ℕ). Knowing ob.store index ds m (with_objects pr (4 + length p.defs) (length p.objects) p.defs)) (omega arith) ob.knowing;
        owned = owned_then (796 + a + b) c s fl.store ob.store (owned_then (796 + a) b s st.store fl.store (owned_then 796 a s w.store st.store w.owned st.owned) fl.owned) ob.owned;
        stands = ob.stands;
        takes = subst (λ m. Takes m c₀ c₄) (further_is (139 + x + y) z) (takes_then (139 + x + y) z c₀ c₃ c₄ three ob.takes);
      }

  pub table_leaves : (p : Program) (at : Placement) (n : ℕ) (s : StoreState) (from : ℕ) → Runnable p at → AreNoMarks pr → Knowing s index ds n (printer_senses pr) → n < 800000
      → s.table.units + s.command.units + table_made p at ≤ 8000000 → StandsAt s t from (render (table_code p at)) → LeavesTable index ds t pr (n + 20) p at s from
  table_leaves p at n s from run marks knowing few units_fit here =
      let few_defs = run.few_structs in
      let x : ℕ = 139 + (4 + 19 * length p.defs) + filling_steps p.defs p.defs + object_steps p in
      let u : ℕ = 796 + (10 + length p.defs + structs_made p.defs) + filling_made p.defs p.defs + object_units p in
      let b : ℕ = 4 + length p.defs in
      let r : Reaches index ds t [] x u (n + 20) (with_objects pr b (length p.objects) p.defs) s from (render (top_code p at) ++ []) =
      definitions_reached p at n s from run marks knowing few units_fit (subst (λ (l : List ℕ). StandsAt s t from l) (sym (append-nil (render (table_code p at)))) here) in
      let counted = r.owned.counted in
      let k : Parts index ds pr r.store b p at = parts index ds pr r.store (n + 20) b p at r.knowing run.structs run.few_structs run.anchors run.few_anchors run.units run.few_units in
      let size : cost (top p at k.objects k.structs) ≡ top_made p at = top_cost p at k.objects k.structs r.store b k.are in
      let taken : steps (top p at k.objects k.structs) ≡ top_steps p at = top_take p at k.objects k.structs r.store b k.are in
      let c₀ : PsCore = core s all [] (TextItem t from ∷ []) in
      let q : Performs (cost (top p at k.objects k.structs)) (steps (top p at k.objects k.structs)) (after (top p at k.objects k.structs) Bottom) r.store all [] [] t r.to (render Stop ++ []) [] =
      top_performs all t [] (omega arith) [] p at k.objects k.structs Stop r.store [] r.to (structs_long r.store b k.structs p.defs k.are) (omega arith) r.knowing.making k.knows
      (top_room p at k.objects k.structs r.store b k.are run.few_anchors run.few_structs run.few_units) (omega arith) (subst (λ (c : Code). StandsAt r.store t r.to (render c ++ [])) (sym (follow_stop (top_code p at))) r.stands) in
      let whole : q.operands ++ [] ≡ Dict q.shows.0 ∷ [] = ap (λ l. l ++ []) (q.shows.3 ∙ ap (λ l. Dict q.shows.0 ∷ l) q.shows.6) in
      let c₁ : PsCore = core r.store all [] (TextItem t r.to ∷ []) in
      let c₂ : PsCore = core q.store all (Dict q.shows.0 ∷ []) (TextItem t q.to ∷ []) in
      let shown : TopShown q.store at.target (after (anchors 0 at.anchors) Bottom) (after (tags 0 p.defs k.structs) Bottom) (after (units p at.functions p.units) Bottom) k.objects q.shows.0 =
      top_has q.store at.target (after (anchors 0 at.anchors) Bottom) (after (tags 0 p.defs k.structs) Bottom) (after (units p at.functions p.units) Bottom) k.objects q.shows.0 q.shows.1 q.shows.4 q.shows.5 in
      let last : Takes (top_steps p at) c₁ c₂ = subst (λ m. Takes m c₁ c₂) taken (subst (λ l. Takes (steps (top p at k.objects k.structs)) c₁ (core q.store all l (TextItem t q.to ∷ []))) whole q.takes) in
      record {
        knowing = knowing_later (cost (top p at k.objects k.structs)) r.store q.store q.later index ds (n + 20) (with_objects pr b (length p.objects) p.defs) r.knowing;
        units = reverse shown.units;
        holds = shown.holds;
        are = units_left_in p at.functions q.store p.units shown.units shown.shows;
        leaves = record {
          store = q.store;
          top = q.shows.0;
          to = q.to;
          is_top = shown.is_top;
          owned = owned_within (u + cost (top p at k.objects k.structs)) (table_made p at) s q.store (omega arith)
              (owned_then u (cost (top p at k.objects k.structs)) s r.store q.store r.owned (owned_later (cost (top p at k.objects k.structs)) r.store q.store all r.knowing.making q.later));
          takes = subst (λ m. Takes m c₀ c₂) (further_is x (top_steps p at)) (takes_then x (top_steps p at) c₀ c₁ c₂ r.takes last);
          ends = text_ends q.store (Dict q.shows.0 ∷ []) q.to q.stands;
        };
      }

  pub text_leaves_table : (p : Program) (at : Placement) (n : ℕ) (s : StoreState) → Runnable p at → AreNoMarks pr → Knowing s index ds n (printer_senses pr) → n < 800000 → s.table.units + s.command.units + table_made p at ≤ 8000000
      → IsString s t (table_text p at) → LeavesTable index ds t pr (n + 20) p at s 0
  unfolding table_text
  text_leaves_table p at n s run marks knowing few units_fit is =
      table_leaves p at n s 0 run marks knowing few units_fit (record { text = table_text p at; lead = []; is_lead = bare; is = is; here = refl; within = omega arith })

  pub text_leaves : (p : Program) (at : Placement) (n : ℕ) (s : StoreState) → Runnable p at → AreNoMarks pr → Knowing s index ds n (printer_senses pr) → n < 800000 → s.table.units + s.command.units + table_made p at ≤ 8000000 → IsString s t (table_text p at)
      → LeavesTop index ds t (table_steps p at) (table_made p at) at.target s 0
  text_leaves p at n s run marks knowing few units_fit is = (text_leaves_table p at n s run marks knowing few units_fit is).leaves

  -- a run of the text as an object
  pub runs_to_top : {D : Type 0} (Op : Operates D) (steps made target left : ℕ) (s : StoreState) (d d' : D) (m : ℕ) (c' : PsCore) (r : Answer) → LeavesTop index ds t steps made target s 0
      → Runs Op (further (suc steps) (suc left)) d (core s all [] (Object (Str t true) ∷ [])) r m d' c' → EndsAtTop index ds t steps made target s (suc left) d r m d' c'
  runs_to_top Op steps made target left s d d' m c' r leaves run =
      let c₀ : PsCore = core s all [] (Object (Str t true) ∷ []) in
      let c₁ : PsCore = core s all [] (TextItem t 0 ∷ []) in
      let c₂ : PsCore = core leaves.store all (Dict leaves.top ∷ []) (TextItem t leaves.to ∷ []) in
      let c₃ : PsCore = core leaves.store all (Dict leaves.top ∷ []) [] in
      let f = finished Op left d c₂ c₃ r m d' c' leaves.ends (taken Op (suc steps) (suc left) m d d' c₀ c₂ c' r (c₁, refl, leaves.takes) run) in
      record { leaves = leaves; answer = f.answered; remains = f.left; dialect = f.dialect; state = f.core }
