-- The deferred text of a unit is run to its end.
use Rattle.std.proofs.Common.{◌≡◌, ℕ, pos, suc, ◌+◌, ◌<◌, ◌≤◌, Bool, true, false, ◌&&◌, ◌==◌, nat_le, if◌then◌else◌, Option, Some, Result, Ok, Err, List, [], ◌∷◌, ◌++◌, length, reverse, codes, refl, sym, ap, ◌∙◌, subst, arith, ne_eqb, lt-ltb, leb-true, append-nil, length-append}
use Rattle.std.specs.Prelude.{option_map}
use Rattle.ps_scan.specs.Bytes.{is_regular, is_white, is_special}
use Rattle.obj_file.specs.declared.object.FunctionRow.{FunctionRow as Placed}
use Rattle.c_tree.specs.declared.rows.Program.{Program}
use Rattle.c_tree.specs.declared.rows.UnitRow.{UnitRow}
use Rattle.c_tree.specs.Layout.{struct_size_of}
use Rattle.ps_store.specs.declared.object.Part.{Part}
use Rattle.ps_store.specs.declared.object.Part.TheVariants.{Table, Command}
use Rattle.ps_store.specs.declared.object.PsObj.{PsObj}
use Rattle.ps_store.specs.declared.object.PsObj.TheVariants.{Int, Array, Dict, Op, Mark}
use Rattle.ps_store.specs.declared.object.ArrayId.{ArrayId}
use Rattle.ps_store.specs.declared.object.DictId.{DictId}
use Rattle.ps_store.specs.declared.object.StringId.{StringId}
use Rattle.ps_store.specs.declared.object.Pair.{Pair}
use Rattle.ps_store.specs.declared.key.Key.{Key}
use Rattle.ps_store.specs.declared.key.Key.TheVariants.{Name as NameKey}
use Rattle.ps_store.specs.Entries.{value_at}
use Rattle.ps_store.specs.Operators.{operator_number}
use Rattle.ps_store.specs.StoreState.{StoreState}
use Rattle.ps_store.specs.Store.{Given, held, entries_of, making_dict}
use Rattle.ps_step.specs.declared.fault.PsError.{PsError}
use Rattle.ps_step.specs.declared.fault.PsError.TheVariants.{DictStackOverflow, DictStackUnderflow}
use Rattle.ps_step.specs.declared.item.Item.{Item}
use Rattle.ps_step.specs.declared.item.Item.TheVariants.{Text as TextItem}
use Rattle.ps_step.specs.declared.machine.PsCore.{PsCore}
use Rattle.ps_step.specs.Results.{◌>>=◌, stored, at as at_state}
use Rattle.ps_step.specs.Compare.{same_part}
use Rattle.ps_step.specs.Keys.{or_else, found_in, named}
use Rattle.ps_step.specs.Executing.{alone}
use Rattle.ps_run.specs.Scan.{Nothing}
use Rattle.ps_run.specs.Step.{Ended, Next, settled, step}
use Rattle.ps_text.specs.Code.{Code, Stop, Num, Word, render}
use Rattle.ps_text.specs.Grown.{IsArray, IsString}
use Rattle.ps_text.specs.Spells.{Fine, units}
use Rattle.ps_text.specs.Reading.{bare}
use Rattle.ps_text.proofs.Checks.{fine}
use Rattle.ps_text.proofs.First.{reads_end}
use Rattle.ps_terms.specs.Stands.{core}
use Rattle.ps_terms.specs.Printing.{further}
use Rattle.ps_emit.specs.Terms.{◌⋯◌}
use Rattle.ps_emit.specs.Functions.{functions_code, deferred}
use Rattle.ps_tables.specs.Taken.{Takes}
use Rattle.ps_tables.specs.Dictionaries.{with_dict, next_dict}
use Rattle.ps_tables.specs.Making.{AreThere, IsMaking}
use Rattle.ps_tables.specs.Later.{Later, StandsAt}
use Rattle.ps_tables.specs.Defined.{in_table}
use Rattle.ps_tables.specs.Senses.{Senses, HaveSenses, AreOther}
use Rattle.ps_tables.specs.WordsKnown.{word_senses}
use Rattle.ps_tables.proofs.Going.{takes_then, takes_one}
use Rattle.ps_tables.proofs.Putting.{entries_there}
use Rattle.ps_tables.proofs.Words.{count_is, dict_made}
use Rattle.ps_tables.proofs.Texts.{step_reads}
use Rattle.ps_tables.proofs.Types.{sized_later}
use Rattle.ps_tables.proofs.Stores.{later_then, later_within, later_made, making_later, named_later, stands_later}
use Rattle.ps_tables.proofs.Tokens.{Acted, word_acts, Pushed, number_pushes}
use Rattle.ps_tables.proofs.PieceSteps.{open_fine, open_number, opens, Closes, closes}
use Rattle.ps_tables.proofs.TablePieces.{assoc}
use Rattle.ps_tables.proofs.MembersRun.{further_is}
use Rattle.ps_tables.proofs.Known.{begin_later, senses_later}
use Rattle.unit_tables.specs.Amended.{Amended, HasNoNames}
use Rattle.unit_tables.specs.Running.{IsMade, Running}
use Rattle.unit_tables.specs.Conditions.{RunsUnits, FunctionsFollowed}
use Rattle.unit_tables.specs.Functions.{functions_steps, functions_made, function_rows, AreFunctions, unit_steps, unit_made}
use Rattle.unit_tables.specs.Units.{Furnished, LeavesFunctions}
use Rattle.unit_tables.proofs.Amended.{amended_then, amended_within, later_amended, no_names_amended}
use Rattle.unit_tables.proofs.Staying.{running_later}
use Rattle.unit_tables.proofs.Functions.{these, show_these, functions_few, FunctionsDone, made_after, functions_amended, functions_done}

dict_fine : Fine (Word (codes "dict") Stop)
unfolding is_white is_special is_regular
dict_fine = fine (Word (codes "dict") Stop) refl

begin_fine : Fine (Word (codes "begin") Stop)
unfolding is_white is_special is_regular
begin_fine = fine (Word (codes "begin") Stop) refl

end_fine : Fine (Word (codes "end") Stop)
unfolding is_white is_special is_regular
end_fine = fine (Word (codes "end") Stop) refl

one_fine : Fine (Num (pos 1) Stop)
unfolding is_white is_special is_regular
one_fine = fine (Num (pos 1) Stop) refl

dict_number : operator_number (codes "dict") ≡ Some 14
unfolding operator_number
dict_number = refl

begin_number : operator_number (codes "begin") ≡ Some 26
unfolding operator_number
begin_number = refl

end_number : operator_number (codes "end") ≡ Some 27
unfolding operator_number
end_number = refl

-- ---- furnished states

module _ (u : ℕ) (s s' : StoreState) (later : Later u s s') where
  pub furnished_later : (p : Program) (ds : List DictId) → Furnished p s ds → Furnished p s' ds
  furnished_later p ds f = record {
    making = making_later u s s' later ds f.making;
    have = senses_later u s s' later ds f.making.there word_senses f.have;
    no_kind = named_later u s s' later ds (codes "kind") f.making.there ∙ f.no_kind;
    no_tag = named_later u s s' later ds (codes "tag") f.making.there ∙ f.no_tag;
    structs = record {
      array = f.structs.array;
      items = f.structs.items;
      means = named_later u s s' later ds (codes "structs") f.making.there ∙ f.structs.means;
      holds = later.arrays f.structs.array f.structs.items f.structs.holds;
      sized = λ n l. let x = f.structs.sized n l in (x.0, x.1, sized_later u s s' later x.0 (struct_size_of p.defs n) x.2);
    };
    listed = record {
      array = f.listed.array;
      items = f.listed.items;
      means = named_later u s s' later ds (codes "objects") f.making.there ∙ f.listed.means;
      holds = later.arrays f.listed.array f.listed.items f.listed.holds;
      are = begin_later u s s' later ds f.making.there (length p.objects) f.listed.items f.listed.are;
    };
    few_dicts = f.few_dicts;
    base = subst (λ (b : List DictId). length b ≤ length ds) (sym later.base) f.base;
  }

-- ---- the unit's dictionary

module _ (s : StoreState) (is : s.closed.dicts ≤ length s.table.dicts) where
  abbrev S : StoreState
  S = with_dict s []

  abbrev D : DictId
  D = next_dict s

  empty : entries_of S D ≡ []
  empty = entries_there s is []

  nameless : HasNoNames S D
  nameless name = ap (λ (es : List (Key × Pair)). value_at es (NameKey name)) empty

  other_part : (p : Part) (i : ℕ) → i < length (held s p).dicts → (same_part p Table && i == length s.table.dicts) ≡ false
  other_part Table i h = ne_eqb _ _ (omega arith)
  other_part Command i h = refl

  pub all_other : (ds : List DictId) → AreThere s ds → AreOther ds D
  all_other [] h = tt
  all_other (d ∷ ds) h = (other_part d.part d.index h.0, all_other ds h.1)

  named_on : (ds : List DictId) (word : List ℕ) → named S (D ∷ ds) word ≡ named S ds word
  named_on ds word =
      ap (λ (o : Option PsObj). or_else o (option_map (λ n. Op n) (operator_number word)))
      (ap (λ (es : List (Key × Pair)). or_else (value_at es (NameKey word)) (found_in S ds (NameKey word))) empty)

  senses_on : (ds : List DictId) (ws : Senses) → HaveSenses S ds ws → HaveSenses S (D ∷ ds) ws
  senses_on ds [] h = tt
  senses_on ds (w ∷ ws) h = ((h.0.0, named_on ds w.0 ∙ h.0.1, h.0.2), senses_on ds ws h.1)

  -- it is on top, and empty
  pub begun : (p : Program) (ds : List DictId) → AreThere s ds → Furnished p S ds → Running p.defs p.symbols (length p.objects) S (length s.table.dicts) ds 0 (IsMade p.symbols 0)
  begun p ds there f = record {
    knowing = record {
      making = record {
        part = f.making.part;
        closed = f.making.closed;
        there = (let len : length (s.table.dicts ++ [] ∷ []) ≡ length s.table.dicts + 1 = length-append s.table.dicts ([] ∷ []) in omega arith, f.making.there);
        operators = λ name n e. named_on ds name ∙ f.making.operators name n e;
      };
      unclosed = is;
      others = all_other ds there;
      small = let e : length (entries_of S D) ≡ 0 = ap length empty in omega arith;
      no_kind = named_on ds (codes "kind") ∙ f.no_kind;
      no_tag = named_on ds (codes "tag") ∙ f.no_tag;
      have = senses_on ds word_senses f.have;
    };
    nameless = nameless;
    structs = record { array = f.structs.array; items = f.structs.items; means = named_on ds (codes "structs") ∙ f.structs.means; holds = f.structs.holds; sized = f.structs.sized };
    listed = record { array = f.listed.array; items = f.listed.items; means = named_on ds (codes "objects") ∙ f.listed.means; holds = f.listed.holds; are = f.listed.are };
    defined = λ n h. absurd h;
  }

-- what changed a dictionary that was not there changed nothing that was
later_beyond : (u v : ℕ) (s s₁ s₂ : StoreState) → Later u s s₁ → Amended v (next_dict s₁) (with_dict s₁ []) s₂ → s₁.part ≡ Table → Later (u + (1 + 0) + v) s s₂
later_beyond u v s s₁ s₂ a b table =
    let m : Later (1 + 0) s₁ (with_dict s₁ []) = later_made s₁ [] table in
    let c : Later (u + (1 + 0)) s (with_dict s₁ []) = later_then u (1 + 0) s s₁ (with_dict s₁ []) a m in
    let counted = c.counted in
    let counted' = b.counted in
    let more = c.more in
    let more' = b.more in
    record {
      strings = λ t text is. b.strings t text (c.strings t text is);
      arrays = λ x xs is. b.arrays x xs (c.arrays x xs is);
      dicts = λ d there.
          let one = c.dicts d there in
          let two = b.dicts d (apart d.part d.index (a.dicts d there).0) one.0 in
          (two.0, two.1 ∙ one.1);
      part = b.part ∙ c.part;
      closed = b.closed ∙ c.closed;
      base = b.base ∙ c.base;
      command = λ e. b.command (c.part ∙ e) ∙ c.command e;
      more = omega arith;
      counted = omega arith;
    }
  where
    apart : (p : Part) (i : ℕ) → i < length (held s₁ p).dicts → (same_part p Table && i == length s₁.table.dicts) ≡ false
    apart Table i h = ne_eqb _ _ (omega arith)
    apart Command i h = refl

-- ---- room

-- of an array of functions: so many units for them, and what was made before
module _ (before rows points : ℕ) (room : before + (5 + rows + points) ≤ 8000000) where
  fits_mark : before + 2 ≤ 8000000
  fits_mark = omega arith

  fits_items : (a : ℕ) → a ≤ before + 2 → a + points ≤ 8000000
  fits_items a made_a = omega arith

  fits_close : (a : ℕ) → a ≤ before + 2 → (b items : ℕ) → b ≤ a + points → items ≡ rows → b + (2 + (1 + items)) ≤ 8000000
  fits_close a made_a b items made_b same = omega arith

fits_row : (rows points items : ℕ) → items ≡ rows → 2 + points + (2 + (1 + items)) ≤ 5 + rows + points
fits_row rows points items same = omega arith

row_steps : (n : ℕ) → further 1 (further n 1) ≡ 2 + n
row_steps n = let f = further_is n 1 in omega arith

-- of a unit
module _ (before rows points : ℕ) (room : before + (12 + rows + points) ≤ 8000000) where
  fits_begin : before + 5 ≤ 8000000
  fits_begin = omega arith

  module _ (a : ℕ) (made_a : a ≤ before + 2) (b : ℕ) (made_b : b ≤ a + (1 + 0)) where
    fits_dict : b + 2 ≤ 8000000
    fits_dict = omega arith

    module _ (c : ℕ) (made_c : c ≤ b + 2) where
      fits_row_begun : c + (5 + rows + points) ≤ 8000000
      fits_row_begun = omega arith

      fits_end : (d : ℕ) → d ≤ c + (5 + rows + points) → d + 2 ≤ 8000000
      fits_end d made_d = omega arith

zero_few : {n : ℕ} → 0 ≤ n
zero_few = omega arith

few_items : (items rows numbers : ℕ) → items ≡ rows → rows ≤ numbers → numbers ≤ 40000 → items ≤ 1000000
few_items items rows numbers same less few = omega arith

fits_all : (rows points : ℕ) → 2 + (1 + 0) + (2 + (5 + rows + points) + 2) ≤ 12 + rows + points
fits_all rows points = omega arith

all_steps : (n : ℕ) → further 2 (further 1 (further (2 + n) 1)) ≡ 6 + n
all_steps n = let e = further_is (2 + n) 1 in omega arith

bases_few : (a b n : ℕ) → a ≡ b → b ≤ n → a < suc n
bases_few a b n same less = omega arith

-- ---- the run

module _ (program : Program) (fs : List Placed) (is_unit : RunsUnits program fs) (ds : List DictId) (t : StringId) where
  abbrev none_under : List Item
  none_under = []

  fits : length none_under + 100 ≤ 1000
  fits = omega arith

  text_ends : (s : StoreState) (o : List PsObj) (to : ℕ) → StandsAt s t to [] → step (core s ds o (TextItem t to ∷ [])) ≡ Ended (core s ds o [])
  text_ends s o to h = step_reads (core s ds o (TextItem t to ∷ [])) t to [] refl (Nothing s) (reads_end h.lead h.text s t to h.is_lead h.is h.within (h.here ∙ append-nil h.lead))

  -- `1 dict begin`
  record Begins (s : StoreState) (at : ℕ) (rest : List ℕ) : Type 0 where
    pub store : StoreState
    pub to : ℕ
    pub later : Later 2 s store
    pub making : IsMaking store ds
    pub stands : StandsAt (with_dict store []) t to rest
    pub takes : Takes 2 (core s ds [] (TextItem t at ∷ [])) (core (with_dict store []) ds (Dict (next_dict store) ∷ []) (TextItem t to ∷ []))

  begins : (k : Code) (s : StoreState) (at : ℕ) → IsMaking s ds → s.table.units + s.command.units + 5 ≤ 8000000 → StandsAt s t at (render (Num (pos 1) (Word (codes "dict") k)) ++ []) → Begins s at (render k ++ [])
  begins k s at is room here =
      let u : ℕ = units (Word (codes "dict") Stop) in
      let last : Code = Word (codes "dict") k in
      let p : Pushed s ds [] t at [] (Int (pos 1)) 0 (render last ++ []) = number_pushes s ds [] t at [] (pos 1) last [] one_fine here (omega arith) (omega arith) in
      let s₁ : StoreState = p.store in
      let counted₁ : s₁.table.units + s₁.command.units ≤ s.table.units + s.command.units + 0 = p.later.counted in
      let is₁ : IsMaking s₁ ds = making_later 0 s s₁ p.later ds is in
      let w : Acted s₁ ds (Int (pos 1) ∷ []) t p.to [] (Op 14) u (render k ++ []) =
      word_acts s₁ ds (Int (pos 1) ∷ []) t p.to [] (codes "dict") k [] (Op 14) dict_fine (is₁.operators (codes "dict") 14 dict_number) is₁.there p.stands (omega arith) in
      let s₂ : StoreState = w.store in
      let counted₂ : s₂.table.units + s₂.command.units ≤ s₁.table.units + s₁.command.units + u = w.later.counted in
      let is₂ : IsMaking s₂ ds = making_later u s₁ s₂ w.later ds is₁ in
      let s₃ : StoreState = with_dict s₂ [] in
      let made : Later (1 + 0) s₂ s₃ = later_made s₂ [] is₂.part in
      let c : PsCore = core s₂ ds (Int (pos 1) ∷ []) (TextItem t w.to ∷ []) in
      let c₀ : PsCore = core s ds [] (TextItem t at ∷ []) in
      let c₁ : PsCore = core s₁ ds (Int (pos 1) ∷ []) (TextItem t p.to ∷ []) in
      let c₂ : PsCore = core s₃ ds (Dict (next_dict s₂) ∷ []) (TextItem t w.to ∷ []) in
      let second : step c₁ ≡ Next c₂ =
      w.steps
      ∙ ap (λ (r : Result ℕ PsError). settled (alone (at_state c (r >>= λ n. stored (making_dict s₂) >>= λ given. Ok (core given.1 ds (Dict given.0 ∷ []) (TextItem t w.to ∷ [])))))) (count_is 1)
      ∙ ap (λ (g : Given DictId). settled (alone (at_state c (stored g >>= λ given. Ok (core given.1 ds (Dict given.0 ∷ []) (TextItem t w.to ∷ [])))))) (dict_made s₂ ds is₂ (omega arith)) in
      record {
        store = s₂;
        to = w.to;
        later = later_within (0 + u) 2 s s₂ (omega arith) (later_then 0 u s s₁ s₂ p.later w.later);
        making = is₂;
        stands = stands_later (1 + 0) s₂ s₃ made t w.to (render k ++ []) w.stands;
        takes = takes_then 1 1 c₀ c₁ c₂ (takes_one c₀ c₁ p.steps) (takes_one c₁ c₂ second);
      }

  -- ---- the array of the functions

  module _ (u : UnitRow) (i : ℕ) where
    abbrev all : List DictId
    all = in_table i ∷ ds

    record RowDone (s : StoreState) (at : ℕ) (rest : List ℕ) : Type 0 where
      pub store : StoreState
      pub array : ArrayId
      pub items : List PsObj
      pub to : ℕ
      pub making : IsMaking store all
      pub nameless : HasNoNames store (in_table i)
      pub holds : IsArray store array items
      pub are : AreFunctions program fs store items (function_rows program fs u.functions)
      pub amended : Amended (5 + length (function_rows program fs u.functions) + functions_made program fs 0 u.functions) (in_table i) s store
      pub stands : StandsAt store t to rest
      pub takes : Takes (2 + functions_steps program fs 0 u.functions) (core s all [] (TextItem t at ∷ [])) (core store all (Array array false ∷ []) (TextItem t to ∷ []))

    row_done : (k : Code) (s : StoreState) (at : ℕ) → FunctionsFollowed program fs 0 u.functions → length u.functions ≤ 40000 → Running program.defs program.symbols (length program.objects) s i ds 0 (IsMade program.symbols 0)
        → s.table.units + s.command.units + (5 + length (function_rows program fs u.functions) + functions_made program fs 0 u.functions) ≤ 8000000
        → StandsAt s t at (render (Word (codes "[") (functions_code program fs 0 u.functions ⋯ Word (codes "]") k)) ++ []) → RowDone s at (render k ++ [])
    row_done k s at followed few_functions run room stands =
        let few_stack : 1 + length u.functions ≤ 50000 = omega arith in
        let rows : ℕ = length (function_rows program fs u.functions) in
        let c : ℕ = functions_made program fs 0 u.functions in
        let n : ℕ = functions_steps program fs 0 u.functions in
        let functions : Code = functions_code program fs 0 u.functions in
        let closing : Code = Word (codes "]") k in
        let v : ℕ = units (Word (codes "[") Stop) in
        let marked : Pushed s all [] t at [] Mark v (render (functions ⋯ closing) ++ []) =
        opens all t [] [] s (codes "[") 9 open_fine open_number (λ c. refl) (functions ⋯ closing) [] at run.knowing.making stands (fits_mark (s.table.units + s.command.units) rows c room) (omega arith) in
        let s₁ : StoreState = marked.store in
        let counted₁ : s₁.table.units + s₁.command.units ≤ s.table.units + s.command.units + v = marked.later.counted in
        let run₁ = running_later program.defs program.symbols (length program.objects) i ds v 0 (IsMade program.symbols 0) s s₁ marked.later run in
        let r : FunctionsDone program fs is_unit i ds t [] fits [] c n s₁ (made_after program fs is_unit i ds t [] fits [] 0 u.functions) (Mark ∷ []) marked.to (render closing ++ []) (function_rows program fs u.functions) =
        functions_done program fs is_unit i ds t [] fits [] u.functions closing 0 s₁ (Mark ∷ []) marked.to followed zero_few run₁ few_stack (fits_items (s.table.units + s.command.units) rows c room (s₁.table.units + s₁.command.units) counted₁) marked.stands in
        let s₂ : StoreState = r.store in
        let counted₂ : s₂.table.units + s₂.command.units ≤ s₁.table.units + s₁.command.units + c = r.amended.counted in
        let many : length r.items ≡ rows = r.many in
        let v' : ℕ = units (Word (codes "]") Stop) + (1 + length r.items) in
        let is₂ : IsMaking s₂ all = r.running.knowing.making in
        let x : Closes s₂ all is₂ t [] r.items [] r.to (render k ++ []) v' =
        closes s₂ all is₂ t [] (these r.items) k [] r.items [] r.to (show_these s₂ r.items r.values) (few_items (length r.items) rows (length u.functions) many (functions_few program fs u.functions) few_functions)
        (fits_close (s.table.units + s.command.units) rows c room (s₁.table.units + s₁.command.units) counted₁ (s₂.table.units + s₂.command.units) (length r.items) counted₂ many) r.stands in
        let s₃ : StoreState = x.store in
        let a₁ : Amended v (in_table i) s s₁ = later_amended v (in_table i) s s₁ marked.later in
        let a₂ : Amended v' (in_table i) s₂ s₃ = later_amended v' (in_table i) s₂ s₃ x.later in
        let k₀ : PsCore = core s all [] (TextItem t at ∷ []) in
        let k₁ : PsCore = core s₁ all (Mark ∷ []) (TextItem t marked.to ∷ []) in
        let k₂ : PsCore = core s₂ all (r.items ++ Mark ∷ []) (TextItem t r.to ∷ []) in
        let k₃ : PsCore = core s₃ all (Array x.array false ∷ []) (TextItem t x.to ∷ []) in
        let going : Takes (further 1 (further n 1)) k₀ k₃ = takes_then 1 (further n 1) k₀ k₁ k₃ (takes_one k₀ k₁ marked.steps) (takes_then n 1 k₁ k₂ k₃ r.takes (takes_one k₂ k₃ x.steps)) in
        record {
          store = s₃;
          array = x.array;
          items = reverse r.items;
          to = x.to;
          making = making_later v' s₂ s₃ x.later all is₂;
          nameless = no_names_amended v' i s₂ s₃ a₂ is₂.there.0 r.running.nameless;
          holds = x.is_array;
          are = functions_amended program fs is_unit i ds t [] fits [] v' s₂ s₃ a₂ r.running.nameless (reverse r.items) (function_rows program fs u.functions) r.are;
          amended = amended_within (v + c + v') (5 + rows + c) (in_table i) s s₃ (fits_row rows c (length r.items) many)
              (amended_then (v + c) v' (in_table i) s s₂ s₃ (amended_then v c (in_table i) s s₁ s₂ a₁ r.amended) a₂);
          stands = x.stands;
          takes = subst (λ (j : ℕ). Takes j k₀ k₃) (row_steps n) going;
        }

  not_more : (a b : ℕ) → b < a → nat_le a b ≡ false
  not_more a b l = by (nat_le a b) refl
    where
      by : (c : Bool) → nat_le a b ≡ c → c ≡ false
      by true e = absurd (let k : a ≤ b = leb-true a b e in omega arith)
      by false e = refl

  text_is : (functions : Code) → ((Word (codes "[") (functions ⋯ Word (codes "]") Stop)) ⋯ Word (codes "end") Stop) ≡ Word (codes "[") (functions ⋯ Word (codes "]") (Word (codes "end") Stop))
  text_is functions = ap (λ c. Word (codes "[") c) (assoc functions (Word (codes "]") Stop) (Word (codes "end") Stop))

  pub unit_leaves : (u : UnitRow) (s : StoreState) → FunctionsFollowed program fs 0 u.functions → length u.functions ≤ 40000 → Furnished program s ds → s.table.units + s.command.units + unit_made program fs u ≤ 8000000
      → IsString s t (render (deferred program fs u)) → LeavesFunctions program fs u (unit_steps program fs u) (unit_made program fs u) s ds t 0
  unit_leaves u s followed few_functions f room is_text =
      let functions : Code = functions_code program fs 0 u.functions in
      let ends : Code = Word (codes "end") Stop in
      let closing : Code = Word (codes "]") ends in
      let opening : Code = Word (codes "[") (functions ⋯ closing) in
      let c₀ : ℕ = functions_made program fs 0 u.functions in
      let n₀ : ℕ = functions_steps program fs 0 u.functions in
      let text : List ℕ = render (deferred program fs u) in
      let whole : text ++ [] ≡ render (Num (pos 1) (Word (codes "dict") (Word (codes "begin") opening))) ++ [] =
      ap (λ (c : Code). render (Num (pos 1) (Word (codes "dict") (Word (codes "begin") c))) ++ []) (text_is functions) in
      let here : StandsAt s t 0 (text ++ []) = record { text = text; lead = []; is_lead = bare; is = is_text; here = sym (append-nil text); within = omega arith } in
      let before₀ : ℕ = s.table.units + s.command.units in
      let b : Begins s 0 (render (Word (codes "begin") opening) ++ []) =
      begins (Word (codes "begin") opening) s 0 f.making (fits_begin before₀ (length (function_rows program fs u.functions)) c₀ room) (subst (λ (l : List ℕ). StandsAt s t 0 l) whole here) in
      let s₁ : StoreState = b.store in
      let counted₁ : s₁.table.units + s₁.command.units ≤ s.table.units + s.command.units + 2 = b.later.counted in
      let i : ℕ = length s₁.table.dicts in
      let D' : DictId = next_dict s₁ in
      let all' : List DictId = D' ∷ ds in
      let before : ℕ = s.table.units + s.command.units in
      let rows : ℕ = length (function_rows program fs u.functions) in
      let x₁ : ℕ = s₁.table.units + s₁.command.units in
      let s₂ : StoreState = with_dict s₁ [] in
      let x₂ : ℕ = s₂.table.units + s₂.command.units in
      let made : Later (1 + 0) s₁ s₂ = later_made s₁ [] b.making.part in
      let f₁ : Furnished program s₁ ds = furnished_later 2 s s₁ b.later program ds f in
      let f₂ : Furnished program s₂ ds = furnished_later (1 + 0) s₁ s₂ made program ds f₁ in
      let run₂ = begun s₁ b.making.closed program ds f₁.making.there f₂ in
      -- `begin`
      let v₁ : ℕ = units (Word (codes "begin") Stop) in
      let w : Acted s₂ ds (Dict D' ∷ []) t b.to [] (Op 26) v₁ (render opening ++ []) =
      word_acts s₂ ds (Dict D' ∷ []) t b.to [] (codes "begin") opening [] (Op 26) begin_fine (f₂.making.operators (codes "begin") 26 begin_number) f₂.making.there b.stands (fits_dict before rows c₀ room x₁ counted₁ x₂ made.counted) in
      let s₃ : StoreState = w.store in
      let counted₃ : s₃.table.units + s₃.command.units ≤ s₂.table.units + s₂.command.units + v₁ = w.later.counted in
      let x₃ : ℕ = s₃.table.units + s₃.command.units in
      let pushed : PsCore = core s₃ all' [] (TextItem t w.to ∷ []) in
      let at_begin : PsCore = core s₃ ds (Dict D' ∷ []) (TextItem t w.to ∷ []) in
      let begin_step : step (core s₂ ds (Dict D' ∷ []) (TextItem t b.to ∷ [])) ≡ Next pushed =
      w.steps ∙ ap (λ (c : Bool). settled (alone (at_state at_begin (if c then Ok pushed else Err DictStackOverflow)))) (lt-ltb (length ds) 64 f.few_dicts) in
      let run₃ = running_later program.defs program.symbols (length program.objects) i ds v₁ 0 (IsMade program.symbols 0) s₂ s₃ w.later run₂ in
      -- the functions
      let r : RowDone u i s₃ w.to (render ends ++ []) = row_done u i ends s₃ w.to followed few_functions run₃ (fits_row_begun before rows c₀ room x₁ counted₁ x₂ made.counted x₃ counted₃) w.stands in
      let s₆ : StoreState = r.store in
      let counted₆ : s₆.table.units + s₆.command.units ≤ s₃.table.units + s₃.command.units + (5 + rows + c₀) = r.amended.counted in
      -- `end`
      let v₄ : ℕ = units (Word (codes "end") Stop) in
      let y : Acted s₆ all' (Array r.array false ∷ []) t r.to [] (Op 27) v₄ (render Stop ++ []) =
      word_acts s₆ all' (Array r.array false ∷ []) t r.to [] (codes "end") Stop [] (Op 27) end_fine (r.making.operators (codes "end") 27 end_number) r.making.there r.stands
      (fits_end before rows c₀ room x₁ counted₁ x₂ made.counted x₃ counted₃ (s₆.table.units + s₆.command.units) counted₆) in
      let s₇ : StoreState = y.store in
      let a₁ : Amended v₁ D' s₂ s₃ = later_amended v₁ D' s₂ s₃ w.later in
      let a₄ : Amended v₄ D' s₆ s₇ = later_amended v₄ D' s₆ s₇ y.later in
      let a₂₇ : Amended (v₁ + (5 + rows + c₀) + v₄) D' s₂ s₇ = amended_then (v₁ + (5 + rows + c₀)) v₄ D' s₂ s₆ s₇ (amended_then v₁ (5 + rows + c₀) D' s₂ s₃ s₆ a₁ r.amended) a₄ in
      let later : Later (2 + (1 + 0) + (v₁ + (5 + rows + c₀) + v₄)) s s₇ = later_beyond 2 (v₁ + (5 + rows + c₀) + v₄) s s₁ s₇ b.later a₂₇ b.making.part in
      let bases : length s₇.base ≡ length s.base = ap length later.base in
      let at_end : PsCore = core s₇ all' (Array r.array false ∷ []) (TextItem t y.to ∷ []) in
      let popped : PsCore = core s₇ ds (Array r.array false ∷ []) (TextItem t y.to ∷ []) in
      let k₅ : PsCore = core s₆ all' (Array r.array false ∷ []) (TextItem t r.to ∷ []) in
      let end_step : step k₅ ≡ Next popped =
      y.steps ∙ ap (λ (c : Bool). settled (alone (at_state at_end (if c then Err DictStackUnderflow else Ok popped)))) (not_more (suc (length ds)) (length s₇.base) (bases_few (length s₇.base) (length s.base) (length ds) bases f.base)) in
      let k₀ : PsCore = core s ds [] (TextItem t 0 ∷ []) in
      let k₁ : PsCore = core s₂ ds (Dict D' ∷ []) (TextItem t b.to ∷ []) in
      let going : Takes (further 2 (further 1 (further (2 + n₀) 1))) k₀ popped =
      takes_then 2 (further 1 (further (2 + n₀) 1)) k₀ k₁ popped b.takes
      (takes_then 1 (further (2 + n₀) 1) k₁ pushed popped (takes_one k₁ pushed begin_step) (takes_then (2 + n₀) 1 pushed k₅ popped r.takes (takes_one k₅ popped end_step))) in
      record {
        store = s₇;
        array = r.array;
        items = r.items;
        to = y.to;
        holds = y.later.arrays r.array r.items r.holds;
        are = functions_amended program fs is_unit i ds t [] fits [] v₄ s₆ s₇ a₄ r.nameless r.items (function_rows program fs u.functions) r.are;
        later = later_within (2 + (1 + 0) + (v₁ + (5 + rows + c₀) + v₄)) (unit_made program fs u) s s₇ (fits_all rows c₀) later;
        takes = subst (λ (j : ℕ). Takes j k₀ popped) (all_steps n₀) going;
        ends = text_ends s₇ (Array r.array false ∷ []) y.to y.stands;
      }
