-- The points of a function are made.
use Rattle.std.proofs.Common.{◌≡◌, ◌⊎◌, inl, inr, ℕ, zero, suc, ◌+◌, ◌<◌, ◌≤◌, Bool, true, false, nat_lt, if◌then◌else◌, Option, Some, None, List, [], ◌∷◌, ◌++◌, length, reverse, codes, slice_get, refl, sym, ap, ◌∙◌, subst, arith, append_assoc, length-append, lt-ltb, le-ltb, ltb-false}
use Rattle.std.proofs.lemmas.List.{reverse-append}
use Rattle.std.specs.List.{AllByRecursion}
use Rattle.ldb_words.specs.Word.{signed}
use Rattle.ps_scan.specs.Bytes.{is_regular, is_white, is_special}
use Rattle.obj_file.specs.declared.object.FunctionRow.{FunctionRow as Placed}
use Rattle.c_tree.specs.declared.types.StructDef.{StructDef}
use Rattle.c_tree.specs.declared.rows.Program.{Program}
use Rattle.c_tree.specs.declared.rows.SymbolRow.{SymbolRow}
use Rattle.c_tree.specs.declared.rows.Point.{Point}
use Rattle.ps_store.specs.declared.object.PsObj.{PsObj}
use Rattle.ps_store.specs.declared.object.PsObj.TheVariants.{Int, Dict}
use Rattle.ps_store.specs.declared.object.DictId.{DictId}
use Rattle.ps_store.specs.declared.object.StringId.{StringId}
use Rattle.ps_store.specs.StoreState.{StoreState}
use Rattle.ps_store.specs.Store.{entries_of}
use Rattle.ps_step.specs.declared.item.Item.{Item}
use Rattle.ps_step.specs.declared.item.Item.TheVariants.{Text as TextItem}
use Rattle.ps_step.specs.declared.machine.PsCore.{PsCore}
use Rattle.ps_text.specs.Code.{Code, Stop, Num, Word, render}
use Rattle.ps_text.specs.Spells.{Fine}
use Rattle.ps_text.proofs.Checks.{fine}
use Rattle.ps_terms.specs.Machine.{Does}
use Rattle.ps_terms.specs.Stands.{core, Means}
use Rattle.ps_terms.specs.Printing.{further}
use Rattle.ps_emit.specs.Terms.{◌⋯◌}
use Rattle.ps_emit.specs.Places.{Homes}
use Rattle.ps_emit.specs.Symbols.{linked, up_in, coming, symbol_of, symbols_code, made_with}
use Rattle.ps_emit.specs.Functions.{point_code, symbol_at, point_in, points_code, made_by}
use Rattle.ps_tables.specs.Taken.{Takes}
use Rattle.ps_tables.specs.Dictionaries.{Fields, filled}
use Rattle.ps_tables.specs.Making.{IsMaking, HasFields}
use Rattle.ps_tables.specs.Later.{StandsAt}
use Rattle.ps_tables.specs.Makers.{body}
use Rattle.ps_tables.specs.TableWords.{new_point}
use Rattle.ps_tables.specs.Pieces.{Piece, End, Number, code, cost, steps, left_by, IsValue, Values, Bottom, This, after, Show, Performs}
use Rattle.ps_tables.specs.Defined.{in_table}
use Rattle.ps_tables.specs.Rows.{weigh}
use Rattle.ps_tables.specs.Senses.{Called, HasSense}
use Rattle.ps_tables.specs.WordsKnown.{word_senses, point_body}
use Rattle.ps_tables.proofs.Going.{takes_then}
use Rattle.ps_tables.proofs.Types.{fields_value}
use Rattle.ps_tables.proofs.Pieces.{performs}
use Rattle.ps_tables.proofs.TablePieces.{assoc}
use Rattle.ps_tables.proofs.MembersRun.{further_is}
use Rattle.ps_tables.proofs.WordsKnown.{sense_is}
use Rattle.unit_tables.specs.Amended.{Amended}
use Rattle.unit_tables.specs.Shown.{IsPoint, ArePoints}
use Rattle.unit_tables.specs.Running.{IsOutward, here, further as further_out, IsMade, first_made, Running}
use Rattle.unit_tables.specs.Symbols.{linked_then, link_steps, link_made, symbol_steps, symbol_made, ArePlaces, RunsSymbol, DefinesSymbol}
use Rattle.unit_tables.specs.Points.{point_parts, row_steps, row_made, IsFollowed, opened_steps, opened_made, point_steps, point_made, with_point, point_rows, steps_at, made_at, points_steps, points_made, AreFollowed}
use Rattle.unit_tables.specs.Conditions.{RunsUnits}
use Rattle.unit_tables.proofs.Amended.{amended_none, amended_then, amended_within, later_amended}
use Rattle.unit_tables.proofs.Staying.{chain_amended, point_amended, running_later, running_less}
use Rattle.unit_tables.proofs.Symbols.{any_fine, link_takes, link_makes, link_room, link_of, symbol_defined}

new_point_fine : Fine (Word (codes "NewPoint") Stop)
unfolding is_white is_special is_regular
new_point_fine = fine (Word (codes "NewPoint") Stop) refl

pub all_then : (P : PsObj → Type 0) (xs ys : List PsObj) → AllByRecursion P xs → AllByRecursion P ys → AllByRecursion P (xs ++ ys)
all_then P [] ys h k = k
all_then P (x ∷ xs) ys h k = (h.0, all_then P xs ys h.1 k)

-- ---- names

outward_on : (ss : List SymbolRow) (a b c : ℕ) → IsOutward ss a b → IsOutward ss b c → IsOutward ss a c
outward_on ss _ _ c (here n) k = k
outward_on ss _ _ c (further_out n m b up rest) k = further_out n m c up (outward_on ss m b c rest k)

-- what is outward of a name that was made
made_on : (ss : List SymbolRow) (made a b : ℕ) → IsMade ss made a → IsOutward ss a b → IsMade ss made b
made_on ss zero a b h k = absurd h
made_on ss (suc top) a b h k = outward_on ss top a b h k

-- a symbol that is made next: it, and what was made with the one outward of it
made_next : (ss : List SymbolRow) (made s : ℕ) (up : Option ℕ) → up_in (slice_get ss s) ≡ up → ((t : ℕ) → up ≡ Some t → IsMade ss (made_with made up) t) → (m : ℕ) → IsOutward ss s m → (m ≡ s) ⊎ IsMade ss (made_with made up) m
made_next ss made _ up same has _ (here n) = inl refl
made_next ss made _ up same has _ (further_out n u m e rest) = inr (made_on ss (made_with made up) u m (has u (sym same ∙ e)) rest)

made_low : (made s : ℕ) → s < made → made_with made (Some s) ≡ made
made_low made s l = ap (λ b. if b then made else suc s) (lt-ltb s made l)

made_high : (made s : ℕ) → made ≤ s → made_with made (Some s) ≡ suc s
made_high made s l = ap (λ b. if b then made else suc s) (le-ltb s made l)

module _ (program : Program) (fs : List Placed) (is_unit : RunsUnits program fs) (i : ℕ) (ds : List DictId) (t : StringId) (under : List Item) (items_fit : length under + 100 ≤ 1000) (post : List ℕ) where
  abbrev defs : List StructDef
  defs = program.defs

  abbrev ss : List SymbolRow
  ss = program.symbols

  abbrev objects : ℕ
  objects = length program.objects

  abbrev few_defs : length defs ≤ 90000
  few_defs = is_unit.few_structs

  abbrev few_objects : objects ≤ 90000
  few_objects = is_unit.few_objects

  abbrev D : DictId
  D = in_table i

  abbrev all : List DictId
  all = D ∷ ds

  abbrev Runs : StoreState → ℕ → (ℕ → Type 0) → Type 0
  Runs s k made = Running defs ss objects s i ds k made

  -- all that are made below a number
  abbrev Done : StoreState → ℕ → Type 0
  Done s made = Runs s made (IsMade ss made)

  all_at : (P : SymbolRow → Type 0) (rows : List SymbolRow) (n : ℕ) (row : SymbolRow) → AllByRecursion P rows → slice_get rows n ≡ Some row → P row
  all_at P [] n row h e = absurd cc
  all_at P (r ∷ rows) zero row h e = let same : r ≡ row = cc in subst P same h.0
  all_at P (r ∷ rows) (suc n) row h e = all_at P rows n row h.1 e

  row_there : (rows : List SymbolRow) (n : ℕ) → n < length rows → (row : SymbolRow) × (slice_get rows n ≡ Some row)
  row_there [] n h = absurd (omega arith)
  row_there (r ∷ rows) zero h = (r, refl)
  row_there (r ∷ rows) (suc n) h = row_there rows n (omega arith)

  -- ---- symbols that come into scope

  -- one run, and then another
  defined_then : (c₁ c₂ c n₁ n₂ n e₁ e₂ : ℕ) (m₁ m₂ : ℕ → Type 0) (s : StoreState) (o : List PsObj) (at : ℕ) (rest₁ rest₂ : List ℕ) → (a : DefinesSymbol defs ss objects c₁ n₁ s i ds e₁ m₁ o t at rest₁ under)
      → DefinesSymbol defs ss objects c₂ n₂ a.store i ds e₂ m₂ o t a.to rest₂ under → c₁ + c₂ ≤ c → n₁ + n₂ ≡ n → DefinesSymbol defs ss objects c n s i ds e₂ m₂ o t at rest₂ under
  defined_then c₁ c₂ c n₁ n₂ n e₁ e₂ m₁ m₂ s o at rest₁ rest₂ a b less same =
      let x : PsCore = core s all o (TextItem t at ∷ under) in
      let y : PsCore = core a.store all o (TextItem t a.to ∷ under) in
      let z : PsCore = core b.store all o (TextItem t b.to ∷ under) in
      record {
        store = b.store;
        to = b.to;
        running = b.running;
        amended = amended_within (c₁ + c₂) c D s b.store less (amended_then c₁ c₂ D s a.store b.store a.amended b.amended);
        stands = b.stands;
        takes = subst (λ (j : ℕ). Takes j x z) (further_is n₁ n₂ ∙ same) (takes_then n₁ n₂ x y z a.takes b.takes);
      }

  made_below : (made v : ℕ) (up : Option ℕ) → made ≤ v → ((u : ℕ) → up ≡ Some u → u < v) → made_with made up ≤ v
  made_below made v None l h = l
  made_below made v (Some u) l h = by (nat_lt u made)
    where
      by : (b : Bool) → (if b then made else suc u) ≤ v
      by true = l
      by false = let k = h u refl in omega arith

  made_bound : (made bound : ℕ) (x : Option ℕ) → made ≤ bound → ((s : ℕ) → x ≡ Some s → s < bound) → made_with made x ≤ bound
  made_bound made bound None l f = l
  made_bound made bound (Some s) l f = by (nat_lt s made)
    where
      by : (b : Bool) → (if b then made else suc s) ≤ bound
      by true = l
      by false = let k = f s refl in omega arith

  module _ (h : Homes) (places : ArePlaces h) where
    abbrev Opens : (cost steps : ℕ) → StoreState → (made : ℕ) → List PsObj → ℕ → List ℕ → Type 0
    Opens cost steps s made o at rest = DefinesSymbol defs ss objects cost steps s i ds made (IsMade ss made) o t at rest under

    abbrev taken_in : (n made : ℕ) → Option ℕ → ℕ
    taken_in n made x = weigh (λ s. row_steps defs (slice_get ss s)) (coming n ss made x)

    abbrev made_in : (n made : ℕ) → Option ℕ → ℕ
    made_in n made x = weigh (λ s. row_made defs h (slice_get ss s)) (coming n ss made x)

    -- what is to be shown of a name's chain, by the symbols that come and the number below which all are made then
    abbrev OpensBy : (v : ℕ) → Code → StoreState → List PsObj → ℕ → List ℕ → ℕ → Type 0
    OpensBy v k s o at xs m =
        s.table.units + s.command.units + weigh (λ l. row_made defs h (slice_get ss l)) xs ≤ 8000000 → StandsAt s t at (render (symbols_code fs h ss xs ⋯ k) ++ post)
        → Opens (weigh (λ l. row_made defs h (slice_get ss l)) xs) (weigh (λ l. row_steps defs (slice_get ss l)) xs) s m o at (render k ++ post) × ((w : ℕ) → Some v ≡ Some w → IsMade ss m w)

    -- the same of the name outward of one
    abbrev OpensNext : (n made v : ℕ) → StoreState → List PsObj → ℕ → Type 0
    OpensNext n made v s o at =
        (last : Code) → ((u : ℕ) → up_in (slice_get ss v) ≡ Some u → (u < n) × (u < length ss)) → ((w : ℕ) → first_made n ss made (up_in (slice_get ss v)) ≡ Some w → IsMade ss made w)
        → s.table.units + s.command.units + made_in n made (up_in (slice_get ss v)) ≤ 8000000 → StandsAt s t at (render (symbols_code fs h ss (coming n ss made (up_in (slice_get ss v))) ⋯ last) ++ post)
        → Opens (made_in n made (up_in (slice_get ss v))) (taken_in n made (up_in (slice_get ss v))) s (made_with made (up_in (slice_get ss v))) o at (render last ++ post)
        × ((w : ℕ) → up_in (slice_get ss v) ≡ Some w → IsMade ss (made_with made (up_in (slice_get ss v))) w)

    nothing_opened : (made : ℕ) (s : StoreState) (o : List PsObj) (at : ℕ) (rest : List ℕ) → Done s made → StandsAt s t at rest → Opens 0 0 s made o at rest
    nothing_opened made s o at rest run stands = record { store = s; to = at; running = run; amended = amended_none D s; stands = stands; takes = refl }

    opens : (n made : ℕ) (x : Option ℕ) (k : Code) (s : StoreState) (o : List PsObj) (at : ℕ) → ((v : ℕ) → x ≡ Some v → (v < n) × (v < length ss)) → ((v : ℕ) → first_made n ss made x ≡ Some v → IsMade ss made v) → Done s made → made < 999999
        → length o + 131 ≤ 100000 → s.table.units + s.command.units + made_in n made x ≤ 8000000 → StandsAt s t at (render (symbols_code fs h ss (coming n ss made x) ⋯ k) ++ post)
        → Opens (made_in n made x) (taken_in n made x) s (made_with made x) o at (render k ++ post) × ((v : ℕ) → x ≡ Some v → IsMade ss (made_with made x) v)
    opens zero made None k s o at within stops run few_made stack room stands = (nothing_opened made s o at (render k ++ post) run stands, λ v e. absurd cc)
    opens zero made (Some v) k s o at within stops run few_made stack room stands = absurd (let l = (within v refl).0 in omega arith)
    opens (suc n) made None k s o at within stops run few_made stack room stands = (nothing_opened made s o at (render k ++ post) run stands, λ v e. absurd cc)
    opens (suc n) made (Some v) k s o at within stops run few_made stack room stands =
        by (λ last within' stops' fits' here'. opens n made (up_in (slice_get ss v)) last s o at within' stops' run few_made stack fits' here') (nat_lt v made) refl
      where
        again : (m : ℕ) (P : IsMade ss m v) → (w : ℕ) → Some v ≡ Some w → IsMade ss m w
        again m P w e = let same : v ≡ w = cc in subst (IsMade ss m) same P

        by : OpensNext n made v s o at → (b : Bool) → nat_lt v made ≡ b
            → Opens (made_in (suc n) made (Some v)) (taken_in (suc n) made (Some v)) s (made_with made (Some v)) o at (render k ++ post) × ((w : ℕ) → Some v ≡ Some w → IsMade ss (made_with made (Some v)) w)
        by next true e =
            let none : coming (suc n) ss made (Some v) ≡ [] = ap (λ b. if b then [] else v ∷ coming n ss made (up_in (slice_get ss v))) e in
            let same : made_with made (Some v) ≡ made = ap (λ b. if b then made else suc v) e in
            let is : IsMade ss made v = stops v (ap (λ b. if b then Some v else first_made n ss made (up_in (slice_get ss v))) e) in
            let base : OpensBy v k s o at [] made = λ fits here. (nothing_opened made s o at (render k ++ post) run here, again made is) in
            subst (λ (xs : List ℕ). OpensBy v k s o at xs (made_with made (Some v))) (sym none) (subst (λ (m : ℕ). OpensBy v k s o at [] m) (sym same) base) room stands
        by next false e =
            let l : made ≤ v = ltb-false v made e in
            let more : coming (suc n) ss made (Some v) ≡ v ∷ coming n ss made (up_in (slice_get ss v)) = ap (λ b. if b then [] else v ∷ coming n ss made (up_in (slice_get ss v))) e in
            let same : made_with made (Some v) ≡ suc v = ap (λ b. if b then made else suc v) e in
            subst (λ (xs : List ℕ). OpensBy v k s o at xs (made_with made (Some v))) (sym more) (subst (λ (m : ℕ). OpensBy v k s o at (v ∷ coming n ss made (up_in (slice_get ss v))) m) (sym same) (new next l e)) room stands
          where
            new : OpensNext n made v s o at → made ≤ v → nat_lt v made ≡ false → OpensBy v k s o at (v ∷ coming n ss made (up_in (slice_get ss v))) (suc v)
            new next l e fits stands' =
                let m₁ : ℕ = made_with made (up_in (slice_get ss v)) in
                let rest : List ℕ = coming n ss made (up_in (slice_get ss v)) in
                let given = within v refl in
                let few_symbols = is_unit.few_symbols in
                let r : (row : SymbolRow) × (slice_get ss v ≡ Some row) = row_there ss v given.1 in
                let row : SymbolRow = r.0 in
                let ups : (up_in (slice_get ss v)) ≡ row.up = ap up_in r.1 in
                let low : (u : ℕ) → (up_in (slice_get ss v)) ≡ Some u → u < v = λ u f. is_unit.lower v u f in
                let last : Code = symbol_of fs h v (slice_get ss v) ⋯ k in
                let made_row : row_made defs h (slice_get ss v) ≡ symbol_made defs h row = ap (row_made defs h) r.1 in
                let taken_row : row_steps defs (slice_get ss v) ≡ symbol_steps defs row = ap (row_steps defs) r.1 in
                let a : Opens (made_in n made (up_in (slice_get ss v))) (taken_in n made (up_in (slice_get ss v))) s m₁ o at (render last ++ post) × ((w : ℕ) → (up_in (slice_get ss v)) ≡ Some w → IsMade ss m₁ w) =
                next last (λ u f. let j = low u f in (omega (arith, given), omega (arith, given))) (λ w f. stops w (ap (λ b. if b then Some v else first_made n ss made (up_in (slice_get ss v))) e ∙ f)) (omega arith)
                (subst (λ (c : Code). StandsAt s t at (render c ++ post)) (assoc (symbols_code fs h ss rest) (symbol_of fs h v (slice_get ss v)) k) stands') in
                let counted : a.0.store.table.units + a.0.store.command.units ≤ s.table.units + s.command.units + made_in n made (up_in (slice_get ss v)) = a.0.amended.counted in
                let below : m₁ ≤ v = made_below made v (up_in (slice_get ss v)) l low in
                let b : DefinesSymbol defs ss objects (symbol_made defs h row) (symbol_steps defs row) a.0.store i ds (m₁ + 1) (IsMade ss (suc v)) o t a.0.to (render k ++ post) under =
                symbol_defined defs ss objects i ds few_defs few_objects t under items_fit post fs h v row k m₁ (IsMade ss m₁) (IsMade ss (suc v)) a.0.store o a.0.to a.0.running (omega (arith, given, few_symbols, below)) r.1
                (omega (arith, given, few_symbols)) (all_at (RunsSymbol defs objects) ss v row is_unit.symbols r.1) places (λ u f. a.1 u (ups ∙ f)) (made_next ss made v (up_in (slice_get ss v)) refl a.1) stack (omega arith)
                (subst (λ (x : Option SymbolRow). StandsAt a.0.store t a.0.to (render (symbol_of fs h v x ⋯ k) ++ post)) r.1 a.0.stands) in
                let both : DefinesSymbol defs ss objects (weigh (λ l. row_made defs h (slice_get ss l)) (v ∷ rest)) (weigh (λ l. row_steps defs (slice_get ss l)) (v ∷ rest)) s i ds (m₁ + 1) (IsMade ss (suc v)) o t at (render k ++ post) under =
                defined_then (made_in n made (up_in (slice_get ss v))) (symbol_made defs h row) _ (taken_in n made (up_in (slice_get ss v))) (symbol_steps defs row) _ m₁ (m₁ + 1) (IsMade ss m₁) (IsMade ss (suc v)) s o at (render last ++ post) (render k ++ post) a.0 b (omega arith) (omega arith) in (
                  record {
                    store = both.store;
                    to = both.to;
                    running = running_less defs ss objects i ds (m₁ + 1) (suc v) (IsMade ss (suc v)) (IsMade ss (suc v)) both.store (omega arith) (λ m j. j) both.running;
                    amended = both.amended;
                    stands = both.stands;
                    takes = both.takes;
                  },
                  again (suc v) (here v),
                )

    -- ---- a point

    record PointDone (cost steps : ℕ) (s : StoreState) (made : ℕ) (o : List PsObj) (at : ℕ) (rest : List ℕ) (q : Point) (address : ℕ) : Type 0 where
      pub store : StoreState
      pub object : PsObj
      pub to : ℕ
      pub running : Done store made
      pub amended : Amended cost D s store
      pub is : IsPoint store defs ss object q address
      pub stands : StandsAt store t to rest
      pub takes : Takes steps (core s all o (TextItem t at ∷ under)) (core store all (object ∷ o) (TextItem t to ∷ under))

    link_left : (up : Option ℕ) (x : PsObj) → left_by (linked_then up x End) ≡ 1
    link_left None x = refl
    link_left (Some u) x = refl

    point_is : (address : ℕ) (q : Point) (x : PsObj) (k : Code) → code (point_parts address q x) k ≡ (point_code address q ⋯ k)
    point_is address q x k = by q.symbol
      where
        by : (symbol : Option ℕ) → Num (signed q.line) (Num (signed q.column) (Num (signed address) (code (linked_then symbol x End) (Word (codes "NewPoint") k))))
            ≡ Num (signed q.line) (Num (signed q.column) (Num (signed address) ((linked symbol ⋯ Word (codes "NewPoint") Stop) ⋯ k)))
        by None = refl
        by (Some u) = refl

    point_done : (made : ℕ) (q : Point) (address : ℕ) (k : Code) (s : StoreState) (o : List PsObj) (at : ℕ) → IsFollowed ss made q.symbol → Done s made → made < 999999 → length o + 131 ≤ 100000
        → s.table.units + s.command.units + point_made defs ss h made q ≤ 8000000 → StandsAt s t at (render (symbols_code fs h ss (coming (length ss) ss made q.symbol) ⋯ (point_code address q ⋯ k)) ++ post)
        → PointDone (point_made defs ss h made q) (point_steps defs ss made q) s (made_with made q.symbol) o at (render k ++ post) q address
    point_done made q address k s o at followed run few_made stack room stands =
        let m₁ : ℕ = made_with made q.symbol in
        let u : ℕ = opened_made defs ss h made q.symbol in
        let a = opens (length ss) made q.symbol (point_code address q ⋯ k) s o at (λ v e. let l = followed.there v e in (l, l)) followed.stops run few_made stack (omega arith) stands in
        let s₁ : StoreState = a.0.store in
        let counted : s₁.table.units + s₁.command.units ≤ s.table.units + s.command.units + u = a.0.amended.counted in
        let run₁ : Done s₁ m₁ = a.0.running in
        let is₁ : IsMaking s₁ all = run₁.knowing.making in
        let link = link_of defs ss objects i ds few_defs few_objects t under items_fit post s₁ m₁ (IsMade ss m₁) run₁ q.symbol a.1 in
        let x : PsObj = link.object in
        let end : Piece = linked_then q.symbol x End in
        let parts : Piece = Number (signed q.line) (Number (signed q.column) (Number (signed address) end)) in
        let piece : Piece = point_parts address q x in
        let word : List ℕ = codes "NewPoint" in
        let w : HasSense s₁ all word (Called point_body) = sense_is s₁ all word_senses word (Called point_body) run₁.knowing.have refl in
        let means : Means s₁ all word (Does (body new_point)) = (w.2.0, w.1 ∙ ap Some w.2.1, w.2.2, w.2.3) in
        let size : cost end ≡ link_made q.symbol + 0 = link_makes defs x q.symbol End in
        let taken : steps end ≡ link_steps q.symbol + 0 = link_takes defs x q.symbol End in
        let left : left_by end ≡ 1 = link_left q.symbol x in
        let p : Performs (cost piece) (steps piece) (after piece Bottom) s₁ all o o t a.0.to (render k ++ post) under =
        performs all t under items_fit post piece k Bottom s₁ [] o a.0.to is₁
        (new_point_fine, means, ((omega arith, (omega arith, (omega arith, (omega arith, tt)))), omega arith), omega arith, omega arith, (any_fine q.line, (any_fine q.column, (any_fine address, link.knows End tt))), tt)
        (link_room defs x q.symbol End (suc (suc (suc (length o)))) (omega arith), omega arith) (omega arith) refl
        (subst (λ (c : Code). StandsAt s₁ t a.0.to (render c ++ post)) (sym (point_is address q x k)) a.0.stands) in
        let s₂ : StoreState = p.store in
        let shows = p.shows in
        let d : DictId = shows.0 in
        let whole : p.operands ≡ Dict d ∷ [] = shows.4 ∙ ap (λ (l : List PsObj). Dict d ∷ l) shows.9 in
        let zs : List PsObj = x ∷ Int (signed address) ∷ Int (signed q.column) ∷ Int (signed q.line) ∷ [] in
        let line : Values = This (Int (signed q.line)) Bottom in
        let front : Values = This (Int (signed address)) (This (Int (signed q.column)) line) in
        let values : Show s₂ shows.1 (This x front) = subst (λ (vs : Values). Show s₂ shows.1 vs) (link.shown End front) shows.8 in
        let items : shows.1 ≡ zs =
        values.1 ∙ ap (λ (l : List PsObj). x ∷ l) (values.3.1 ∙ ap (λ (l : List PsObj). Int (signed address) ∷ l) (values.3.3.1 ∙ ap (λ (l : List PsObj). Int (signed q.column) ∷ l) (values.3.3.3.1 ∙ ap (λ (l : List PsObj). Int (signed q.line) ∷ l) values.3.3.3.3))) in
        let keys : List (List ℕ) = codes "symbols" ∷ codes "address" ∷ codes "column" ∷ codes "line" ∷ [] in
        let fields : Fields = filled [] keys zs in
        let same : shows.3 ≡ fields = shows.6 ∙ ap (filled [] keys) items in
        let has : HasFields s₂ d fields = subst (λ (f : Fields). HasFields s₂ d f) same shows.5 in
        let value : (key : List ℕ) → _ = λ key. fields_value s₂ (entries_of s₂ d) fields key has.are in
        let later : Amended (cost piece) D s₁ s₂ = later_amended (cost piece) D s₁ s₂ p.later in
        let c₀ : PsCore = core s all o (TextItem t at ∷ under) in
        let c₁ : PsCore = core s₁ all o (TextItem t a.0.to ∷ under) in
        let c₂ : PsCore = core s₂ all (Dict d ∷ o) (TextItem t p.to ∷ under) in
        let second : Takes (steps piece) c₁ c₂ = subst (λ (l : List PsObj). Takes (steps piece) c₁ (core s₂ all (l ++ o) (TextItem t p.to ∷ under))) whole p.takes in
        let n₁ : ℕ = opened_steps defs ss made q.symbol in
        let number : steps piece ≡ 30 + link_steps q.symbol = let f = further_is (steps parts) 27 in omega arith in
        let all_steps : further n₁ (steps piece) ≡ point_steps defs ss made q = let f = further_is n₁ (steps piece) in omega arith in
        record {
          store = s₂;
          object = Dict d;
          to = p.to;
          running = running_later defs ss objects i ds (cost piece) m₁ (IsMade ss m₁) s₁ s₂ p.later run₁;
          amended = amended_within (u + cost piece) (point_made defs ss h made q) D s s₂ (omega arith) (amended_then u (cost piece) D s s₁ s₂ a.0.amended later);
          is = record {
            dict = d;
            is = refl;
            there = has.is_there;
            has_line = value (codes "line");
            has_column = value (codes "column");
            has_address = value (codes "address");
            symbols = x;
            has_symbols = value (codes "symbols");
            chain = chain_amended (cost piece) i s₁ s₂ later run₁.nameless defs ss x q.symbol link.chain;
          };
          stands = p.stands;
          takes = subst (λ (j : ℕ). Takes j c₀ c₂) all_steps (takes_then n₁ (steps piece) c₀ c₁ c₂ a.0.takes second);
        }

    -- ---- points

    pub record PointsDone (cost steps : ℕ) (s : StoreState) (made : ℕ) (o : List PsObj) (at : ℕ) (rest : List ℕ) (rows : List (Point × ℕ)) : Type 0 where
      pub store : StoreState
      pub items : List PsObj
      pub to : ℕ
      pub running : Done store made
      pub amended : Amended cost D s store
      pub are : ArePoints store defs ss (reverse items) rows
      pub values : AllByRecursion IsValue items
      pub many : length items ≡ length rows
      pub stands : StandsAt store t to rest
      pub takes : Takes steps (core s all o (TextItem t at ∷ under)) (core store all (items ++ o) (TextItem t to ∷ under))

    points_none : (made : ℕ) (s : StoreState) (o : List PsObj) (at : ℕ) (rest : List ℕ) → Done s made → StandsAt s t at rest → PointsDone 0 0 s made o at rest []
    points_none made s o at rest run stands = record { store = s; items = []; to = at; running = run; amended = amended_none D s; are = tt; values = tt; many = refl; stands = stands; takes = refl }

    abbrev PointsRun : List ℕ → List ℕ → Code → Type 0
    PointsRun xs addresses k =
        (made : ℕ) (s : StoreState) (o : List PsObj) (at : ℕ) → AreFollowed defs ss program.points made xs addresses → made ≤ length ss → Done s made → length o + length xs + 131 ≤ 100000
        → s.table.units + s.command.units + points_made defs ss program.points h made xs addresses ≤ 8000000 → StandsAt s t at (render (points_code program fs h made xs addresses ⋯ k) ++ post)
        → PointsDone (points_made defs ss program.points h made xs addresses) (points_steps defs ss program.points made xs addresses) s (made_by program fs made xs addresses) o at (render k ++ post) (point_rows defs ss program.points xs addresses)

    pub points_done : (xs addresses : List ℕ) (k : Code) → PointsRun xs addresses k
    points_done [] addresses k made s o at followed bound run stack room stands = points_none made s o at (render k ++ post) run stands
    points_done (x ∷ xs) [] k made s o at followed bound run stack room stands = points_none made s o at (render k ++ post) run stands
    points_done (x ∷ xs) (address ∷ rest) k made s o at followed bound run stack room stands = by (points_done xs rest k) (slice_get program.points x) followed.0 followed.1 room stands
      where
        by : PointsRun xs rest k → (q : Option Point) → IsFollowed ss made (symbol_at q) → AreFollowed defs ss program.points (made_with made (symbol_at q)) xs rest
            → s.table.units + s.command.units + (made_at defs ss program.points h made q + points_made defs ss program.points h (made_with made (symbol_at q)) xs rest) ≤ 8000000
            → StandsAt s t at (render ((point_in program fs h made address q ⋯ points_code program fs h (made_with made (symbol_at q)) xs rest) ⋯ k) ++ post)
            → PointsDone (made_at defs ss program.points h made q + points_made defs ss program.points h (made_with made (symbol_at q)) xs rest)
            (steps_at defs ss program.points made q + points_steps defs ss program.points (made_with made (symbol_at q)) xs rest) s (made_by program fs (made_with made (symbol_at q)) xs rest) o at (render k ++ post)
            (with_point defs ss program.points q address (point_rows defs ss program.points xs rest))
        by next None first others fits here' =
            let r = next made s o at others bound run (omega arith) (omega arith) here' in
            let none_more : points_steps defs ss program.points made xs rest ≡ 0 + points_steps defs ss program.points made xs rest = omega arith in
            record {
              store = r.store;
              items = r.items;
              to = r.to;
              running = r.running;
              amended = amended_within _ _ D s r.store (omega arith) r.amended;
              are = r.are;
              values = r.values;
              many = r.many;
              stands = r.stands;
              takes = subst (λ (j : ℕ). Takes j (core s all o (TextItem t at ∷ under)) (core r.store all (r.items ++ o) (TextItem t r.to ∷ under))) none_more r.takes;
            }
        by next (Some q) first others fits here' =
            let m₁ : ℕ = made_with made q.symbol in
            let few_symbols = is_unit.few_symbols in
            let c : ℕ = point_made defs ss h made q in
            let c' : ℕ = points_made defs ss program.points h m₁ xs rest in
            let n : ℕ = point_steps defs ss made q in
            let n' : ℕ = points_steps defs ss program.points m₁ xs rest in
            let open_all : Code = symbols_code fs h ss (coming (length ss) ss made q.symbol) in
            let p : PointDone c n s m₁ o at (render (points_code program fs h m₁ xs rest ⋯ k) ++ post) q address =
            point_done made q address (points_code program fs h m₁ xs rest ⋯ k) s o at first run (omega arith) (omega arith) (omega arith)
            (subst (λ (y : Code). StandsAt s t at (render y ++ post))
            (assoc (open_all ⋯ point_code address q) (points_code program fs h m₁ xs rest) k ∙ assoc open_all (point_code address q) (points_code program fs h m₁ xs rest ⋯ k)) here') in
            let counted : p.store.table.units + p.store.command.units ≤ s.table.units + s.command.units + c = p.amended.counted in
            let r : PointsDone c' n' p.store (made_by program fs m₁ xs rest) (p.object ∷ o) p.to (render k ++ post) (point_rows defs ss program.points xs rest) =
            next m₁ p.store (p.object ∷ o) p.to others (made_bound made (length ss) q.symbol bound first.there) p.running (omega arith) (omega arith) p.stands in
            let turned : reverse (r.items ++ p.object ∷ []) ≡ p.object ∷ reverse r.items = reverse-append r.items (p.object ∷ []) in
            let on : (r.items ++ p.object ∷ []) ++ o ≡ r.items ++ p.object ∷ o = append_assoc r.items (p.object ∷ []) o in
            let c₀ : PsCore = core s all o (TextItem t at ∷ under) in
            let c₁ : PsCore = core p.store all (p.object ∷ o) (TextItem t p.to ∷ under) in
            let c₂ : PsCore = core r.store all (r.items ++ p.object ∷ o) (TextItem t r.to ∷ under) in
            let both : Takes (n + n') c₀ c₂ = subst (λ (j : ℕ). Takes j c₀ c₂) (further_is n n') (takes_then n n' c₀ c₁ c₂ p.takes r.takes) in
            record {
              store = r.store;
              items = r.items ++ p.object ∷ [];
              to = r.to;
              running = r.running;
              amended = amended_then c c' D s p.store r.store p.amended r.amended;
              are = subst (λ (l : List PsObj). ArePoints r.store defs ss l ((q, address) ∷ point_rows defs ss program.points xs rest)) (sym turned)
                  (point_amended c' i p.store r.store r.amended p.running.nameless defs ss p.object q address p.is, r.are);
              values = all_then IsValue r.items (p.object ∷ []) r.values (subst IsValue (sym p.is.is) tt, tt);
              many = let e : length (r.items ++ p.object ∷ []) ≡ length r.items + 1 = length-append r.items (p.object ∷ []) in let f = r.many in omega arith;
              stands = r.stands;
              takes = subst (λ (l : List PsObj). Takes (n + n') c₀ (core r.store all l (TextItem t r.to ∷ under))) (sym on) both;
            }

  -- all are made below the number of the symbols
  pub by_within : (made : ℕ) (xs addresses : List ℕ) → AreFollowed defs ss program.points made xs addresses → made ≤ length ss → made_by program fs made xs addresses ≤ length ss
  by_within made [] addresses followed bound = bound
  by_within made (x ∷ xs) [] followed bound = bound
  by_within made (x ∷ xs) (a ∷ rest) followed bound =
      by_within (made_with made (symbol_at (slice_get program.points x))) xs rest followed.1 (made_bound made (length ss) (symbol_at (slice_get program.points x)) bound followed.0.there)
