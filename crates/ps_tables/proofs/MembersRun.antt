-- The members of a table's structs are put.
use Rattle.std.proofs.Common.{◌≡◌, ℕ, ℤ, pos, suc, zero, ◌+◌, ◌*◌, ◌<◌, ◌≤◌, ◌^◌, ◌-◌, negsuc, Bool, true, false, nat_lt, ltb-true, ltb-false, Option, Some, None, Result, Ok, Err, List, [], ◌∷◌, ◌++◌, length, map, codes, slice_get, refl, sym, ap, ◌∙◌, subst, arith, append_assoc}
use Rattle.std.specs.List.{AllByRecursion}
use Rattle.std.specs.Int.{w32}
use Rattle.std.proofs.Math.Facts.{to_z-neg}
use Rattle.ldb_words.specs.Word.{signed}
use Rattle.ps_scan.specs.Bytes.{is_regular, is_white, is_special}
use Rattle.c_tree.specs.declared.types.StructDef.{StructDef}
use Rattle.c_tree.specs.declared.types.Member.{Member}
use Rattle.ps_store.specs.declared.object.PsObj.{PsObj}
use Rattle.ps_store.specs.declared.object.PsObj.TheVariants.{Int, Name, Array, Dict, Op}
use Rattle.ps_store.specs.declared.object.DictId.{DictId}
use Rattle.ps_store.specs.declared.object.StringId.{StringId}
use Rattle.ps_store.specs.declared.object.ArrayId.{ArrayId}
use Rattle.ps_store.specs.declared.object.Mark.{Mark}
use Rattle.ps_store.specs.declared.object.Pair.{Pair}
use Rattle.ps_store.specs.declared.key.Key.{Key}
use Rattle.ps_store.specs.declared.key.Key.TheVariants.{Name as NameKey}
use Rattle.ps_store.specs.Entries.{value_at}
use Rattle.ps_store.specs.Operators.{operator_number}
use Rattle.ps_store.specs.StoreState.{StoreState}
use Rattle.ps_store.specs.Store.{entries_of, text_units}
use Rattle.ps_step.specs.declared.fault.PsError.{PsError}
use Rattle.ps_step.specs.Arithmetic.{is_integer}
use Rattle.ps_step.specs.Keys.{named}
use Rattle.ps_step.specs.Results.{◌>>=◌, at as at_state}
use Rattle.ps_step.specs.Composites.{same_dict}
use Rattle.ps_step.specs.Executing.{alone, acting}
use Rattle.ps_step.specs.declared.item.Item.{Item}
use Rattle.ps_step.specs.declared.item.Item.TheVariants.{Text as TextItem}
use Rattle.ps_step.specs.declared.machine.PsCore.{PsCore}
use Rattle.ps_run.specs.Step.{Next, settled, step}
use Rattle.ps_text.specs.Code.{Code, Stop, Num, Word, Lit, Text, render}
use Rattle.ps_text.specs.Grown.{IsArray, IsString}
use Rattle.ps_text.specs.Spells.{Fine, units}
use Rattle.ps_text.proofs.Checks.{fine}
use Rattle.ps_terms.specs.Stands.{core}
use Rattle.ps_terms.specs.Printing.{further}
use Rattle.ps_emit.specs.Terms.{◌⋯◌}
use Rattle.ps_emit.specs.Types.{type_code, each_member, filled_struct, filled_structs}
use Rattle.ps_tables.specs.Taken.{Takes}
use Rattle.ps_tables.specs.Making.{IsMaking}
use Rattle.ps_tables.specs.Later.{IsThere, IsOpen, Later, StandsAt}
use Rattle.ps_tables.specs.Types.{written, type_cost, type_steps, IsSized}
use Rattle.ps_tables.specs.Pieces.{Piece, End, Number, Chars, Literal, Row, Typed, Element, code, cost, steps, left_by, Knows, HasRoom, IsValue, Values, Bottom, This, Named, Listed, after, Show, Performs}
use Rattle.ps_tables.specs.TablePieces.{members}
use Rattle.ps_tables.specs.Runnable.{RunsMember, RunsStruct}
use Rattle.ps_tables.specs.Defined.{in_table, Puts}
use Rattle.ps_tables.specs.Senses.{Structs, IsStruct, AreStructs, HasSense, AreOther, Knowing}
use Rattle.ps_tables.specs.Reached.{Owned, Reaches}
use Rattle.ps_tables.specs.Tabled.{members_made, members_steps, filling_made, filling_steps}
use Rattle.ps_tables.specs.WordsKnown.{Printers}
use Rattle.ps_tables.specs.PartsKnown.{with_structs}
use Rattle.ps_tables.proofs.Going.{takes_then, takes_one}
use Rattle.ps_tables.proofs.Stores.{later_then, making_later, open_later}
use Rattle.ps_tables.proofs.Tokens.{Acted, word_acts}
use Rattle.ps_tables.proofs.TypeTexts.{small_signed, small_integer, structs_fine}
use Rattle.ps_tables.proofs.TablePieces.{assoc}
use Rattle.ps_tables.proofs.Defining.{put_store, puts, put_defined}
use Rattle.ps_tables.proofs.News.{put_fine, put_number}
use Rattle.ps_tables.proofs.Pieces.{performs}
use Rattle.ps_tables.proofs.Known.{named_none, others_by, named_puts, there_puts, senses_filled, structs_later}
use Rattle.ps_tables.proofs.Sequence.{owned_then, knowing_later}
use Rattle.ps_tables.proofs.WordsKnown.{sense_is}
use Rattle.ps_tables.proofs.TypesKnown.{type_is, type_known}

lit_members : Fine (Lit (codes "members") Stop)
unfolding is_white is_special is_regular
lit_members = fine (Lit (codes "members") Stop) refl

-- a word of 32 bits is an integer of the dialect
pub word_fine : (n : ℕ) → n < 2 ^ 32 → Fine (Num (signed n) Stop)
word_fine n h = (by (nat_lt n (2 ^ 31)) refl, tt)
  where
    by : (b : Bool) → nat_lt n (2 ^ 31) ≡ b → is_integer (signed n) ≡ true
    by true e = let l : n < 2 ^ 31 = ltb-true n (2 ^ 31) e in ap is_integer (small_signed n l) ∙ small_integer n l
    by false e =
        let l : 2 ^ 31 ≤ n = ltb-false n (2 ^ 31) e in
        let k : ℕ = 2 ^ 32 - 1 - n in
        let below : k < 2 ^ 31 = omega arith in
        let is : 2 ^ 32 - suc k ≡ n = omega arith in
        let same : signed n ≡ negsuc k = ap signed (sym is) ∙ to_z-neg w32 k below in
        ap is_integer same ∙ small_integer k below

pub further_is : (a b : ℕ) → further a b ≡ a + b
further_is zero b = omega arith
further_is (suc a) b = let e = further_is a b in omega arith

-- ---- the array of members

module _ (defs : List StructDef) where
  pub members_are : (ms : List Member) (k : Code) → code (members defs ms) k ≡ (each_member ms ⋯ k)
  members_are [] k = refl
  members_are (m ∷ ms) k =
      let rest : Code = code (members defs ms) k in
      ap (λ c. Word (codes "[") (Text m.name (Num (signed m.at) c)))
      (type_is defs m.ctype (Word (codes "]") rest)
      ∙ ap (λ c. type_code m.ctype ⋯ Word (codes "]") c) (members_are ms k)
      ∙ sym (assoc (type_code m.ctype ⋯ Word (codes "]") Stop) (each_member ms) k ∙ assoc (type_code m.ctype) (Word (codes "]") Stop) (each_member ms ⋯ k)))

  members_left : (ms : List Member) → left_by (members defs ms) ≡ length ms
  members_left [] = refl
  members_left (m ∷ ms) = ap suc (members_left ms)

  members_room : (ms : List Member) (n : ℕ) → n + length ms + 120 ≤ 100000 → HasRoom n (members defs ms)
  members_room [] n h = omega arith
  members_room (m ∷ ms) n h = (omega arith, members_room ms (suc n) (omega arith))

  members_cost : (ms : List Member) → cost (members defs ms) ≡ members_made defs ms
  members_cost [] = refl
  members_cost (m ∷ ms) = let e = members_cost ms in omega arith

  members_takes : (ms : List Member) → steps (members defs ms) ≡ members_steps defs ms
  members_takes [] = refl
  members_takes (m ∷ ms) =
      let t : ℕ = type_steps (written defs m.ctype) in
      ap (λ n. suc (further (suc (suc (further t 0))) (suc n))) (members_takes ms)
      ∙ ap suc (further_is (suc (suc (further t 0))) (suc (members_steps defs ms)) ∙ ap (λ n. suc (suc n) + suc (members_steps defs ms)) (further_is t 0)) ∙ omega arith

-- ---- a store in which a struct's members were put

module _ (s s' : StoreState) (index : ℕ) (ds : List DictId) (e : DictId) (v tag : PsObj) (puts : Puts s s' e (codes "members") v)
    (tagged : value_at (entries_of s e) (NameKey (codes "tag")) ≡ Some tag) where
  abbrev all : List DictId
  all = in_table index ∷ ds

  knowing_filled : (n b : ℕ) (p : Printers) (defs : List StructDef) → Knowing s index ds n (with_structs p b defs) → Knowing s' index ds n (with_structs p (b + 1) defs)
  knowing_filled n b p defs k =
      let others : AreOther all e = others_by s all e (NameKey (codes "tag")) tag tagged (named_none s all (codes "tag") k.no_tag) in
      record {
        making = record {
          part = puts.part ∙ k.making.part;
          closed = closed_still (ap (λ (m : Mark). m.dicts) puts.closed) k.unclosed (puts.there (in_table index) k.making.there.0);
          there = there_puts s s' e (codes "members") v puts all k.making.there;
          operators = λ word number h. named_puts s s' e (codes "members") v puts all word others ∙ k.making.operators word number h;
        };
        unclosed = subst (λ (m : Mark). m.dicts ≤ index) (sym puts.closed) k.unclosed;
        others = k.others;
        small = subst (λ (es : List (Key × Pair)). length es ≤ n) (sym (puts.dicts (in_table index) others.0)) k.small;
        no_kind = named_puts s s' e (codes "members") v puts all (codes "kind") others ∙ k.no_kind;
        no_tag = named_puts s s' e (codes "members") v puts all (codes "tag") others ∙ k.no_tag;
        have = senses_filled s s' e v tag puts all others tagged (with_structs p b defs) k.have;
      }
    where
      closed_still : s'.closed.dicts ≡ s.closed.dicts → s.closed.dicts ≤ index → index < length s'.table.dicts → s'.closed.dicts ≤ length s'.table.dicts
      closed_still e h there = omega arith

-- ---- one struct

-- a struct by its number
record NthStruct (s : StoreState) (b : ℕ) (xs : List PsObj) (defs : List StructDef) (n : ℕ) : Type 0 where
  pub object : PsObj
  pub def : StructDef
  pub at : slice_get xs n ≡ Some object
  pub is : IsStruct s b object def

nth_struct : (s : StoreState) (b : ℕ) (xs : List PsObj) (defs : List StructDef) (n : ℕ) → AreStructs s b xs defs → n < length defs → NthStruct s b xs defs n
nth_struct s b [] [] n h few = absurd (omega arith)
nth_struct s b [] (d ∷ defs) n h few = absurd h
nth_struct s b (x ∷ xs) [] n h few = absurd h
nth_struct s b (x ∷ xs) (d ∷ defs) zero h few = record { object = x; def = d; at = refl; is = h.0 }
nth_struct s b (x ∷ xs) (d ∷ defs) (suc n) h few =
    let r : NthStruct s b xs defs n = nth_struct s b xs defs n h.1 (omega arith) in
    record { object = r.object; def = r.def; at = r.at; is = r.is }

module _ (index : ℕ) (ds : List DictId) (t : StringId) (under : List Item) (items_fit : length under + 100 ≤ 1000) (post : List ℕ) (p : Printers) (defs : List StructDef)
    (small : AllByRecursion (RunsStruct defs) defs) (few_defs : length defs ≤ 90000) where
  members_known : (s : StoreState) (n b : ℕ) → Knowing s index ds n (with_structs p b defs) → (ms : List Member) → AllByRecursion (RunsMember defs) ms → Knows s (in_table index ∷ ds) (members defs ms)
  members_known s n b k [] h = tt
  members_known s n b k (m ∷ ms) h =
      (omega arith, ((h.0.name, tt), (word_fine m.at h.0.at, (type_known s index ds n p b defs k small few_defs m.ctype h.0.ctype, tt))), members_known s n b k ms h.1)

  abbrev filling : ℕ → PsObj → List Member → Piece
  filling j x ms = Element (codes "structs") j x (Literal (codes "members") (Row (members defs ms) End))

  pub fill_one : (j : ℕ) (ms : List Member) (k : Code) (n b : ℕ) (s : StoreState) (at : ℕ) → Knowing s index ds n (with_structs p b defs) → j < length defs → AllByRecursion (RunsMember defs) ms → length ms ≤ 90000 → b < 999999
      → s.table.units + s.command.units + (14 + members_made defs ms + length ms) ≤ 8000000 → StandsAt s t at (render (filled_struct j ms ⋯ k) ++ post)
      → Reaches index ds t under (7 + members_steps defs ms) (14 + members_made defs ms + length ms) n (with_structs p (b + 1) defs) s at (render k ++ post)
  fill_one j ms k n b s at knowing within typed few_members few units_fit here =
      let all : List DictId = in_table index ∷ ds in
      let w : HasSense s all (codes "structs") (Structs b defs) = sense_is s all (with_structs p b defs) (codes "structs") (Structs b defs) knowing.have refl in
      let r : NthStruct s b w.2.1 defs j = nth_struct s b w.2.1 defs j w.2.4 within in
      let x : PsObj = r.object in
      let e : DictId = r.is.dict in
      let i : ℕ = r.is.opened.0 in
      let value : IsValue x = subst IsValue (sym r.is.is) tt in
      let piece : Piece = filling j x ms in
      let last : Code = Word (codes "put") k in
      let same_number : signed j ≡ pos j = small_signed j (omega arith) in
      let text : code piece last ≡ (filled_struct j ms ⋯ k) =
      ap (λ c. Word (codes "structs") (Num (pos j) (Word (codes "get") (Lit (codes "members") (Word (codes "[") c))))) (members_are defs ms (Word (codes "]") last))
      ∙ ap (λ z. Word (codes "structs") (Num z (Word (codes "get") (Lit (codes "members") (Word (codes "[") (each_member ms ⋯ Word (codes "]") last)))))) (sym same_number)
      ∙ ap (λ c. Word (codes "structs") (Num (signed j) (Word (codes "get") (Lit (codes "members") (Word (codes "[") c)))))
      (sym (assoc (each_member ms ⋯ Word (codes "]") Stop) (Word (codes "put") Stop) k ∙ assoc (each_member ms) (Word (codes "]") Stop) last)) in
      let knows : Knows s all piece = (
        structs_fine,
        (small_integer j (omega arith), tt),
        w.2.0,
        w.2.1,
        w.1 ∙ ap Some w.2.2,
        w.2.3,
        r.at,
        value,
        (lit_members, (let l = members_left defs ms in omega arith, members_known s n b knowing ms typed, tt)),
      ) in
      let size : cost (members defs ms) ≡ members_made defs ms = members_cost defs ms in
      let left : left_by (members defs ms) ≡ length ms = members_left defs ms in
      let v : ℕ = units (Word (codes "put") Stop) in
      let fits : s.table.units + s.command.units + (cost piece + (v + 1)) ≤ 8000000 = omega arith in
      let q : Performs (cost piece) (steps piece) (after piece Bottom) s all [] [] t at (render last ++ post) under =
      performs all t under items_fit post piece last Bottom s [] [] at knowing.making knows (members_room defs ms 3 (omega arith), omega arith) (omega arith) refl
      (subst (λ (c : Code). StandsAt s t at (render c ++ post)) (sym text) here) in
      let s₁ : StoreState = q.store in
      let counted₁ : s₁.table.units + s₁.command.units ≤ s.table.units + s.command.units + cost piece = q.later.counted in
      let is₁ : IsMaking s₁ all = making_later (cost piece) s s₁ q.later all knowing.making in
      let array : PsObj = Array q.shows.0 false in
      let below = q.shows.5 in
      let name : StringId = q.shows.6.0 in
      let whole : q.operands ≡ array ∷ Name name false ∷ x ∷ [] =
      q.shows.3 ∙ ap (λ l. array ∷ l) (q.shows.6.2 ∙ ap (λ l. Name name false ∷ l) (q.shows.6.4.1 ∙ ap (λ l. x ∷ l) q.shows.6.4.3)) in
      let operands : List PsObj = array ∷ Name name false ∷ Dict (in_table i) ∷ [] in
      let x_is : x ≡ Dict (in_table i) = r.is.is ∙ ap Dict r.is.opened.1 in
      let whole₂ : q.operands ++ [] ≡ operands = ap (λ l. l ++ []) whole ∙ ap (λ y. array ∷ Name name false ∷ y ∷ []) x_is in
      let z : Acted s₁ all (q.operands ++ []) t q.to under (Op 33) v (render k ++ post) =
      word_acts s₁ all (q.operands ++ []) t q.to under (codes "put") k post (Op 33) put_fine (is₁.operators (codes "put") 33 put_number) is₁.there q.stands (omega arith) in
      let s₂ : StoreState = z.store in
      let counted₂ : s₂.table.units + s₂.command.units ≤ s₁.table.units + s₁.command.units + v = z.later.counted in
      let later : Later (cost piece + v) s s₂ = later_then (cost piece) v s s₁ s₂ q.later z.later in
      let kept : IsThere s₂ e × (entries_of s₂ e ≡ entries_of s e) = later.dicts e r.is.there in
      let same : e ≡ in_table i = r.is.opened.1 in
      let there : IsThere s₂ (in_table i) = subst (IsThere s₂) same kept.0 in
      let still : s₂.closed.dicts ≤ i = subst (λ (m : Mark). m.dicts ≤ i) (sym later.closed) r.is.opened.2 in
      let written : IsString s₂ name (codes "members") = z.later.strings name (codes "members") q.shows.6.3 in
      let few₂ : length (entries_of s₂ (in_table i)) < 1000000 = subst (λ (d : DictId). length (entries_of s₂ d) < 1000000) same (subst (λ (es : List (Key × Pair)). length es < 1000000) (sym kept.1) (let a = r.is.small in omega arith)) in
      let s₃ : StoreState = put_store s₂ i still there (codes "members") name array in
      let put : Puts s₂ s₃ (in_table i) (codes "members") array = puts s₂ i still there (codes "members") name array in
      let tagged : value_at (entries_of s₂ (in_table i)) (NameKey (codes "tag")) ≡ Some r.is.tag =
      subst (λ (d : DictId). value_at (entries_of s₂ d) (NameKey (codes "tag")) ≡ Some r.is.tag) same (ap (λ (es : List (Key × Pair)). value_at es (NameKey (codes "tag"))) kept.1 ∙ r.is.tagged) in
      let fits₂ : s₂.table.units + s₂.command.units + 1 ≤ 8000000 = omega arith in
      let c : PsCore = core s₂ all operands (TextItem t z.to ∷ under) in
      let c₀ : PsCore = core s all [] (TextItem t at ∷ under) in
      let c₁ : PsCore = core s₁ all (q.operands ++ []) (TextItem t q.to ∷ under) in
      let c₂ : PsCore = core s₃ all [] (TextItem t z.to ∷ under) in
      let done : step c₁ ≡ Next c₂ =
      z.steps ∙ ap (λ (l : List PsObj). settled (acting (Op 33) (core s₂ all l (TextItem t z.to ∷ under)))) whole₂
      ∙ ap (λ (o : Result StoreState PsError). settled (alone (at_state c (o >>= λ y. Ok (core y all [] (TextItem t z.to ∷ under)))))) (put_defined s₂ i still there (codes "members") name array (omega arith) written.bytes few₂ fits₂) in
      let number : further (steps piece) 1 ≡ 7 + members_steps defs ms =
      ap (λ m. suc (suc (suc (suc (suc (further (further m 1) 1)))))) (members_takes defs ms)
      ∙ ap (λ m. suc (suc (suc (suc (suc (further m 1)))))) (further_is (members_steps defs ms) 1) ∙ ap (λ m. suc (suc (suc (suc (suc m))))) (further_is (members_steps defs ms + 1) 1) ∙ omega arith in
      record {
        store = s₃;
        to = z.to;
        knowing = knowing_filled s₂ s₃ index ds (in_table i) array r.is.tag put tagged n b p defs (knowing_later (cost piece + v) s s₂ later index ds n (with_structs p b defs) knowing);
        owned = let a = put.counted in record {
          base = put.base ∙ later.base;
          command = put.command ∙ later.command knowing.making.part;
          closed = put.closed ∙ later.closed;
          counted = omega arith;
        };
        stands = record { text = z.stands.text; lead = z.stands.lead; is_lead = z.stands.is_lead; is = put.strings t z.stands.text z.stands.is; here = z.stands.here; within = z.stands.within };
        takes = subst (λ m. Takes m c₀ c₂) number (takes_then (steps piece) 1 c₀ c₁ c₂ q.takes (takes_one c₁ c₂ done));
      }

  -- ---- all of them

  pub fill_all : (j : ℕ) (rest : List StructDef) (k : Code) (n b : ℕ) (s : StoreState) (at : ℕ) → Knowing s index ds n (with_structs p b defs) → j + length rest ≤ length defs → AllByRecursion (RunsStruct defs) rest → b + length rest < 999999
      → s.table.units + s.command.units + filling_made defs rest ≤ 8000000 → StandsAt s t at (render (filled_structs j rest ⋯ k) ++ post)
      → Reaches index ds t under (filling_steps defs rest) (filling_made defs rest) n (with_structs p (b + length rest) defs) s at (render k ++ post)
  fill_all j [] k n b s at knowing within typed few units_fit here = record {
    store = s;
    to = at;
    knowing = subst (λ (m : ℕ). Knowing s index ds n (with_structs p m defs)) (omega arith) knowing;
    owned = record { base = refl; command = refl; closed = refl; counted = omega arith };
    stands = here;
    takes = refl;
  }
  fill_all j (d ∷ rest) k n b s at knowing within typed few units_fit here =
      let u : ℕ = 14 + members_made defs d.members + length d.members in
      let m : ℕ = 7 + members_steps defs d.members in
      let all : List DictId = in_table index ∷ ds in
      let behind : Code = filled_structs (suc j) rest ⋯ k in
      let f : Reaches index ds t under m u n (with_structs p (b + 1) defs) s at (render behind ++ post) =
      fill_one j d.members behind n b s at knowing (omega arith) typed.0.members typed.0.few (omega arith) (omega arith)
      (subst (λ (c : Code). StandsAt s t at (render c ++ post)) (assoc (filled_struct j d.members) (filled_structs (suc j) rest) k) here) in
      let counted = f.owned.counted in
      let r : Reaches index ds t under (filling_steps defs rest) (filling_made defs rest) n (with_structs p (b + 1 + length rest) defs) f.store f.to (render k ++ post) =
      fill_all (suc j) rest k n (b + 1) f.store f.to f.knowing (omega arith) typed.1 (omega arith) (omega arith) f.stands in
      let c₀ : PsCore = core s all [] (TextItem t at ∷ under) in
      let c₁ : PsCore = core f.store all [] (TextItem t f.to ∷ under) in
      let c₂ : PsCore = core r.store all [] (TextItem t r.to ∷ under) in
      record {
        store = r.store;
        to = r.to;
        knowing = subst (λ (q : ℕ). Knowing r.store index ds n (with_structs p q defs)) (omega arith) r.knowing;
        owned = owned_then u (filling_made defs rest) s f.store r.store f.owned r.owned;
        stands = r.stands;
        takes = subst (λ q. Takes q c₀ c₂) (further_is m (filling_steps defs rest)) (takes_then m (filling_steps defs rest) c₀ c₁ c₂ f.takes r.takes);
      }
