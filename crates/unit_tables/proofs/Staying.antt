-- What stays of a unit's symbols, points and functions where its dictionary gets more.
use Rattle.std.proofs.Common.{◌≡◌, ◌⊎◌, inl, inr, ℕ, ℤ, ◌+◌, ◌<◌, ◌≤◌, ◌^◌, Bool, true, false, Option, Some, List, ◌∷◌, length, codes, refl, sym, ap, ◌∙◌, subst, arith}
use Rattle.std.specs.Ordering.{int_eq}
use Rattle.std.specs.Int.{w32}
use Rattle.std.proofs.lemmas.Int.{of_z-to_z}
use Rattle.std.proofs.lemmas.Bool.Decides.{Decides-int_eq}
use Rattle.ldb_words.specs.Word.{signed, word_of_signed}
use Rattle.c_tree.specs.declared.types.StructDef.{StructDef}
use Rattle.c_tree.specs.declared.rows.SymbolRow.{SymbolRow}
use Rattle.c_tree.specs.Layout.{struct_size_of}
use Rattle.c_tree.specs.declared.rows.Point.{Point}
use Rattle.c_tree.specs.declared.rows.Function.{Function}
use Rattle.obj_file.specs.declared.object.FunctionRow.{FunctionRow as Placed}
use Rattle.ps_store.specs.declared.object.PsObj.{PsObj}
use Rattle.ps_store.specs.declared.object.DictId.{DictId}
use Rattle.ps_store.specs.declared.object.Pair.{Pair}
use Rattle.ps_store.specs.declared.key.Key.{Key}
use Rattle.ps_store.specs.declared.key.Key.TheVariants.{Int as IntKey}
use Rattle.ps_store.specs.Entries.{value_at}
use Rattle.ps_store.specs.StoreState.{StoreState}
use Rattle.ps_store.specs.Store.{entries_of}
use Rattle.ps_tables.specs.Making.{AreThere}
use Rattle.ps_tables.specs.Later.{Later}
use Rattle.ps_tables.specs.Defined.{in_table}
use Rattle.ps_tables.specs.Pieces.{IsValue}
use Rattle.ps_tables.specs.Senses.{AreOther}
use Rattle.ps_tables.specs.WordsKnown.{word_senses}
use Rattle.ps_tables.proofs.Sequence.{knowing_later}
use Rattle.unit_tables.specs.Kept.{Elsewhere, Lacks}
use Rattle.unit_tables.specs.Amended.{PutsUnder, Amended, HasNoNames}
use Rattle.unit_tables.specs.Shown.{Chained, outermost, symbol, IsPoint, ArePoints, AreSaved, IsFunction}
use Rattle.unit_tables.specs.Running.{HasObjects, HasStructs, IsDefined, Running}
use Rattle.unit_tables.proofs.Elsewhere.{sized_kept, begin_kept, chain_kept, point_kept, points_kept, saved_kept, function_kept}
use Rattle.unit_tables.proofs.Amended.{later_amended, puts_amended, named_amended, no_names_amended, elsewhere, lacks_all, knowing_amended}

-- ---- numbers

-- words that are the same integer are the same
pub signed_once : (m n : ℕ) → m < 2 ^ 32 → n < 2 ^ 32 → signed m ≡ signed n → m ≡ n
signed_once m n h k e = sym (of_z-to_z w32 m h) ∙ ap word_of_signed e ∙ of_z-to_z w32 n k

-- the object of a chain is pushed where it is executed
pub chain_value : (s : StoreState) (defs : List StructDef) (ss : List SymbolRow) (x : PsObj) (up : Option ℕ) → Chained s defs ss x up → IsValue x
chain_value s defs ss _ _ outermost = tt
chain_value s defs ss _ _ (symbol d n row uplink at is rest) = tt

module _ (u i : ℕ) (s s' : StoreState) (amended : Amended u (in_table i) s s') (none : HasNoNames s (in_table i)) (defs : List StructDef) (ss : List SymbolRow) where
  abbrev kept : Elsewhere (in_table i) s s'
  kept = elsewhere u i s s' amended

  abbrev lacks : Lacks s (in_table i)
  lacks = lacks_all u i s s' amended none

  pub chain_amended : (x : PsObj) (up : Option ℕ) → Chained s defs ss x up → Chained s' defs ss x up
  chain_amended x up h = chain_kept (in_table i) s s' kept lacks defs ss x up h

  pub point_amended : (x : PsObj) (q : Point) (address : ℕ) → IsPoint s defs ss x q address → IsPoint s' defs ss x q address
  point_amended x q address h = point_kept (in_table i) s s' kept lacks defs ss x q address h

  pub points_amended : (xs : List PsObj) (qs : List (Point × ℕ)) → ArePoints s defs ss xs qs → ArePoints s' defs ss xs qs
  points_amended xs qs h = points_kept (in_table i) s s' kept lacks defs ss xs qs h

  pub saved_amended : (xs : List PsObj) (rs : List (ℕ × ℤ)) → AreSaved s xs rs → AreSaved s' xs rs
  saved_amended xs rs h = saved_kept (in_table i) s s' kept lacks defs ss xs rs h

  pub function_amended : (x : PsObj) (f : Function) (at : Placed) (rows : List (Point × ℕ)) → IsFunction s defs ss x f at rows → IsFunction s' defs ss x f at rows
  function_amended x f at rows h = function_kept (in_table i) s s' kept lacks defs ss x f at rows h

  -- ---- structs and static objects

  pub structs_amended : (ds : List DictId) → AreOther ds (in_table i) → AreThere s (in_table i ∷ ds) → HasStructs s (in_table i ∷ ds) defs → HasStructs s' (in_table i ∷ ds) defs
  structs_amended ds other there h = record {
    array = h.array;
    items = h.items;
    means = named_amended u i s s' amended ds (codes "structs") other there ∙ h.means;
    holds = amended.arrays h.array h.items h.holds;
    sized = λ n l. let x = h.sized n l in (x.0, x.1, sized_kept (in_table i) s s' kept lacks x.0 (struct_size_of defs n) x.2);
  }

  pub objects_amended : (ds : List DictId) (n : ℕ) → AreOther ds (in_table i) → AreThere s (in_table i ∷ ds) → HasObjects s (in_table i ∷ ds) n → HasObjects s' (in_table i ∷ ds) n
  objects_amended ds n other there h = record {
    array = h.array;
    items = h.items;
    means = named_amended u i s s' amended ds (codes "objects") other there ∙ h.means;
    holds = amended.arrays h.array h.items h.holds;
    are = begin_kept (in_table i) s s' kept lacks n h.items h.are;
  }

-- ---- the state

module _ (defs : List StructDef) (ss : List SymbolRow) (objects i : ℕ) (ds : List DictId) where
  abbrev D : DictId
  D = in_table i

  pub running_later : (u k : ℕ) (made : ℕ → Type 0) (s s' : StoreState) → Later u s s' → Running defs ss objects s i ds k made → Running defs ss objects s' i ds k made
  running_later u k made s s' later r =
      let a : Amended u D s s' = later_amended u D s s' later in
      let there = r.knowing.making.there in
      record {
        knowing = knowing_later u s s' later i ds k word_senses r.knowing;
        nameless = no_names_amended u i s s' a there.0 r.nameless;
        structs = structs_amended u i s s' a r.nameless defs ss ds r.knowing.others there r.structs;
        listed = objects_amended u i s s' a r.nameless defs ss ds objects r.knowing.others there r.listed;
        defined = λ n m. let d = r.defined n m in record {
          word = d.word;
          object = d.object;
          found = ap (λ (es : List (Key × Pair)). value_at es (IntKey (signed n))) (later.dicts D there.0).1 ∙ d.found;
          chain = chain_amended u i s s' a r.nameless defs ss d.object (Some n) d.chain;
        };
      }

  -- one symbol more
  pub running_puts : (k : ℕ) (made made' : ℕ → Type 0) (n : ℕ) (v : PsObj) (s s' : StoreState) → n < 2 ^ 32 → PutsUnder s s' D (IntKey (signed n)) v → Chained s defs ss v (Some n)
      → ((m : ℕ) → made' m → (m ≡ n) ⊎ made m) → Running defs ss objects s i ds k made → Running defs ss objects s' i ds (k + 1) made'
  running_puts k made made' n v s s' short puts chain each r =
      let a : Amended 1 D s s' = puts_amended D s s' (signed n) v puts in
      let there = r.knowing.making.there in
      let grown : length (entries_of s' D) ≤ length (entries_of s D) + 1 = puts.few in
      let small : length (entries_of s D) ≤ k = r.knowing.small in
      record {
        knowing = knowing_amended 1 i s s' a r.nameless ds k (k + 1) word_senses (omega arith) r.knowing;
        nameless = no_names_amended 1 i s s' a there.0 r.nameless;
        structs = structs_amended 1 i s s' a r.nameless defs ss ds r.knowing.others there r.structs;
        listed = objects_amended 1 i s s' a r.nameless defs ss ds objects r.knowing.others there r.listed;
        defined = λ m h. by m (each m h);
      }
    where
      new : (m : ℕ) → m ≡ n → IsDefined s' D defs ss m
      new m same =
          let a : Amended 1 D s s' = puts_amended D s s' (signed n) v puts in
          subst (λ (l : ℕ). IsDefined s' D defs ss l) (sym same) (record { word = short; object = v; found = puts.found; chain = chain_amended 1 i s s' a r.nameless defs ss v (Some n) chain })

      old : (m : ℕ) → IsDefined s D defs ss m → IsDefined s' D defs ss m
      old m d = on (int_eq (signed m) (signed n)) refl
        where
          on : (b : Bool) → int_eq (signed m) (signed n) ≡ b → IsDefined s' D defs ss m
          on true e = new m (signed_once m n d.word short ((Decides-int_eq (signed m) (signed n)).0 e))
          on false e =
              let a : Amended 1 D s s' = puts_amended D s s' (signed n) v puts in
              record { word = d.word; object = d.object; found = puts.others (IntKey (signed m)) e ∙ d.found; chain = chain_amended 1 i s s' a r.nameless defs ss d.object (Some m) d.chain }

      by : (m : ℕ) → (m ≡ n) ⊎ made m → IsDefined s' D defs ss m
      by m (inl same) = new m same
      by m (inr h) = old m (r.defined m h)

  -- fewer symbols
  pub running_less : (k l : ℕ) (made made' : ℕ → Type 0) (s : StoreState) → k ≤ l → ((m : ℕ) → made' m → made m) → Running defs ss objects s i ds k made → Running defs ss objects s i ds l made'
  running_less k l made made' s less each r =
      let small : length (entries_of s D) ≤ k = r.knowing.small in
      let kn = r.knowing in
      record {
        knowing = record { making = kn.making; unclosed = kn.unclosed; others = kn.others; small = omega arith; no_kind = kn.no_kind; no_tag = kn.no_tag; have = kn.have };
        nameless = r.nameless;
        structs = r.structs;
        listed = r.listed;
        defined = λ m h. r.defined m (each m h);
      }
