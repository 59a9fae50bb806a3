-- What stays of symbols, points and functions where one dictionary is changed that is none of theirs.
use Rattle.std.proofs.Common.{◌≡◌, ℕ, ℤ, zero, suc, false, Option, List, [], ◌∷◌, codes, refl, sym, ap, ◌∙◌, subst}
use Rattle.c_tree.specs.declared.types.StructDef.{StructDef}
use Rattle.c_tree.specs.declared.rows.Program.{Program}
use Rattle.c_tree.specs.declared.rows.SymbolRow.{SymbolRow}
use Rattle.c_tree.specs.declared.rows.Referent.{Referent}
use Rattle.c_tree.specs.declared.rows.Referent.TheVariants as refers
use Rattle.c_tree.specs.declared.rows.Point.{Point}
use Rattle.c_tree.specs.declared.rows.Function.{Function}
use Rattle.obj_file.specs.declared.object.FunctionRow.{FunctionRow as Placed}
use Rattle.ps_store.specs.declared.object.PsObj.{PsObj}
use Rattle.ps_store.specs.declared.object.ArrayId.{ArrayId}
use Rattle.ps_store.specs.declared.object.DictId.{DictId}
use Rattle.ps_store.specs.declared.object.StringId.{StringId}
use Rattle.ps_store.specs.declared.object.Pair.{Pair}
use Rattle.ps_store.specs.declared.key.Key.{Key}
use Rattle.ps_store.specs.declared.key.Key.TheVariants.{Name as NameKey}
use Rattle.ps_store.specs.Entries.{value_at}
use Rattle.ps_store.specs.StoreState.{StoreState}
use Rattle.ps_store.specs.Store.{entries_of, elements_of}
use Rattle.ps_step.specs.Composites.{same_dict}
use Rattle.ps_step.specs.Keys.{or_else, found_in}
use Rattle.ps_text.specs.Code.{Code, Stop, Num, Word, Lit, Text, Proc}
use Rattle.ps_text.specs.Grown.{HasArray, IsArray}
use Rattle.ps_text.specs.Spells.{Spells}
use Rattle.ps_tables.specs.Dictionaries.{Fields, AreFields}
use Rattle.ps_tables.specs.Making.{AreThere, HasFields}
use Rattle.ps_tables.specs.Later.{IsThere}
use Rattle.ps_tables.specs.Types.{Type', Basic, Nothing, To, Many, Numbered, IsSized, IsType, written}
use Rattle.ps_tables.specs.Senses.{IsObject, BeginWith, AreOther}
use Rattle.ps_tables.proofs.Types.{fields_value}
use Rattle.ps_tables.proofs.News.{fields_kept}
use Rattle.ps_tables.proofs.Known.{apart_by}
use Rattle.unit_tables.specs.Kept.{Elsewhere, Lacks}
use Rattle.unit_tables.specs.Shown.{Has, IsOwn, IsSymbol, Chained, outermost, symbol, IsPoint, ArePoints, AreSaved, IsFunction}
use Rattle.unit_tables.specs.Functions.{rows_of, AreFunctions}

module _ (changed : DictId) (s s' : StoreState) (kept : Elsewhere changed s s') where
  pub there_kept : (d : DictId) → same_dict d changed ≡ false → IsThere s d → IsThere s' d
  there_kept d apart there = (kept.dicts d apart there).0

  pub value_kept : (d : DictId) (name : List ℕ) (v : PsObj) → same_dict d changed ≡ false → IsThere s d → Has s d name v → Has s' d name v
  value_kept d name v apart there has = ap (λ (es : List (Key × Pair)). value_at es (NameKey name)) (kept.dicts d apart there).1 ∙ has

  -- ---- what dictionaries have

  pub found_kept : (ds : List DictId) (key : Key) → AreOther ds changed → AreThere s ds → found_in s' ds key ≡ found_in s ds key
  found_kept [] key other h = refl
  found_kept (d ∷ ds) key other h =
      ap (λ (es : List (Key × Pair)). or_else (value_at es key) (found_in s' ds key)) (kept.dicts d other.0 h.0).1
      ∙ ap (or_else (value_at (entries_of s d) key)) (found_kept ds key other.1 h.1)

  pub all_there : (ds : List DictId) → AreOther ds changed → AreThere s ds → AreThere s' ds
  all_there [] other h = tt
  all_there (d ∷ ds) other h = (there_kept d other.0 h.0, all_there ds other.1 h.1)

  pub spells_kept : (k : Code) (xs : List PsObj) → Spells s xs k → Spells s' xs k
  spells_kept Stop xs h = h
  spells_kept (Num n rest) xs h = (h.0, h.1, spells_kept rest h.0 h.2)
  spells_kept (Word word rest) xs h = (h.0, h.1, h.2, kept.strings h.0 word h.3, spells_kept rest h.1 h.4)
  spells_kept (Lit word rest) xs h = (h.0, h.1, h.2, kept.strings h.0 word h.3, spells_kept rest h.1 h.4)
  spells_kept (Text bytes rest) xs h = (h.0, h.1, h.2, kept.strings h.0 bytes h.3, spells_kept rest h.1 h.4)
  spells_kept (Proc body rest) xs h = (h.0, h.1, h.2, h.3, kept.arrays h.0 h.1 h.4, spells_kept body h.1 h.5, spells_kept rest h.2 h.6)

  pub body_kept : (k : Code) (a : ArrayId) → HasArray s a → Spells s (elements_of s a) k → HasArray s' a × Spells s' (elements_of s' a) k
  body_kept k a has h =
      let same : IsArray s' a (elements_of s a) = kept.arrays a (elements_of s a) (record { has = has; items = refl }) in
      (same.has, subst (λ (xs : List PsObj). Spells s' xs k) (sym same.items) (spells_kept k (elements_of s a) h))

module _ (changed : DictId) (s s' : StoreState) (kept : Elsewhere changed s s') (lacks : Lacks s changed) where
  pub sized_kept : (x : PsObj) (n : ℕ) → IsSized s x n → IsSized s' x n
  sized_kept x n h =
      let apart : same_dict h.dict changed ≡ false = apart_by s h.dict changed (NameKey (codes "size")) _ h.has lacks.size in
      record { dict = h.dict; is = h.is; there = there_kept changed s s' kept h.dict apart h.there; has = value_kept changed s s' kept h.dict (codes "size") _ apart h.there h.has }

  type_kept : (x : PsObj) (t : Type') → IsType s x t → IsType s' x t
  type_kept x Nothing h = h
  type_kept x (Basic word size) h = sized_kept x size h
  type_kept x (To t) h = sized_kept x 4 h
  type_kept x (Many t n) h = sized_kept x _ h
  type_kept x (Numbered n size) h = sized_kept x size h

  pub named_kept : (d : DictId) (kind : PsObj) (fields : Fields) → HasFields s d ((codes "kind", kind) ∷ fields) → HasFields s' d ((codes "kind", kind) ∷ fields)
  named_kept d kind fields has =
      let all : Fields = (codes "kind", kind) ∷ fields in
      let apart : same_dict d changed ≡ false = apart_by s d changed (NameKey (codes "kind")) kind (fields_value s (entries_of s d) all (codes "kind") has.are) lacks.kind in
      let same = kept.dicts d apart has.is_there in
      record {
        is_there = same.0;
        are = subst (λ (es : List (Key × Pair)). AreFields s' es all) (sym same.1) (fields_kept s s' kept.strings (entries_of s d) all has.are);
        short = has.short;
      }

  -- ---- static objects

  object_kept : (x : PsObj) → IsObject s x → IsObject s' x
  object_kept x h = record { dict = h.dict; is = h.is; kind = h.kind; ctype = h.ctype; place = h.place; label = h.label; name = h.name; has = named_kept h.dict h.kind _ h.has }

  pub begin_kept : (n : ℕ) (xs : List PsObj) → BeginWith s n xs → BeginWith s' n xs
  begin_kept zero xs h = tt
  begin_kept (suc n) [] h = absurd h
  begin_kept (suc n) (x ∷ xs) h = (object_kept x h.0, begin_kept n xs h.1)

  module _ (defs : List StructDef) (ss : List SymbolRow) where
    own_kept : (row : SymbolRow) (r : Referent) (name : StringId) (ctype : PsObj) → IsOwn s defs row r name ctype → IsOwn s' defs row r name ctype
    own_kept row (refers.Object o) name ctype h = h
    own_kept row (refers.Local x) name ctype h = (kept.strings name row.name h.0, type_kept ctype (written defs row.ctype) h.1)
    own_kept row (refers.Function f) name ctype h = (kept.strings name row.name h.0, type_kept ctype (written defs row.ctype) h.1)
    own_kept row refers.Declared name ctype h = (kept.strings name row.name h.0, type_kept ctype (written defs row.ctype) h.1)

    symbol_kept : (d : DictId) (row : SymbolRow) (uplink : PsObj) → IsSymbol s defs d row uplink → IsSymbol s' defs d row uplink
    symbol_kept d row uplink h =
        let apart : same_dict d changed ≡ false = apart_by s d changed (NameKey (codes "kind")) h.kind h.has_kind lacks.kind in
        record {
          there = there_kept changed s s' kept d apart h.there;
          kind = h.kind;
          has_kind = value_kept changed s s' kept d (codes "kind") h.kind apart h.there h.has_kind;
          has_uplink = value_kept changed s s' kept d (codes "uplink") uplink apart h.there h.has_uplink;
          ctype = h.ctype;
          has_type = value_kept changed s s' kept d (codes "type") h.ctype apart h.there h.has_type;
          place = h.place;
          has_place = value_kept changed s s' kept d (codes "where") _ apart h.there h.has_place;
          label = h.label;
          has_label = value_kept changed s s' kept d (codes "label") _ apart h.there h.has_label;
          name = h.name;
          has_name = value_kept changed s s' kept d (codes "name") _ apart h.there h.has_name;
          own = own_kept row row.refers h.name h.ctype h.own;
        }

    pub chain_kept : (x : PsObj) (up : Option ℕ) → Chained s defs ss x up → Chained s' defs ss x up
    chain_kept _ _ outermost = outermost
    chain_kept _ _ (symbol d n row uplink at is rest) = symbol d n row uplink at (symbol_kept d row uplink is) (chain_kept uplink row.up rest)

    pub point_kept : (x : PsObj) (q : Point) (address : ℕ) → IsPoint s defs ss x q address → IsPoint s' defs ss x q address
    point_kept x q address h =
        let apart : same_dict h.dict changed ≡ false = apart_by s h.dict changed (NameKey (codes "line")) _ h.has_line lacks.line in
        record {
          dict = h.dict;
          is = h.is;
          there = there_kept changed s s' kept h.dict apart h.there;
          has_line = value_kept changed s s' kept h.dict (codes "line") _ apart h.there h.has_line;
          has_column = value_kept changed s s' kept h.dict (codes "column") _ apart h.there h.has_column;
          has_address = value_kept changed s s' kept h.dict (codes "address") _ apart h.there h.has_address;
          symbols = h.symbols;
          has_symbols = value_kept changed s s' kept h.dict (codes "symbols") _ apart h.there h.has_symbols;
          chain = chain_kept h.symbols q.symbol h.chain;
        }

    pub points_kept : (xs : List PsObj) (qs : List (Point × ℕ)) → ArePoints s defs ss xs qs → ArePoints s' defs ss xs qs
    points_kept [] [] h = tt
    points_kept (x ∷ xs) (q ∷ qs) h = (point_kept x q.0 q.1 h.0, points_kept xs qs h.1)
    points_kept [] (q ∷ qs) h = absurd h
    points_kept (x ∷ xs) [] h = absurd h

    pub saved_kept : (xs : List PsObj) (rs : List (ℕ × ℤ)) → AreSaved s xs rs → AreSaved s' xs rs
    saved_kept [] [] h = tt
    saved_kept (x ∷ xs) (r ∷ rs) h = ((h.0.0, h.0.1, kept.arrays h.0.0 _ h.0.2), saved_kept xs rs h.1)
    saved_kept [] (r ∷ rs) h = absurd h
    saved_kept (x ∷ xs) [] h = absurd h

    pub function_kept : (x : PsObj) (f : Function) (at : Placed) (rows : List (Point × ℕ)) → IsFunction s defs ss x f at rows → IsFunction s' defs ss x f at rows
    function_kept x f at rows h =
        let apart : same_dict h.dict changed ≡ false = apart_by s h.dict changed (NameKey (codes "name")) _ h.has_name lacks.name in
        record {
          dict = h.dict;
          is = h.is;
          there = there_kept changed s s' kept h.dict apart h.there;
          name = h.name;
          has_name = value_kept changed s s' kept h.dict (codes "name") _ apart h.there h.has_name;
          named = kept.strings h.name f.name h.named;
          has_static = value_kept changed s s' kept h.dict (codes "static") _ apart h.there h.has_static;
          has_entry = value_kept changed s s' kept h.dict (codes "entry") _ apart h.there h.has_entry;
          has_end = value_kept changed s s' kept h.dict (codes "end") _ apart h.there h.has_end;
          has_frame = value_kept changed s s' kept h.dict (codes "frame") _ apart h.there h.has_frame;
          saved = h.saved;
          has_saved = value_kept changed s s' kept h.dict (codes "saved") _ apart h.there h.has_saved;
          registers = h.registers;
          holds_saved = kept.arrays h.saved h.registers h.holds_saved;
          are_saved = saved_kept h.registers at.saved h.are_saved;
          points = h.points;
          has_points = value_kept changed s s' kept h.dict (codes "points") _ apart h.there h.has_points;
          items = h.items;
          holds_points = kept.arrays h.points h.items h.holds_points;
          are_points = points_kept h.items rows h.are_points;
        }

  pub functions_kept : (p : Program) (fs : List Placed) (xs : List PsObj) (rows : List (Function × Placed)) → AreFunctions p fs s xs rows → AreFunctions p fs s' xs rows
  functions_kept p fs [] [] h = tt
  functions_kept p fs (x ∷ xs) (f ∷ rows) h = (function_kept p.defs p.symbols x f.0 f.1 (rows_of p fs f.0 f.1) h.0, functions_kept p fs xs rows h.1)
  functions_kept p fs [] (f ∷ rows) h = absurd h
  functions_kept p fs (x ∷ xs) [] h = absurd h
