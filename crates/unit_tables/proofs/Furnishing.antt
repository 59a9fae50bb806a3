-- What a table's text leaves is such as its units' functions are run with.
use Rattle.std.proofs.Common.{◌≡◌, ℕ, zero, suc, ◌+◌, ◌<◌, ◌≤◌, false, ◌&&◌, ◌==◌, Option, Some, None, List, [], ◌∷◌, ◌++◌, length, codes, slice_index_or, refl, sym, ap, ◌∙◌, subst, arith, ne_eqb}
use Rattle.std.specs.List.{AllByRecursion}
use Rattle.c_tree.specs.declared.rows.Program.{Program}
use Rattle.c_tree.specs.declared.rows.UnitRow.{UnitRow}
use Rattle.obj_file.specs.declared.object.FunctionRow.{FunctionRow as Placed}
use Rattle.ps_store.specs.declared.object.Part.{Part}
use Rattle.ps_store.specs.declared.object.Part.TheVariants.{Table, Command}
use Rattle.ps_store.specs.declared.object.Mark.{Mark}
use Rattle.ps_store.specs.declared.object.PsObj.{PsObj}
use Rattle.ps_store.specs.declared.object.DictId.{DictId}
use Rattle.ps_store.specs.declared.object.StringId.{StringId}
use Rattle.ps_store.specs.declared.object.Pair.{Pair}
use Rattle.ps_store.specs.declared.key.Key.{Key}
use Rattle.ps_store.specs.declared.key.Key.TheVariants.{Name as NameKey}
use Rattle.ps_store.specs.Entries.{value_at}
use Rattle.ps_store.specs.StoreState.{StoreState}
use Rattle.ps_store.specs.Store.{held, entries_of}
use Rattle.ps_step.specs.Compare.{same_part}
use Rattle.ps_text.specs.Code.{render}
use Rattle.ps_emit.specs.declared.placement.Placement.{Placement}
use Rattle.ps_emit.specs.Functions.{deferred}
use Rattle.ps_tables.specs.Making.{AreThere}
use Rattle.ps_tables.specs.Defined.{in_table}
use Rattle.ps_tables.specs.Runnable.{RunsStruct}
use Rattle.ps_tables.specs.Senses.{Structs, Objects, HasSense, Senses, HaveSenses, AreOther}
use Rattle.ps_tables.specs.WordsKnown.{Printers, printer_senses, word_senses}
use Rattle.ps_tables.specs.Left.{IsDeferred, AreDeferred, LeavesTable}
use Rattle.ps_tables.proofs.News.{fields_kept}
use Rattle.ps_tables.proofs.TypesKnown.{nth}
use Rattle.unit_tables.specs.Kept.{Elsewhere, Lacks}
use Rattle.unit_tables.specs.Units.{closed_store, Furnished}
use Rattle.unit_tables.proofs.Elsewhere.{found_kept, all_there}
use Rattle.unit_tables.proofs.Forced.{furnished_kept}

-- the first of senses
front_senses : (s : StoreState) (ds : List DictId) (ws more : Senses) → HaveSenses s ds (ws ++ more) → HaveSenses s ds ws
front_senses s ds [] more h = tt
front_senses s ds (w ∷ ws) more h = (h.0, front_senses s ds ws more h.1)

-- ---- a store that is closed

module _ (s : StoreState) (closed : Mark) (base : List DictId) (top : Option DictId) where
  abbrev S : StoreState
  S = closed_store s closed base top

  -- no dictionary is changed: this one is not there
  abbrev beyond : DictId
  beyond = in_table (length s.table.dicts)

  abbrev tabled : StoreState
  tabled = record s { part = Table }

  same_held : (p : Part) → (held S p).dicts ≡ (held s p).dicts
  same_held Table = refl
  same_held Command = refl

  kept : Elsewhere beyond s S
  kept = record {
    strings = λ t text h. record { has = there_string t.part t.index h.has; bytes = same_string t.part t.index ∙ h.bytes };
    arrays = λ a xs h. record { has = there_array a.part a.index h.has; items = same_array a.part a.index ∙ h.items };
    dicts = λ d apart h. (subst (λ (xs : List (List (Key × Pair))). d.index < length xs) (sym (same_held d.part)) h, ap (λ (xs : List (List (Key × Pair))). slice_index_or xs d.index []) (same_held d.part));
  }
    where
      same_string : (p : Part) (i : ℕ) → slice_index_or (held S p).strings i [] ≡ slice_index_or (held s p).strings i []
      same_string Table i = refl
      same_string Command i = refl

      there_string : (p : Part) (i : ℕ) → i < length (held s p).strings → i < length (held S p).strings
      there_string Table i h = h
      there_string Command i h = h

      same_array : (p : Part) (i : ℕ) → slice_index_or (held S p).arrays i [] ≡ slice_index_or (held s p).arrays i []
      same_array Table i = refl
      same_array Command i = refl

      there_array : (p : Part) (i : ℕ) → i < length (held s p).arrays → i < length (held S p).arrays
      there_array Table i h = h
      there_array Command i h = h

  none_beyond : (xs : List (List (Key × Pair))) (i : ℕ) → length xs ≤ i → slice_index_or xs i [] ≡ []
  none_beyond [] i h = refl
  none_beyond (x ∷ xs) zero h = absurd (omega (arith, h))
  none_beyond (x ∷ xs) (suc i) h = none_beyond xs i (omega (arith, h))

  lacks : Lacks s beyond
  lacks =
      let none : entries_of s beyond ≡ [] = none_beyond s.table.dicts (length s.table.dicts) (omega arith) in
      let no : (name : List ℕ) → value_at (entries_of s beyond) (NameKey name) ≡ None = λ name. ap (λ (es : List (Key × Pair)). value_at es (NameKey name)) none in
      record { kind = no (codes "kind"); line = no (codes "line"); name = no (codes "name"); size = no (codes "size") }

  other : (ds : List DictId) → AreThere s ds → AreOther ds beyond
  other [] h = tt
  other (d ∷ ds) h = (by d.part d.index h.0, other ds h.1)
    where
      by : (p : Part) (i : ℕ) → i < length (held s p).dicts → (same_part p Table && i == length s.table.dicts) ≡ false
      by Table i l = ne_eqb _ _ (omega (arith, l))
      by Command i l = refl

  pub furnished_closed : (p : Program) (ds : List DictId) → closed.dicts ≤ length s.table.dicts → length base ≤ length ds → Furnished p s ds → Furnished p S ds
  furnished_closed p ds within bases f = furnished_kept beyond s S kept lacks ds (λ word apart. found_kept beyond s S kept ds (NameKey word) (other ds f.making.there) f.making.there) (all_there beyond s S kept ds (other ds f.making.there) f.making.there) p refl within bases f

  pub deferred_closed : (p : Program) (fs : List Placed) (xs : List PsObj) (us : List UnitRow) → AreDeferred p fs s xs us → AreDeferred p fs S xs us
  deferred_closed p fs [] [] h = tt
  deferred_closed p fs [] (u ∷ us) h = absurd h
  deferred_closed p fs (x ∷ xs) [] h = absurd h
  deferred_closed p fs (x ∷ xs) (u ∷ us) h = ((h.0.0, h.0.1, h.0.2, one u h.0.0 h.0.1 h.0.3), deferred_closed p fs xs us h.1)
    where
      one : (v : UnitRow) (i : ℕ) (t : StringId) → IsDeferred p fs v s i t → IsDeferred p fs v S i t
      one v i t d = record {
        file = d.file;
        fields = record { is_there = d.fields.is_there; are = fields_kept s S kept.strings (entries_of s (in_table i)) _ d.fields.are; short = d.fields.short };
        text = kept.strings t (render (deferred p fs v)) d.text;
      }

-- ---- what the text leaves

module _ (p : Program) (at : Placement) (printers : Printers) (s : StoreState) (index n from : ℕ) (ds : List DictId) (t : StringId) (closed : Mark) (base : List DictId) (top : Option DictId) (l : LeavesTable index ds t printers n p at s from) where
  abbrev now : StoreState
  now = l.leaves.store

  abbrev all : List DictId
  all = in_table index ∷ ds

  furnished_now : AllByRecursion (RunsStruct p.defs) p.defs → length p.defs ≤ 90000 → length ds < 63 → length s.base ≤ length all → Furnished p now all
  furnished_now small few few_dicts bases =
      let k = l.knowing in
      let o : HasSense now all (codes "objects") (Objects (length p.objects)) = k.have.0 in
      let f : HasSense now all (codes "structs") (Structs (4 + length p.defs) p.defs) = k.have.1.0 in
      record {
        making = k.making;
        have = front_senses now all word_senses (printer_senses printers) k.have.1.1;
        no_kind = k.no_kind;
        no_tag = k.no_tag;
        structs = record {
          array = f.2.0;
          items = f.2.1;
          means = f.1 ∙ ap Some f.2.2;
          holds = f.2.3;
          sized = λ i l'. let r = nth p.defs now (4 + length p.defs) f.2.1 p.defs i small f.2.4 l' in (r.object, r.at, r.sized);
        };
        listed = record { array = o.2.0; items = o.2.1; means = o.1 ∙ ap Some o.2.2; holds = o.2.3; are = o.2.4 };
        few_dicts = omega arith;
        base = subst (λ (b : List DictId). length b ≤ length all) (sym l.leaves.owned.base) bases;
      }

  pub furnished_left : AllByRecursion (RunsStruct p.defs) p.defs → length p.defs ≤ 90000 → length ds < 63 → length s.base ≤ suc (length ds) → closed.dicts ≤ length now.table.dicts → length base ≤ suc (length ds) → Furnished p (closed_store now closed base top) all
  furnished_left small few few_dicts before within bases = furnished_closed now closed base top p all within bases (furnished_now small few few_dicts before)

  pub deferred_left : AreDeferred p at.functions (closed_store now closed base top) l.units p.units
  deferred_left = deferred_closed now closed base top p at.functions l.units p.units l.are
