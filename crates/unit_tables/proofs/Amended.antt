-- What stays known where one dictionary gets more under integers.
use Rattle.std.proofs.Common.{◌≡◌, ℕ, ℤ, ◌+◌, ◌≤◌, false, Option, List, [], ◌∷◌, length, codes, refl, sym, ap, ◌∙◌, subst, arith}
use Rattle.std.specs.Prelude.{option_map}
use Rattle.c_tree.specs.declared.types.StructDef.{StructDef}
use Rattle.ps_store.specs.declared.object.PsObj.{PsObj}
use Rattle.ps_store.specs.declared.object.PsObj.TheVariants.{Op}
use Rattle.ps_store.specs.declared.object.DictId.{DictId}
use Rattle.ps_store.specs.declared.object.StringId.{StringId}
use Rattle.ps_store.specs.declared.object.Pair.{Pair}
use Rattle.ps_store.specs.declared.object.Mark.{Mark}
use Rattle.ps_store.specs.declared.key.Key.{Key}
use Rattle.ps_store.specs.declared.key.Key.TheVariants.{Name as NameKey, Int as IntKey}
use Rattle.ps_store.specs.Entries.{value_at}
use Rattle.ps_store.specs.Operators.{operator_number}
use Rattle.ps_store.specs.StoreState.{StoreState}
use Rattle.ps_store.specs.Store.{entries_of}
use Rattle.ps_step.specs.Composites.{same_dict}
use Rattle.ps_step.specs.Keys.{or_else, found_in, named}
use Rattle.ps_tables.specs.Dictionaries.{Fields}
use Rattle.ps_tables.specs.Making.{AreThere, IsMaking, HasFields}
use Rattle.ps_tables.specs.Later.{IsThere, IsOpen, Later, StandsAt}
use Rattle.ps_tables.specs.Defined.{in_table}
use Rattle.ps_tables.specs.Senses.{Sense, Stands, Sized, Kind, Variables, Called, Structs, Objects, IsStruct, AreStructs, IsOf, Senses, HaveSenses, AreOther, Knowing}
use Rattle.ps_tables.proofs.Known.{apart_by}
use Rattle.unit_tables.specs.Kept.{Elsewhere, Lacks}
use Rattle.unit_tables.specs.Amended.{PutsUnder, Amended, HasNoNames}
use Rattle.unit_tables.proofs.Elsewhere.{found_kept, all_there, there_kept, body_kept, named_kept, begin_kept}

-- ---- how a store comes of another one

pub amended_none : (d : DictId) (s : StoreState) → Amended 0 d s s
amended_none d s = record {
  strings = λ t text is. is;
  arrays = λ a xs is. is;
  dicts = λ e apart there. (there, refl);
  own = λ there. there;
  names = λ there name. refl;
  part = refl;
  closed = refl;
  base = refl;
  command = λ e. refl;
  more = omega arith;
  counted = omega arith;
}

pub amended_then : (u v : ℕ) (d : DictId) (s s₁ s₂ : StoreState) → Amended u d s s₁ → Amended v d s₁ s₂ → Amended (u + v) d s s₂
amended_then u v d s s₁ s₂ a b =
    let more₁ = a.more in
    let more₂ = b.more in
    let counted₁ = a.counted in
    let counted₂ = b.counted in
    record {
      strings = λ t text is. b.strings t text (a.strings t text is);
      arrays = λ x xs is. b.arrays x xs (a.arrays x xs is);
      dicts = λ e apart there. let one = a.dicts e apart there in let two = b.dicts e apart one.0 in (two.0, two.1 ∙ one.1);
      own = λ there. b.own (a.own there);
      names = λ there name. b.names (a.own there) name ∙ a.names there name;
      part = b.part ∙ a.part;
      closed = b.closed ∙ a.closed;
      base = b.base ∙ a.base;
      command = λ e. b.command (a.part ∙ e) ∙ a.command e;
      more = omega arith;
      counted = omega arith;
    }

pub amended_within : (u v : ℕ) (d : DictId) (s s' : StoreState) → u ≤ v → Amended u d s s' → Amended v d s s'
amended_within u v d s s' less a =
    let counted₁ = a.counted in
    record { strings = a.strings; arrays = a.arrays; dicts = a.dicts; own = a.own; names = a.names; part = a.part; closed = a.closed; base = a.base; command = a.command; more = a.more; counted = omega arith }

pub later_amended : (u : ℕ) (d : DictId) (s s' : StoreState) → Later u s s' → Amended u d s s'
later_amended u d s s' a = record {
  strings = a.strings;
  arrays = a.arrays;
  dicts = λ e apart there. a.dicts e there;
  own = λ there. (a.dicts d there).0;
  names = λ there name. ap (λ (es : List (Key × Pair)). value_at es (NameKey name)) (a.dicts d there).1;
  part = a.part;
  closed = a.closed;
  base = a.base;
  command = a.command;
  more = a.more;
  counted = a.counted;
}

pub puts_amended : (d : DictId) (s s' : StoreState) (n : ℤ) (v : PsObj) → PutsUnder s s' d (IntKey n) v → Amended 1 d s s'
puts_amended d s s' n v p =
    let more = p.more in
    record {
      strings = p.strings;
      arrays = p.arrays;
      dicts = λ e apart there. (p.there e there, p.dicts e apart);
      own = λ there. p.there d there;
      names = λ there name. p.others (NameKey name) refl;
      part = p.part;
      closed = p.closed;
      base = p.base;
      command = λ e. p.command;
      more = omega arith;
      counted = p.counted;
    }

-- ---- what is known of it

module _ (u i : ℕ) (s s' : StoreState) (amended : Amended u (in_table i) s s') where
  abbrev D : DictId
  D = in_table i

  pub elsewhere : Elsewhere D s s'
  elsewhere = record { strings = amended.strings; arrays = amended.arrays; dicts = amended.dicts }

  pub named_amended : (ds : List DictId) (word : List ℕ) → AreOther ds D → AreThere s (D ∷ ds) → named s' (D ∷ ds) word ≡ named s (D ∷ ds) word
  named_amended ds word other h =
      ap (λ (o : Option PsObj). or_else o (option_map (λ n. Op n) (operator_number word)))
      (ap (λ (x : Option PsObj). or_else x (found_in s' ds (NameKey word))) (amended.names h.0 word)
      ∙ ap (or_else (value_at (entries_of s D) (NameKey word))) (found_kept D s s' elsewhere ds (NameKey word) other h.1))

  pub no_names_amended : IsThere s D → HasNoNames s D → HasNoNames s' D
  no_names_amended there none name = amended.names there name ∙ none name

  pub stands_amended : (t : StringId) (at : ℕ) (rest : List ℕ) → StandsAt s t at rest → StandsAt s' t at rest
  stands_amended t at rest h = record { text = h.text; lead = h.lead; is_lead = h.is_lead; is = amended.strings t h.text h.is; here = h.here; within = h.within }

  pub open_amended : (d : DictId) → IsOpen s d → IsOpen s' d
  open_amended d h = (h.0, h.1, subst (λ (m : Mark). m.dicts ≤ h.0) (sym amended.closed) h.2)

  -- a dictionary in which something stands under a name is another one
  module _ (none : HasNoNames s D) where
    pub lacks_all : Lacks s D
    lacks_all = record { kind = none (codes "kind"); line = none (codes "line"); name = none (codes "name"); size = none (codes "size") }

    named_fields : (d : DictId) (kind : PsObj) (fields : Fields) → HasFields s d ((codes "kind", kind) ∷ fields) → HasFields s' d ((codes "kind", kind) ∷ fields)
    named_fields d kind fields has = named_kept D s s' elsewhere lacks_all d kind fields has

    struct_amended : (few : ℕ) (x : PsObj) (d : StructDef) → IsStruct s few x d → IsStruct s' few x d
    struct_amended few x d h =
        let apart : same_dict h.dict D ≡ false = apart_by s h.dict D (NameKey (codes "tag")) h.tag h.tagged (none (codes "tag")) in
        let same : entries_of s' h.dict ≡ entries_of s h.dict = (amended.dicts h.dict apart h.there).1 in
        record {
          dict = h.dict;
          is = h.is;
          opened = open_amended h.dict h.opened;
          there = there_kept D s s' elsewhere h.dict apart h.there;
          size = ap (λ (es : List (Key × Pair)). value_at es (NameKey (codes "size"))) same ∙ h.size;
          small = subst (λ (es : List (Key × Pair)). length es ≤ few) (sym same) h.small;
          tag = h.tag;
          tagged = ap (λ (es : List (Key × Pair)). value_at es (NameKey (codes "tag"))) same ∙ h.tagged;
        }

    structs_amended : (few : ℕ) (xs : List PsObj) (defs : List StructDef) → AreStructs s few xs defs → AreStructs s' few xs defs
    structs_amended few [] [] h = tt
    structs_amended few (x ∷ xs) (d ∷ defs) h = (struct_amended few x d h.0, structs_amended few xs defs h.1)
    structs_amended few [] (d ∷ defs) h = absurd h
    structs_amended few (x ∷ xs) [] h = absurd h

    pub is_of_amended : (x : PsObj) (sense : Sense) → IsOf s x sense → IsOf s' x sense
    is_of_amended x (Stands y) h = h
    is_of_amended x (Sized size) h = (h.0, h.1, h.2, h.3, named_fields h.0 h.1 _ h.4)
    is_of_amended x Kind h = (h.0, h.1, h.2, h.3, named_fields h.0 h.1 _ h.4)
    is_of_amended x Variables h = (h.0, h.1, h.2, named_fields h.0 h.1 _ h.3)
    is_of_amended x (Called body) h = let b = body_kept D s s' elsewhere body h.0 h.2 h.3 in (h.0, h.1, b.0, b.1)
    is_of_amended x (Structs few defs) h = (h.0, h.1, h.2, amended.arrays h.0 h.1 h.3, structs_amended few h.1 defs h.4)
    is_of_amended x (Objects count) h = (h.0, h.1, h.2, amended.arrays h.0 h.1 h.3, begin_kept D s s' elsewhere lacks_all count h.1 h.4)

    senses_amended : (ds : List DictId) → AreOther ds D → AreThere s (D ∷ ds) → (ws : Senses) → HaveSenses s (D ∷ ds) ws → HaveSenses s' (D ∷ ds) ws
    senses_amended ds other there [] h = tt
    senses_amended ds other there (w ∷ ws) h = ((h.0.0, named_amended ds w.0 other there ∙ h.0.1, is_of_amended h.0.0 w.1 h.0.2), senses_amended ds other there ws h.1)

    pub making_amended : (ds : List DictId) → AreOther ds D → IsMaking s (D ∷ ds) → IsMaking s' (D ∷ ds)
    making_amended ds other is =
        let closed : s.closed.dicts ≤ length s.table.dicts = is.closed in
        let more = amended.more in
        let few : s.closed.dicts ≤ length s'.table.dicts = omega arith in
        record {
          part = amended.part ∙ is.part;
          closed = subst (λ (m : Mark). m.dicts ≤ length s'.table.dicts) (sym amended.closed) few;
          there = (amended.own is.there.0, all_there D s s' elsewhere ds other is.there.1);
          operators = λ name n e. named_amended ds name other is.there ∙ is.operators name n e;
        }

    pub knowing_amended : (ds : List DictId) (n m : ℕ) (ws : Senses) → length (entries_of s' D) ≤ m → Knowing s i ds n ws → Knowing s' i ds m ws
    knowing_amended ds n m ws few k = record {
      making = making_amended ds k.others k.making;
      unclosed = subst (λ (c : Mark). c.dicts ≤ i) (sym amended.closed) k.unclosed;
      others = k.others;
      small = few;
      no_kind = named_amended ds (codes "kind") k.others k.making.there ∙ k.no_kind;
      no_tag = named_amended ds (codes "tag") k.others k.making.there ∙ k.no_tag;
      have = senses_amended ds k.others k.making.there ws k.have;
    }
