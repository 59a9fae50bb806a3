-- Definitions, one behind the other.
use Rattle.std.proofs.Common.{◌≡◌, ℕ, suc, ◌+◌, ◌<◌, ◌≤◌, Bool, true, false, bytes_eq, Option, Some, None, List, [], ◌∷◌, ◌++◌, length, codes, refl, sym, ap, ◌∙◌, subst, arith}
use Rattle.std.specs.Cmp.Lexicographic.{bytes_decides}
use Rattle.ps_store.specs.declared.object.PsObj.{PsObj}
use Rattle.ps_store.specs.declared.object.PsObj.TheVariants.{Op}
use Rattle.ps_store.specs.declared.object.DictId.{DictId}
use Rattle.ps_store.specs.declared.object.StringId.{StringId}
use Rattle.ps_store.specs.declared.object.Mark.{Mark}
use Rattle.ps_store.specs.declared.object.Pair.{Pair}
use Rattle.ps_store.specs.declared.key.Key.{Key}
use Rattle.ps_store.specs.declared.key.Key.TheVariants.{Name as NameKey}
use Rattle.ps_store.specs.Entries.{value_at}
use Rattle.ps_store.specs.Operators.{operator_number}
use Rattle.ps_store.specs.StoreState.{StoreState}
use Rattle.ps_store.specs.Store.{entries_of}
use Rattle.ps_step.specs.declared.item.Item.{Item}
use Rattle.ps_step.specs.declared.item.Item.TheVariants.{Text as TextItem}
use Rattle.ps_step.specs.declared.machine.PsCore.{PsCore}
use Rattle.ps_step.specs.Keys.{named}
use Rattle.ps_text.specs.Code.{Code, Stop, Word, Lit, render}
use Rattle.ps_text.specs.Spells.{Fine, units}
use Rattle.ps_terms.specs.Stands.{core}
use Rattle.ps_terms.specs.Printing.{further}
use Rattle.ps_tables.specs.Taken.{Takes}
use Rattle.ps_tables.specs.Making.{IsMaking}
use Rattle.ps_tables.specs.Later.{Later, StandsAt}
use Rattle.ps_tables.specs.Pieces.{Piece, End, Field, code, cost, steps, left_by, Knows, HasRoom, Values, Bottom, after, Show}
use Rattle.ps_tables.specs.Defined.{in_table, Puts, Defines}
use Rattle.ps_tables.specs.Reached.{Owned, Reaches}
use Rattle.ps_tables.specs.Senses.{Sense, IsOf, Senses, HaveSenses, AreOther, Knowing}
use Rattle.ps_tables.proofs.Going.{takes_then}
use Rattle.ps_tables.proofs.Stores.{making_later, named_later}
use Rattle.ps_tables.proofs.Definitions.{defines}
use Rattle.ps_tables.proofs.Known.{named_none, found_puts, named_puts, named_above, named_new, there_puts, AreFree, is_of_defined, senses_defined, senses_later}

-- ---- what stays known

module _ (u : ℕ) (s s' : StoreState) (later : Later u s s') (index : ℕ) (ds : List DictId) where
  abbrev D : DictId
  D = in_table index

  pub knowing_later : (n : ℕ) (ws : Senses) → Knowing s index ds n ws → Knowing s' index ds n ws
  knowing_later n ws k = record {
    making = making_later u s s' later (D ∷ ds) k.making;
    unclosed = subst (λ (m : Mark). m.dicts ≤ index) (sym later.closed) k.unclosed;
    others = k.others;
    small = subst (λ (es : List (Key × Pair)). length es ≤ n) (sym (later.dicts D k.making.there.0).1) k.small;
    no_kind = named_later u s s' later (D ∷ ds) (codes "kind") k.making.there ∙ k.no_kind;
    no_tag = named_later u s s' later (D ∷ ds) (codes "tag") k.making.there ∙ k.no_tag;
    have = senses_later u s s' later (D ∷ ds) k.making.there ws k.have;
  }

module _ (s s' : StoreState) (index : ℕ) (ds : List DictId) (name : List ℕ) (v : PsObj) (puts : Puts s s' (in_table index) name v) where
  making_defined : (n : ℕ) (ws : Senses) → Knowing s index ds n ws → operator_number name ≡ None → IsMaking s' (in_table index ∷ ds)
  making_defined n ws k free = record {
    part = puts.part ∙ k.making.part;
    closed = closed_still (s'.closed.dicts) (ap (λ (m : Mark). m.dicts) puts.closed) k.unclosed (puts.there (in_table index) k.making.there.0);
    there = there_puts s s' (in_table index) name v puts (in_table index ∷ ds) k.making.there;
    operators = λ word number e. by word number e (bytes_eq word name) refl;
  }
    where
      closed_still : (j : ℕ) → j ≡ s.closed.dicts → s.closed.dicts ≤ index → index < length s'.table.dicts → j ≤ length s'.table.dicts
      closed_still j e h there = omega arith

      by : (word : List ℕ) (number : ℕ) → operator_number word ≡ Some number → (b : Bool) → bytes_eq word name ≡ b → named s' (in_table index ∷ ds) word ≡ Some (Op number)
      by word number e true h =
          let same : word ≡ name = (bytes_decides word name).0 h in
          let none : operator_number word ≡ None = ap operator_number same ∙ free in
          absurd (let f : Some number ≡ None = sym e ∙ none in cc)
      by word number e false h = named_above s s' (in_table index) name v puts ds word k.others h ∙ k.making.operators word number e

  pub knowing_defined : (n : ℕ) (ws : Senses) (sense : Sense) → Knowing s index ds n ws → operator_number name ≡ None → bytes_eq (codes "kind") name ≡ false → bytes_eq (codes "tag") name ≡ false → AreFree name ws
      → IsOf s v sense → Knowing s' index ds (n + 1) ((name, sense) ∷ ws)
  knowing_defined n ws sense k free kind tag words is =
      let no_kind : value_at (entries_of s (in_table index)) (NameKey (codes "kind")) ≡ None = (named_none s (in_table index ∷ ds) (codes "kind") k.no_kind).0 in
      let no_tag : value_at (entries_of s (in_table index)) (NameKey (codes "tag")) ≡ None = (named_none s (in_table index ∷ ds) (codes "tag") k.no_tag).0 in
      record {
        making = making_defined n ws k free;
        unclosed = subst (λ (m : Mark). m.dicts ≤ index) (sym puts.closed) k.unclosed;
        others = k.others;
        small = let a = puts.few in let b = k.small in omega arith;
        no_kind = named_above s s' (in_table index) name v puts ds (codes "kind") k.others kind ∙ k.no_kind;
        no_tag = named_above s s' (in_table index) name v puts ds (codes "tag") k.others tag ∙ k.no_tag;
        have = (
          (v, named_new s s' (in_table index) name v puts ds, is_of_defined s s' (in_table index) name v puts ds k.others no_kind no_tag v sense is),
          senses_defined s s' (in_table index) name v puts ds k.others no_kind no_tag ws words k.have,
        );
      }

-- ---- a definition

-- a name, its value, and the sense that it gets
pub record Definition : Type 0 where
  pub name : List ℕ
  pub value : Piece
  pub sense : Sense

abbrev pub defining : List Definition → Code → Code
defining [] k = k
defining (d ∷ ds) k = Lit d.name (code d.value (Word (codes "def") (defining ds k)))

abbrev pub defining_steps : List Definition → ℕ
defining_steps [] = 0
defining_steps (d ∷ ds) = further (further (steps (Field d.name d.value End)) 1) (defining_steps ds)

abbrev pub one_cost : Definition → ℕ
one_cost d = cost (Field d.name d.value End) + units (Word (codes "def") Stop) + 1

abbrev pub defining_cost : List Definition → ℕ
defining_cost [] = 0
defining_cost (d ∷ ds) = one_cost d + defining_cost ds

abbrev pub behind : List Definition → Senses → Senses
behind [] ws = ws
behind (d ∷ ds) ws = behind ds ((d.name, d.sense) ∷ ws)

-- It may be read, its words are known where the senses of others are, and its value is of its sense.
pub record IsSound (index : ℕ) (ds : List DictId) (d : Definition) (ws : Senses) : Type 0 where
  pub fine : Fine (Lit d.name Stop)
  pub one : left_by d.value ≡ 1
  pub room : HasRoom 1 d.value
  pub knows : (s : StoreState) (n : ℕ) → Knowing s index ds n ws → Knows s (in_table index ∷ ds) d.value
  pub operator : operator_number d.name ≡ None
  pub kind : bytes_eq (codes "kind") d.name ≡ false
  pub tag : bytes_eq (codes "tag") d.name ≡ false
  pub free : AreFree d.name ws
  pub is_of : (s : StoreState) (x : PsObj) → Show s (x ∷ []) (after d.value Bottom) → IsOf s x d.sense

abbrev pub AreSound : ℕ → List DictId → List Definition → Senses → Type 0
AreSound index ds [] ws = Unit {0}
AreSound index ds (d ∷ rest) ws = IsSound index ds d ws × AreSound index ds rest ((d.name, d.sense) ∷ ws)

-- ---- a run of definitions

pub owned_then : (u v : ℕ) (s s₁ s₂ : StoreState) → Owned u s s₁ → Owned v s₁ s₂ → Owned (u + v) s s₂
owned_then u v s s₁ s₂ a b =
    let counted₁ = a.counted in
    let counted₂ = b.counted in
    record { base = b.base ∙ a.base; command = b.command ∙ a.command; closed = b.closed ∙ a.closed; counted = omega arith }

pub owned_within : (u v : ℕ) (s s' : StoreState) → u ≤ v → Owned u s s' → Owned v s s'
owned_within u v s s' less a = let c = a.counted in record { base = a.base; command = a.command; closed = a.closed; counted = omega arith }

pub owned_later : (u : ℕ) (s s' : StoreState) (ds : List DictId) → IsMaking s ds → Later u s s' → Owned u s s'
owned_later u s s' ds is later = record { base = later.base; command = later.command is.part; closed = later.closed; counted = later.counted }

module _ (index : ℕ) (ds : List DictId) (t : StringId) (under : List Item) (items_fit : length under + 100 ≤ 1000) (post : List ℕ) where
  -- one definition whose value is of a sense
  pub defined_by : (name : List ℕ) (value : Piece) (sense : Sense) (k : Code) (n : ℕ) (ws : Senses) (s : StoreState) (at : ℕ) → Knowing s index ds n ws → n < 999999 → Fine (Lit name Stop) → left_by value ≡ 1 → HasRoom 1 value
      → Knows s (in_table index ∷ ds) value → operator_number name ≡ None → bytes_eq (codes "kind") name ≡ false → bytes_eq (codes "tag") name ≡ false → AreFree name ws
      → ((s' : StoreState) (x : PsObj) → Show s' (x ∷ []) (after value Bottom) → IsOf s' x sense)
      → s.table.units + s.command.units + (cost (Field name value End) + units (Word (codes "def") Stop) + 1) ≤ 8000000
      → StandsAt s t at (render (Lit name (code value (Word (codes "def") k))) ++ post)
      → Reaches index ds t under (further (steps (Field name value End)) 1) (cost (Field name value End) + units (Word (codes "def") Stop) + 1) (n + 1) ((name, sense) ∷ ws) s at (render k ++ post)
  defined_by name value sense k n ws s at knowing few fine one room knows operator kind tag free is_of units_fit here =
      let c : ℕ = cost (Field name value End) + units (Word (codes "def") Stop) in
      let small = knowing.small in
      let f : Defines c (further (steps (Field name value End)) 1) name (after value Bottom) s (in_table index) ds [] t at (render k ++ post) under =
      defines index ds t under items_fit post name value k s [] at knowing.making knowing.unclosed (omega arith) fine one knows room (omega arith) units_fit here in
      let before : Knowing f.made index ds n ws = knowing_later c s f.made f.later index ds n ws knowing in
      record {
        store = f.store;
        to = f.to;
        knowing = knowing_defined f.made f.store index ds name f.object f.puts n ws sense before operator kind tag free (is_of f.made f.object f.shows);
        owned = let a = f.later.counted in let b = f.puts.counted in
            record { base = f.puts.base ∙ f.later.base; command = f.puts.command ∙ f.later.command knowing.making.part; closed = f.puts.closed ∙ f.later.closed; counted = omega arith };
        stands = f.stands;
        takes = f.takes;
      }

  defined_one : (d : Definition) (k : Code) (n : ℕ) (ws : Senses) (s : StoreState) (at : ℕ) → IsSound index ds d ws → Knowing s index ds n ws → n < 999999 → s.table.units + s.command.units + one_cost d ≤ 8000000
      → StandsAt s t at (render (Lit d.name (code d.value (Word (codes "def") k))) ++ post)
      → Reaches index ds t under (further (steps (Field d.name d.value End)) 1) (one_cost d) (n + 1) ((d.name, d.sense) ∷ ws) s at (render k ++ post)
  defined_one d k n ws s at sound knowing few units_fit here =
      defined_by d.name d.value d.sense k n ws s at knowing few sound.fine sound.one sound.room (sound.knows s n knowing) sound.operator sound.kind sound.tag sound.free sound.is_of units_fit here

  pub defined_all : (defs : List Definition) (k : Code) (n : ℕ) (ws : Senses) (s : StoreState) (at : ℕ) → AreSound index ds defs ws → Knowing s index ds n ws → n + length defs < 999999
      → s.table.units + s.command.units + defining_cost defs ≤ 8000000 → StandsAt s t at (render (defining defs k) ++ post)
      → Reaches index ds t under (defining_steps defs) (defining_cost defs) (n + length defs) (behind defs ws) s at (render k ++ post)
  defined_all [] k n ws s at sound knowing few units_fit here = record {
    store = s;
    to = at;
    knowing = subst (λ (m : ℕ). Knowing s index ds m ws) (omega arith) knowing;
    owned = record { base = refl; command = refl; closed = refl; counted = omega arith };
    stands = here;
    takes = refl;
  }
  defined_all (d ∷ defs) k n ws s at sound knowing few units_fit here =
      let all : List DictId = in_table index ∷ ds in
      let f : Reaches index ds t under (further (steps (Field d.name d.value End)) 1) (one_cost d) (n + 1) ((d.name, d.sense) ∷ ws) s at (render (defining defs k) ++ post) =
      defined_one d (defining defs k) n ws s at sound.0 knowing (omega arith) (omega arith) here in
      let counted = f.owned.counted in
      let r : Reaches index ds t under (defining_steps defs) (defining_cost defs) (n + 1 + length defs) (behind defs ((d.name, d.sense) ∷ ws)) f.store f.to (render k ++ post) =
      defined_all defs k (n + 1) ((d.name, d.sense) ∷ ws) f.store f.to sound.1 f.knowing (omega arith) (omega arith) f.stands in
      record {
        store = r.store;
        to = r.to;
        knowing = subst (λ (m : ℕ). Knowing r.store index ds m (behind defs ((d.name, d.sense) ∷ ws))) (omega arith) r.knowing;
        owned = owned_then (one_cost d) (defining_cost defs) s f.store r.store f.owned r.owned;
        stands = r.stands;
        takes = takes_then (further (steps (Field d.name d.value End)) 1) (defining_steps defs) (core s all [] (TextItem t at ∷ under)) (core f.store all [] (TextItem t f.to ∷ under)) (core r.store all [] (TextItem t r.to ∷ under)) f.takes r.takes;
      }
