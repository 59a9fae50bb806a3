-- A new dictionary is made of operands.
use Rattle.std.proofs.Common.{◌≡◌, ℕ, pos, ◌+◌, ◌<◌, ◌≤◌, Bool, true, false, int_le, if◌then◌else◌, Some, Result, Ok, Err, List, [], ◌∷◌, ◌++◌, length, codes, refl, sym, ap, ◌∙◌, arith, le-leb}
use Rattle.ps_store.specs.declared.object.Part.{Part}
use Rattle.ps_store.specs.declared.object.PsObj.{PsObj}
use Rattle.ps_store.specs.declared.object.PsObj.TheVariants.{Int, Name, Dict, Op}
use Rattle.ps_store.specs.declared.object.DictId.{DictId}
use Rattle.ps_store.specs.declared.object.StringId.{StringId}
use Rattle.ps_store.specs.declared.object.Pair.{Pair}
use Rattle.ps_store.specs.declared.key.Key.{Key}
use Rattle.ps_store.specs.declared.fault.StoreFault.TheVariants.{Limit}
use Rattle.ps_store.specs.Operators.{operator_number}
use Rattle.ps_store.specs.StoreState.{StoreState}
use Rattle.ps_store.specs.Store.{Given, held, with_held, elements_of, has_room, making_dict}
use Rattle.ps_step.specs.declared.fault.PsError.{PsError}
use Rattle.ps_step.specs.declared.item.Item.{Item}
use Rattle.ps_step.specs.declared.item.Item.TheVariants.{Procedure}
use Rattle.ps_step.specs.declared.machine.PsCore.{PsCore}
use Rattle.ps_step.specs.Results.{◌>>=◌, stored, at}
use Rattle.ps_step.specs.Values.{count_of}
use Rattle.ps_step.specs.Keys.{named}
use Rattle.ps_step.specs.Executing.{alone, numbered}
use Rattle.ps_run.specs.Step.{Next, settled, going_on, step}
use Rattle.ps_text.specs.Grown.{IsString}
use Rattle.ps_text.specs.Code.{Code, Stop, Num, Word}
use Rattle.ps_terms.specs.Machine.{Obj, Key as KeyVal, Dup, Roll, Acts, Words, state, entered}
use Rattle.ps_terms.specs.Stands.{Are, none, more, Frames, bottom, frame, core, Knows}
use Rattle.ps_terms.specs.Printing.{further}
use Rattle.ps_terms.proofs.Steps.{Room}
use Rattle.ps_terms.proofs.Sound.{step_is, then_is, name_acts}
use Rattle.ps_tables.specs.Taken.{Takes}
use Rattle.ps_tables.specs.Dictionaries.{Fields, updated, filled, AreFields, none as no_fields, with_dict, next_dict}
use Rattle.ps_tables.specs.Making.{taking, making, taking_steps, IsMaking, Fits, AreShort, Makes}
use Rattle.ps_tables.proofs.Kept.{made_same, changed_same, same_back, kept_string, kept_frames, named_kept}
use Rattle.ps_tables.proofs.Going.{takes_then, takes_one, known, Went, goes}
use Rattle.ps_tables.proofs.Putting.{put_at, put_made, put_length, fields_at}

pub count_is : (n : ℕ) → count_of (Int (pos n)) ≡ Ok n
count_is n = let some : int_le (pos 0) (pos n) ≡ true = le-leb 0 n (omega arith) in rw some refl

-- ---- operators

pub dup_number : operator_number (codes "dup") ≡ Some 1
unfolding operator_number
dup_number = refl

roll_number : operator_number (codes "roll") ≡ Some 5
unfolding operator_number
roll_number = refl

put_number : operator_number (codes "put") ≡ Some 33
unfolding operator_number
put_number = refl

dict_number : operator_number (codes "dict") ≡ Some 14
unfolding operator_number
dict_number = refl

-- the operators that move operands
abbrev moves : Words
moves = (codes "dup", Acts Dup) ∷ (codes "roll", Acts Roll) ∷ []

module _ (s : StoreState) (ds : List DictId) (is : IsMaking s ds) where
  abbrev D : DictId
  D = next_dict s

  pub means : (es : List (Key × Pair)) (name : List ℕ) (n : ℕ) → operator_number name ≡ Some n → named (with_dict s es) ds name ≡ Some (Op n)
  means es name n e = named_kept s es ds name is.there ∙ is.operators name n e

  knows : (es : List (Key × Pair)) → Knows (with_dict s es) ds moves
  knows es = known (with_dict s es) ds moves (means es (codes "dup") 1 dup_number, (means es (codes "roll") 5 roll_number, tt))

  -- ---- one name

  -- where the value below the dictionary is put
  record Put (es : List (Key × Pair)) (key : List ℕ) (rest : Code) (v : PsObj) (o : List PsObj) (under items : List Item) : Type 0 where
    pub name : StringId
    pub left : List Item
    pub is_key : IsString s name key
    pub frames : Frames (with_dict s (put_at es key name v)) under left (entered rest [])
    pub takes : Takes 6 (core (with_dict s es) ds (Dict D ∷ v ∷ o) items) (core (with_dict s (put_at es key name v)) ds (Dict D ∷ o) left)

  module _ (es : List (Key × Pair)) (key : List ℕ) (rest : Code) (v : PsObj) (o : List PsObj) (under : List Item) (short : length key ≤ 127) (few : length es < 1000000)
      (room : s.table.units + s.command.units + (2 + length es) ≤ 8000000) (own : Room o under) where
    abbrev S : StoreState
    S = with_dict s es

    -- the state behind `put`
    pub record Placed (xs : List PsObj) (before : List Item) : Type 0 where
      pub name : StringId
      pub left : List Item
      pub is_key : IsString s name key
      pub frames : Frames (with_dict s (put_at es key name v)) under left (entered rest [])
      pub steps : step (core S ds (xs ++ o) before) ≡ Next (core (with_dict s (put_at es key name v)) ds (Dict D ∷ o) left)

    same_operands : (x y z z' b : PsObj) → x ≡ v → y ≡ b → z ≡ Dict D → z' ≡ Dict D → x ∷ y ∷ z ∷ z' ∷ o ≡ v ∷ b ∷ Dict D ∷ Dict D ∷ o
    same_operands x y z z' b i j k l =
        ap (λ (q : PsObj). q ∷ y ∷ z ∷ z' ∷ o) i ∙ ap (λ (q : PsObj). v ∷ q ∷ z ∷ z' ∷ o) j ∙ ap (λ (q : PsObj). v ∷ b ∷ q ∷ z' ∷ o) k ∙ ap (λ (q : PsObj). v ∷ b ∷ Dict D ∷ q ∷ o) l

    pub placed : (xs : List PsObj) (before : List Item) → Are S xs (Obj v ∷ KeyVal key ∷ Obj (Dict D) ∷ Obj (Dict D) ∷ []) → Frames S under before (Word (codes "put") rest ∷ []) → Placed xs before
    placed _ _ (more x _ _ _ i (more y _ _ _ j (more z _ _ _ k (more z' _ _ _ l none)))) (frame a n items _ _ has sp below) =
        let left : List Item = going_on (n + 1) (length (elements_of S a)) (Procedure a (n + 1)) items in
        let t : StringId = j.0 in
        let c : PsCore = core S ds (v ∷ Name t false ∷ Dict D ∷ Dict D ∷ o) left in
        let S' : StoreState = with_dict s (put_at es key t v) in
        record {
          name = t;
          left = left;
          is_key = kept_string S s (same_back s S (made_same s es)) t key j.2;
          frames = kept_frames S S' (changed_same s es (put_at es key t v)) under left (entered rest []) (then_is S under a n items (Name sp.0 true) sp.1 [] sp.2 has below rest sp.4);
          steps = step_is S under a n items (Name sp.0 true) sp.1 [] sp.2 has below S refl ds (x ∷ y ∷ z ∷ z' ∷ o)
              ∙ ap settled (name_acts S ds (x ∷ y ∷ z ∷ z' ∷ o) left sp.0 (codes "put") (Op 33) sp.3.bytes (means es (codes "put") 33 put_number))
              ∙ ap (λ (ops : List PsObj). settled (numbered 33 (core S ds ops left))) (same_operands x y z z' (Name t false) i j.1 k l)
              ∙ ap (λ (r : Result StoreState PsError). settled (alone (at c (r >>= λ s'. Ok (core s' ds (Dict D ∷ o) left))))) (put_made s is.closed es key t v few room short j.2.bytes);
        }

    put : (items : List Item) → Frames S under items (taking (key ∷ []) rest ∷ []) → Put es key rest v o under items
    put items frames =
        let w : Went S ds moves (knows es) o under own 5 (Dict D ∷ v ∷ []) items (state (Word (codes "put") rest ∷ []) (Obj v ∷ KeyVal key ∷ Obj (Dict D) ∷ Obj (Dict D) ∷ [])) =
        goes S ds moves (knows es) o under own 5 (state (taking (key ∷ []) rest ∷ []) (Obj (Dict D) ∷ Obj v ∷ []))
        (state (Word (codes "put") rest ∷ []) (Obj v ∷ KeyVal key ∷ Obj (Dict D) ∷ Obj (Dict D) ∷ [])) refl (Dict D ∷ v ∷ []) items
        (more (Dict D) (Obj (Dict D)) (v ∷ []) (Obj v ∷ []) refl (more v (Obj v) [] [] refl none)) frames in
        let p : Placed w.operands w.left = placed w.operands w.left w.are w.frames in
        record {
          name = p.name;
          left = p.left;
          is_key = p.is_key;
          frames = p.frames;
          takes = takes_then 5 1 (core S ds (Dict D ∷ v ∷ o) items) (core S ds (w.operands ++ o) w.left) (core (with_dict s (put_at es key p.name v)) ds (Dict D ∷ o) p.left) w.takes
              (takes_one (core S ds (w.operands ++ o) w.left) (core (with_dict s (put_at es key p.name v)) ds (Dict D ∷ o) p.left) p.steps);
        }

  -- ---- all names

  pub record Fills (es : List (Key × Pair)) (fs : Fields) (keys : List (List ℕ)) (vs : List PsObj) (rest : Code) (o : List PsObj) (under items : List Item) : Type 0 where
    pub entries : List (Key × Pair)
    pub left : List Item
    pub are : AreFields s entries (filled fs keys vs)
    pub frames : Frames (with_dict s entries) under left (entered rest [])
    pub takes : Takes (taking_steps keys 0) (core (with_dict s es) ds (Dict D ∷ (vs ++ o)) items) (core (with_dict s entries) ds (Dict D ∷ o) left)

  pub fills : (keys : List (List ℕ)) (vs : List PsObj) (es : List (Key × Pair)) (fs : Fields) (rest : Code) (o : List PsObj) (under items : List Item) → AreShort keys → length vs ≡ length keys
      → length es + length keys < 1000000 → s.table.units + s.command.units + (1 + (length es + length keys)) ≤ 8000000 → length (vs ++ o) + 101 ≤ 100000 → length under + 10 ≤ 1000
      → AreFields s es fs → Frames (with_dict s es) under items (entered (taking keys rest) []) → Fills es fs keys vs rest o under items
  fills [] [] es fs rest o under items short same few room operands left are frames = record { entries = es; left = items; are = are; frames = frames; takes = refl }
  fills [] (v ∷ vs) es fs rest o under items short same few room operands left are frames = absurd (omega arith)
  fills (key ∷ keys) [] es fs rest o under items short same few room operands left are frames = absurd (omega arith)
  fills (key ∷ keys) (v ∷ vs) es fs rest o under items short same few room operands left are frames =
      let own : Room (vs ++ o) under = record { operands = omega arith; items = left } in
      let p : Put es key (taking keys rest) v (vs ++ o) under items =
      put es key (taking keys rest) v (vs ++ o) under short.0 (omega arith) (omega arith) own items frames in
      let es' : List (Key × Pair) = put_at es key p.name v in
      let longer : length es' ≤ length es + 1 = put_length es key p.name v in
      let r : Fills es' (updated fs key v) keys vs rest o under p.left =
      fills keys vs es' (updated fs key v) rest o under p.left short.1 (omega arith) (omega arith) (omega arith) (omega arith) left (fields_at s es fs key p.name v p.is_key are) p.frames in
      record {
        entries = r.entries;
        left = r.left;
        are = r.are;
        frames = r.frames;
        takes = takes_then 6 (taking_steps keys 0) (core (with_dict s es) ds (Dict D ∷ v ∷ (vs ++ o)) items) (core (with_dict s es') ds (Dict D ∷ (vs ++ o)) p.left) (core (with_dict s r.entries) ds (Dict D ∷ o) r.left) p.takes r.takes;
      }

  -- ---- a new dictionary

  pub dict_made : s.table.units + s.command.units + 1 ≤ 8000000 → making_dict s ≡ Ok (D, with_dict s [])
  dict_made room =
      let fits : has_room s 1 ≡ true = le-leb _ _ room in
      ap (λ (p : Part). if has_room s 1
      then Ok (record { part = p; index = length (held s p).dicts }, with_held s p (record (held s p) { dicts = (held s p).dicts ++ [] ∷ []; units = (held s p).units + 1 })) else Err Limit) is.part
      ∙ ap (λ (b : Bool). if b then Ok (D, record s { table = record s.table { dicts = s.table.dicts ++ [] ∷ []; units = s.table.units + 1 } }) else Err Limit) fits
      ∙ ap (λ (p : Part). Ok (
        D,
        record {
          table = record s.table { dicts = s.table.dicts ++ [] ∷ []; units = s.table.units + 1 };
          command = s.command;
          part = p;
          closed = s.closed;
          base = s.base;
          top = s.top;
        },
      )) is.part

  module _ (size : ℕ) (rest : Code) (o : List PsObj) (under : List Item) (room : s.table.units + s.command.units + 1 ≤ 8000000) (own : Room o under) where
    record Begun (before : PsCore) : Type 0 where
      pub left : List Item
      pub frames : Frames (with_dict s []) under left (entered rest [])
      pub steps : step before ≡ Next (core (with_dict s []) ds (Dict D ∷ o) left)

    begun : (xs : List PsObj) (before : List Item) → Are s xs (Obj (Int (pos size)) ∷ []) → Frames s under before (Word (codes "dict") rest ∷ []) → Begun (core s ds (xs ++ o) before)
    begun _ _ (more x _ _ _ i none) (frame a n items _ _ has sp below) =
        let left : List Item = going_on (n + 1) (length (elements_of s a)) (Procedure a (n + 1)) items in
        let c : PsCore = core s ds (Int (pos size) ∷ o) left in
        record {
          left = left;
          frames = kept_frames s (with_dict s []) (made_same s []) under left (entered rest []) (then_is s under a n items (Name sp.0 true) sp.1 [] sp.2 has below rest sp.4);
          steps = step_is s under a n items (Name sp.0 true) sp.1 [] sp.2 has below s refl ds (x ∷ o)
              ∙ ap settled (name_acts s ds (x ∷ o) left sp.0 (codes "dict") (Op 14) sp.3.bytes (is.operators (codes "dict") 14 dict_number))
              ∙ ap (λ (q : PsObj). settled (numbered 14 (core s ds (q ∷ o) left))) i
              ∙ ap (λ (r : Result ℕ PsError). settled (alone (at c (r >>= λ k. stored (making_dict s) >>= λ given. Ok (core given.1 ds (Dict given.0 ∷ o) left))))) (count_is size)
              ∙ ap (λ (g : Given DictId). settled (alone (at c (stored g >>= λ given. Ok (core given.1 ds (Dict given.0 ∷ o) left))))) (dict_made room);
        }

    -- two steps
    pub record Starts (items : List Item) : Type 0 where
      pub left : List Item
      pub frames : Frames (with_dict s []) under left (entered rest [])
      pub takes : Takes 2 (core s ds o items) (core (with_dict s []) ds (Dict D ∷ o) left)

    pub starts : (items : List Item) → Frames s under items (Num (pos size) (Word (codes "dict") rest) ∷ []) → Starts items
    starts items frames =
        let all : Knows s ds moves = known s ds moves (is.operators (codes "dup") 1 dup_number, (is.operators (codes "roll") 5 roll_number, tt)) in
        let w : Went s ds moves all o under own 1 [] items (state (Word (codes "dict") rest ∷ []) (Obj (Int (pos size)) ∷ [])) =
        goes s ds moves all o under own 1 (state (Num (pos size) (Word (codes "dict") rest) ∷ []) []) (state (Word (codes "dict") rest ∷ []) (Obj (Int (pos size)) ∷ [])) refl [] items none frames in
        let b : Begun (core s ds (w.operands ++ o) w.left) = begun w.operands w.left w.are w.frames in
        record {
          left = b.left;
          frames = b.frames;
          takes = takes_then 1 1 (core s ds o items) (core s ds (w.operands ++ o) w.left) (core (with_dict s []) ds (Dict D ∷ o) b.left) w.takes
              (takes_one (core s ds (w.operands ++ o) w.left) (core (with_dict s []) ds (Dict D ∷ o) b.left) b.steps);
        }

-- nothing is left to be executed
pub to_end : (n : ℕ) (c : PsCore) (s : StoreState) (ds : List DictId) (xs : List PsObj) (under items : List Item) → Frames s under items [] → Takes n c (core s ds xs items) → Takes n c (core s ds xs under)
to_end n c s ds xs under _ bottom h = h

pub makes : (s : StoreState) (ds : List DictId) (room : ℕ) (keys : List (List ℕ)) (vs o : List PsObj) (items under : List Item) → IsMaking s ds → AreShort keys → length vs ≡ length keys → length keys ≤ 90
    → Fits (1 + length keys) s (vs ++ o) under → Frames s under items (making room keys ∷ []) → Makes (further 2 (taking_steps keys 0)) s ds (filled [] keys vs) (vs ++ o) items o under
makes s ds room keys vs o items under is short same few fits frames =
    let units = fits.units in
    let own : Room (vs ++ o) under = record { operands = fits.operands; items = fits.items } in
    let b : Starts s ds is room (taking keys Stop) (vs ++ o) under (omega arith) own items = starts s ds is room (taking keys Stop) (vs ++ o) under (omega arith) own items frames in
    let f : Fills s ds is [] [] keys vs Stop o under b.left =
    fills s ds is keys vs [] [] Stop o under b.left short same (omega arith) (omega arith) fits.operands fits.items no_fields b.frames in
    record {
      entries = f.entries;
      are = f.are;
      takes = takes_then 2 (taking_steps keys 0) (core s ds (vs ++ o) items) (core (with_dict s []) ds (Dict (next_dict s) ∷ (vs ++ o)) b.left) (core (with_dict s f.entries) ds (Dict (next_dict s) ∷ o) under)
          b.takes (to_end (taking_steps keys 0) (core (with_dict s []) ds (Dict (next_dict s) ∷ (vs ++ o)) b.left) (with_dict s f.entries) ds (Dict (next_dict s) ∷ o) under f.left f.frames f.takes);
    }
