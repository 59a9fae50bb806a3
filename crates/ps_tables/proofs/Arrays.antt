-- A type of arrays is made of the type of their items.
use Rattle.std.proofs.Common.{◌≡◌, ℕ, ℤ, pos, suc, ◌+◌, ◌-◌, ◌<◌, ◌≤◌, Bool, true, false, nat_lt, if◌then◌else◌, Option, Some, None, Result, Ok, Err, List, [], ◌∷◌, ◌++◌, length, codes, refl, sym, ap, ◌∙◌, arith, lt-ltb, le-ltb}
use Rattle.ps_store.specs.declared.object.PsObj.{PsObj}
use Rattle.ps_store.specs.declared.object.PsObj.TheVariants.{Int, Name, Dict, Op}
use Rattle.ps_store.specs.declared.object.DictId.{DictId}
use Rattle.ps_store.specs.declared.object.StringId.{StringId}
use Rattle.ps_store.specs.declared.key.Key.TheVariants.{Name as NameKey}
use Rattle.ps_store.specs.Entries.{value_at}
use Rattle.ps_store.specs.Operators.{operator_number}
use Rattle.ps_store.specs.StoreState.{StoreState}
use Rattle.ps_store.specs.Store.{entries_of, elements_of}
use Rattle.ps_step.specs.declared.fault.PsError.{PsError}
use Rattle.ps_step.specs.declared.fault.PsError.TheVariants.{StackOverflow, StackUnderflow}
use Rattle.ps_step.specs.declared.item.Item.{Item}
use Rattle.ps_step.specs.declared.item.Item.TheVariants.{Procedure}
use Rattle.ps_step.specs.declared.machine.PsCore.{PsCore}
use Rattle.ps_step.specs.Arithmetic.{product}
use Rattle.ps_step.specs.Keys.{named, text_key, under as under_key}
use Rattle.ps_step.specs.Results.{◌>>=◌, at}
use Rattle.ps_step.specs.Executing.{alone, numbered}
use Rattle.ps_run.specs.Step.{Next, settled, going_on, step}
use Rattle.ps_text.specs.Code.{Code, Stop, Num, Word, Lit}
use Rattle.ps_text.specs.Grown.{IsString}
use Rattle.ps_terms.specs.Machine.{Val, Obj, Key as KeyVal, Exch, Acts, Words, state, entered}
use Rattle.ps_terms.specs.Stands.{Are, none, more, Frames, frame, core, Knows}
use Rattle.ps_terms.specs.Printing.{further}
use Rattle.ps_terms.proofs.Steps.{Room}
use Rattle.ps_terms.proofs.Sound.{step_is, then_is, name_acts, push_next}
use Rattle.ps_tables.specs.Taken.{Takes}
use Rattle.ps_tables.specs.Dictionaries.{Fields, filled, joined, with_dict, next_dict}
use Rattle.ps_tables.specs.Making.{begun_as, array_making, taking_steps, IsMaking, Fits, AreShort, HasFields, Makes}
use Rattle.ps_tables.proofs.Going.{takes_then, takes_one, known, Went, goes}
use Rattle.ps_tables.proofs.Copies.{begins_as}

exch_number : operator_number (codes "exch") ≡ Some 0
unfolding operator_number
exch_number = refl

copy_number : operator_number (codes "copy") ≡ Some 3
unfolding operator_number
copy_number = refl

get_number : operator_number (codes "get") ≡ Some 32
unfolding operator_number
get_number = refl

mul_number : operator_number (codes "mul") ≡ Some 43
unfolding operator_number
mul_number = refl

abbrev exchanges : Words
exchanges = (codes "exch", Acts Exch) ∷ []

module _ (s : StoreState) (ds : List DictId) (is : IsMaking s ds) (under : List Item) where
  -- an operator in a procedure
  record Acts' (n : ℕ) (rest : Code) (items : List Item) : Type 0 where
    pub left : List Item
    pub frames : Frames s under left (entered rest [])
    pub steps : (xs : List PsObj) → step (core s ds xs items) ≡ settled (numbered n (core s ds xs left))

  acts : (word : List ℕ) (n : ℕ) (rest : Code) (items : List Item) → operator_number word ≡ Some n → Frames s under items (Word word rest ∷ []) → Acts' n rest items
  acts word n rest _ number (frame a i items _ _ has sp below) =
      let left : List Item = going_on (i + 1) (length (elements_of s a)) (Procedure a (i + 1)) items in
      record {
        left = left;
        frames = then_is s under a i items (Name sp.0 true) sp.1 [] sp.2 has below rest sp.4;
        steps = λ xs. step_is s under a i items (Name sp.0 true) sp.1 [] sp.2 has below s refl ds xs ∙ ap settled (name_acts s ds xs left sp.0 word (Op n) sp.3.bytes (is.operators word n number));
      }

  -- the two topmost operands again
  twice : (c x : PsObj) (o : List PsObj) (left : List Item) → length o + 110 ≤ 100000
      → settled (numbered 3 (core s ds (Int (pos 2) ∷ c ∷ x ∷ o) left)) ≡ Next (core s ds (c ∷ x ∷ c ∷ x ∷ o) left)
  twice c x o left room =
      let all : PsCore = core s ds (Int (pos 2) ∷ c ∷ x ∷ o) left in
      let some : nat_lt 2 (suc (suc (suc (length o)))) ≡ true = lt-ltb _ _ (omega arith) in
      let fits : nat_lt 100000 (suc (suc (suc (length o))) - 1 + 2) ≡ false = le-ltb _ _ (omega arith) in
      ap (λ (b : Bool). settled (alone (at all (if b then (if nat_lt 100000 (suc (suc (suc (length o))) - 1 + 2) then Err StackOverflow else Ok (core s ds (c ∷ x ∷ c ∷ x ∷ o) left)) else Err StackUnderflow)))) some
      ∙ ap (λ (b : Bool). settled (alone (at all (if b then Err StackOverflow else Ok (core s ds (c ∷ x ∷ c ∷ x ∷ o) left))))) fits

  module _ (count size total : ℤ) (t : DictId) (found : value_at (entries_of s t) (NameKey (codes "size")) ≡ Some (Int size)) (times : product count size ≡ Ok total)
      (o : List PsObj) (room : length o + 110 ≤ 100000) where
    -- the size of the type
    sized : (name : PsObj) (text : StringId) (left : List Item) → name ≡ Name text false → IsString s text (codes "size")
        → settled (numbered 32 (core s ds (name ∷ Dict t ∷ Int count ∷ Int count ∷ Dict t ∷ o) left)) ≡ Next (core s ds (Int size ∷ Int count ∷ Int count ∷ Dict t ∷ o) left)
    sized name text left same is_size =
        let rest : List PsObj = Int count ∷ Int count ∷ Dict t ∷ o in
        let c : PsCore = core s ds (Name text false ∷ Dict t ∷ rest) left in
        ap (λ (x : PsObj). settled (numbered 32 (core s ds (x ∷ Dict t ∷ rest) left))) same
        ∙ ap (λ (l : List ℕ). settled (alone (at c (((text_key l >>= λ key. Ok (value_at (entries_of s t) key)) >>= λ v. under_key v) >>= λ y. Ok (core s ds (y ∷ rest) left))))) is_size.bytes
        ∙ ap (λ (v : Option PsObj). settled (alone (at c (under_key v >>= λ y. Ok (core s ds (y ∷ rest) left))))) found

    -- times the count
    multiplied : (left : List Item) → settled (numbered 43 (core s ds (Int size ∷ Int count ∷ Int count ∷ Dict t ∷ o) left)) ≡ Next (core s ds (Int total ∷ Int count ∷ Dict t ∷ o) left)
    multiplied left =
        let c : PsCore = core s ds (Int size ∷ Int count ∷ Int count ∷ Dict t ∷ o) left in
        ap (λ (r : Result ℤ PsError). settled (alone (at c ((r >>= λ n. Ok (Int n)) >>= λ y. Ok (core s ds (y ∷ Int count ∷ Dict t ∷ o) left))))) times

    -- the six steps in front
    record Fronts (rest : Code) (items : List Item) : Type 0 where
      pub left : List Item
      pub frames : Frames s under left (entered rest [])
      pub takes : Takes 6 (core s ds (Int count ∷ Dict t ∷ o) items) (core s ds (Int total ∷ Int count ∷ Dict t ∷ o) left)

    abbrev last : Code → Code
    last rest = Word (codes "get") (Word (codes "mul") rest)

    -- from the name on
    ends : (rest : Code) (c₀ : PsCore) (xs : List PsObj) (items : List Item) → Are s xs (KeyVal (codes "size") ∷ Obj (Dict t) ∷ Obj (Int count) ∷ Obj (Int count) ∷ Obj (Dict t) ∷ []) → Frames s under items (last rest ∷ [])
        → Takes 4 c₀ (core s ds (xs ++ o) items) → (left : List Item) × Frames s under left (entered rest []) × Takes 6 c₀ (core s ds (Int total ∷ Int count ∷ Dict t ∷ o) left)
    ends rest c₀ _ items (more x _ _ _ h (more y _ _ _ i (more z _ _ _ j (more z' _ _ _ k (more w _ _ _ l none))))) frames takes =
        let a : Acts' 32 (Word (codes "mul") rest) items = acts (codes "get") 32 (Word (codes "mul") rest) items get_number frames in
        let b : Acts' 43 rest a.left = acts (codes "mul") 43 rest a.left mul_number a.frames in
        let c₁ : PsCore = core s ds (x ∷ y ∷ z ∷ z' ∷ w ∷ o) items in
        let c₂ : PsCore = core s ds (Int size ∷ Int count ∷ Int count ∷ Dict t ∷ o) a.left in
        let c₃ : PsCore = core s ds (Int total ∷ Int count ∷ Dict t ∷ o) b.left in
        let same : x ∷ y ∷ z ∷ z' ∷ w ∷ o ≡ x ∷ Dict t ∷ Int count ∷ Int count ∷ Dict t ∷ o =
        ap (λ (q : PsObj). x ∷ q ∷ z ∷ z' ∷ w ∷ o) i ∙ ap (λ (q : PsObj). x ∷ Dict t ∷ q ∷ z' ∷ w ∷ o) j ∙ ap (λ (q : PsObj). x ∷ Dict t ∷ Int count ∷ q ∷ w ∷ o) k
        ∙ ap (λ (q : PsObj). x ∷ Dict t ∷ Int count ∷ Int count ∷ q ∷ o) l in
        let one : step c₁ ≡ Next c₂ =
        a.steps (x ∷ y ∷ z ∷ z' ∷ w ∷ o) ∙ ap (λ (ops : List PsObj). settled (numbered 32 (core s ds ops a.left))) same ∙ sized x h.0 a.left h.1 h.2 in
        let two : step c₂ ≡ Next c₃ = b.steps (Int size ∷ Int count ∷ Int count ∷ Dict t ∷ o) ∙ multiplied b.left in
        (b.left, b.frames, takes_then 4 2 c₀ c₁ c₃ takes (takes_then 1 1 c₁ c₂ c₃ (takes_one c₁ c₂ one) (takes_one c₂ c₃ two)))

    copied : (rest : Code) (c₀ : PsCore) (xs : List PsObj) (items : List Item) → Are s xs (Obj (Int (pos 2)) ∷ Obj (Int count) ∷ Obj (Dict t) ∷ []) → Frames s under items (Word (codes "copy") rest ∷ [])
        → Takes 1 c₀ (core s ds (xs ++ o) items) → (left : List Item) × Frames s under left (entered rest []) × Takes 2 c₀ (core s ds (Int count ∷ Dict t ∷ Int count ∷ Dict t ∷ o) left)
    copied rest c₀ _ items (more x _ _ _ i (more y _ _ _ j (more z _ _ _ k none))) frames takes =
        let a : Acts' 3 rest items = acts (codes "copy") 3 rest items copy_number frames in
        let c₁ : PsCore = core s ds (x ∷ y ∷ z ∷ o) items in
        let c₂ : PsCore = core s ds (Int count ∷ Dict t ∷ Int count ∷ Dict t ∷ o) a.left in
        let same : x ∷ y ∷ z ∷ o ≡ Int (pos 2) ∷ Int count ∷ Dict t ∷ o =
        ap (λ (q : PsObj). q ∷ y ∷ z ∷ o) i ∙ ap (λ (q : PsObj). Int (pos 2) ∷ q ∷ z ∷ o) j ∙ ap (λ (q : PsObj). Int (pos 2) ∷ Int count ∷ q ∷ o) k in
        let one : step c₁ ≡ Next c₂ = a.steps (x ∷ y ∷ z ∷ o) ∙ ap (λ (ops : List PsObj). settled (numbered 3 (core s ds ops a.left))) same ∙ twice (Int count) (Dict t) o a.left room in
        (a.left, a.frames, takes_then 1 1 c₀ c₁ c₂ takes (takes_one c₁ c₂ one))

    fronts : (rest : Code) (items : List Item) → length under + 10 ≤ 1000 → Frames s under items (array_making rest ∷ []) → Fronts rest items
    fronts rest items nested frames =
        let own : Room o under = record { operands = omega arith; items = nested } in
        let knows : Knows s ds exchanges = known s ds exchanges (is.operators (codes "exch") 0 exch_number, tt) in
        let from : List PsObj = Int count ∷ Dict t ∷ [] in
        let c₀ : PsCore = core s ds (Int count ∷ Dict t ∷ o) items in
        let second : Code = Word (codes "exch") (Lit (codes "size") (last rest)) in
        let w : Went s ds exchanges knows o under own 1 from items (state (Word (codes "copy") second ∷ []) (Obj (Int (pos 2)) ∷ Obj (Int count) ∷ Obj (Dict t) ∷ [])) =
        goes s ds exchanges knows o under own 1 (state (array_making rest ∷ []) (Obj (Int count) ∷ Obj (Dict t) ∷ []))
        (state (Word (codes "copy") second ∷ []) (Obj (Int (pos 2)) ∷ Obj (Int count) ∷ Obj (Dict t) ∷ [])) refl from items
        (more (Int count) (Obj (Int count)) (Dict t ∷ []) (Obj (Dict t) ∷ []) refl (more (Dict t) (Obj (Dict t)) [] [] refl none)) frames in
        let b : (left : List Item) × Frames s under left (entered second []) × Takes 2 c₀ (core s ds (Int count ∷ Dict t ∷ Int count ∷ Dict t ∷ o) left) =
        copied second c₀ w.operands w.left w.are w.frames w.takes in
        let again : List PsObj = Int count ∷ Dict t ∷ Int count ∷ Dict t ∷ [] in
        let named : List Val = KeyVal (codes "size") ∷ Obj (Dict t) ∷ Obj (Int count) ∷ Obj (Int count) ∷ Obj (Dict t) ∷ [] in
        let v : Went s ds exchanges knows o under own 2 again b.0 (state (last rest ∷ []) named) =
        goes s ds exchanges knows o under own 2 (state (second ∷ []) (Obj (Int count) ∷ Obj (Dict t) ∷ Obj (Int count) ∷ Obj (Dict t) ∷ [])) (state (last rest ∷ []) named) refl again b.0
        (more (Int count) (Obj (Int count)) (Dict t ∷ Int count ∷ Dict t ∷ []) (Obj (Dict t) ∷ Obj (Int count) ∷ Obj (Dict t) ∷ []) refl
        (more (Dict t) (Obj (Dict t)) (Int count ∷ Dict t ∷ []) (Obj (Int count) ∷ Obj (Dict t) ∷ []) refl
        (more (Int count) (Obj (Int count)) (Dict t ∷ []) (Obj (Dict t) ∷ []) refl (more (Dict t) (Obj (Dict t)) [] [] refl none)))) b.1 in
        let e : (left : List Item) × Frames s under left (entered rest []) × Takes 6 c₀ (core s ds (Int total ∷ Int count ∷ Dict t ∷ o) left) =
        ends rest c₀ v.operands v.left v.are v.frames
        (takes_then 2 2 c₀ (core s ds (Int count ∷ Dict t ∷ Int count ∷ Dict t ∷ o) b.0) (core s ds (v.operands ++ o) v.left) b.2 v.takes) in
        record { left = e.0; frames = e.1; takes = e.2 }

    -- the whole word
    pub array_made : (word : List ℕ) (dict : DictId) (fields : Fields) (items : List Item) → named s ds word ≡ Some (Dict dict) → HasFields s dict fields → length fields ≤ 80
        → s.table.units + s.command.units + (4 + length fields) ≤ 8000000 → length under + 10 ≤ 1000
        → Frames s under items (array_making (begun_as word 5 (codes "size" ∷ codes "count" ∷ codes "to" ∷ []) Stop) ∷ [])
        → Makes 28 s ds (filled (joined [] fields) (codes "size" ∷ codes "count" ∷ codes "to" ∷ []) (Int total ∷ Int count ∷ Dict t ∷ [])) (Int count ∷ Dict t ∷ o) items o under
    array_made word dict fields items means has few units nested frames =
        let keys : List (List ℕ) = codes "size" ∷ codes "count" ∷ codes "to" ∷ [] in
        let vs : List PsObj = Int total ∷ Int count ∷ Dict t ∷ [] in
        let f : Fronts (begun_as word 5 keys Stop) items = fronts (begun_as word 5 keys Stop) items nested frames in
        let m : Makes 22 s ds (filled (joined [] fields) keys vs) (vs ++ o) f.left o under =
        begins_as s ds is word 5 fields keys vs dict o f.left under means has (omega arith, (omega arith, (omega arith, tt))) refl (omega arith) (record { units = omega arith; operands = omega arith; items = nested }) f.frames in
        record {
          entries = m.entries;
          are = m.are;
          takes = takes_then 6 22 (core s ds (Int count ∷ Dict t ∷ o) items) (core s ds (vs ++ o) f.left) (core (with_dict s m.entries) ds (Dict (next_dict s) ∷ o) under) f.takes m.takes;
        }
