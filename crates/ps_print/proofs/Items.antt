-- Items one after another, and arrays.
use Rattle.std.proofs.Common.{◌≡◌, ℕ, ℤ, pos, zero, suc, ◌+◌, ◌<◌, ◌≤◌, ◌%◌, ◌^◌, Bool, true, false, Some, None, Result, List, [], ◌∷◌, ◌++◌, length, codes, refl, sym, ap, ◌∙◌, subst, arith, append_assoc, append-nil}
use Rattle.std.specs.Ordering.{int_eq}
use Rattle.std.specs.Cmp.{signed_Decides}
use Rattle.ps_store.specs.declared.object.PsObj.{PsObj}
use Rattle.ps_store.specs.declared.object.PsObj.TheVariants.{Int, Bool as Truth, Dict}
use Rattle.ps_store.specs.declared.object.ArrayId.{ArrayId}
use Rattle.ps_store.specs.declared.object.DictId.{DictId}
use Rattle.ps_store.specs.StoreState.{StoreState}
use Rattle.ps_step.specs.declared.fault.PsError.{PsError}
use Rattle.ps_step.specs.declared.item.Item.{Item}
use Rattle.ps_run.specs.Runs.{Operates}
use Rattle.ps_text.specs.Code.{n, w, t}
use Rattle.ps_terms.specs.Faring.{Aim}
use Rattle.ps_terms.specs.Machine.{Val, Obj, Key, Bytes, State, state, acted, result, go}
use Rattle.ps_terms.specs.Printing.{word, AllPrintable, Printing}
use Rattle.ps_terms.proofs.Steps.{Room}
use Rattle.ps_terms.specs.Printing.{further, HasKey}
use Rattle.ps_terms.proofs.Going.{Ends, goes_on, goes_through, goes_get}
use Rattle.ps_print.specs.Prelude.{items_next, items_sum, items_size, items_turn, items_drop, items_room, items_before, items_test, items_body, show_body}
use Rattle.ps_print.specs.Words.{words, Holds, RoomFor}
use Rattle.ps_print.specs.Items.{Thing, items_text, items_left, items_steps}
use Rattle.ps_print.proofs.Parts.{On, put_at, uadd_goes}
use Rattle.ps_print.proofs.Digits.{room_here}
use Rattle.ps_print.proofs.Ints.{sub_one, leaves}

pos_number : ℤ → ℕ
pos_number (pos n) = n
pos_number other = 0

pub none_left : int_eq (pos 0) (pos 0) ≡ true
none_left = (signed_Decides (pos 0) (pos 0)).1 refl

pub some_left : (k : ℕ) → int_eq (pos (suc k)) (pos 0) ≡ false
unfolding pos_number
some_left k = by_case (int_eq (pos (suc k)) (pos 0)) refl
  where
    by_case : (b : Bool) → int_eq (pos (suc k)) (pos 0) ≡ b → int_eq (pos (suc k)) (pos 0) ≡ false
    by_case false e = e
    by_case true e = let same : suc k ≡ 0 = ap pos_number ((signed_Decides (pos (suc k)) (pos 0)).0 e) in absurd (omega arith)

pub dots_printable : AllPrintable (codes "...")
dots_printable = (omega arith, omega arith, (omega arith, omega arith, (omega arith, omega arith, tt)))

pub comma_printable : AllPrintable (codes ", ")
comma_printable = (omega arith, omega arith, (omega arith, omega arith, tt))

module _ {D : Type 0} (Op : Operates D) (prints : Printing Op) (s : StoreState) (ds : List DictId) (digits : ArrayId) (holds : Holds s ds digits) (aim : Aim Op prints s ds)
    (k : ℕ) (d : D) (type : DictId) (space : List ℕ) (size : ℕ) where
  -- a run of `Show` at a place shows the thing, whatever was appended before
  abbrev pub Shows : ℕ → ℕ → Thing → Type 0
  Shows r place i = (t : List ℕ) (left : ℕ) (o : List PsObj) (under : List Item) → RoomFor k o under → r < 1000
      → Ends Op prints s ds aim left (prints.append d (t ++ i.text (suc r))) (Int (pos (i.room (suc r))) ∷ o) under
      → On Op prints s ds digits holds aim o under (i.steps (suc r) left) (prints.append d t) (state (show_body ∷ []) (Obj (Dict type) ∷ Obj (Int (word place)) ∷ Key space ∷ Obj (Int (pos (suc r))) ∷ []))

  abbrev pub after_item : ℕ → ℕ
  after_item place = (size + place) % 2 ^ 32

  -- so does one after another, as far as there is room
  abbrev pub EachShows : ℕ → ℕ → List Thing → Type 0
  EachShows room place [] = Unit {0}
  EachShows zero place (i ∷ is) = Unit {0}
  EachShows (suc r) place (i ∷ is) = Shows r place i × (i.room (suc r) ≤ suc r) × EachShows (i.room (suc r)) (after_item place) is

  pub unseen_shows : (place : ℕ) (is : List Thing) → EachShows 0 place is
  unseen_shows place [] = tt
  unseen_shows place (i ∷ is) = tt

  abbrev at_items : ℕ → List Thing → List ℕ → ℕ → State
  at_items place is before r = state (items_body ∷ []) (Obj (Dict type) ∷ Obj (Int (word place)) ∷ Key space ∷ Obj (Int (pos (length is))) ∷ Bytes before ∷ Obj (Int (pos r)) ∷ [])

  module _ (sized : HasKey s type (codes "size") (Obj (Int (word size)))) (small : size < 2 ^ 32) where
    module _ (o : List PsObj) (under : List Item) (room : RoomFor (5 + k) o under) where
      abbrev Here : ℕ → List ℕ → State → Type 0
      Here n t st = On Op prints s ds digits holds aim o under n (prints.append d t) st

      room' : Room o under
      room' = room_here Op prints s ds digits holds aim (5 + k) o under room

      abbrev own : ℕ → ℕ → List ℕ → ℕ → List Val
      own place count before r = Obj (Dict type) ∷ Obj (Int (word place)) ∷ Key space ∷ Obj (Int (pos count)) ∷ Bytes before ∷ Obj (Int (pos r)) ∷ []

      on : (m n₀ : ℕ) (t : List ℕ) (st st' : State) → go (words digits) m st ≡ Some st' → Here n₀ t st' → Here (further m n₀) t st
      on m n₀ t st st' e g = goes_on Op prints s ds (words digits) holds.knows aim o under room' m n₀ (prints.append d t) st st' e g

      -- none is left
      none_goes : (place : ℕ) (before : List ℕ) (r left : ℕ) (t : List ℕ) → Here left t (state [] (Obj (Int (pos r)) ∷ [])) → Here (further 12 left) t (at_items place [] before r)
      none_goes place before r left t g =
          on 4 (further 8 left) t (at_items place [] before r) (state (items_test ∷ []) (Obj (Truth (int_eq (pos 0) (pos 0))) ∷ own place 0 before r)) refl
          (subst (λ b. Here (further 8 left) t (state (items_test ∷ []) (Obj (Truth b) ∷ own place 0 before r))) (sym none_left)
          (on 8 left t (state (items_test ∷ []) (Obj (Truth true) ∷ own place 0 before r)) (state [] (Obj (Int (pos r)) ∷ [])) refl g))

      -- up to the test whether room is left
      some_goes : (place count : ℕ) (before : List ℕ) (r left : ℕ) (t : List ℕ) → AllPrintable before
          → Here left (t ++ before) (state (items_room ∷ []) (Obj (Truth (int_eq (pos r) (pos 0))) ∷ own place (suc count) before r))
          → Here (further 4 (further 5 (suc (further 4 left)))) t (state (items_body ∷ []) (own place (suc count) before r))
      some_goes place count before r left t printable g =
          on 4 (further 5 (suc (further 4 left))) t (state (items_body ∷ []) (own place (suc count) before r))
          (state (items_test ∷ []) (Obj (Truth (int_eq (pos (suc count)) (pos 0))) ∷ own place (suc count) before r)) refl
          (subst (λ b. Here (further 5 (suc (further 4 left))) t (state (items_test ∷ []) (Obj (Truth b) ∷ own place (suc count) before r))) (sym (some_left count))
          (on 5 (suc (further 4 left)) t (state (items_test ∷ []) (Obj (Truth false) ∷ own place (suc count) before r))
          (state (w "Put" items_before ∷ []) (Bytes before ∷ own place (suc count) before r)) refl
          (put_at Op prints s ds digits holds aim o under items_before [] before (own place (suc count) before r) (further 4 left) d t printable
          (on 4 left (t ++ before) (state (items_before ∷ []) (own place (suc count) before r))
          (state (items_room ∷ []) (Obj (Truth (int_eq (pos r) (pos 0))) ∷ own place (suc count) before r)) refl g))))

      -- no room is left
      cut_goes : (place count : ℕ) (before : List ℕ) (left : ℕ) (t : List ℕ)
          → Here left (t ++ codes "...") (state [] (Obj (Int (pos 0)) ∷ []))
          → Here (further 4 (suc (further 5 left))) t (state (items_room ∷ []) (Obj (Truth (int_eq (pos 0) (pos 0))) ∷ own place (suc count) before 0))
      cut_goes place count before left t g =
          subst (λ b. Here (further 4 (suc (further 5 left))) t (state (items_room ∷ []) (Obj (Truth b) ∷ own place (suc count) before 0))) (sym none_left)
          (on 4 (suc (further 5 left)) t (state (items_room ∷ []) (Obj (Truth true) ∷ own place (suc count) before 0))
          (state (w "Put" items_drop ∷ []) (Bytes (codes "...") ∷ own place (suc count) before 0)) refl
          (put_at Op prints s ds digits holds aim o under items_drop [] (codes "...") (own place (suc count) before 0) (further 5 left) d t dots_printable
          (on 5 left (t ++ codes "...") (state (items_drop ∷ []) (own place (suc count) before 0)) (state [] (Obj (Int (pos 0)) ∷ [])) refl g)))

      -- what stands below an item that is shown
      abbrev below : ℕ → ℕ → List ℕ → List Val
      below place count before = Obj (Dict type) ∷ Obj (Int (word place)) ∷ Key space ∷ Obj (Int (pos count)) ∷ Bytes before ∷ []

      -- behind an item: the next turn
      turn_goes : (place count : ℕ) (before : List ℕ) (r left : ℕ) (t : List ℕ) → place < 2 ^ 32 → count < 2 ^ 31
          → Here left t (state (items_body ∷ []) (own (after_item place) count (codes ", ") r))
          → Here (further 15 (suc (further 5 (suc (further 3 (suc (further 2 left))))))) t (state (items_turn ∷ []) (Obj (Int (pos r)) ∷ below place (suc count) before))
      turn_goes place count before r left t within few g =
          let vs : List Val = Obj (Dict type) ∷ Obj (Int (word place)) ∷ Key space ∷ Bytes (codes ", ") ∷ Obj (Int (pos r)) ∷ [] in
          let rest : List Val = Key space ∷ Obj (Int (pos count)) ∷ Bytes (codes ", ") ∷ Obj (Int (pos r)) ∷ [] in
          on 15 (suc (further 5 (suc (further 3 (suc (further 2 left)))))) t (state (items_turn ∷ []) (Obj (Int (pos r)) ∷ below place (suc count) before))
          (state (w "sub" items_size ∷ []) (Obj (Int (pos 1)) ∷ Obj (Int (pos (suc count))) ∷ vs)) refl
          (on 1 (further 5 (suc (further 3 (suc (further 2 left))))) t (state (w "sub" items_size ∷ []) (Obj (Int (pos 1)) ∷ Obj (Int (pos (suc count))) ∷ vs))
          (state (items_size ∷ []) (Obj (Int (pos count)) ∷ vs))
          (ap (λ (m : Result ℤ PsError). elim (acted items_size [] (result vs m)) [ None ↦ None | Some st ↦ Some st ]) (sub_one count few))
          (on 5 (suc (further 3 (suc (further 2 left)))) t (state (items_size ∷ []) (Obj (Int (pos count)) ∷ vs))
          (state (w "get" items_sum ∷ []) (Key (codes "size") ∷ Obj (Dict type) ∷ Obj (Dict type) ∷ Obj (Int (word place)) ∷ rest)) refl
          (goes_get Op prints s ds (words digits) holds.knows aim o under (codes "get") (codes "size") items_sum [] type (Obj (Int (word size))) (Obj (Dict type) ∷ Obj (Int (word place)) ∷ rest)
          (further 3 (suc (further 2 left))) (prints.append d t) holds.get sized
          (on 3 (suc (further 2 left)) t (state (items_sum ∷ []) (Obj (Int (word size)) ∷ Obj (Dict type) ∷ Obj (Int (word place)) ∷ rest))
          (state (w "uadd" items_next ∷ []) (Obj (Int (word place)) ∷ Obj (Int (word size)) ∷ Obj (Dict type) ∷ rest)) refl
          (uadd_goes Op prints s ds digits holds aim o under items_next [] size place (Obj (Dict type) ∷ rest) (further 2 left) (prints.append d t) small within
          (on 2 left t (state (items_next ∷ []) (Obj (Int (word (after_item place))) ∷ Obj (Dict type) ∷ rest))
          (state (items_body ∷ []) (own (after_item place) count (codes ", ") r)) refl g))))))

      -- an item is shown
      shown_goes : (i : Thing) (place count : ℕ) (before : List ℕ) (r left : ℕ) (t : List ℕ) → r < 1000 → Shows r place i
          → Here left (t ++ i.text (suc r)) (state (items_turn ∷ []) (Obj (Int (pos (i.room (suc r)))) ∷ below place (suc count) before))
          → Here (further 13 (i.steps (suc r) left)) t (state (items_room ∷ []) (Obj (Truth (int_eq (pos (suc r)) (pos 0))) ∷ own place (suc count) before (suc r)))
      shown_goes i place count before r left t within shows g =
          let vs : List Val = Obj (Dict type) ∷ Obj (Int (word place)) ∷ Key space ∷ Obj (Int (pos (suc r))) ∷ [] in
          subst (λ b. Here (further 13 (i.steps (suc r) left)) t (state (items_room ∷ []) (Obj (Truth b) ∷ own place (suc count) before (suc r)))) (sym (some_left r))
          (on 13 (i.steps (suc r) left) t (state (items_room ∷ []) (Obj (Truth false) ∷ own place (suc count) before (suc r)))
          (state (show_body ∷ items_turn ∷ []) (vs ++ below place (suc count) before)) refl
          (goes_through Op prints s ds (words digits) holds.knows aim o under show_body (items_turn ∷ []) vs (below place (suc count) before) (Int (pos (i.room (suc r)))) (i.steps (suc r) left) left
          (prints.append d t) (prints.append d (t ++ i.text (suc r)))
          (λ o' under' lo lu g'. shows t left o' under' (let a = room.operands in let b = room.items in record { operands = omega arith; items = omega arith }) within g') g))

    -- The run of `Items` appends the items' texts with their separators, up to the room that there is, and leaves the room that is left.
    pub items_run : (is : List Thing) (before : List ℕ) (place r left : ℕ) (t : List ℕ) (o : List PsObj) (under : List Item) → RoomFor (5 + k) o under → AllPrintable before
        → place < 2 ^ 32 → length is < 2 ^ 31 → r ≤ 1000 → EachShows r place is
        → Ends Op prints s ds aim left (prints.append d (t ++ items_text before is r)) (Int (pos (items_left is r)) ∷ o) under
        → On Op prints s ds digits holds aim o under (items_steps is r left) (prints.append d t) (at_items place is before r)
    items_run [] before place r left t o under room printable within few enough each g =
        none_goes o under room place before r left t
        (subst (λ t. On Op prints s ds digits holds aim o under left (prints.append d t) (state [] (Obj (Int (pos r)) ∷ []))) (append-nil t)
        (leaves Op prints s ds digits holds aim (Int (pos r)) left (prints.append d (t ++ [])) o under g))
    items_run (i ∷ is) before place zero left t o under room printable within few enough each g =
        some_goes o under room place (length is) before 0 (further 4 (suc (further 5 left))) t printable
        (cut_goes o under room place (length is) before left (t ++ before)
        (subst (λ t. On Op prints s ds digits holds aim o under left (prints.append d t) (state [] (Obj (Int (pos 0)) ∷ []))) (sym (append_assoc t before (codes "...")))
        (leaves Op prints s ds digits holds aim (Int (pos 0)) left (prints.append d (t ++ (before ++ codes "..."))) o under g)))
    items_run (i ∷ is) before place (suc r) left t o under room printable within few enough each g =
        let r' : ℕ = i.room (suc r) in
        let fewer : r' ≤ suc r = each.1 in
        let t' : List ℕ = (t ++ before) ++ i.text (suc r) in
        let whole : t ++ (before ++ i.text (suc r) ++ items_text (codes ", ") is r') ≡ t' ++ items_text (codes ", ") is r' =
        sym (append_assoc t (before ++ i.text (suc r)) (items_text (codes ", ") is r')) ∙ ap (λ x. x ++ items_text (codes ", ") is r') (sym (append_assoc t before (i.text (suc r)))) in
        some_goes o under room place (length is) before (suc r) (further 13 (i.steps (suc r) (further 15 (suc (further 5 (suc (further 3 (suc (further 2 (items_steps is r' left)))))))))) t printable
        (shown_goes o under room i place (length is) before r (further 15 (suc (further 5 (suc (further 3 (suc (further 2 (items_steps is r' left)))))))) (t ++ before) (omega arith) each.0
        (turn_goes o under room place (length is) before r' (items_steps is r' left) t' within (omega arith)
        (items_run is (codes ", ") (after_item place) r' left t' o under room comma_printable (omega arith) (omega arith) (omega arith) each.2
        (subst (λ x. Ends Op prints s ds aim left (prints.append d x) (Int (pos (items_left is r')) ∷ o) under) whole g))))
