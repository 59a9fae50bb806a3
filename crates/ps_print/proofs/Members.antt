-- Members of a struct one after another, and structs.
use Rattle.std.proofs.Common.{◌≡◌, ◌≢◌, ℕ, ℤ, pos, ◌+ℤ◌, zero, suc, ◌+◌, ◌<◌, ◌≤◌, ◌%◌, ◌^◌, Bool, true, false, nat_lt, Some, None, Result, Ok, List, [], ◌∷◌, ◌++◌, length, codes, refl, sym, ap, ◌∙◌, subst, arith, append_assoc, append-nil, lt-ltb}
use Rattle.std.proofs.lemmas.Int.{ints}
use Rattle.std.specs.Ordering.{int_eq}
use Rattle.std.specs.Cmp.{signed_Decides}
use Rattle.ps_store.specs.declared.object.PsObj.{PsObj}
use Rattle.ps_store.specs.declared.object.PsObj.TheVariants.{Int, Bool as Truth, Array, Dict}
use Rattle.ps_store.specs.declared.object.ArrayId.{ArrayId}
use Rattle.ps_store.specs.declared.object.DictId.{DictId}
use Rattle.ps_store.specs.StoreState.{StoreState}
use Rattle.ps_store.specs.Store.{elements_of}
use Rattle.ps_step.specs.declared.fault.PsError.{PsError}
use Rattle.ps_step.specs.declared.item.Item.{Item}
use Rattle.ps_step.specs.Arithmetic.{sum, in_range}
use Rattle.ps_run.specs.Runs.{Operates}
use Rattle.ps_text.specs.Grown.{HasArray}
use Rattle.ps_text.specs.Code.{Stop, w}
use Rattle.ps_terms.specs.Faring.{Aim}
use Rattle.ps_terms.specs.Machine.{Val, Obj, Key, Bytes, State, state, acted, result, go}
use Rattle.ps_terms.specs.Printing.{word, AllPrintable, Printing, further, HasKey}
use Rattle.ps_terms.proofs.Going.{Ends, goes_on, goes_through, goes_get}
use Rattle.ps_print.specs.Prelude.{items_drop, show_body, members_next, members_add, members_turn, members_show, members_type, members_place, members_sum, members_offset, members_member, members_get, members_room, members_before, members_choice, members_test, members_length, members_body, showstruct_close, showstruct_open, showstruct_members, showstruct_body}
use Rattle.ps_print.specs.Words.{words, Holds, RoomFor}
use Rattle.ps_print.specs.Items.{Thing, items_text, items_left, to_member, to_room, before_member, behind_member, members_steps}
use Rattle.ps_print.specs.Laid.{IsMember}
use Rattle.ps_print.specs.Things.{struct_steps, struct_thing}
use Rattle.ps_print.proofs.Parts.{On, put_at, uadd_goes, element_goes, length_goes}
use Rattle.ps_print.proofs.Digits.{room_here}
use Rattle.ps_print.proofs.Ints.{leaves}
use Rattle.ps_print.proofs.Items.{Shows, none_left, some_left, dots_printable, comma_printable}
use Rattle.ps_print.proofs.Scalars.{shows_by}

number_of : ℤ → ℕ
number_of (pos n) = n
number_of other = 0

same_number : (n : ℕ) → int_eq (pos n) (pos n) ≡ true
same_number n = (signed_Decides (pos n) (pos n)).1 refl

other_number : (m n : ℕ) → m ≢ n → int_eq (pos m) (pos n) ≡ false
unfolding number_of
other_number m n other = by_case (int_eq (pos m) (pos n)) refl
  where
    by_case : (b : Bool) → int_eq (pos m) (pos n) ≡ b → int_eq (pos m) (pos n) ≡ false
    by_case false e = e
    by_case true e = let same : m ≡ n = ap number_of ((signed_Decides (pos m) (pos n)).0 e) in absurd (other same)

more_one : (i : ℕ) → pos i +ℤ pos 1 ≡ pos (suc i)
more_one i = omega (arith, ints)

add_one : (i : ℕ) → suc i < 2 ^ 31 → sum (pos i) (pos 1) ≡ Ok (pos (suc i))
add_one i h =
    let fits : nat_lt (suc i) (2 ^ 31) ≡ true = lt-ltb _ _ h in
    ap in_range (more_one i) ∙ rw fits refl

module _ {D : Type 0} (Op : Operates D) (prints : Printing Op) (s : StoreState) (ds : List DictId) (digits : ArrayId) (holds : Holds s ds digits) (aim : Aim Op prints s ds)
    (k : ℕ) (d : D) (space : List ℕ) (a : ArrayId) (e : Bool) (count place : ℕ) where
  -- members from one on are shown, each at its offset, as far as there is room
  abbrev pub EachMember : ℕ → ℕ → List Thing → Type 0
  EachMember room i [] = Unit {0}
  EachMember zero i (thing ∷ is) = Unit {0}
  EachMember (suc r) i (thing ∷ is) =
      ((offset : ℕ) × (type : DictId) × IsMember s a i offset type × Shows Op prints s ds digits holds aim k d type space 0 r ((place + offset) % 2 ^ 32) thing)
      × (thing.room (suc r) ≤ suc r) × EachMember (thing.room (suc r)) (suc i) is

  pub unseen_member : (i : ℕ) (is : List Thing) → EachMember 0 i is
  unseen_member i [] = tt
  unseen_member i (thing ∷ is) = tt

  abbrev own : ℕ → List ℕ → ℕ → List Val
  own i before r = Obj (Int (word place)) ∷ Key space ∷ Obj (Int (pos i)) ∷ Obj (Array a e) ∷ Bytes before ∷ Obj (Int (pos r)) ∷ []

  -- what stands below a member that is shown
  abbrev below : ℕ → List ℕ → List Val
  below i before = Obj (Int (word place)) ∷ Key space ∷ Obj (Int (pos i)) ∷ Obj (Array a e) ∷ Bytes before ∷ []

  module _ (within : place < 2 ^ 32) (there : HasArray s a) (many : length (elements_of s a) ≡ count) (few : count < 2 ^ 31) where
    module _ (o : List PsObj) (under : List Item) (room : RoomFor (5 + k) o under) where
      abbrev Here : ℕ → List ℕ → State → Type 0
      Here m t st = On Op prints s ds digits holds aim o under m (prints.append d t) st

      on : (m n₀ : ℕ) (t : List ℕ) (st st' : State) → go (words digits) m st ≡ Some st' → Here n₀ t st' → Here (further m n₀) t st
      on m n₀ t st st' e g = goes_on Op prints s ds (words digits) holds.knows aim o under (room_here Op prints s ds digits holds aim (5 + k) o under room) m n₀ (prints.append d t) st st' e g

      -- up to the test whether a member is left
      choice_goes : (i : ℕ) (before : List ℕ) (r left : ℕ) (t : List ℕ) (b : Bool) → int_eq (pos i) (pos count) ≡ b
          → Here left t (state (members_choice ∷ []) (Obj (Truth b) ∷ own i before r)) → Here (to_member left) t (state (members_body ∷ []) (own i before r))
      choice_goes i before r left t b test g =
          on 4 (suc (further 1 left)) t (state (members_body ∷ []) (own i before r)) (state (members_length ∷ []) (Obj (Array a e) ∷ Obj (Int (pos i)) ∷ own i before r)) refl
          (length_goes Op prints s ds digits holds aim o under members_test [] a e count (Obj (Int (pos i)) ∷ own i before r) (further 1 left) (prints.append d t) there many few
          (on 1 left t (state (members_test ∷ []) (Obj (Int (pos count)) ∷ Obj (Int (pos i)) ∷ own i before r))
          (state (members_choice ∷ []) (Obj (Truth (int_eq (pos i) (pos count))) ∷ own i before r)) refl
          (subst (λ b. Here left t (state (members_choice ∷ []) (Obj (Truth b) ∷ own i before r))) (sym test) g)))

      -- no member is left
      none_goes : (i : ℕ) (before : List ℕ) (r left : ℕ) (t : List ℕ) → i ≡ count → Here left t (state [] (Obj (Int (pos r)) ∷ []))
          → Here (to_member (further 8 left)) t (state (members_body ∷ []) (own i before r))
      none_goes i before r left t same g =
          choice_goes i before r (further 8 left) t true (ap (λ c. int_eq (pos i) (pos c)) (sym same) ∙ same_number i)
          (on 8 left t (state (members_choice ∷ []) (Obj (Truth true) ∷ own i before r)) (state [] (Obj (Int (pos r)) ∷ [])) refl g)

      -- up to the test whether room is left
      some_goes : (i : ℕ) (before : List ℕ) (r left : ℕ) (t : List ℕ) → i ≢ count → AllPrintable before
          → Here left (t ++ before) (state (members_room ∷ []) (Obj (Truth (int_eq (pos r) (pos 0))) ∷ own i before r))
          → Here (to_room left) t (state (members_body ∷ []) (own i before r))
      some_goes i before r left t other printable g =
          choice_goes i before r (further 5 (suc (further 4 left))) t false (other_number i count other)
          (on 5 (suc (further 4 left)) t (state (members_choice ∷ []) (Obj (Truth false) ∷ own i before r)) (state (w "Put" members_before ∷ []) (Bytes before ∷ own i before r)) refl
          (put_at Op prints s ds digits holds aim o under members_before [] before (own i before r) (further 4 left) d t printable
          (on 4 left (t ++ before) (state (members_before ∷ []) (own i before r)) (state (members_room ∷ []) (Obj (Truth (int_eq (pos r) (pos 0))) ∷ own i before r)) refl g)))

      -- no room is left
      cut_goes : (i : ℕ) (before : List ℕ) (left : ℕ) (t : List ℕ) → Here left (t ++ codes "...") (state [] (Obj (Int (pos 0)) ∷ []))
          → Here (further 4 (suc (further 5 left))) t (state (members_room ∷ []) (Obj (Truth (int_eq (pos 0) (pos 0))) ∷ own i before 0))
      cut_goes i before left t g =
          subst (λ b. Here (further 4 (suc (further 5 left))) t (state (members_room ∷ []) (Obj (Truth b) ∷ own i before 0))) (sym none_left)
          (on 4 (suc (further 5 left)) t (state (members_room ∷ []) (Obj (Truth true) ∷ own i before 0)) (state (w "Put" items_drop ∷ []) (Bytes (codes "...") ∷ own i before 0)) refl
          (put_at Op prints s ds digits holds aim o under items_drop [] (codes "...") (own i before 0) (further 5 left) d t dots_printable
          (on 5 left (t ++ codes "...") (state (items_drop ∷ []) (own i before 0)) (state [] (Obj (Int (pos 0)) ∷ [])) refl g)))

      -- behind a member: the next turn
      turn_goes : (i : ℕ) (before : List ℕ) (r left : ℕ) (t : List ℕ) → suc i < 2 ^ 31 → Here left t (state (members_body ∷ []) (own (suc i) (codes ", ") r))
          → Here (behind_member left) t (state (members_turn ∷ []) (Obj (Int (pos r)) ∷ below i before))
      turn_goes i before r left t small g =
          let vs : List Val = Obj (Int (word place)) ∷ Key space ∷ Obj (Array a e) ∷ Bytes (codes ", ") ∷ Obj (Int (pos r)) ∷ [] in
          on 15 (suc (further 4 left)) t (state (members_turn ∷ []) (Obj (Int (pos r)) ∷ below i before)) (state (members_add ∷ []) (Obj (Int (pos 1)) ∷ Obj (Int (pos i)) ∷ vs)) refl
          (on 1 (further 4 left) t (state (members_add ∷ []) (Obj (Int (pos 1)) ∷ Obj (Int (pos i)) ∷ vs)) (state (members_next ∷ []) (Obj (Int (pos (suc i))) ∷ vs))
          (ap (λ (m : Result ℤ PsError). elim (acted members_next [] (result vs m)) [ None ↦ None | Some st ↦ Some st ]) (add_one i small))
          (on 4 left t (state (members_next ∷ []) (Obj (Int (pos (suc i))) ∷ vs)) (state (members_body ∷ []) (own (suc i) (codes ", ") r)) refl g))

      -- a member is shown
      shown_goes : (thing : Thing) (i offset : ℕ) (type : DictId) (before : List ℕ) (r left : ℕ) (t : List ℕ) → r < 1000 → IsMember s a i offset type
          → Shows Op prints s ds digits holds aim k d type space 0 r ((place + offset) % 2 ^ 32) thing
          → Here left (t ++ thing.text (suc r)) (state (members_turn ∷ []) (Obj (Int (pos (thing.room (suc r)))) ∷ below i before))
          → Here (before_member (thing.steps (suc r) left)) t (state (members_room ∷ []) (Obj (Truth (int_eq (pos (suc r)) (pos 0))) ∷ own i before (suc r)))
      shown_goes thing i offset type before r left t enough its shows g =
          let m : PsObj = Array its.member its.executable in
          let at : ℕ = (place + offset) % 2 ^ 32 in
          let rest : List Val = Obj (Int (pos (suc r))) ∷ below i before in
          let vs : List Val = Obj (Dict type) ∷ Obj (Int (word at)) ∷ Key space ∷ Obj (Int (pos (suc r))) ∷ [] in
          let m₄ : ℕ = thing.steps (suc r) left in
          let m₃ : ℕ = further 4 (suc (further 1 m₄)) in
          let m₂ : ℕ = further 7 (suc (suc m₃)) in
          subst (λ b. Here (further 10 (suc m₂)) t (state (members_room ∷ []) (Obj (Truth b) ∷ own i before (suc r)))) (sym (some_left r))
          (on 10 (suc m₂) t (state (members_room ∷ []) (Obj (Truth false) ∷ own i before (suc r))) (state (members_get ∷ []) (Obj (Int (pos i)) ∷ Obj (Array a e) ∷ rest)) refl
          (element_goes Op prints s ds digits holds aim o under members_member [] a e i m rest m₂ (prints.append d t) its.at
          (on 7 (suc (suc m₃)) t (state (members_member ∷ []) (Obj m ∷ rest))
          (state (members_offset ∷ []) (Obj (Int (pos 1)) ∷ Obj m ∷ Obj (Int (word place)) ∷ Key space ∷ Obj m ∷ rest)) refl
          (element_goes Op prints s ds digits holds aim o under members_sum [] its.member its.executable 1 (Int (word offset)) (Obj (Int (word place)) ∷ Key space ∷ Obj m ∷ rest) (suc m₃) (prints.append d t) its.its_offset
          (uadd_goes Op prints s ds digits holds aim o under members_place [] place offset (Key space ∷ Obj m ∷ rest) m₃ (prints.append d t) within its.small
          (on 4 (suc (further 1 m₄)) t (state (members_place ∷ []) (Obj (Int (word at)) ∷ Key space ∷ Obj m ∷ rest))
          (state (members_type ∷ []) (Obj (Int (pos 2)) ∷ Obj m ∷ Obj (Int (word at)) ∷ Key space ∷ rest)) refl
          (element_goes Op prints s ds digits holds aim o under members_show [] its.member its.executable 2 (Dict type) (Obj (Int (word at)) ∷ Key space ∷ rest) (further 1 m₄) (prints.append d t) its.its_type
          (on 1 m₄ t (state (members_show ∷ []) (Obj (Dict type) ∷ Obj (Int (word at)) ∷ Key space ∷ rest)) (state (show_body ∷ members_turn ∷ []) (vs ++ below i before)) refl
          (goes_through Op prints s ds (words digits) holds.knows aim o under show_body (members_turn ∷ []) vs (below i before) (Int (pos (thing.room (suc r)))) m₄ left
          (prints.append d t) (prints.append d (t ++ thing.text (suc r)))
          (λ o' under' lo lu g'. shows t left o' under' (let x = room.operands in let y = room.items in record { operands = omega arith; items = omega arith }) enough g') g)))))))))

    -- The run of `Members` appends the members' texts with their separators, up to the room that there is, and leaves the room that is left.
    pub members_run : (is : List Thing) (i : ℕ) (before : List ℕ) (r left : ℕ) (t : List ℕ) (o : List PsObj) (under : List Item) → RoomFor (5 + k) o under → AllPrintable before
        → i + length is ≡ count → r ≤ 1000 → EachMember r i is
        → Ends Op prints s ds aim left (prints.append d (t ++ items_text before is r)) (Int (pos (items_left is r)) ∷ o) under
        → On Op prints s ds digits holds aim o under (members_steps is r left) (prints.append d t) (state (members_body ∷ []) (own i before r))
    members_run [] i before r left t o under room printable all enough each g =
        none_goes o under room i before r left t (omega (arith, all))
        (subst (λ t. On Op prints s ds digits holds aim o under left (prints.append d t) (state [] (Obj (Int (pos r)) ∷ []))) (append-nil t)
        (leaves Op prints s ds digits holds aim (Int (pos r)) left (prints.append d (t ++ [])) o under g))
    members_run (thing ∷ is) i before zero left t o under room printable all enough each g =
        some_goes o under room i before 0 (further 4 (suc (further 5 left))) t (λ same. absurd (omega (arith, all, same))) printable
        (cut_goes o under room i before left (t ++ before)
        (subst (λ t. On Op prints s ds digits holds aim o under left (prints.append d t) (state [] (Obj (Int (pos 0)) ∷ []))) (sym (append_assoc t before (codes "...")))
        (leaves Op prints s ds digits holds aim (Int (pos 0)) left (prints.append d (t ++ (before ++ codes "..."))) o under g)))
    members_run (thing ∷ is) i before (suc r) left t o under room printable all enough each g =
        let r' : ℕ = thing.room (suc r) in
        let fewer : r' ≤ suc r = each.1 in
        let its = each.0 in
        let t' : List ℕ = (t ++ before) ++ thing.text (suc r) in
        let whole : t ++ (before ++ thing.text (suc r) ++ items_text (codes ", ") is r') ≡ t' ++ items_text (codes ", ") is r' =
        sym (append_assoc t (before ++ thing.text (suc r)) (items_text (codes ", ") is r')) ∙ ap (λ x. x ++ items_text (codes ", ") is r') (sym (append_assoc t before (thing.text (suc r)))) in
        let rest : ℕ = members_steps is r' left in
        some_goes o under room i before (suc r) (before_member (thing.steps (suc r) (behind_member rest))) t (λ same. absurd (omega (arith, all, same))) printable
        (shown_goes o under room thing i its.0 its.1 before r (behind_member rest) (t ++ before) (omega arith) its.2 its.3
        (turn_goes o under room i before r' rest t' (omega (arith, all))
        (members_run is (suc i) (codes ", ") r' left t' o under room comma_printable (omega (arith, all)) (omega arith) each.2
        (subst (λ x. Ends Op prints s ds aim left (prints.append d x) (Int (pos (items_left is r')) ∷ o) under) whole g))))

module _ {D : Type 0} (Op : Operates D) (prints : Printing Op) (s : StoreState) (ds : List DictId) (digits : ArrayId) (holds : Holds s ds digits) (aim : Aim Op prints s ds) (d : D) (space : List ℕ) where
  module _ (k : ℕ) (type : DictId) (a : ArrayId) (e : Bool) (place : ℕ) (is : List Thing) (within : place < 2 ^ 32) (has : HasKey s type (codes "members") (Obj (Array a e)))
      (there : HasArray s a) (many : length (elements_of s a) ≡ length is) (few : length is < 2 ^ 31) where
    -- the run of `ShowStruct` appends the members' texts in braces
    struct_run : (r left : ℕ) (t : List ℕ) (o : List PsObj) (under : List Item) → RoomFor (6 + k) o under → r < 1000 → EachMember Op prints s ds digits holds aim k d space a e (length is) place (suc r) 0 is
        → Ends Op prints s ds aim left (prints.append d (t ++ (codes "{" ++ items_text [] is (suc r) ++ codes "}"))) (Int (pos (items_left is (suc r))) ∷ o) under
        → On Op prints s ds digits holds aim o under (struct_steps is (suc r) left) (prints.append d t) (state (showstruct_body ∷ []) (Obj (Dict type) ∷ Obj (Int (word place)) ∷ Key space ∷ Obj (Int (pos (suc r))) ∷ []))
    struct_run r left t o under room enough each g =
        let t₁ : List ℕ = t ++ codes "{" in
        let t₂ : List ℕ = t₁ ++ items_text [] is (suc r) in
        let whole : t ++ (codes "{" ++ items_text [] is (suc r) ++ codes "}") ≡ t₂ ++ codes "}" =
        sym (append_assoc t (codes "{" ++ items_text [] is (suc r)) (codes "}")) ∙ ap (λ x. x ++ codes "}") (sym (append_assoc t (codes "{") (items_text [] is (suc r)))) in
        let vs : List Val = Obj (Int (word place)) ∷ Key space ∷ Obj (Int (pos (suc r))) ∷ [] in
        let opened : List Val = Obj (Int (word place)) ∷ Key space ∷ Obj (Int (pos 0)) ∷ Obj (Array a e) ∷ Bytes [] ∷ Obj (Int (pos (suc r))) ∷ [] in
        let m₃ : ℕ = members_steps is (suc r) (further 1 (suc left)) in
        let m₂ : ℕ = further 12 m₃ in
        let m₁ : ℕ = further 1 (suc m₂) in
        on 1 (suc m₁) t (state (showstruct_body ∷ []) (Obj (Dict type) ∷ vs)) (state (w "Put" showstruct_members ∷ []) (Bytes (codes "{") ∷ Obj (Dict type) ∷ vs)) refl
        (put_at Op prints s ds digits holds aim o under showstruct_members [] (codes "{") (Obj (Dict type) ∷ vs) m₁ d t (omega arith, omega arith, tt)
        (on 1 (suc m₂) t₁ (state (showstruct_members ∷ []) (Obj (Dict type) ∷ vs)) (state (w "get" showstruct_open ∷ []) (Key (codes "members") ∷ Obj (Dict type) ∷ vs)) refl
        (goes_get Op prints s ds (words digits) holds.knows aim o under (codes "get") (codes "members") showstruct_open [] type (Obj (Array a e)) vs m₂ (prints.append d t₁) holds.get has
        (on 12 m₃ t₁ (state (showstruct_open ∷ []) (Obj (Array a e) ∷ vs)) (state (members_body ∷ showstruct_close ∷ []) opened) refl
        (goes_through Op prints s ds (words digits) holds.knows aim o under members_body (showstruct_close ∷ []) opened [] (Int (pos (items_left is (suc r)))) m₃ (further 1 (suc left))
        (prints.append d t₁) (prints.append d t₂)
        (λ o' under' lo lu g'. members_run Op prints s ds digits holds aim k d space a e (length is) place within there many few is 0 [] (suc r) (further 1 (suc left)) t₁ o' under'
        (let x = room.operands in let y = room.items in record { operands = omega arith; items = omega arith }) tt (omega arith) (omega arith) each g')
        (on 1 (suc left) t₂ (state (showstruct_close ∷ []) (Obj (Int (pos (items_left is (suc r)))) ∷ [])) (state (w "Put" Stop ∷ []) (Bytes (codes "}") ∷ Obj (Int (pos (items_left is (suc r)))) ∷ [])) refl
        (put_at Op prints s ds digits holds aim o under Stop [] (codes "}") (Obj (Int (pos (items_left is (suc r)))) ∷ []) left d t₂ (omega arith, omega arith, tt)
        (leaves Op prints s ds digits holds aim (Int (pos (items_left is (suc r)))) left (prints.append d (t₂ ++ codes "}")) o under
        (subst (λ x. Ends Op prints s ds aim left (prints.append d x) (Int (pos (items_left is (suc r))) ∷ o) under) whole g)))))))))
      where
        on : (m n₀ : ℕ) (t : List ℕ) (st st' : State) → go (words digits) m st ≡ Some st' → On Op prints s ds digits holds aim o under n₀ (prints.append d t) st' → On Op prints s ds digits holds aim o under (further m n₀) (prints.append d t) st
        on m n₀ t st st' e g = goes_on Op prints s ds (words digits) holds.knows aim o under (room_here Op prints s ds digits holds aim (6 + k) o under room) m n₀ (prints.append d t) st st' e g

    -- a struct is shown
    pub struct_shows : (r : ℕ) → EachMember Op prints s ds digits holds aim k d space a e (length is) place (suc r) 0 is → HasKey s type (codes "kind") (Key (codes "struct"))
        → Shows Op prints s ds digits holds aim (6 + k) d type space 0 r place (struct_thing is)
    struct_shows r each its t left o under room enough g =
        shows_by Op prints s ds digits holds aim d space (6 + k) type place (codes "struct") (struct_steps is (suc r) left) left t r o under showstruct_body 14 room its refl
        (struct_run r left t o under room enough each g)
