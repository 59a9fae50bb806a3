-- Integers and arrays as things that `Show` shows.
use Rattle.std.proofs.Common.{◌≡◌, ℕ, pos, zero, suc, ◌+◌, ◌<◌, ◌≤◌, ◌^◌, false, Some, List, [], ◌∷◌, ◌++◌, length, codes, decimal, bytes_eq, refl, sym, ap, ◌∙◌, subst, arith, append_assoc}
use Rattle.std.specs.Fmt.{signed_decimal}
use Rattle.ps_store.specs.declared.object.PsObj.{PsObj}
use Rattle.ps_store.specs.declared.object.PsObj.TheVariants.{Int, Bool as Truth, Dict}
use Rattle.ps_store.specs.declared.object.ArrayId.{ArrayId}
use Rattle.ps_store.specs.declared.object.DictId.{DictId}
use Rattle.ps_store.specs.StoreState.{StoreState}
use Rattle.ps_step.specs.declared.item.Item.{Item}
use Rattle.ps_run.specs.Runs.{Operates}
use Rattle.ps_text.specs.Code.{Stop, w, t}
use Rattle.ps_terms.specs.Faring.{Aim}
use Rattle.ps_terms.specs.Machine.{Val, Obj, Key, Bytes, State, state, go}
use Rattle.ps_terms.specs.Printing.{word, Printing}
use Rattle.ps_terms.proofs.Steps.{Room}
use Rattle.ps_terms.specs.Printing.{further, HasKey}
use Rattle.ps_terms.proofs.Going.{Ends, goes_on, goes_through, goes_get}
use Rattle.ps_print.specs.Prelude.{items_body, show_kind, show_body, showint_body, showunsigned_body, showarray_close, showarray_items, showarray_count, showarray_open, showarray_choice, showarray_kind, showarray_to, showarray_body}
use Rattle.ps_print.specs.Words.{words, Holds, RoomFor}
use Rattle.ps_print.specs.Items.{Thing, items_text, items_left, items_steps, less}
use Rattle.ps_print.specs.Laid.{Fetches}
use Rattle.ps_print.specs.Things.{int_thing, unsigned_thing, array_thing, list_steps, showint_steps, showunsigned_steps}
use Rattle.ps_print.proofs.Parts.{On, put_at, told_nothing}
use Rattle.ps_print.proofs.Digits.{room_here}
use Rattle.ps_print.proofs.Ints.{leaves, int_run, unsigned_run}
use Rattle.ps_print.proofs.Items.{Shows, EachShows, items_run}

pub less_fewer : (r : ℕ) → less r ≤ r
less_fewer zero = omega arith
less_fewer (suc r) = omega arith

module _ {D : Type 0} (Op : Operates D) (prints : Printing Op) (s : StoreState) (ds : List DictId) (digits : ArrayId) (holds : Holds s ds digits) (aim : Aim Op prints s ds) (d : D) (space : List ℕ) where
  -- an integer is shown
  pub int_shows : (k : ℕ) (type : DictId) (place v : ℕ) → 13 ≤ k → v < 2 ^ 32 → HasKey s type (codes "kind") (Key (codes "int"))
      → Fetches Op prints s aim.first d space (word place) (codes "w") (word v) → (r : ℕ) → Shows Op prints s ds digits holds aim k d type space 0 r place (int_thing v)
  int_shows k type place v deep h kind known r t left o under room within g =
      let room' : Room o under = room_here Op prints s ds digits holds aim k o under room in
      let own : List Val = Obj (Int (word place)) ∷ Key space ∷ Obj (Int (pos (suc r))) ∷ [] in
      goes_on Op prints s ds (words digits) holds.knows aim o under room' 2 (suc (further 20 (showint_steps v left))) (prints.append d t)
      (state (show_body ∷ []) (Obj (Dict type) ∷ own)) (state (w "get" show_kind ∷ []) (Key (codes "kind") ∷ Obj (Dict type) ∷ Obj (Dict type) ∷ own)) refl
      (goes_get Op prints s ds (words digits) holds.knows aim o under (codes "get") (codes "kind") show_kind [] type (Key (codes "int")) (Obj (Dict type) ∷ own) (further 20 (showint_steps v left)) (prints.append d t) holds.get kind
      (goes_on Op prints s ds (words digits) holds.knows aim o under room' 20 (showint_steps v left) (prints.append d t)
      (state (show_kind ∷ []) (Key (codes "int") ∷ Obj (Dict type) ∷ own)) (state (showint_body ∷ []) (Obj (Dict type) ∷ own)) refl
      (int_run Op prints s ds digits holds aim v r left space (word place) (Obj (Dict type)) (prints.append d t) o under
      (let a = room.operands in let b = room.items in record { operands = omega arith; items = omega arith }) h (omega arith)
      (told_nothing Op prints s ds digits holds aim o under d 6 (Key (codes "w") ∷ Obj (Int (word place)) ∷ Key space ∷ []) (Int (word v) ∷ []) t known)
      (subst (λ d'. Ends Op prints s ds aim left d' (Int (pos r) ∷ o) under) (sym (prints.append_twice d t (signed_decimal (word v)))) g))))

  -- an unsigned number is shown
  pub unsigned_shows : (k : ℕ) (type : DictId) (place v : ℕ) → 13 ≤ k → v < 2 ^ 32 → HasKey s type (codes "kind") (Key (codes "unsigned"))
      → Fetches Op prints s aim.first d space (word place) (codes "w") (word v) → (r : ℕ) → Shows Op prints s ds digits holds aim k d type space 0 r place (unsigned_thing v)
  unsigned_shows k type place v deep h kind known r t left o under room within g =
      let room' : Room o under = room_here Op prints s ds digits holds aim k o under room in
      let own : List Val = Obj (Int (word place)) ∷ Key space ∷ Obj (Int (pos (suc r))) ∷ [] in
      goes_on Op prints s ds (words digits) holds.knows aim o under room' 2 (suc (further 26 (showunsigned_steps v left))) (prints.append d t)
      (state (show_body ∷ []) (Obj (Dict type) ∷ own)) (state (w "get" show_kind ∷ []) (Key (codes "kind") ∷ Obj (Dict type) ∷ Obj (Dict type) ∷ own)) refl
      (goes_get Op prints s ds (words digits) holds.knows aim o under (codes "get") (codes "kind") show_kind [] type (Key (codes "unsigned")) (Obj (Dict type) ∷ own) (further 26 (showunsigned_steps v left)) (prints.append d t) holds.get kind
      (goes_on Op prints s ds (words digits) holds.knows aim o under room' 26 (showunsigned_steps v left) (prints.append d t)
      (state (show_kind ∷ []) (Key (codes "unsigned") ∷ Obj (Dict type) ∷ own)) (state (showunsigned_body ∷ []) (Obj (Dict type) ∷ own)) refl
      (unsigned_run Op prints s ds digits holds aim v r left space (word place) (Obj (Dict type)) (prints.append d t) o under
      (let a = room.operands in let b = room.items in record { operands = omega arith; items = omega arith }) h (omega arith)
      (told_nothing Op prints s ds digits holds aim o under d 6 (Key (codes "w") ∷ Obj (Int (word place)) ∷ Key space ∷ []) (Int (word v) ∷ []) t known)
      (subst (λ d'. Ends Op prints s ds aim left d' (Int (pos r) ∷ o) under) (sym (prints.append_twice d t (decimal v))) g))))

  module _ (type item : DictId) (kind : List ℕ) (size : ℕ) (to : HasKey s type (codes "to") (Obj (Dict item))) (its_kind : HasKey s item (codes "kind") (Key kind))
      (no_char : bytes_eq kind (codes "char") ≡ false) (sized : HasKey s item (codes "size") (Obj (Int (word size)))) (small : size < 2 ^ 32) where
    -- the run of `ShowArray` appends the items' texts in braces
    pub list_run : (k : ℕ) (is : List Thing) (place r left : ℕ) (t : List ℕ) (o : List PsObj) (under : List Item) → RoomFor (6 + k) o under → place < 2 ^ 32 → length is < 2 ^ 31 → r < 1000
        → HasKey s type (codes "count") (Obj (Int (pos (length is)))) → EachShows Op prints s ds digits holds aim k d item space size (suc r) place is
        → Ends Op prints s ds aim left (prints.append d (t ++ (codes "{" ++ items_text [] is (suc r) ++ codes "}"))) (Int (pos (items_left is (suc r))) ∷ o) under
        → On Op prints s ds digits holds aim o under (list_steps is (suc r) left) (prints.append d t) (state (showarray_body ∷ []) (Obj (Dict type) ∷ Obj (Int (word place)) ∷ Key space ∷ Obj (Int (pos (suc r))) ∷ []))
    list_run k is place r left t o under room within few enough count each g =
        let t₁ : List ℕ = t ++ codes "{" in
        let t₂ : List ℕ = t₁ ++ items_text [] is (suc r) in
        let whole : t ++ (codes "{" ++ items_text [] is (suc r) ++ codes "}") ≡ t₂ ++ codes "}" =
        sym (append_assoc t (codes "{" ++ items_text [] is (suc r)) (codes "}")) ∙ ap (λ x. x ++ codes "}") (sym (append_assoc t (codes "{") (items_text [] is (suc r)))) in
        let own : List Val = Obj (Int (word place)) ∷ Key space ∷ Obj (Int (pos (suc r))) ∷ [] in
        let opened : List Val = Obj (Dict type) ∷ Obj (Int (word place)) ∷ Key space ∷ Bytes [] ∷ Obj (Int (pos (suc r))) ∷ [] in
        let counted : List Val = Obj (Int (word place)) ∷ Key space ∷ Obj (Int (pos (length is))) ∷ Bytes [] ∷ Obj (Int (pos (suc r))) ∷ [] in
        let n₅ : ℕ = items_steps is (suc r) (further 1 (suc left)) in
        let n₄ : ℕ = further 4 (suc (further 1 n₅)) in
        let n₃ : ℕ = further 6 (suc n₄) in
        on 2 (suc (further 1 (suc (further 2 (further 4 (suc n₃)))))) t (state (showarray_body ∷ []) (Obj (Dict type) ∷ own)) (state (w "get" showarray_to ∷ []) (Key (codes "to") ∷ Obj (Dict type) ∷ Obj (Dict type) ∷ own)) refl
        (goes_get Op prints s ds (words digits) holds.knows aim o under (codes "get") (codes "to") showarray_to [] type (Obj (Dict item)) (Obj (Dict type) ∷ own) (further 1 (suc (further 2 (further 4 (suc n₃))))) (prints.append d t) holds.get to
        (on 1 (suc (further 2 (further 4 (suc n₃)))) t (state (showarray_to ∷ []) (Obj (Dict item) ∷ Obj (Dict type) ∷ own)) (state (w "get" showarray_kind ∷ []) (Key (codes "kind") ∷ Obj (Dict item) ∷ Obj (Dict type) ∷ own)) refl
        (goes_get Op prints s ds (words digits) holds.knows aim o under (codes "get") (codes "kind") showarray_kind [] item (Key kind) (Obj (Dict type) ∷ own) (further 2 (further 4 (suc n₃))) (prints.append d t) holds.get its_kind
        (on 2 (further 4 (suc n₃)) t (state (showarray_kind ∷ []) (Key kind ∷ Obj (Dict type) ∷ own)) (state (showarray_choice ∷ []) (Obj (Truth (bytes_eq kind (codes "char"))) ∷ Obj (Dict type) ∷ own)) refl
        (subst (λ b. On Op prints s ds digits holds aim o under (further 4 (suc n₃)) (prints.append d t) (state (showarray_choice ∷ []) (Obj (Truth b) ∷ Obj (Dict type) ∷ own))) (sym no_char)
        (on 4 (suc n₃) t (state (showarray_choice ∷ []) (Obj (Truth false) ∷ Obj (Dict type) ∷ own)) (state (w "Put" showarray_open ∷ []) (Bytes (codes "{") ∷ Obj (Dict type) ∷ own)) refl
        (put_at Op prints s ds digits holds aim o under showarray_open [] (codes "{") (Obj (Dict type) ∷ own) n₃ d t (omega arith, omega arith, tt)
        (on 6 (suc n₄) t₁ (state (showarray_open ∷ []) (Obj (Dict type) ∷ own)) (state (w "get" showarray_count ∷ []) (Key (codes "count") ∷ Obj (Dict type) ∷ opened)) refl
        (goes_get Op prints s ds (words digits) holds.knows aim o under (codes "get") (codes "count") showarray_count [] type (Obj (Int (pos (length is)))) opened n₄ (prints.append d t₁) holds.get count
        (on 4 (suc (further 1 n₅)) t₁ (state (showarray_count ∷ []) (Obj (Int (pos (length is))) ∷ opened)) (state (w "get" showarray_items ∷ []) (Key (codes "to") ∷ Obj (Dict type) ∷ counted)) refl
        (goes_get Op prints s ds (words digits) holds.knows aim o under (codes "get") (codes "to") showarray_items [] type (Obj (Dict item)) counted (further 1 n₅) (prints.append d t₁) holds.get to
        (on 1 n₅ t₁ (state (showarray_items ∷ []) (Obj (Dict item) ∷ counted)) (state (items_body ∷ showarray_close ∷ []) (Obj (Dict item) ∷ counted)) refl
        (goes_through Op prints s ds (words digits) holds.knows aim o under items_body (showarray_close ∷ []) (Obj (Dict item) ∷ counted) [] (Int (pos (items_left is (suc r)))) n₅ (further 1 (suc left))
        (prints.append d t₁) (prints.append d t₂)
        (λ o' under' lo lu g'. items_run Op prints s ds digits holds aim k d item space size sized small is [] place (suc r) (further 1 (suc left)) t₁ o' under'
        (let a = room.operands in let b = room.items in record { operands = omega arith; items = omega arith }) tt within few (omega arith) each g')
        (on 1 (suc left) t₂ (state (showarray_close ∷ []) (Obj (Int (pos (items_left is (suc r)))) ∷ [])) (state (w "Put" Stop ∷ []) (Bytes (codes "}") ∷ Obj (Int (pos (items_left is (suc r)))) ∷ [])) refl
        (put_at Op prints s ds digits holds aim o under Stop [] (codes "}") (Obj (Int (pos (items_left is (suc r)))) ∷ []) left d t₂ (omega arith, omega arith, tt)
        (leaves Op prints s ds digits holds aim (Int (pos (items_left is (suc r)))) left (prints.append d (t₂ ++ codes "}")) o under
        (subst (λ x. Ends Op prints s ds aim left (prints.append d x) (Int (pos (items_left is (suc r))) ∷ o) under) whole g)))))))))))))))))
      where
        on : (m n₀ : ℕ) (t : List ℕ) (st st' : State) → go (words digits) m st ≡ Some st' → On Op prints s ds digits holds aim o under n₀ (prints.append d t) st' → On Op prints s ds digits holds aim o under (further m n₀) (prints.append d t) st
        on m n₀ t st st' e g = goes_on Op prints s ds (words digits) holds.knows aim o under (room_here Op prints s ds digits holds aim (6 + k) o under room) m n₀ (prints.append d t) st st' e g

    -- an array is shown
    pub list_shows : (k : ℕ) (is : List Thing) (place : ℕ) → place < 2 ^ 32 → length is < 2 ^ 31 → HasKey s type (codes "kind") (Key (codes "array"))
        → HasKey s type (codes "count") (Obj (Int (pos (length is)))) → (r : ℕ) → EachShows Op prints s ds digits holds aim k d item space size (suc r) place is
        → Shows Op prints s ds digits holds aim (6 + k) d type space 0 r place (array_thing is)
    list_shows k is place within few its count r each t left o under room enough g =
        let own : List Val = Obj (Int (word place)) ∷ Key space ∷ Obj (Int (pos (suc r))) ∷ [] in
        goes_on Op prints s ds (words digits) holds.knows aim o under room' 2 (suc (further 8 (list_steps is (suc r) left))) (prints.append d t)
        (state (show_body ∷ []) (Obj (Dict type) ∷ own)) (state (w "get" show_kind ∷ []) (Key (codes "kind") ∷ Obj (Dict type) ∷ Obj (Dict type) ∷ own)) refl
        (goes_get Op prints s ds (words digits) holds.knows aim o under (codes "get") (codes "kind") show_kind [] type (Key (codes "array")) (Obj (Dict type) ∷ own) (further 8 (list_steps is (suc r) left)) (prints.append d t) holds.get its
        (goes_on Op prints s ds (words digits) holds.knows aim o under room' 8 (list_steps is (suc r) left) (prints.append d t)
        (state (show_kind ∷ []) (Key (codes "array") ∷ Obj (Dict type) ∷ own)) (state (showarray_body ∷ []) (Obj (Dict type) ∷ own)) refl
        (list_run k is place r left t o under room within few enough count each g)))
      where
        room' : Room o under
        room' = room_here Op prints s ds digits holds aim (6 + k) o under room
