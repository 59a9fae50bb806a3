-- Characters, pointers and strings as things that `Show` shows.
use Rattle.std.proofs.Common.{◌≡◌, ℕ, ℤ, pos, suc, ◌<◌, ◌^◌, true, false, Some, List, [], ◌∷◌, ◌++◌, codes, bytes_eq, refl, sym, subst, arith, append_assoc}
use Rattle.std.specs.Ordering.{int_eq}
use Rattle.ps_store.specs.declared.object.PsObj.{PsObj}
use Rattle.ps_store.specs.declared.object.PsObj.TheVariants.{Int, Bool as Truth, Dict}
use Rattle.ps_store.specs.declared.object.ArrayId.{ArrayId}
use Rattle.ps_store.specs.declared.object.DictId.{DictId}
use Rattle.ps_store.specs.StoreState.{StoreState}
use Rattle.ps_step.specs.declared.item.Item.{Item}
use Rattle.ps_run.specs.Runs.{Operates}
use Rattle.ps_text.specs.Code.{Code, Stop, n, w, t}
use Rattle.ps_terms.specs.Faring.{Aim}
use Rattle.ps_terms.specs.Machine.{Val, Obj, Key, Bytes, State, state, go}
use Rattle.ps_terms.specs.Printing.{word, AllPrintable, Printing, further, HasKey}
use Rattle.ps_terms.proofs.Steps.{Room}
use Rattle.ps_terms.proofs.Going.{Ends, goes_on, goes_get}
use Rattle.ps_print.specs.Prelude.{show_kind, show_body, showint_rest, showchar_value, showchar_body, pointer_chars, pointer_string, pointer_some, pointer_count, pointer_run, pointer_choice, pointer_test, pointer_kind, pointer_to, pointer_put, showpointer_body, showarray_chars, showarray_string, showarray_choice, showarray_kind, showarray_to, showarray_body}
use Rattle.ps_print.specs.Words.{words, Holds, RoomFor}
use Rattle.ps_print.specs.Laid.{Fetches, PutsChars, PutsPointer, Counts, PointerText, bare, dangling, strung}
use Rattle.ps_print.specs.Things.{Tail, Bare, Dangling, Strung, tail_steps, showchar_steps, showpointer_steps, string_steps, char_thing, pointer_thing, string_thing}
use Rattle.ps_print.proofs.Parts.{On, told_nothing, put_at, fetch_goes, put_char_goes, put_pointer_goes, charrun_goes, put_chars_goes}
use Rattle.ps_print.proofs.Digits.{room_here}
use Rattle.ps_print.proofs.Ints.{count_goes}
use Rattle.ps_print.proofs.Items.{Shows, none_left, some_left}

module _ {D : Type 0} (Op : Operates D) (prints : Printing Op) (s : StoreState) (ds : List DictId) (digits : ArrayId) (holds : Holds s ds digits) (aim : Aim Op prints s ds) (d : D) (space : List ℕ) where
  module _ (o : List PsObj) (under : List Item) (room : Room o under) (r left : ℕ) (small : r < 2 ^ 31) where
    abbrev Here : ℕ → List ℕ → State → Type 0
    Here m t st = On Op prints s ds digits holds aim o under m (prints.append d t) st

    on : (m n₀ : ℕ) (t : List ℕ) (st st' : State) → go (words digits) m st ≡ Some st' → Here n₀ t st' → Here (further m n₀) t st
    on m n₀ t st st' e g = goes_on Op prints s ds (words digits) holds.knows aim o under room m n₀ (prints.append d t) st st' e g

    abbrev space_left : List Val
    space_left = Obj (Int (pos (suc r))) ∷ []

    abbrev Then : List ℕ → Type 0
    Then t = Ends Op prints s ds aim left (prints.append d t) (Int (pos r) ∷ o) under

    counted : (t : List ℕ) → Then t → Here (further 2 left) t (state (showint_rest ∷ []) space_left)
    counted t g = count_goes Op prints s ds digits holds aim r left (prints.append d t) o under room small g

    -- the run of `ShowChar` appends the character's form
    char_run : (n : ℤ) (place : ℤ) (type : Val) (t : List ℕ) → Fetches Op prints s aim.first d space place (codes "c") n → Then (t ++ prints.char_text n)
        → Here (showchar_steps left) t (state (showchar_body ∷ []) (type ∷ Obj (Int place) ∷ Key space ∷ space_left))
    char_run n place type t known g =
        on 2 (suc (suc (further 2 left))) t (state (showchar_body ∷ []) (type ∷ Obj (Int place) ∷ Key space ∷ space_left))
        (state (w "fetch" showchar_value ∷ []) (Key (codes "c") ∷ Obj (Int place) ∷ Key space ∷ space_left)) refl
        (fetch_goes Op prints s ds digits holds aim o under showchar_value [] space (codes "c") place n space_left (suc (further 2 left)) (prints.append d t)
        (told_nothing Op prints s ds digits holds aim o under d 6 (Key (codes "c") ∷ Obj (Int place) ∷ Key space ∷ []) (Int n ∷ []) t known)
        (put_char_goes Op prints s ds digits holds aim o under showint_rest [] n space_left (further 2 left) (prints.append d t)
        (subst (λ d'. On Op prints s ds digits holds aim o under (further 2 left) d' (state (showint_rest ∷ []) space_left)) (sym (prints.append_twice d t (prints.char_text n)))
        (counted (t ++ prints.char_text n) g))))

    blank_printable : AllPrintable (codes " ")
    blank_printable = (omega arith, omega arith, tt)

    -- behind the text of a pointer
    bare_run : (n : ℤ) (kind t : List ℕ) → bytes_eq kind (codes "char") ≡ false → Then t
        → Here (tail_steps Bare left) t (state (pointer_choice ∷ []) (Obj (Truth (bytes_eq kind (codes "char"))) ∷ Obj (Int n) ∷ space_left))
    bare_run n kind t test g =
        subst (λ b. Here (further 4 (further 2 left)) t (state (pointer_choice ∷ []) (Obj (Truth b) ∷ Obj (Int n) ∷ space_left))) (sym test)
        (on 4 (further 2 left) t (state (pointer_choice ∷ []) (Obj (Truth false) ∷ Obj (Int n) ∷ space_left)) (state (showint_rest ∷ []) space_left) refl (counted t g))

    to_count : (n : ℤ) (kind t : List ℕ) (count m : ℕ) → bytes_eq kind (codes "char") ≡ true → Counts Op prints s aim.first d n count
        → Here m t (state (pointer_some ∷ showint_rest ∷ []) (Obj (Truth (int_eq (pos count) (pos 0))) ∷ Obj (Int (pos count)) ∷ Obj (Int n) ∷ space_left))
        → Here (further 3 (further 1 (suc (further 3 m)))) t (state (pointer_choice ∷ []) (Obj (Truth (bytes_eq kind (codes "char"))) ∷ Obj (Int n) ∷ space_left))
    to_count n kind t count m test known g =
        subst (λ b. Here (further 3 (further 1 (suc (further 3 m)))) t (state (pointer_choice ∷ []) (Obj (Truth b) ∷ Obj (Int n) ∷ space_left))) (sym test)
        (on 3 (further 1 (suc (further 3 m))) t (state (pointer_choice ∷ []) (Obj (Truth true) ∷ Obj (Int n) ∷ space_left)) (state (pointer_run ∷ showint_rest ∷ []) (Obj (Int n) ∷ space_left)) refl
        (on 1 (suc (further 3 m)) t (state (pointer_run ∷ showint_rest ∷ []) (Obj (Int n) ∷ space_left)) (state (w "charrun" pointer_count ∷ showint_rest ∷ []) (Obj (Int n) ∷ Obj (Int n) ∷ space_left)) refl
        (charrun_goes Op prints s ds digits holds aim o under pointer_count (showint_rest ∷ []) n count (Obj (Int n) ∷ space_left) (further 3 m) d t known
        (on 3 m t (state (pointer_count ∷ showint_rest ∷ []) (Obj (Int (pos count)) ∷ Obj (Int n) ∷ space_left))
        (state (pointer_some ∷ showint_rest ∷ []) (Obj (Truth (int_eq (pos count) (pos 0))) ∷ Obj (Int (pos count)) ∷ Obj (Int n) ∷ space_left)) refl g))))

    dangling_run : (n : ℤ) (kind t : List ℕ) → bytes_eq kind (codes "char") ≡ true → Counts Op prints s aim.first d n 0 → Then t
        → Here (tail_steps Dangling left) t (state (pointer_choice ∷ []) (Obj (Truth (bytes_eq kind (codes "char"))) ∷ Obj (Int n) ∷ space_left))
    dangling_run n kind t test known g =
        to_count n kind t 0 (further 5 (further 2 left)) test known
        (subst (λ b. Here (further 5 (further 2 left)) t (state (pointer_some ∷ showint_rest ∷ []) (Obj (Truth b) ∷ Obj (Int (pos 0)) ∷ Obj (Int n) ∷ space_left))) (sym none_left)
        (on 5 (further 2 left) t (state (pointer_some ∷ showint_rest ∷ []) (Obj (Truth true) ∷ Obj (Int (pos 0)) ∷ Obj (Int n) ∷ space_left)) (state (showint_rest ∷ []) space_left) refl (counted t g)))

    strung_run : (n : ℤ) (kind t string : List ℕ) (count : ℕ) → bytes_eq kind (codes "char") ≡ true → Counts Op prints s aim.first d n (suc count)
        → PutsChars Op prints s aim.first d (codes "d") n (suc count) string → Then (t ++ (codes " " ++ string))
        → Here (tail_steps Strung left) t (state (pointer_choice ∷ []) (Obj (Truth (bytes_eq kind (codes "char"))) ∷ Obj (Int n) ∷ space_left))
    strung_run n kind t string count test known lies g =
        let t₁ : List ℕ = t ++ codes " " in
        let after : List Val = Obj (Int (pos (suc count))) ∷ Obj (Int n) ∷ space_left in
        let m₂ : ℕ = further 4 (suc (further 2 left)) in
        let m₁ : ℕ = further 3 (further 1 (suc m₂)) in
        to_count n kind t (suc count) m₁ test known
        (subst (λ b. Here m₁ t (state (pointer_some ∷ showint_rest ∷ []) (Obj (Truth b) ∷ after))) (sym (some_left count))
        (on 3 (further 1 (suc m₂)) t (state (pointer_some ∷ showint_rest ∷ []) (Obj (Truth false) ∷ after)) (state (pointer_string ∷ showint_rest ∷ []) after) refl
        (on 1 (suc m₂) t (state (pointer_string ∷ showint_rest ∷ []) after) (state (w "Put" pointer_chars ∷ showint_rest ∷ []) (Bytes (codes " ") ∷ after)) refl
        (put_at Op prints s ds digits holds aim o under pointer_chars (showint_rest ∷ []) (codes " ") after m₂ d t blank_printable
        (on 4 (suc (further 2 left)) t₁ (state (pointer_chars ∷ showint_rest ∷ []) after)
        (state (w "PutChars" Stop ∷ showint_rest ∷ []) (Obj (Int (pos (suc count))) ∷ Obj (Int n) ∷ Key (codes "d") ∷ space_left)) refl
        (put_chars_goes Op prints s ds digits holds aim o under Stop (showint_rest ∷ []) (codes "d") n (suc count) string space_left (further 2 left) d t₁ lies
        (counted (t₁ ++ string) (subst Then (sym (append_assoc t (codes " ") string)) g))))))))

    tail_run : (n : ℤ) (kind text t : List ℕ) (tail : Tail) → PointerText prints s aim.first d kind n text tail → Then (t ++ text)
        → (head : List ℕ) × PutsPointer Op prints s aim.first d n head × Here (tail_steps tail left) (t ++ head) (state (pointer_choice ∷ []) (Obj (Truth (bytes_eq kind (codes "char"))) ∷ Obj (Int n) ∷ space_left))
    tail_run n kind _ t _ (bare text test known) g = (text, known, bare_run n kind (t ++ text) test g)
    tail_run n kind _ t _ (dangling text test known none) g = (text, known, dangling_run n kind (t ++ text) test none g)
    tail_run n kind _ t _ (strung text string count test known some lies) g =
        (text, known, strung_run n kind (t ++ text) string count test some lies (subst Then (sym (append_assoc t text (codes " " ++ string))) g))

    -- the run of `ShowPointer` appends the pointer's text, and where it leads to characters their string
    pointer_goes : (type target : DictId) (kind text : List ℕ) (place n : ℤ) (t : List ℕ) (tail : Tail) → HasKey s type (codes "to") (Obj (Dict target)) → HasKey s target (codes "kind") (Key kind)
        → Fetches Op prints s aim.first d space place (codes "p") n → PointerText prints s aim.first d kind n text tail → Then (t ++ text)
        → Here (showpointer_steps tail left) t (state (showpointer_body ∷ []) (Obj (Dict type) ∷ Obj (Int place) ∷ Key space ∷ space_left))
    pointer_goes type target kind text place n t tail to its_kind known shown g =
        let last = tail_run n kind text t tail shown g in
        let t₁ : List ℕ = t ++ last.0 in
        let own : List Val = Obj (Dict type) ∷ space_left in
        let m₄ : ℕ = further 1 (suc (further 2 (tail_steps tail left))) in
        let m₃ : ℕ = further 2 (suc m₄) in
        on 4 (suc (further 1 (suc m₃))) t (state (showpointer_body ∷ []) (Obj (Dict type) ∷ Obj (Int place) ∷ Key space ∷ space_left))
        (state (w "fetch" pointer_put ∷ []) (Key (codes "p") ∷ Obj (Int place) ∷ Key space ∷ own)) refl
        (fetch_goes Op prints s ds digits holds aim o under pointer_put [] space (codes "p") place n own (further 1 (suc m₃)) (prints.append d t)
        (told_nothing Op prints s ds digits holds aim o under d 6 (Key (codes "p") ∷ Obj (Int place) ∷ Key space ∷ []) (Int n ∷ []) t known)
        (on 1 (suc m₃) t (state (pointer_put ∷ []) (Obj (Int n) ∷ own)) (state (w "PutPointer" pointer_to ∷ []) (Obj (Int n) ∷ Obj (Int n) ∷ own)) refl
        (put_pointer_goes Op prints s ds digits holds aim o under pointer_to [] n last.0 (Obj (Int n) ∷ own) m₃ d t last.1
        (on 2 (suc m₄) t₁ (state (pointer_to ∷ []) (Obj (Int n) ∷ own)) (state (w "get" pointer_kind ∷ []) (Key (codes "to") ∷ Obj (Dict type) ∷ Obj (Int n) ∷ space_left)) refl
        (goes_get Op prints s ds (words digits) holds.knows aim o under (codes "get") (codes "to") pointer_kind [] type (Obj (Dict target)) (Obj (Int n) ∷ space_left) m₄ (prints.append d t₁) holds.get to
        (on 1 (suc (further 2 (tail_steps tail left))) t₁ (state (pointer_kind ∷ []) (Obj (Dict target) ∷ Obj (Int n) ∷ space_left))
        (state (w "get" pointer_test ∷ []) (Key (codes "kind") ∷ Obj (Dict target) ∷ Obj (Int n) ∷ space_left)) refl
        (goes_get Op prints s ds (words digits) holds.knows aim o under (codes "get") (codes "kind") pointer_test [] target (Key kind) (Obj (Int n) ∷ space_left) (further 2 (tail_steps tail left)) (prints.append d t₁) holds.get its_kind
        (on 2 (tail_steps tail left) t₁ (state (pointer_test ∷ []) (Key kind ∷ Obj (Int n) ∷ space_left))
        (state (pointer_choice ∷ []) (Obj (Truth (bytes_eq kind (codes "char"))) ∷ Obj (Int n) ∷ space_left)) refl last.2))))))))

    -- the run of `ShowArray` appends the string of an array of characters
    string_run : (type item : DictId) (kind text : List ℕ) (place : ℤ) (count : ℕ) (t : List ℕ) → bytes_eq kind (codes "char") ≡ true → HasKey s type (codes "to") (Obj (Dict item))
        → HasKey s type (codes "count") (Obj (Int (pos count))) → HasKey s item (codes "kind") (Key kind) → PutsChars Op prints s aim.first d space place count text → Then (t ++ text)
        → Here (string_steps left) t (state (showarray_body ∷ []) (Obj (Dict type) ∷ Obj (Int place) ∷ Key space ∷ space_left))
    string_run type item kind text place count t test to counts its_kind lies g =
        let own : List Val = Obj (Int place) ∷ Key space ∷ space_left in
        let m₂ : ℕ = further 3 (further 1 (suc (suc (further 2 left)))) in
        let m₁ : ℕ = further 1 (suc (further 2 m₂)) in
        on 2 (suc m₁) t (state (showarray_body ∷ []) (Obj (Dict type) ∷ own)) (state (w "get" showarray_to ∷ []) (Key (codes "to") ∷ Obj (Dict type) ∷ Obj (Dict type) ∷ own)) refl
        (goes_get Op prints s ds (words digits) holds.knows aim o under (codes "get") (codes "to") showarray_to [] type (Obj (Dict item)) (Obj (Dict type) ∷ own) m₁ (prints.append d t) holds.get to
        (on 1 (suc (further 2 m₂)) t (state (showarray_to ∷ []) (Obj (Dict item) ∷ Obj (Dict type) ∷ own)) (state (w "get" showarray_kind ∷ []) (Key (codes "kind") ∷ Obj (Dict item) ∷ Obj (Dict type) ∷ own)) refl
        (goes_get Op prints s ds (words digits) holds.knows aim o under (codes "get") (codes "kind") showarray_kind [] item (Key kind) (Obj (Dict type) ∷ own) (further 2 m₂) (prints.append d t) holds.get its_kind
        (on 2 m₂ t (state (showarray_kind ∷ []) (Key kind ∷ Obj (Dict type) ∷ own)) (state (showarray_choice ∷ []) (Obj (Truth (bytes_eq kind (codes "char"))) ∷ Obj (Dict type) ∷ own)) refl
        (subst (λ b. Here m₂ t (state (showarray_choice ∷ []) (Obj (Truth b) ∷ Obj (Dict type) ∷ own))) (sym test)
        (on 3 (further 1 (suc (suc (further 2 left)))) t (state (showarray_choice ∷ []) (Obj (Truth true) ∷ Obj (Dict type) ∷ own)) (state (showarray_string ∷ []) (Obj (Dict type) ∷ own)) refl
        (on 1 (suc (suc (further 2 left))) t (state (showarray_string ∷ []) (Obj (Dict type) ∷ own)) (state (w "get" showarray_chars ∷ []) (Key (codes "count") ∷ Obj (Dict type) ∷ own)) refl
        (goes_get Op prints s ds (words digits) holds.knows aim o under (codes "get") (codes "count") showarray_chars [] type (Obj (Int (pos count))) own (suc (further 2 left)) (prints.append d t) holds.get counts
        (put_chars_goes Op prints s ds digits holds aim o under showint_rest [] space place count text space_left (further 2 left) d t lies
        (counted (t ++ text) g))))))))))

  -- a value of a kind is shown by its procedure, so many steps behind the test of its kind
  pub shows_by : (k : ℕ) (type : DictId) (place : ℕ) (kind : List ℕ) (own left : ℕ) (t : List ℕ) (r : ℕ) (o : List PsObj) (under : List Item) (body : Code) (m : ℕ) → RoomFor k o under → HasKey s type (codes "kind") (Key kind)
      → go (words digits) m (state (show_kind ∷ []) (Key kind ∷ Obj (Dict type) ∷ Obj (Int (word place)) ∷ Key space ∷ Obj (Int (pos (suc r))) ∷ [])) ≡ Some (state (body ∷ []) (Obj (Dict type) ∷ Obj (Int (word place)) ∷ Key space ∷ Obj (Int (pos (suc r))) ∷ []))
      → On Op prints s ds digits holds aim o under own (prints.append d t) (state (body ∷ []) (Obj (Dict type) ∷ Obj (Int (word place)) ∷ Key space ∷ Obj (Int (pos (suc r))) ∷ []))
      → On Op prints s ds digits holds aim o under (further 2 (suc (further m own))) (prints.append d t) (state (show_body ∷ []) (Obj (Dict type) ∷ Obj (Int (word place)) ∷ Key space ∷ Obj (Int (pos (suc r))) ∷ []))
  shows_by k type place kind own left t r o under body m room has by g =
      let room' : Room o under = room_here Op prints s ds digits holds aim k o under room in
      let vs : List Val = Obj (Int (word place)) ∷ Key space ∷ Obj (Int (pos (suc r))) ∷ [] in
      goes_on Op prints s ds (words digits) holds.knows aim o under room' 2 (suc (further m own)) (prints.append d t)
      (state (show_body ∷ []) (Obj (Dict type) ∷ vs)) (state (w "get" show_kind ∷ []) (Key (codes "kind") ∷ Obj (Dict type) ∷ Obj (Dict type) ∷ vs)) refl
      (goes_get Op prints s ds (words digits) holds.knows aim o under (codes "get") (codes "kind") show_kind [] type (Key kind) (Obj (Dict type) ∷ vs) (further m own) (prints.append d t) holds.get has
      (goes_on Op prints s ds (words digits) holds.knows aim o under room' m own (prints.append d t)
      (state (show_kind ∷ []) (Key kind ∷ Obj (Dict type) ∷ vs)) (state (body ∷ []) (Obj (Dict type) ∷ vs)) by g))

  -- a character is shown
  pub char_shows : (k : ℕ) (type : DictId) (place : ℕ) (n : ℤ) → HasKey s type (codes "kind") (Key (codes "char")) → Fetches Op prints s aim.first d space (word place) (codes "c") n
      → (r : ℕ) → Shows Op prints s ds digits holds aim k d type space 0 r place (char_thing (prints.char_text n))
  char_shows k type place n kind known r t left o under room within g =
      shows_by k type place (codes "char") (showchar_steps left) left t r o under showchar_body 30 room kind refl
      (char_run o under (room_here Op prints s ds digits holds aim k o under room) r left (omega arith) n (word place) (Obj (Dict type)) t known g)

  -- a pointer is shown
  pub pointer_shows : (k : ℕ) (type target : DictId) (kind text : List ℕ) (place : ℕ) (n : ℤ) (tail : Tail) → HasKey s type (codes "kind") (Key (codes "pointer"))
      → HasKey s type (codes "to") (Obj (Dict target)) → HasKey s target (codes "kind") (Key kind) → Fetches Op prints s aim.first d space (word place) (codes "p") n → PointerText prints s aim.first d kind n text tail
      → (r : ℕ) → Shows Op prints s ds digits holds aim k d type space 0 r place (pointer_thing tail text)
  pointer_shows k type target kind text place n tail its to target_kind known shown r t left o under room within g =
      shows_by k type place (codes "pointer") (showpointer_steps tail left) left t r o under showpointer_body 30 room its refl
      (pointer_goes o under (room_here Op prints s ds digits holds aim k o under room) r left (omega arith) type target kind text (word place) n t tail to target_kind known shown g)

  -- an array of characters is shown
  pub string_shows : (k : ℕ) (type item : DictId) (kind text : List ℕ) (place count : ℕ) → bytes_eq kind (codes "char") ≡ true → HasKey s type (codes "kind") (Key (codes "array"))
      → HasKey s type (codes "to") (Obj (Dict item)) → HasKey s type (codes "count") (Obj (Int (pos count))) → HasKey s item (codes "kind") (Key kind) → PutsChars Op prints s aim.first d space (word place) count text
      → (r : ℕ) → Shows Op prints s ds digits holds aim k d type space 0 r place (string_thing text)
  string_shows k type item kind text place count test its to counts item_kind lies r t left o under room within g =
      shows_by k type place (codes "array") (string_steps left) left t r o under showarray_body 8 room its refl
      (string_run o under (room_here Op prints s ds digits holds aim k o under room) r left (omega arith) type item kind text (word place) count t test to counts item_kind lies g)
