-- Single operators of the dialect in a run.
use Rattle.std.proofs.Common.{◌≡◌, ℕ, ℤ, pos, zero, suc, ◌+◌, ◌-◌, ◌<◌, ◌≤◌, ◌/◌, ◌%◌, ◌^◌, Bool, true, false, Some, None, Result, Ok, List, [], ◌∷◌, ◌++◌, length, slice_get, slice_index_or, append-nil, nat_le, int_le, codes, refl, sym, ap, ◌∙◌, subst, arith, le-leb}
use Rattle.std.proofs.lemmas.Int.{to_z_pos}
use Rattle.std.specs.Int.{w32}
use Rattle.ps_store.specs.declared.object.PsObj.{PsObj}
use Rattle.ps_store.specs.declared.object.PsObj.TheVariants.{Int, Str, Array, Op as OpObj}
use Rattle.ps_store.specs.declared.object.ArrayId.{ArrayId}
use Rattle.ps_store.specs.declared.object.DictId.{DictId}
use Rattle.ps_store.specs.StoreState.{StoreState}
use Rattle.ps_store.specs.Store.{held, elements_of, bytes_of}
use Rattle.ps_step.specs.declared.fault.PsError.{PsError}
use Rattle.ps_step.specs.declared.item.Item.{Item}
use Rattle.ps_step.specs.declared.machine.PsCore.{PsCore}
use Rattle.ps_step.specs.Keys.{named}
use Rattle.ps_step.specs.Operator.{operator_at}
use Rattle.ps_step.specs.Results.{◌>>=◌, at}
use Rattle.ps_step.specs.Values.{count_of, as_count, within}
use Rattle.ps_step.specs.Composites.{value_in}
use Rattle.ps_step.specs.State.{with_operands}
use Rattle.ps_step.specs.Executing.{alone, numbered}
use Rattle.ps_run.specs.Runs.{Operates}
use Rattle.ps_text.specs.Code.{Code, Word}
use Rattle.ps_terms.specs.Faring.{Aim}
use Rattle.ps_terms.specs.Machine.{Val, Obj, Key, Bytes, State, state, entered}
use Rattle.ps_terms.specs.Stands.{Are, more, Keeps, core}
use Rattle.ps_terms.specs.Printing.{word, AllPrintable, Surely, Printing, FindsAt, Finds}
use Rattle.ps_terms.proofs.Going.{Goes, goes_asked, goes_found, goes_made}
use Rattle.ps_text.specs.Grown.{HasArray}
use Rattle.ps_print.specs.Words.{words, Holds}
use Rattle.ps_print.specs.Laid.{PutsChars, PutsPointer, Counts}

-- an array that holds something, or has elements, is there
row_there : (arrays : List (List PsObj)) (k i : ℕ) (x : PsObj) → slice_get (slice_index_or arrays k []) i ≡ Some x → k < length arrays
row_there [] k i x h = absurd cc
row_there (a ∷ arrays) zero i x h = omega arith
row_there (a ∷ arrays) (suc k) i x h = let e = row_there arrays k i x h in omega arith

pub array_there : (s : StoreState) (a : ArrayId) (i : ℕ) (x : PsObj) → slice_get (elements_of s a) i ≡ Some x → HasArray s a
array_there s a i x h = row_there (held s a.part).arrays a.index i x h

long_there : (arrays : List (List PsObj)) (k : ℕ) → 1 ≤ length (slice_index_or arrays k []) → k < length arrays
long_there [] k h = absurd (omega arith)
long_there (a ∷ arrays) zero h = omega arith
long_there (a ∷ arrays) (suc k) h = let e = long_there arrays k h in omega arith

pub some_there : (s : StoreState) (a : ArrayId) (n : ℕ) → length (elements_of s a) ≡ n → 1 ≤ n → HasArray s a
some_there s a n e h = long_there (held s a.part).arrays a.index (omega (arith, e))

pub word_small : (n : ℕ) → n < 2 ^ 31 → word n ≡ pos n
word_small n h = to_z_pos w32 n h

module _ {D : Type 0} (Op : Operates D) (prints : Printing Op) (s : StoreState) (ds : List DictId) (digits : ArrayId) (holds : Holds s ds digits) (aim : Aim Op prints s ds)
    (o : List PsObj) (under : List Item) where
  abbrev pub On : ℕ → D → State → Type 0
  On n d st = Goes Op prints s ds (words digits) holds.knows aim o under n d st

  pub put_goes : (rest : Code) (ks : List Code) (text : List ℕ) (vs : List Val) (n : ℕ) (d : D) → AllPrintable text
      → On n (prints.append d text) (state (entered rest ks) vs) → On (suc n) d (state (Word (codes "Put") rest ∷ ks) (Bytes text ∷ vs))
  put_goes rest ks text vs n d printable g =
      goes_asked Op prints s ds (words digits) holds.knows aim o under 89 28 (codes "Put") rest ks (Bytes text ∷ vs) vs n d (prints.append d text) holds.put refl refl does g
    where
      does : (now : StoreState) → Keeps s ds now → (xs : List PsObj) (items : List Item) → Are s xs (Bytes text ∷ vs)
          → (xs' : List PsObj) × Are s xs' vs × Surely Op d (core now ds (xs ++ o) items) 28 (prints.append d text) (core now ds (xs' ++ o) items)
      does now keeps _ items (more x v xs vs' i r) =
          let text_is : bytes_of now i.0 ≡ text = (keeps.strings i.0 text i.2).bytes in (
            xs,
            r,
            subst (λ t. Surely Op d (core now ds (x ∷ (xs ++ o)) items) 28 (prints.append d t) (core now ds (xs ++ o) items)) text_is
                (prints.put d (core now ds (x ∷ (xs ++ o)) items) i.0 false (xs ++ o) (ap (λ z. z ∷ (xs ++ o)) i.1) (subst AllPrintable (sym text_is) printable)),
          )

  two : (x y z w : PsObj) (zs : List PsObj) → x ≡ z → y ≡ w → x ∷ y ∷ zs ≡ z ∷ w ∷ zs
  two x y z w zs i j = ap (λ u. u ∷ y ∷ zs) i ∙ ap (λ u. z ∷ u ∷ zs) j

  pub udivs_goes : (rest : Code) (ks : List Code) (a b : ℕ) (vs : List Val) (n : ℕ) (d : D) → a < 2 ^ 32 → b < 2 ^ 32 → 0 < b
      → On n d (state (entered rest ks) (Obj (Int (word (a / b))) ∷ vs)) → On (suc n) d (state (Word (codes "udivs") rest ∷ ks) (Obj (Int (word b)) ∷ Obj (Int (word a)) ∷ vs))
  udivs_goes rest ks a b vs n d la lb some g =
      goes_asked Op prints s ds (words digits) holds.knows aim o under 75 14 (codes "udivs") rest ks _ _ n d d holds.udivs refl refl does g
    where
      does : (now : StoreState) → Keeps s ds now → (xs : List PsObj) (items : List Item) → Are s xs (Obj (Int (word b)) ∷ Obj (Int (word a)) ∷ vs)
          → (xs' : List PsObj) × Are s xs' (Obj (Int (word (a / b))) ∷ vs) × Surely Op d (core now ds (xs ++ o) items) 14 d (core now ds (xs' ++ o) items)
      does now keeps _ items (more x _ _ _ i (more y _ xs vs' j r)) = (
        Int (word (a / b)) ∷ xs,
        more (Int (word (a / b))) (Obj (Int (word (a / b)))) xs vs refl r,
        prints.udivs d (core now ds (x ∷ y ∷ (xs ++ o)) items) a b (xs ++ o) (two x y _ _ (xs ++ o) i j) la lb some,
      )

  pub urem_goes : (rest : Code) (ks : List Code) (a b : ℕ) (vs : List Val) (n : ℕ) (d : D) → a < 2 ^ 32 → b < 2 ^ 32 → 0 < b
      → On n d (state (entered rest ks) (Obj (Int (word (a % b))) ∷ vs)) → On (suc n) d (state (Word (codes "urem") rest ∷ ks) (Obj (Int (word b)) ∷ Obj (Int (word a)) ∷ vs))
  urem_goes rest ks a b vs n d la lb some g =
      goes_asked Op prints s ds (words digits) holds.knows aim o under 76 15 (codes "urem") rest ks _ _ n d d holds.urem refl refl does g
    where
      does : (now : StoreState) → Keeps s ds now → (xs : List PsObj) (items : List Item) → Are s xs (Obj (Int (word b)) ∷ Obj (Int (word a)) ∷ vs)
          → (xs' : List PsObj) × Are s xs' (Obj (Int (word (a % b))) ∷ vs) × Surely Op d (core now ds (xs ++ o) items) 15 d (core now ds (xs' ++ o) items)
      does now keeps _ items (more x _ _ _ i (more y _ xs vs' j r)) = (
        Int (word (a % b)) ∷ xs,
        more (Int (word (a % b))) (Obj (Int (word (a % b)))) xs vs refl r,
        prints.urem d (core now ds (x ∷ y ∷ (xs ++ o)) items) a b (xs ++ o) (two x y _ _ (xs ++ o) i j) la lb some,
      )

  pub usub_goes : (rest : Code) (ks : List Code) (a b : ℕ) (vs : List Val) (n : ℕ) (d : D) → a < 2 ^ 32 → b < 2 ^ 32
      → On n d (state (entered rest ks) (Obj (Int (word ((a + 2 ^ 32 - b) % 2 ^ 32))) ∷ vs)) → On (suc n) d (state (Word (codes "usub") rest ∷ ks) (Obj (Int (word b)) ∷ Obj (Int (word a)) ∷ vs))
  usub_goes rest ks a b vs n d la lb g =
      goes_asked Op prints s ds (words digits) holds.knows aim o under 78 17 (codes "usub") rest ks _ _ n d d holds.usub refl refl does g
    where
      does : (now : StoreState) → Keeps s ds now → (xs : List PsObj) (items : List Item) → Are s xs (Obj (Int (word b)) ∷ Obj (Int (word a)) ∷ vs)
          → (xs' : List PsObj) × Are s xs' (Obj (Int (word ((a + 2 ^ 32 - b) % 2 ^ 32))) ∷ vs) × Surely Op d (core now ds (xs ++ o) items) 17 d (core now ds (xs' ++ o) items)
      does now keeps _ items (more x _ _ _ i (more y _ xs vs' j r)) = (
        Int (word ((a + 2 ^ 32 - b) % 2 ^ 32)) ∷ xs,
        more _ (Obj (Int (word ((a + 2 ^ 32 - b) % 2 ^ 32)))) xs vs refl r,
        prints.usub d (core now ds (x ∷ y ∷ (xs ++ o)) items) a b (xs ++ o) (two x y _ _ (xs ++ o) i j) la lb,
      )

  -- what an array holds at a place is there, and so is the array
  element : (now : StoreState) → Keeps s ds now → (a : ArrayId) (e : Bool) (i : ℕ) (y : PsObj) → slice_get (elements_of s a) i ≡ Some y → value_in now (Array a e) (Int (pos i)) ≡ Ok y
  element now keeps a e i y h =
      let some : int_le (pos 0) (pos i) ≡ true = le-leb 0 i (omega arith) in
      let place : count_of (Int (pos i)) ≡ Ok i = rw some refl in
      let same : elements_of now a ≡ elements_of s a = keeps.arrays a (array_there s a i y h) in
      ap (λ (c : Result ℕ PsError). c >>= λ n. within (slice_get (elements_of now a) n)) place ∙ ap (λ (l : List PsObj). within (slice_get l i)) same ∙ ap within h

  -- a digit's string
  got : (now : StoreState) → Keeps s ds now → (r : ℕ) → r < 10 → (x : PsObj) → slice_get (elements_of s digits) r ≡ Some x → value_in now (Array digits false) (Int (word r)) ≡ Ok x
  got now keeps r h x e = ap (λ z. value_in now (Array digits false) (Int z)) (word_small r (omega arith)) ∙ element now keeps digits false r x e

  pub digit_goes : (rest : Code) (ks : List Code) (r : ℕ) (vs : List Val) (n : ℕ) (d : D) → r < 10
      → On n d (state (entered rest ks) (Bytes ((48 + r) ∷ []) ∷ vs)) → On (suc n) d (state (Word (codes "get") rest ∷ ks) (Obj (Int (word r)) ∷ Obj (Array digits false) ∷ vs))
  digit_goes rest ks r vs n d h g =
      goes_made Op prints s ds (words digits) holds.knows aim o under 32 (codes "get") rest ks _ _ n d holds.get does g
    where
      does : (now : StoreState) → Keeps s ds now → (xs : List PsObj) (items : List Item) → Are s xs (Obj (Int (word r)) ∷ Obj (Array digits false) ∷ vs)
          → (xs' : List PsObj) × Are s xs' (Bytes ((48 + r) ∷ []) ∷ vs) × (numbered 32 (core now ds (xs ++ o) items) ≡ Ok (core now ds (xs' ++ o) items, None))
      does now keeps _ items (more x _ _ _ i (more y _ xs vs' j q)) =
          let f = holds.digit r h in (
            Str f.0 false ∷ xs,
            more (Str f.0 false) (Bytes ((48 + r) ∷ [])) xs vs (f.0, refl, f.2) q,
            ap (λ zs. numbered 32 (core now ds zs items)) (two x y _ _ (xs ++ o) i j)
                ∙ ap (λ (v : Result PsObj PsError). alone (at (core now ds (Int (word r) ∷ Array digits false ∷ (xs ++ o)) items) (v >>= λ z. Ok (core now ds (z ∷ (xs ++ o)) items))))
                (got now keeps r h (Str f.0 false) f.1),
          )

  -- a value is fetched
  pub fetch_goes : (rest : Code) (ks : List Code) (space kind : List ℕ) (n v : ℤ) (vs : List Val) (left : ℕ) (d : D)
      → FindsAt Op prints s aim.first d d 6 (Key kind ∷ Obj (Int n) ∷ Key space ∷ []) (Int v ∷ [])
      → On left d (state (entered rest ks) (Obj (Int v) ∷ vs)) → On (suc left) d (state (Word (codes "fetch") rest ∷ ks) (Key kind ∷ Obj (Int n) ∷ Key space ∷ vs))
  fetch_goes rest ks space kind n v vs left d known g =
      goes_found Op prints s ds (words digits) holds.knows aim o under 67 6 (codes "fetch") rest ks (Key kind ∷ Obj (Int n) ∷ Key space ∷ []) (Int v ∷ []) vs left d d holds.fetch refl refl known g

  pub uadd_goes : (rest : Code) (ks : List Code) (a b : ℕ) (vs : List Val) (n : ℕ) (d : D) → a < 2 ^ 32 → b < 2 ^ 32
      → On n d (state (entered rest ks) (Obj (Int (word ((a + b) % 2 ^ 32))) ∷ vs)) → On (suc n) d (state (Word (codes "uadd") rest ∷ ks) (Obj (Int (word b)) ∷ Obj (Int (word a)) ∷ vs))
  uadd_goes rest ks a b vs n d la lb g =
      goes_asked Op prints s ds (words digits) holds.knows aim o under 77 16 (codes "uadd") rest ks _ _ n d d holds.uadd refl refl does g
    where
      does : (now : StoreState) → Keeps s ds now → (xs : List PsObj) (items : List Item) → Are s xs (Obj (Int (word b)) ∷ Obj (Int (word a)) ∷ vs)
          → (xs' : List PsObj) × Are s xs' (Obj (Int (word ((a + b) % 2 ^ 32))) ∷ vs) × Surely Op d (core now ds (xs ++ o) items) 16 d (core now ds (xs' ++ o) items)
      does now keeps _ items (more x _ _ _ i (more y _ xs vs' j r)) = (
        Int (word ((a + b) % 2 ^ 32)) ∷ xs,
        more _ (Obj (Int (word ((a + b) % 2 ^ 32)))) xs vs refl r,
        prints.uadd d (core now ds (x ∷ y ∷ (xs ++ o)) items) a b (xs ++ o) (two x y _ _ (xs ++ o) i j) la lb,
      )

  -- more is appended to what was
  pub put_at : (rest : Code) (ks : List Code) (text : List ℕ) (vs : List Val) (n : ℕ) (d : D) (t : List ℕ) → AllPrintable text
      → On n (prints.append d (t ++ text)) (state (entered rest ks) vs) → On (suc n) (prints.append d t) (state (Word (codes "Put") rest ∷ ks) (Bytes text ∷ vs))
  put_at rest ks text vs n d t printable g =
      put_goes rest ks text vs n (prints.append d t) printable (subst (λ d. On n d (state (entered rest ks) vs)) (sym (prints.append_twice d t text)) g)

  -- an operator that appends a text in the place of one integer
  one_goes : (p op : ℕ) (name : List ℕ) (rest : Code) (ks : List Code) (v : ℤ) (text : List ℕ) (vs : List Val) (n : ℕ) (d : D)
      → named s ds name ≡ Some (OpObj p) → operator_at p ≡ None → p - 61 ≡ op
      → ((c : PsCore) (xs : List PsObj) → c.operands ≡ Int v ∷ xs → Surely Op d c op (prints.append d text) (with_operands c xs))
      → On n (prints.append d text) (state (entered rest ks) vs) → On (suc n) d (state (Word name rest ∷ ks) (Obj (Int v) ∷ vs))
  one_goes p op name rest ks v text vs n d means none_at numbers surely g =
      goes_asked Op prints s ds (words digits) holds.knows aim o under p op name rest ks (Obj (Int v) ∷ vs) vs n d (prints.append d text) means none_at numbers does g
    where
      does : (now : StoreState) → Keeps s ds now → (xs : List PsObj) (items : List Item) → Are s xs (Obj (Int v) ∷ vs)
          → (xs' : List PsObj) × Are s xs' vs × Surely Op d (core now ds (xs ++ o) items) op (prints.append d text) (core now ds (xs' ++ o) items)
      does now keeps _ items (more x _ xs vs' i r) = (xs, r, surely (core now ds (x ∷ (xs ++ o)) items) (xs ++ o) (ap (λ z. z ∷ (xs ++ o)) i))

  pub put_char_goes : (rest : Code) (ks : List Code) (v : ℤ) (vs : List Val) (n : ℕ) (d : D)
      → On n (prints.append d (prints.char_text v)) (state (entered rest ks) vs) → On (suc n) d (state (Word (codes "PutChar") rest ∷ ks) (Obj (Int v) ∷ vs))
  put_char_goes rest ks v vs n d g = one_goes 90 29 (codes "PutChar") rest ks v (prints.char_text v) vs n d holds.put_char refl refl (λ c xs e. prints.put_char d c v xs e) g

  -- what an operator gives that appends nothing
  pub told_nothing : (d : D) (op : ℕ) (taken : List Val) (left : List PsObj) (t : List ℕ) → Finds Op prints s aim.first d op taken left [] → FindsAt Op prints s aim.first (prints.append d t) (prints.append d t) op taken left
  told_nothing d op taken left t known = subst (λ l. FindsAt Op prints s aim.first (prints.append d t) (prints.append d l) op taken left) (append-nil t) (known t)

  pub put_pointer_goes : (rest : Code) (ks : List Code) (v : ℤ) (text : List ℕ) (vs : List Val) (n : ℕ) (d : D) (t : List ℕ) → PutsPointer Op prints s aim.first d v text
      → On n (prints.append d (t ++ text)) (state (entered rest ks) vs) → On (suc n) (prints.append d t) (state (Word (codes "PutPointer") rest ∷ ks) (Obj (Int v) ∷ vs))
  put_pointer_goes rest ks v text vs n d t known g =
      goes_found Op prints s ds (words digits) holds.knows aim o under 91 30 (codes "PutPointer") rest ks (Obj (Int v) ∷ []) [] vs n (prints.append d t) (prints.append d (t ++ text)) holds.put_pointer refl refl (known t) g

  -- how many characters lie where a pointer leads
  pub charrun_goes : (rest : Code) (ks : List Code) (v : ℤ) (count : ℕ) (vs : List Val) (n : ℕ) (d : D) (t : List ℕ) → Counts Op prints s aim.first d v count
      → On n (prints.append d t) (state (entered rest ks) (Obj (Int (pos count)) ∷ vs)) → On (suc n) (prints.append d t) (state (Word (codes "charrun") rest ∷ ks) (Obj (Int v) ∷ vs))
  charrun_goes rest ks v count vs n d t known g =
      goes_found Op prints s ds (words digits) holds.knows aim o under 93 32 (codes "charrun") rest ks (Obj (Int v) ∷ []) (Int (pos count) ∷ []) vs n (prints.append d t) (prints.append d t) holds.charrun refl refl
      (told_nothing d 32 (Obj (Int v) ∷ []) (Int (pos count) ∷ []) t known) g

  -- a string at a place is appended
  pub put_chars_goes : (rest : Code) (ks : List Code) (space : List ℕ) (v : ℤ) (count : ℕ) (text : List ℕ) (vs : List Val) (n : ℕ) (d : D) (t : List ℕ) → PutsChars Op prints s aim.first d space v count text
      → On n (prints.append d (t ++ text)) (state (entered rest ks) vs) → On (suc n) (prints.append d t) (state (Word (codes "PutChars") rest ∷ ks) (Obj (Int (pos count)) ∷ Obj (Int v) ∷ Key space ∷ vs))
  put_chars_goes rest ks space v count text vs n d t known g =
      goes_found Op prints s ds (words digits) holds.knows aim o under 92 31 (codes "PutChars") rest ks (Obj (Int (pos count)) ∷ Obj (Int v) ∷ Key space ∷ []) [] vs n (prints.append d t) (prints.append d (t ++ text)) holds.put_chars refl refl (known t) g

  -- an element of an array
  pub element_goes : (rest : Code) (ks : List Code) (a : ArrayId) (e : Bool) (i : ℕ) (y : PsObj) (vs : List Val) (n : ℕ) (d : D) → slice_get (elements_of s a) i ≡ Some y
      → On n d (state (entered rest ks) (Obj y ∷ vs)) → On (suc n) d (state (Word (codes "get") rest ∷ ks) (Obj (Int (pos i)) ∷ Obj (Array a e) ∷ vs))
  element_goes rest ks a e i y vs n d there g =
      goes_made Op prints s ds (words digits) holds.knows aim o under 32 (codes "get") rest ks _ _ n d holds.get does g
    where
      does : (now : StoreState) → Keeps s ds now → (xs : List PsObj) (items : List Item) → Are s xs (Obj (Int (pos i)) ∷ Obj (Array a e) ∷ vs)
          → (xs' : List PsObj) × Are s xs' (Obj y ∷ vs) × (numbered 32 (core now ds (xs ++ o) items) ≡ Ok (core now ds (xs' ++ o) items, None))
      does now keeps _ items (more x _ _ _ h (more z _ xs vs' j q)) = (
        y ∷ xs,
        more y (Obj y) xs vs refl q,
        ap (λ zs. numbered 32 (core now ds zs items)) (two x z _ _ (xs ++ o) h j)
            ∙ ap (λ (v : Result PsObj PsError). alone (at (core now ds (Int (pos i) ∷ Array a e ∷ (xs ++ o)) items) (v >>= λ z. Ok (core now ds (z ∷ (xs ++ o)) items))))
            (element now keeps a e i y there),
      )

  -- how many elements an array has
  pub length_goes : (rest : Code) (ks : List Code) (a : ArrayId) (e : Bool) (count : ℕ) (vs : List Val) (n : ℕ) (d : D) → HasArray s a → length (elements_of s a) ≡ count → count < 2 ^ 31
      → On n d (state (entered rest ks) (Obj (Int (pos count)) ∷ vs)) → On (suc n) d (state (Word (codes "length") rest ∷ ks) (Obj (Array a e) ∷ vs))
  length_goes rest ks a e count vs n d has many few g =
      goes_made Op prints s ds (words digits) holds.knows aim o under 34 (codes "length") rest ks _ _ n d holds.length_of does g
    where
      fits : nat_le count 2147483647 ≡ true
      fits = le-leb count 2147483647 (omega arith)

      counted : (now : StoreState) → Keeps s ds now → as_count (length (elements_of now a)) ≡ Ok (Int (pos count))
      counted now keeps = ap (λ (l : List PsObj). as_count (length l)) (keeps.arrays a has) ∙ ap as_count many ∙ rw fits refl

      does : (now : StoreState) → Keeps s ds now → (xs : List PsObj) (items : List Item) → Are s xs (Obj (Array a e) ∷ vs)
          → (xs' : List PsObj) × Are s xs' (Obj (Int (pos count)) ∷ vs) × (numbered 34 (core now ds (xs ++ o) items) ≡ Ok (core now ds (xs' ++ o) items, None))
      does now keeps _ items (more x _ xs vs' h q) = (
        Int (pos count) ∷ xs,
        more (Int (pos count)) (Obj (Int (pos count))) xs vs refl q,
        ap (λ z. numbered 34 (core now ds (z ∷ (xs ++ o)) items)) h
            ∙ ap (λ (c : Result PsObj PsError). alone (at (core now ds (Array a e ∷ (xs ++ o)) items) (c >>= λ z. Ok (core now ds (z ∷ (xs ++ o)) items)))) (counted now keeps),
      )
