-- A pointer is moved by counted items, and to a member: what the pieces of these come to.
use Rattle.std.proofs.Common.{◌≡◌, refl, sym, ap, subst, ◌∙◌, ℕ, ℤ, zero, suc, ◌+◌, ◌*◌, ◌/◌, ◌%◌, ◌^◌, ◌<◌, ◌≤◌, ◌⊎◌, inl, inr, nat_le, nat_lt, ◌&&◌, not, true, false, Bool, if◌then◌else◌, Result, Ok, Err, List, [], ◌∷◌, length, codes, pos, negsuc, lit<, lit≤, lt-ltb, le-ltb, le-leb, ltb-true, ltb-false, true≢false, arith}
use Rattle.std.specs.Prelude.{◌==◌, ◌*ℤ◌, neg_ℤ, int_lt, bit_and, None}
use Rattle.std.specs.Ordering.{int_cmp}
use Rattle.std.specs.Int.{w32, int_bit_and}
use Rattle.std.proofs.Math.IntN.{*ℤ_comm, *ℤ-zero, zero-*ℤ}
use Rattle.std.proofs.Math.Nat.{mul_comm, mul-le-mul_right}
use Rattle.std.proofs.lemmas.Grind.{and_numeral}
use Rattle.ldb_words.specs.Word.{signed}
use Rattle.ldb_words.specs.declared.kinds.Undef.{Undef}
use Rattle.c_tree.specs.declared.types.CType.{CType}
use Rattle.c_tree.specs.declared.types.StructDef.{StructDef}
use Rattle.c_tree.specs.Types.{is_unsigned}
use Rattle.c_tree.specs.Layout.{size_of}
use Rattle.c_judge.specs.declared.symbol.Symbol.{Symbol}
use Rattle.ps_store.specs.declared.object.PsObj.{PsObj}
use Rattle.ps_store.specs.declared.object.PsObj.TheVariants.{Int, Bool as Truth}
use Rattle.ps_store.specs.declared.object.DictId.{DictId}
use Rattle.ps_store.specs.StoreState.{StoreState}
use Rattle.ps_step.specs.declared.fault.PsError.{PsError}
use Rattle.ps_step.specs.declared.fault.PsError.TheVariants.{Pointer}
use Rattle.ps_step.specs.declared.fault.PsFault.TheVariants.{Spent}
use Rattle.ps_step.specs.declared.item.Item.{Item}
use Rattle.ps_step.specs.declared.machine.PsCore.{PsCore}
use Rattle.ps_step.specs.Compare.{holds}
use Rattle.ps_step.specs.declared.compare.Relation.TheVariants.{Lt}
use Rattle.ps_step.specs.Executing.{numbered}
use Rattle.ps_step.specs.Item.{under_stopped}
use Rattle.ps_run.specs.Runs.{Answer}
use Rattle.ps_text.specs.Code.{Code, Stop, Num, Word}
use Rattle.ps_terms.specs.Machine.{entered}
use Rattle.ps_terms.specs.Stands.{Frames, core}
use Rattle.ps_words.specs.declared.words.WordOperator.TheVariants as word_op
use Rattle.ps_words.specs.Words.{of_two}
use Rattle.ps_words.specs.Operators.{integer}
use Rattle.ps_emit.specs.Terms.{◌⋯◌}
use Rattle.dialect_model.specs.Dial.{Dial}
use Rattle.c_bytes.specs.Lvalues.{Scene, Means, moved}
use Rattle.expr_serve.specs.Types.{bytes_of}
use Rattle.expr_serve.specs.Operators as pieces
use Rattle.expr_serve.specs.Codes.{near, far, further, bytes_by, halved, beyond, large_items, signed_items, unsigned_items, by_items}
use Rattle.serving_laws.specs.Left.{AreOperators}
use Rattle.serving_laws.specs.Named.{dial_in, dictionaries_in}
use Rattle.serving_laws.specs.Evaluated.{IsSettled, HasSmallObjects, IsCount, IsOffset}
use Rattle.serving_laws.proofs.Names.{dup_is, pop_is, index_is, and_is as and_named, lt_is, ushr_is}
use Rattle.serving_laws.proofs.Numbers.{and_is, less_is}
use Rattle.serving_laws.proofs.Stepping.{at_bottom, not_stopped, number_reaches, manual_reaches}
use Rattle.serving_laws.proofs.Operating.{choice_reaches, bits_reach, exchanged, two_reaches, ushr_acts}
use Rattle.serving_laws.proofs.Evaluating.{At, Reached, Behind, Goes, Breaks}
use Rattle.serving_laws.proofs.Pointing.{seen, sum_seen, moved_comes, sum_reaches, summed_reaches}
use Rattle.serving_laws.proofs.Far.{IsFar, first_breaks, second_breaks, whole_breaks}

-- ---- numbers

signed_pos : (n : ℕ) → nat_lt n 2147483648 ≡ true → signed n ≡ pos n
signed_pos n half = rw half refl

is_negative : (n : ℕ) (b : Bool) → nat_lt n 2147483648 ≡ b → int_lt (signed n) (pos 0) ≡ not b
is_negative n true e = rw e (le-ltb n 0 (omega arith))
is_negative n false e = rw e refl

low_bit : (n : ℕ) → bit_and n 1 ≡ n % 2
low_bit n = and_numeral n 0 refl

pub size_same : (defs : List StructDef) (k : CType) → size_of defs k ≤ 1048576 → bytes_of defs k ≡ size_of defs k
size_same defs k h =
    let low : nat_le (size_of defs k) 1048576 ≡ true = le-leb _ _ h in
    rw low refl

back_product : (a : ℤ) (b : ℕ) → a *ℤ neg_ℤ (pos b) ≡ pos b *ℤ neg_ℤ a
back_product a zero = *ℤ-zero a ∙ sym (zero-*ℤ (neg_ℤ a))
back_product (pos zero) (suc n) = zero-*ℤ (negsuc n) ∙ sym (*ℤ-zero (pos (suc n)))
back_product (pos (suc m)) (suc n) = ap (λ (z : ℕ). neg_ℤ (pos z)) (mul_comm (suc m) (suc n))
back_product (negsuc m) (suc n) = ap pos (mul_comm (suc m) (suc n))

-- so many, or so many back
abbrev turned : (is_back : Bool) → ℤ → ℤ
turned is_back z = if is_back then neg_ℤ z else z

product_is : (is_back : Bool) (size : ℕ) (a : ℤ) → a *ℤ bytes_by is_back size ≡ pos size *ℤ turned is_back a
product_is true size a = back_product a size
product_is false size a = *ℤ_comm a (pos size)

negative_product : (m n : ℕ) → 0 < m → 0 < n → pos m *ℤ neg_ℤ (pos n) ≡ neg_ℤ (pos (m * n))
negative_product zero n h k = absurd (omega (arith, h))
negative_product (suc m) zero h k = absurd (omega (arith, k))
negative_product (suc m) (suc n) h k = refl

far_items : (is_back : Bool) (size n : ℕ) → 0 < size → 2 ^ 31 ≤ n → IsFar (pos size *ℤ turned is_back (pos n))
far_items is_back size n some large = (size * n, omega (arith, least, large), by is_back)
  where
    one : 1 ≤ size
    one = omega (arith, some)

    least : 1 * n ≤ size * n
    least = mul-le-mul_right n one

    by : (b : Bool) → (pos size *ℤ turned b (pos n) ≡ pos (size * n)) ⊎ (pos size *ℤ turned b (pos n) ≡ neg_ℤ (pos (size * n)))
    by false = inl refl
    by true = inr (negative_product size n some (omega (arith, large)))

far_half : (is_back : Bool) (n : ℕ) → 2 ^ 31 ≤ n → IsFar (pos (n / 2) *ℤ bytes_by is_back 2)
far_half is_back n large = (n / 2 * 2, omega (arith, large), by is_back)
  where
    by : (b : Bool) → (pos (n / 2) *ℤ bytes_by b 2 ≡ pos (n / 2 * 2)) ⊎ (pos (n / 2) *ℤ bytes_by b 2 ≡ neg_ℤ (pos (n / 2 * 2)))
    by false = inl refl
    by true = inr (negative_product (n / 2) 2 (omega (arith, large)) (lit< tt))

far_beyond : IsFar (pos 2147483647 *ℤ pos 2147483647)
far_beyond = (2147483647 * 2147483647, lit≤ tt, inl refl)

abbrev word_done : ℕ → Result ℕ Undef
word_done n = Ok n

word_is : (a b : ℕ) → word_done a ≡ word_done b → a ≡ b
word_is a b h = cc

shifted_once : (n v : ℕ) → of_two word_op.ShiftRight n 1 ≡ word_done v → v ≡ n / 2
shifted_once n v h = sym (word_is (n / 2) v h)

no_shift : (n : ℕ) (u : Undef) → of_two word_op.ShiftRight n 1 ≡ Err u → ⊥
no_shift n u h = cc

abbrev sum_done : ℕ → Result ℕ PsError
sum_done v = Ok v

no_sum : (e : PsError) (v : ℕ) → Err e ≡ sum_done v → ⊥
no_sum e v h = cc

-- how far so many items of a size lead
abbrev pub by_count : (is_back is_unsigned : Bool) → (size n : ℕ) → ℤ
by_count is_back u size n = pos size *ℤ turned is_back (if u then pos n else signed n)

none_of : (is_back u : Bool) (size n : ℕ) → size ≤ 0 → signed n *ℤ bytes_by is_back size ≡ by_count is_back u size n
none_of is_back u zero n h = product_is is_back 0 (signed n) ∙ zero-*ℤ (turned is_back (signed n)) ∙ sym (zero-*ℤ (turned is_back (if u then pos n else signed n)))
none_of is_back u (suc size) n h = absurd (omega (arith, h))

module _ (sc : Scene) (s : StoreState) (cell : ℕ) (own : DictId) (names : List Symbol) (out : List ℕ) (raw : Bool) (settled : IsSettled sc s) (are : AreOperators s (dictionaries_in s own))
    (Good : Answer → ℕ → Dial → PsCore → Type 0) (spent : (m : ℕ) (d' : Dial) (c' : PsCore) → Good (Err Spent) m d' c') where
  abbrev ds : List DictId
  ds = dictionaries_in s own

  abbrev d : Dial
  d = dial_in sc cell out raw

  abbrev Reach : List PsObj → List Item → Type 0
  Reach o items = Reached sc s cell own names out raw are Good spent o items

  abbrev Then : List Item → Code → List PsObj → Type 0
  Then under rest o = Behind sc s cell own names out raw are Good spent under rest o

  abbrev Starts : List Item → Code → List Item → Type 0
  Starts under k items = At sc s cell own names out raw are Good spent under k items

  abbrev Go : Means ℕ → List Item → Code → List PsObj → Type 0
  Go m under rest o = Goes sc s cell own names out raw are Good spent m under rest o

  abbrev Break : {A : Type 0} → Means A → Type 0
  Break m = Breaks sc s cell own names out raw are Good spent m

  abbrev sum : ℕ → ℤ → Result ℕ PsError
  sum p z = sum_seen sc s cell own out raw settled (seen sc s cell own out raw settled p) z

  -- ---- a move of less than 2^31 bytes

  near_reaches : (v n : ℕ) (rest : Code) (under : List Item) (o : List PsObj) (items : List Item) → v < 2 ^ 32 → nat_lt n 2147483648 ≡ true → under_stopped under ≡ None → length o + 5 ≤ 100000
      → Starts under (near n ⋯ rest) items → Go (moved sc v (pos n)) under rest o → Break (moved sc v (pos n)) → Reach (integer v ∷ o) items
  near_reaches v n rest under o items hv half none few f go bad =
      number_reaches s ds are d Good spent under (signed n) (Num (pos 1) (Word (codes "ptradd") rest)) (integer v ∷ o) items (omega (arith, few)) f
      (λ after f. number_reaches s ds are d Good spent under (pos 1) (Word (codes "ptradd") rest) (Int (signed n) ∷ integer v ∷ o) after (omega (arith, few)) f
      (λ after f. sum_reaches sc s cell own out raw settled are Good spent under none v (signed n) (pos 1) (pos n) rest o after hv (once n half) f go bad))
    where
      once : (n : ℕ) → nat_lt n 2147483648 ≡ true → signed n *ℤ pos 1 ≡ pos n
      once n half = rw half (ap pos (omega arith))

  -- ---- a move of more, in two

  -- the second part of a move, behind the first
  second_reaches : (objects : HasSmallObjects sc s) (v w n : ℕ) (z z' size by : ℤ) (rest : Code) (under : List Item) (o : List PsObj) (items : List Item) → w < 2 ^ 32 → IsFar by → IsFar z' → signed n *ℤ size ≡ z'
      → sum v z ≡ Ok w → under_stopped under ≡ None → Frames s under items (Word (codes "ptradd") rest ∷ []) → Break (moved sc v by) → Reach (Int size ∷ integer n ∷ integer w ∷ o) items
  second_reaches objects v w n z z' size by rest under o items hw whole far same first none f bad =
      let broken : sum w z' ≡ Err Pointer = second_breaks sc s cell own out raw settled objects v z z' w far first in
      summed_reaches sc s cell own out raw settled are Good spent under none w (signed n) size z' rest o items hw same f (moved sc v by) (sum v by) (moved_comes sc s cell own out raw settled v by)
      (λ e is. whole_breaks sc s cell own out raw settled objects v z by w whole first ∙ sym broken ∙ is) (λ x low is. absurd (no_sum Pointer x (sym broken ∙ is))) bad

  far_reaches : HasSmallObjects sc s → (v n : ℕ) (rest : Code) (under : List Item) (o : List PsObj) (items : List Item) → v < 2 ^ 32 → n < 2 ^ 32 → 2 ^ 31 ≤ n → under_stopped under ≡ None
      → length o + 5 ≤ 100000 → Starts under (far n ⋯ rest) items → Break (moved sc v (pos n)) → Reach (integer v ∷ o) items
  far_reaches objects v n rest under o items hv hn large none few f bad =
      let half : nat_lt (n / 2) 2147483648 ≡ true = lt-ltb _ _ (omega (arith, hn)) in
      let bit : nat_lt (n % 2) 2147483648 ≡ true = lt-ltb _ _ (omega arith) in
      let whole : IsFar (pos n) = (n, large, inl refl) in
      number_reaches s ds are d Good spent under (signed (n % 2)) _ (integer v ∷ o) items (omega (arith, few)) f
      (λ after f. number_reaches s ds are d Good spent under (pos 1) _ (integer (n % 2) ∷ integer v ∷ o) after (omega (arith, few)) f
      (λ after f. summed_reaches sc s cell own out raw settled are Good spent under none v (signed (n % 2)) (pos 1) (signed (n % 2) *ℤ pos 1) _ o after hv refl f (moved sc v (pos n)) (sum v (pos n))
      (moved_comes sc s cell own out raw settled v (pos n)) (first_breaks sc s cell own out raw settled objects v (signed (n % 2) *ℤ pos 1) (pos n) whole)
      (λ w hw first after f. number_reaches s ds are d Good spent under (signed (n / 2)) _ (integer w ∷ o) after (omega (arith, few)) f
      (λ after f. number_reaches s ds are d Good spent under (pos 2) _ (integer (n / 2) ∷ integer w ∷ o) after (omega (arith, few)) f
      (λ after f. second_reaches objects v w (n / 2) (signed (n % 2) *ℤ pos 1) (pos (n / 2) *ℤ pos 2) (pos 2) (pos n) rest under o after hw whole (far_half false n large)
      (ap (λ (z : ℤ). z *ℤ pos 2) (signed_pos (n / 2) half)) first none f bad))) bad))

  -- to a member
  pub further_reaches : (v n : ℕ) (rest : Code) (under : List Item) (o : List PsObj) (items : List Item) → v < 2 ^ 32 → IsOffset sc s n → under_stopped under ≡ None → length o + 5 ≤ 100000
      → Starts under (further n ⋯ rest) items → Go (moved sc v (pos n)) under rest o → Break (moved sc v (pos n)) → Reach (integer v ∷ o) items
  further_reaches v n rest under o items hv is none few f go bad = by (nat_lt n 2147483648) refl f is
    where
      by : (b : Bool) → nat_lt n 2147483648 ≡ b → Starts under ((if b then near n else far n) ⋯ rest) items → IsOffset sc s n → Reach (integer v ∷ o) items
      by true e f is = near_reaches v n rest under o items hv e none few f go bad
      by false e f (inl low) = absurd (let large = ltb-false _ _ e in omega (arith, low, large))
      by false e f (inr x) = far_reaches x.1 v n rest under o items hv x.0 (ltb-false _ _ e) none few f bad

  -- ---- counted items

  items_reach : (is_back : Bool) (v n size : ℕ) (by : ℤ) (rest : Code) (under : List Item) (o : List PsObj) (items : List Item) → v < 2 ^ 32 → signed n *ℤ bytes_by is_back size ≡ by → under_stopped under ≡ None
      → length o + 5 ≤ 100000 → Starts under (signed_items is_back size ⋯ rest) items → Go (moved sc v by) under rest o → Break (moved sc v by) → Reach (integer n ∷ integer v ∷ o) items
  items_reach is_back v n size by rest under o items hv same none few f go bad =
      number_reaches s ds are d Good spent under (bytes_by is_back size) (Word (codes "ptradd") rest) (integer n ∷ integer v ∷ o) items (omega (arith, few)) f
      (λ after f. sum_reaches sc s cell own out raw settled are Good spent under none v (signed n) (bytes_by is_back size) by rest o after hv same f go bad)

  -- single bytes, of which there are 2^31 or more
  halved_reaches : HasSmallObjects sc s → (is_back : Bool) (v n : ℕ) (by : ℤ) (rest : Code) (under below : List Item) (o : List PsObj) (items : List Item) → v < 2 ^ 32 → n < 2 ^ 32 → 2 ^ 31 ≤ n → IsFar by
      → under_stopped under ≡ None → length o + 5 ≤ 100000 → Frames s under below (Word (codes "ptradd") rest ∷ []) → Frames s below items (entered (halved (bytes_by is_back 1) (bytes_by is_back 2)) [])
      → Break (moved sc v by) → Reach (integer n ∷ integer v ∷ o) items
  halved_reaches objects is_back v n by rest under below o items hv hn large whole none few there f bad =
      let none' : under_stopped below ≡ None = not_stopped s under below (Word (codes "ptradd") rest ∷ []) there none in
      let half : nat_lt (n / 2) 2147483648 ≡ true = lt-ltb _ _ (omega (arith, hn)) in
      let z : ℤ = signed (n % 2) *ℤ bytes_by is_back 1 in
      exchanged s ds are d Good spent below none' (integer v) (integer n) _ o items f
      (λ after f. number_reaches s ds are d Good spent below (pos 1) _ (integer v ∷ integer n ∷ o) after (omega (arith, few)) f
      (λ after f. manual_reaches s ds are d Good spent below (codes "index") 4 _ (Int (pos 1) ∷ integer v ∷ integer n ∷ o) (integer n ∷ integer v ∷ integer n ∷ o) after index_is (λ after. refl) f
      (λ after f. number_reaches s ds are d Good spent below (pos 1) _ (integer n ∷ integer v ∷ integer n ∷ o) after (omega (arith, few)) f
      (λ after f. bits_reach s ds are d Good spent below none' (codes "and") 48 (int_bit_and w32 (signed n) (signed 1)) (n % 2) _ (integer v ∷ integer n ∷ o) (Int (pos 1) ∷ integer n ∷ integer v ∷ integer n ∷ o) after
      and_named (λ after. refl) (and_is n 1 hn (lit< tt) ∙ ap signed (low_bit n)) f
      (λ after f. number_reaches s ds are d Good spent below (bytes_by is_back 1) _ (integer (n % 2) ∷ integer v ∷ integer n ∷ o) after (omega (arith, few)) f
      (λ after f. summed_reaches sc s cell own out raw settled are Good spent below none' v (signed (n % 2)) (bytes_by is_back 1) z _ (integer n ∷ o) after hv refl f (moved sc v by) (sum v by)
      (moved_comes sc s cell own out raw settled v by) (first_breaks sc s cell own out raw settled objects v z by whole)
      (λ w hw first after f. exchanged s ds are d Good spent below none' (integer n) (integer w) _ o after f
      (λ after f. number_reaches s ds are d Good spent below (pos 1) _ (integer n ∷ integer w ∷ o) after (omega (arith, few)) f
      (λ after f. two_reaches s ds are d Good spent below none' (codes "ushr") 21 word_op.ShiftRight n 1 _ (integer w ∷ o) after ushr_is (λ c. refl) (ushr_acts s ds are d Good spent below none') hn (lit< tt) f
      (λ q is after f. subst (λ (q : ℕ). Reach (integer q ∷ integer w ∷ o) after) (sym (shifted_once n q is))
      (number_reaches s ds are d Good spent below (bytes_by is_back 2) Stop (integer (n / 2) ∷ integer w ∷ o) after (omega (arith, few)) f
      (λ after f. subst (Reach (Int (bytes_by is_back 2) ∷ integer (n / 2) ∷ integer w ∷ o)) (sym (at_bottom s below after f))
      (second_reaches objects v w (n / 2) z (pos (n / 2) *ℤ bytes_by is_back 2) (bytes_by is_back 2) by rest under o below hw whole (far_half is_back n large)
      (ap (λ (z : ℤ). z *ℤ bytes_by is_back 2) (signed_pos (n / 2) half)) first none there bad))))
      (λ u is. absurd (no_shift n u is))))) bad))))))

  -- larger items, of which there are 2^31 or more
  beyond_reaches : HasSmallObjects sc s → (v n : ℕ) (by : ℤ) (rest : Code) (under below : List Item) (o : List PsObj) (items : List Item) → v < 2 ^ 32 → IsFar by → under_stopped under ≡ None
      → length o + 5 ≤ 100000 → Frames s under below (Word (codes "ptradd") rest ∷ []) → Frames s below items (entered beyond []) → Break (moved sc v by) → Reach (integer n ∷ integer v ∷ o) items
  beyond_reaches objects v n by rest under below o items hv whole none few there f bad =
      let z : ℤ = pos 2147483647 *ℤ pos 2147483647 in
      manual_reaches s ds are d Good spent below (codes "pop") 2 _ (integer n ∷ integer v ∷ o) (integer v ∷ o) items pop_is (λ after. refl) f
      (λ after f. number_reaches s ds are d Good spent below (pos 2147483647) _ (integer v ∷ o) after (omega (arith, few)) f
      (λ after f. number_reaches s ds are d Good spent below (pos 2147483647) Stop (Int (pos 2147483647) ∷ integer v ∷ o) after (omega (arith, few)) f
      (λ after f. subst (Reach (Int (pos 2147483647) ∷ Int (pos 2147483647) ∷ integer v ∷ o)) (sym (at_bottom s below after f))
      (summed_reaches sc s cell own out raw settled are Good spent under none v (pos 2147483647) (pos 2147483647) z rest o below hv refl there (moved sc v by) (sum v by)
      (moved_comes sc s cell own out raw settled v by) (first_breaks sc s cell own out raw settled objects v z by whole)
      (λ w hw is. absurd (no_sum Pointer w (sym (whole_breaks sc s cell own out raw settled objects v z z w far_beyond is) ∙ is))) bad))))

  unsigned_reach : HasSmallObjects sc s → (is_back : Bool) (v n size : ℕ) (rest : Code) (under : List Item) (o : List PsObj) (items : List Item) → v < 2 ^ 32 → n < 2 ^ 32 → 0 < size → under_stopped under ≡ None
      → length under + 3 ≤ 1000 → length o + 5 ≤ 100000 → Starts under (unsigned_items is_back size ⋯ rest) items → Go (moved sc v (pos size *ℤ turned is_back (pos n))) under rest o
      → Break (moved sc v (pos size *ℤ turned is_back (pos n))) → Reach (integer n ∷ integer v ∷ o) items
  unsigned_reach objects is_back v n size rest under o items hv hn some none room few f go bad =
      manual_reaches s ds are d Good spent under (codes "dup") 1 _ (integer n ∷ integer v ∷ o) (integer n ∷ integer n ∷ integer v ∷ o) items dup_is doubled f
      (λ after f. number_reaches s ds are d Good spent under (pos 0) _ (integer n ∷ integer n ∷ integer v ∷ o) after (omega (arith, few)) f
      (λ after f. manual_reaches s ds are d Good spent under (codes "lt") 54 _ (Int (pos 0) ∷ integer n ∷ integer n ∷ integer v ∷ o) (Truth (holds Lt (int_cmp (signed n) (pos 0))) ∷ integer n ∷ integer v ∷ o) after lt_is
      (λ after. refl) f
      (λ after f. by (nat_lt n 2147483648) refl after f)))
    where
      doubled : (after : List Item) → numbered 1 (core s ds (integer n ∷ integer v ∷ o) after) ≡ Ok (core s ds (integer n ∷ integer n ∷ integer v ∷ o) after, None)
      doubled after = let low : nat_lt (length (integer n ∷ integer v ∷ o)) 100000 ≡ true = lt-ltb _ _ (omega (arith, few)) in rw low refl

      large_reaches : 2 ^ 31 ≤ n → (b : Bool) (below inner : List Item) → Frames s under below (Word (codes "ptradd") rest ∷ [])
          → Frames s below inner (entered (if b then halved (bytes_by is_back 1) (bytes_by is_back 2) else beyond) []) → Reach (integer n ∷ integer v ∷ o) inner
      large_reaches large true below inner there at = halved_reaches objects is_back v n (pos size *ℤ turned is_back (pos n)) rest under below o inner hv hn large (far_items is_back size n some large) none few there at bad
      large_reaches large false below inner there at = beyond_reaches objects v n (pos size *ℤ turned is_back (pos n)) rest under below o inner hv (far_items is_back size n some large) none few there at bad

      by : (b : Bool) → nat_lt n 2147483648 ≡ b → (after : List Item) → Starts under (pieces.chosen (large_items is_back size) (Num (bytes_by is_back size) Stop) ⋯ Word (codes "ptradd") rest) after
          → Reach (Truth (holds Lt (int_cmp (signed n) (pos 0))) ∷ integer n ∷ integer v ∷ o) after
      by true e after f =
          subst (λ (b : Bool). Reach (Truth b ∷ integer n ∷ integer v ∷ o) after) (sym (less_is (signed n) (pos 0) ∙ is_negative n true e))
          (choice_reaches s ds are d Good spent under none room false (large_items is_back size) (Num (bytes_by is_back size) Stop) (Word (codes "ptradd") rest) (integer n ∷ integer v ∷ o) after (omega (arith, few)) f
          (λ below inner l there at. number_reaches s ds are d Good spent below (bytes_by is_back size) Stop (integer n ∷ integer v ∷ o) inner (omega (arith, few)) at
          (λ last f. subst (Reach (Int (bytes_by is_back size) ∷ integer n ∷ integer v ∷ o)) (sym (at_bottom s below last f))
          (sum_reaches sc s cell own out raw settled are Good spent under none v (signed n) (bytes_by is_back size) (pos size *ℤ turned is_back (pos n)) rest o below hv
          (ap (λ (z : ℤ). z *ℤ bytes_by is_back size) (signed_pos n e) ∙ product_is is_back size (pos n)) there go bad))))
      by false e after f =
          subst (λ (b : Bool). Reach (Truth b ∷ integer n ∷ integer v ∷ o) after) (sym (less_is (signed n) (pos 0) ∙ is_negative n false e))
          (choice_reaches s ds are d Good spent under none room true (large_items is_back size) (Num (bytes_by is_back size) Stop) (Word (codes "ptradd") rest) (integer n ∷ integer v ∷ o) after (omega (arith, few)) f
          (λ below inner l there at. large_reaches (ltb-false _ _ e) (size == 1) below inner there at))

  abbrev Told : ℕ → ℤ → List Item → Code → List PsObj → Type 0
  Told v z under rest o = Go (moved sc v z) under rest o × Break (moved sc v z)

  counted_by : (is_back u some : Bool) (v n size : ℕ) (rest : Code) (under : List Item) (o : List PsObj) (items : List Item) → nat_lt 0 size ≡ some → (u ≡ false) ⊎ HasSmallObjects sc s → v < 2 ^ 32 → n < 2 ^ 32
      → under_stopped under ≡ None → length under + 3 ≤ 1000 → length o + 5 ≤ 100000 → Starts under ((if u && some then unsigned_items is_back size else signed_items is_back size) ⋯ rest) items
      → Told v (by_count is_back u size n) under rest o → Reach (integer n ∷ integer v ∷ o) items
  counted_by is_back false some v n size rest under o items e is hv hn none room few f told = items_reach is_back v n size (by_count is_back false size n) rest under o items hv (product_is is_back size (signed n)) none few f told.0 told.1
  counted_by is_back true false v n size rest under o items e is hv hn none room few f told =
      items_reach is_back v n size (by_count is_back true size n) rest under o items hv (none_of is_back true size n (ltb-false 0 size e)) none few f told.0 told.1
  counted_by is_back true true v n size rest under o items e (inl plain) hv hn none room few f told = absurd (true≢false plain)
  counted_by is_back true true v n size rest under o items e (inr objects) hv hn none room few f told = unsigned_reach objects is_back v n size rest under o items hv hn (ltb-true _ _ e) none room few f told.0 told.1

  pub counted_reach : (is_back : Bool) (item k : CType) (v n : ℕ) (rest : Code) (under : List Item) (o : List PsObj) (items : List Item) → size_of sc.defs item ≤ 1048576 → IsCount sc s k → v < 2 ^ 32 → n < 2 ^ 32
      → under_stopped under ≡ None → length under + 3 ≤ 1000 → length o + 5 ≤ 100000 → Starts under (by_items is_back (bytes_of sc.defs item) k ⋯ rest) items
      → Go (moved sc v (by_count is_back (is_unsigned k) (size_of sc.defs item) n)) under rest o → Break (moved sc v (by_count is_back (is_unsigned k) (size_of sc.defs item) n)) → Reach (integer n ∷ integer v ∷ o) items
  counted_reach is_back item k v n rest under o items low is hv hn none room few f go bad =
      counted_by is_back (is_unsigned k) (nat_lt 0 (size_of sc.defs item)) v n (size_of sc.defs item) rest under o items refl is hv hn none room few
      (subst (λ (size : ℕ). Starts under ((if is_unsigned k && nat_lt 0 size then unsigned_items is_back size else signed_items is_back size) ⋯ rest) items) (size_same sc.defs item low) f) (go, bad)
