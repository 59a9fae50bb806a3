-- What the operators on pointers make, and what moves and reads through pointers mean: both look the object up, and no unit has to be run first.
use Rattle.std.proofs.Common.{◌≡◌, refl, sym, ap, subst, ◌∙◌, ℕ, ℤ, zero, suc, ◌+◌, ◌^◌, ◌<◌, nat_le, nat_lt, Bool, true, false, if◌then◌else◌, inl, Option, Some, None, Result, Ok, Err, List, [], ◌∷◌, codes, pos, negsuc, lit<, lt-ltb, arith}
use Rattle.std.specs.Prelude.{◌+ℤ◌, ◌*ℤ◌}
use Rattle.ldb_words.specs.Word.{sum_of}
use Rattle.ldb_words.specs.declared.kinds.Kind.{Kind}
use Rattle.ldb_words.specs.declared.kinds.Undef.TheVariants.{Pointer as Undefined}
use Rattle.ps_store.specs.declared.object.PsObj.{PsObj}
use Rattle.ps_store.specs.declared.object.PsObj.TheVariants.{Int, Name}
use Rattle.ps_store.specs.declared.object.DictId.{DictId}
use Rattle.ps_store.specs.declared.object.StringId.{StringId}
use Rattle.ps_store.specs.StoreState.{StoreState}
use Rattle.ps_store.specs.Store.{bytes_of}
use Rattle.ps_store.specs.Operators.{operator_number}
use Rattle.ps_step.specs.declared.fault.PsError.{PsError}
use Rattle.ps_step.specs.declared.fault.PsError.TheVariants.{Pointer}
use Rattle.ps_step.specs.declared.fault.PsFault.TheVariants.{Spent}
use Rattle.ps_step.specs.declared.item.Item.{Item}
use Rattle.ps_step.specs.declared.machine.PsCore.{PsCore}
use Rattle.ps_step.specs.Item.{under_stopped}
use Rattle.ps_step.specs.Results.{◌>>=◌}
use Rattle.ps_step.specs.Executing.{numbered}
use Rattle.ps_run.specs.Runs.{Answer}
use Rattle.ps_text.specs.Code.{Code, Word}
use Rattle.ps_terms.specs.Stands.{Frames, core}
use Rattle.ps_words.specs.Operators.{integer}
use Rattle.ps_places.specs.Places.{kind_named, place}
use Rattle.ps_places.specs.Lacks as lacks
use Rattle.ps_pointers.specs.Pointers as pointers
use Rattle.ps_pointers.specs.Pointers.{address_at, pointer_sum}
use Rattle.ps_leaves.specs.Leaves as leaves
use Rattle.ps_leaves.specs.Leaves.{need_live}
use Rattle.ps_leaves.specs.declared.leaves.Access.{Access}
use Rattle.ps_leaves.specs.declared.leaves.Access.TheVariants.{OfKind}
use Rattle.frame_bytes.specs.declared.frame.Space.TheVariants.{Memory}
use Rattle.frame_bytes.specs.Bytes.{fetched}
use Rattle.table_model.specs.declared.found.Found.{Found}
use Rattle.table_model.specs.declared.lack.Lack.TheVariants.{Missing, WrongType, Outside, NoPoint, TooDeep, Unforced}
use Rattle.table_model.specs.Reading.{Walked}
use Rattle.table_model.specs.Objects.{found_at}
use Rattle.table_types.specs.Offsets.{offset_of, kind_live, if_offset, checked_found}
use Rattle.dialect_model.specs.Dial.{Dial, Act, Acted, memory_bytes, raised, looked}
use Rattle.dialect_model.specs.Acting.{found, with_state}
use Rattle.dialect_model.specs.Operators.{act}
use Rattle.dialect_model.specs.TableUse.{TableUse, Trouble, Kind as Raised, Refused, told, lacks as it_lacks, gives, refuses, ◌>>=◌ as ◌then◌}
use Rattle.dialect_model.specs.Near.{looking}
use Rattle.c_bytes.specs.Lvalues.{Scene, Cause, Reason, Means, Pointed, bytes_with, object_of, or_pointer, live, live_at, if_live, leaf_of, moved}
use Rattle.serving_laws.specs.Left.{AreOperators}
use Rattle.serving_laws.specs.Named.{dial_in, dictionaries_in, use_in}
use Rattle.serving_laws.specs.Evaluated.{IsSettled, told_as}
use Rattle.serving_laws.proofs.Names.{ptradd_is, leaf_is}
use Rattle.serving_laws.proofs.Numbers.{back}
use Rattle.serving_laws.proofs.Stepping.{makes, dialect_reaches}
use Rattle.serving_laws.proofs.Operating.{left_by, failed_by, left_same, failed_same, left_failed}
use Rattle.serving_laws.proofs.Places.{placed}
use Rattle.serving_laws.proofs.Objects.{found_same, found_low, Low, LowIn, Free, free_on, checked_free, kind_live_free}
use Rattle.serving_laws.proofs.Taking.{Takes, still, given, after, stops}
use Rattle.serving_laws.proofs.Evaluating.{Reached, Behind, Failed}

-- ---- look-ups of a table

-- a look-up that meets no unit, as the dialect tells it
looked_raised : {A : Type 0} (r : Walked A) → Free r → looked r ≡ raised (lacks.looked r)
looked_raised (Ok x) h = refl
looked_raised (Err Missing) h = refl
looked_raised (Err WrongType) h = refl
looked_raised (Err Outside) h = refl
looked_raised (Err NoPoint) h = refl
looked_raised (Err TooDeep) h = refl
looked_raised (Err (Unforced u)) h = absurd h

-- a result of the dialect, as an evaluation has it
abbrev pub meant : {A : Type 0} → Result A PsError → Result A (Trouble Cause)
meant (Ok x) = Ok x
meant (Err e) = Err (Raised e)

abbrev lacking : PsError → Result (Option Found) PsError
lacking e = Err e

abbrev sum_word : ℕ → Result ℕ PsError
sum_word v = Ok v

no_word : (v : ℕ) → Err Pointer ≡ sum_word v → ⊥
no_word v e = cc

lacks_word : (x : PsError) (v : ℕ) → Err x ≡ sum_word v → ⊥
lacks_word x v e = cc

-- what is there, or pointer
abbrev or_none : {A : Type 0} → Result (Option A) PsError → Result A PsError
or_none r = r >>= pointers.or_pointer

module _ (sc : Scene) (s : StoreState) (cell : ℕ) (own : DictId) (out : List ℕ) (raw : Bool) (settled : IsSettled sc s) where
  abbrev d : Dial
  d = dial_in sc cell out raw

  abbrev t : TableUse
  t = use_in s cell own

  -- an evaluation has a value, or it breaks off by an error
  abbrev pub Broken : {A : Type 0} → Means A → PsError → Type 0
  Broken m e = (x : Trouble Cause) × (told_as x ≡ Some e) × Takes t m (Err x)

  abbrev pub Comes : {A : Type 0} → Means A → Result A PsError → Type 0
  Comes m (Ok x) = Takes t m (Ok x)
  Comes m (Err e) = Broken m e

  pub comes_then : {A B : Type 0} (m : Means A) (f : A → Means B) (r : Result A PsError) (g : A → Result B PsError) → Comes m r → ((x : A) → r ≡ Ok x → Comes (f x) (g x)) → Comes (m then f) (r >>= g)
  comes_then m f (Ok x) g h k = by (g x) (k x refl)
    where
      by : (r : Result _ PsError) → Comes (f x) r → Comes (m then f) r
      by (Ok y) h' = after t m f x (Ok y) h h'
      by (Err e) h' = (h'.0, h'.1, after t m f x (Err h'.0) h h'.2)
  comes_then m f (Err e) g h k = (h.0, h.1, stops t m f h.0 h.2)

  query_comes : {A : Type 0} (q : StoreState → Walked A) (r : Walked A) → q s ≡ r → Free r → Comes (looking q) (lacks.looked r)
  query_comes q (Ok x) e h = still t (looking q) (Ok x) (λ n. inl (told e))
  query_comes q (Err Missing) e h = (Raised (lacks.error_of Missing), refl, still t (looking q) (Err (Raised (lacks.error_of Missing))) (λ n. inl (it_lacks e refl)))
  query_comes q (Err WrongType) e h = (Raised (lacks.error_of WrongType), refl, still t (looking q) (Err (Raised (lacks.error_of WrongType))) (λ n. inl (it_lacks e refl)))
  query_comes q (Err Outside) e h = (Raised (lacks.error_of Outside), refl, still t (looking q) (Err (Raised (lacks.error_of Outside))) (λ n. inl (it_lacks e refl)))
  query_comes q (Err NoPoint) e h = (Raised (lacks.error_of NoPoint), refl, still t (looking q) (Err (Raised (lacks.error_of NoPoint))) (λ n. inl (it_lacks e refl)))
  query_comes q (Err TooDeep) e h = (Raised (lacks.error_of TooDeep), refl, still t (looking q) (Err (Raised (lacks.error_of TooDeep))) (λ n. inl (it_lacks e refl)))
  query_comes q (Err (Unforced u)) e h = absurd h

  -- ---- objects

  abbrev pub object : ℕ → Walked (Option Found)
  object zero = Ok None
  object (suc n) = found_at sc.target.row s (memory_bytes sc.target) sc.target.context (suc n)

  pub object_same : (n : ℕ) → found_at sc.target.row s (bytes_with sc 0) sc.target.context n ≡ found_at sc.target.row s (memory_bytes sc.target) sc.target.context n
  unfolding fetched
  object_same n = found_same sc.target.row s (bytes_with sc 0) (memory_bytes sc.target) (λ at k. refl) sc.target.context n

  object_free : (p : ℕ) → Free (object p)
  object_free zero = tt
  object_free (suc n) = by (object (suc n)) refl
    where
      by : (r : Walked (Option Found)) → object (suc n) ≡ r → Free r
      by (Ok x) e = tt
      by (Err Missing) e = tt
      by (Err WrongType) e = tt
      by (Err Outside) e = tt
      by (Err NoPoint) e = tt
      by (Err TooDeep) e = tt
      by (Err (Unforced u)) e = settled (suc n) u (object_same (suc n) ∙ e)

  -- the object at an address, or why none is told
  abbrev pub seen : ℕ → Result (Option Found) PsError
  seen p = lacks.looked (object p)

  pub found_is : (p : ℕ) → found d s p ≡ raised (seen p)
  found_is zero = refl
  found_is (suc n) = looked_raised (object (suc n)) (object_free (suc n))

  pub object_comes : (p : ℕ) → Comes (object_of sc p) (seen p)
  object_comes zero = still t (gives None) (Ok None) (λ n. (refl, refl))
  object_comes (suc n) = query_comes (λ s. found_at sc.target.row s (bytes_with sc 0) sc.target.context (suc n)) (object (suc n)) (object_same (suc n)) (object_free (suc n))

  abbrev LowSeen : ℕ → Result (Option Found) PsError → Type 0
  LowSeen p (Ok o) = LowIn p o
  LowSeen p (Err e) = Unit {0}

  never_seen : (f : PsError) (o : Option Found) → lacking f ≡ Ok o → ⊥
  never_seen f o e = cc

  pub seen_low : (p : ℕ) (o : Option Found) → seen p ≡ Ok o → LowIn p o
  seen_low p o e = by p o (object p) (low p) e
    where
      low : (p : ℕ) → Low p (object p)
      low zero = tt
      low (suc n) = found_low (suc n) s sc.target.row (memory_bytes sc.target) sc.target.context

      by : (p : ℕ) (o : Option Found) (r : Walked (Option Found)) → Low p r → lacks.looked r ≡ Ok o → LowIn p o
      by p o (Ok x) h e = subst (LowSeen p) e h
      by p o (Err l) h e = absurd (never_seen (lacks.error_of l) o e)

  -- what there is, or the error pointer
  pub or_pointer_comes : {A : Type 0} (o : Option A) → Comes (or_pointer o) (pointers.or_pointer o)
  or_pointer_comes (Some x) = given t x
  or_pointer_comes None = (Refused (Reason Undefined), refl, still t (refuses (Reason Undefined)) (Err (Refused (Reason Undefined))) (λ n. (refl, refl)))

  pub live_comes : (p : ℕ) → Comes (live sc p) (seen p >>= pointers.or_pointer)
  live_comes p = comes_then (object_of sc p) or_pointer (seen p) pointers.or_pointer (object_comes p) (λ o e. or_pointer_comes o)

  -- ---- sums

  abbrev pub sum_seen : Result (Option Found) PsError → ℤ → Result ℕ PsError
  sum_seen r by = (r >>= pointers.or_pointer) >>= λ o. pointers.or_pointer (address_at o (pos o.at +ℤ by))

  pub moved_comes : (p : ℕ) (by : ℤ) → Comes (moved sc p by) (sum_seen (seen p) by)
  moved_comes p by =
      comes_then (live sc p) (λ o. or_pointer (address_at o (pos o.at +ℤ by))) (seen p >>= pointers.or_pointer) (λ o. pointers.or_pointer (address_at o (pos o.at +ℤ by))) (live_comes p)
      (λ o e. or_pointer_comes (address_at o (pos o.at +ℤ by)))

  sum_same : (r : Result (Option Found) PsError) (n size by : ℤ) → n *ℤ size ≡ by → (r >>= λ found. pointer_sum found n size) ≡ sum_seen r by
  sum_same (Err e) n size by same = refl
  sum_same (Ok None) n size by same = refl
  sum_same (Ok (Some o)) n size by same = ap (λ (z : ℤ). pointers.or_pointer (address_at o (pos o.at +ℤ z))) same

  address_small : (o : Found) (z : ℤ) (v : ℕ) → pointers.or_pointer (address_at o z) ≡ Ok v → v < 2 ^ 32
  address_small o (pos i) v e = by (nat_le i o.size) e
    where
      known : sum_word (sum_of o.base i) ≡ Ok v → sum_of o.base i ≡ v
      known e = cc

      by : (b : Bool) → pointers.or_pointer (if b then Some (sum_of o.base i) else None) ≡ Ok v → v < 2 ^ 32
      by true e = let same = known e in omega (arith, same)
      by false e = absurd (no_word v e)
  address_small o (negsuc i) v e = absurd (no_word v e)

  sum_small : (r : Result (Option Found) PsError) (by : ℤ) (v : ℕ) → sum_seen r by ≡ Ok v → v < 2 ^ 32
  sum_small (Err x) by v e = absurd (lacks_word x v e)
  sum_small (Ok None) by v e = absurd (no_word v e)
  sum_small (Ok (Some o)) by v e = address_small o (pos o.at +ℤ by) v e

  -- ---- leaves

  -- a scalar's leaf in the object where a pointer leads
  abbrev leaf_query : Kind → Option Found → StoreState → Walked Bool
  leaf_query k found s = checked_found s found >>= λ u. if_offset (offset_of found + 0) (kind_live s found k (offset_of found + 0)) >>= λ b. elim b [ false ↦ Ok false | true ↦ Ok true ]

  abbrev leaf_told : Kind → Option Found → Walked Bool
  leaf_told k found = leaves.all_live s found (OfKind k)

  decided : (r : Walked Bool) → (r >>= λ b. elim b [ false ↦ Ok false | true ↦ Ok true ]) ≡ r
  decided (Ok true) = refl
  decided (Ok false) = refl
  decided (Err l) = refl

  leaf_same : (k : Kind) (found : Option Found) → offset_of found < 2 ^ 32 → leaf_query k found s ≡ leaf_told k found
  leaf_same k found low =
      let at : offset_of found + 0 ≡ offset_of found = omega arith in
      let fits : nat_lt (offset_of found) (2 ^ 32) ≡ true = lt-ltb _ _ low in
      ap (λ (i : ℕ). checked_found s found >>= λ u. if_offset i (kind_live s found k i) >>= λ b. elim b [ false ↦ Ok false | true ↦ Ok true ]) at
      ∙ ap (λ (b : Bool). checked_found s found >>= λ u. (if b then kind_live s found k (offset_of found) else Ok false) >>= λ b. elim b [ false ↦ Ok false | true ↦ Ok true ]) fits
      ∙ by (checked_found s found)
    where
      by : (r : Walked (Unit {0})) → (r >>= λ u. kind_live s found k (offset_of found) >>= λ b. elim b [ false ↦ Ok false | true ↦ Ok true ]) ≡ (r >>= λ u. kind_live s found k (offset_of found))
      by (Ok u) = decided (kind_live s found k (offset_of found))
      by (Err l) = refl

  leaf_free : (k : Kind) (found : Option Found) → Free (leaf_told k found)
  leaf_free k found = free_on (checked_found s found) (λ u. kind_live s found k (offset_of found)) (checked_free s found) (λ u. kind_live_free s found k (offset_of found))

  if_live_comes : (b : Bool) → Comes (if_live b) (leaves.if_live b)
  if_live_comes true = given t tt
  if_live_comes false = (Refused (Reason Undefined), refl, still t (refuses (Reason Undefined)) (Err (Refused (Reason Undefined))) (λ n. (refl, refl)))

  offset_low : (p : ℕ) (found : Option Found) → p < 2 ^ 32 → LowIn p found → offset_of found < 2 ^ 32
  offset_low p None h low = lit< tt
  offset_low p (Some o) h low = let at = low.0 in omega (arith, h, at)

  pub leaf_comes : (p : ℕ) (k : Kind) → p < 2 ^ 32 → Comes (live_at sc (Pointed p) (leaf_of k ∷ [])) (seen p >>= λ found. need_live s found (OfKind k))
  leaf_comes p k h =
      comes_then (object_of sc p) (λ found. looking (leaf_query k found) then if_live) (seen p) (λ found. need_live s found (OfKind k)) (object_comes p)
      (λ found e. comes_then (looking (leaf_query k found)) if_live (lacks.looked (leaf_told k found)) leaves.if_live
      (query_comes (leaf_query k found) (leaf_told k found) (leaf_same k found (offset_low p found h (seen_low p found e))) (leaf_free k found)) (λ b e. if_live_comes b))

  -- ---- operators of the dialect

  module _ (are : AreOperators s (dictionaries_in s own)) (Good : Answer → ℕ → Dial → PsCore → Type 0) (spent : (m : ℕ) (d' : Dial) (c' : PsCore) → Good (Err Spent) m d' c') where
    abbrev ds : List DictId
    ds = dictionaries_in s own

    abbrev pub Makes : {A : Type 0} → Act → Result A PsError → (A → List PsObj) → List Item → Type 0
    Makes a r g after = a ≡ makes s ds are d Good spent (r >>= λ x. Ok (g x)) after

    -- what an operator that looks an object up makes
    pub acted_as : {A : Type 0} (r : Result (Option Found) PsError) (m : Option Found → Result A PsError) (g : A → List PsObj) (after : List Item)
        → Makes (raised r >>= λ found. with_state d (m found >>= λ x. Ok (core s ds (g x) after))) (r >>= m) g after
    acted_as (Err e) m g after = refl
    acted_as (Ok found) m g after = by (m found)
      where
        by : (r : Result _ PsError) → Makes (with_state d (r >>= λ x. Ok (core s ds (g x) after))) r g after
        by (Ok x) = refl
        by (Err e) = refl

    pub sum_acts : (p : ℕ) (n size : ℤ) (o : List PsObj) (after : List Item) → p < 2 ^ 32
        → Makes (act 23 d (core s ds (Int size ∷ Int n ∷ integer p ∷ o) after)) (seen p >>= λ found. pointer_sum found n size) (λ v. integer v ∷ o) after
    unfolding act
    sum_acts p n size o after h =
        ap (λ (q : ℕ). found d s q >>= λ found. with_state d (pointer_sum found n size >>= λ v. Ok (core s ds (integer v ∷ o) after))) (back p h)
        ∙ ap (λ (r : Acted (Option Found)). r >>= λ found. with_state d (pointer_sum found n size >>= λ v. Ok (core s ds (integer v ∷ o) after))) (found_is p)
        ∙ acted_as (seen p) (λ found. pointer_sum found n size) (λ v. integer v ∷ o) after

    pub leaf_acts : (p : ℕ) (u : StringId) (name : List ℕ) (k : Kind) (o : List PsObj) (after : List Item) → p < 2 ^ 32 → bytes_of s u ≡ name → kind_named name ≡ Ok k
        → Makes (act 26 d (core s ds (Name u false ∷ integer p ∷ o) after)) (seen p >>= λ found. need_live s found (OfKind k)) (λ w. placed (place Memory p) o) after
    unfolding act
    leaf_acts p u name k o after h is named =
        ap (λ (r : Result (ℕ × Access) PsError). raised r >>= λ a. found d s a.0 >>= λ found. with_state d (r >>= λ a. need_live s found a.1 >>= λ w. Ok (core s ds (placed (place Memory a.0) o) after))) operands
        ∙ ap (λ (r : Acted (Option Found)). r >>= λ found. with_state d (need_live s found (OfKind k) >>= λ w. Ok (core s ds (placed (place Memory p) o) after))) (found_is p)
        ∙ acted_as (seen p) (λ found. need_live s found (OfKind k)) (λ w. placed (place Memory p) o) after
      where
        operands : leaves.leaf_operands (core s ds (Name u false ∷ integer p ∷ o) after) ≡ Ok (p, OfKind k)
        operands = rw (back p h, is, named) refl

    module _ (under : List Item) (none : under_stopped under ≡ None) where
      abbrev Reach : List PsObj → List Item → Type 0
      Reach o items = Reached sc s cell own [] out raw are Good spent o items

      abbrev Then : Code → List PsObj → Type 0
      Then rest o = Behind sc s cell own [] out raw are Good spent under rest o

      abbrev Fail : PsError → Type 0
      Fail e = Failed sc s cell own [] out raw are Good spent e

      -- an operator that looks objects up, by what it means
      pub looked_reaches : {A B : Type 0} (name : List ℕ) (k : ℕ) (r : Result A PsError) (g : A → List PsObj) (rest : Code) (o : List PsObj) (items : List Item) → operator_number name ≡ Some (61 + k)
          → ((c : PsCore) → numbered (61 + k) c ≡ Ok (c, Some k)) → ((after : List Item) → Makes (act k d (core s ds o after)) r g after) → Frames s under items (Word name rest ∷ [])
          → (m : Means B) (v : Result B PsError) → Comes m v → ((e : PsError) → r ≡ Err e → v ≡ Err e) → ((x : A) → r ≡ Ok x → Then rest (g x))
          → ((x : Trouble Cause) (e : PsError) → told_as x ≡ Some e → Takes t m (Err x) → Fail e) → Reach o items
      looked_reaches name k r g rest o items number asks does f m v means same go bad =
          dialect_reaches s ds are d Good spent under name (61 + k) k rest o items number (λ after. asks (core s ds o after)) none (r >>= λ x. Ok (g x)) does f
          (λ o' e. by_value r o' go e) (λ e h. let b = broken v e means (same e (by_error r e h)) in bad b.0 e b.1 b.2)
        where
          by_value : (r : Result _ PsError) (o' : List PsObj) → ((x : _) → r ≡ Ok x → Then rest (g x)) → (r >>= λ x. Ok (g x)) ≡ left_by o' → Then rest o'
          by_value (Ok x) o' go e = subst (Then rest) (left_same (g x) o' e) (go x refl)
          by_value (Err x) o' go e = absurd (left_failed o' x (sym e))

          by_error : (r : Result _ PsError) (e : PsError) → (r >>= λ x. Ok (g x)) ≡ failed_by e → r ≡ Err e
          by_error (Ok x) e h = absurd (left_failed (g x) e h)
          by_error (Err x) e h = ap Err (failed_same x e h)

          broken : (v : Result _ PsError) (e : PsError) → Comes m v → v ≡ Err e → Broken m e
          broken v e means is = subst (λ (z : Result _ PsError). Comes m z) is means

      -- a pointer is moved, by what that means
      pub summed_reaches : {B : Type 0} (p : ℕ) (n size by : ℤ) (rest : Code) (o : List PsObj) (items : List Item) → p < 2 ^ 32 → n *ℤ size ≡ by → Frames s under items (Word (codes "ptradd") rest ∷ [])
          → (m : Means B) (v : Result B PsError) → Comes m v → ((e : PsError) → sum_seen (seen p) by ≡ Err e → v ≡ Err e)
          → ((w : ℕ) → w < 2 ^ 32 → sum_seen (seen p) by ≡ Ok w → Then rest (integer w ∷ o)) → ((x : Trouble Cause) (e : PsError) → told_as x ≡ Some e → Takes t m (Err x) → Fail e)
          → Reach (Int size ∷ Int n ∷ integer p ∷ o) items
      summed_reaches p n size by rest o items h same f m v means fails go bad =
          looked_reaches (codes "ptradd") 23 (seen p >>= λ found. pointer_sum found n size) (λ v. integer v ∷ o) rest (Int size ∷ Int n ∷ integer p ∷ o) items ptradd_is (λ c. refl)
          (λ after. sum_acts p n size o after h) f m v means (λ e is. fails e (sym (sum_same (seen p) n size by same) ∙ is))
          (λ w is. let is' = sym (sum_same (seen p) n size by same) ∙ is in go w (sum_small (seen p) by w is') is') bad

      -- a pointer is moved
      pub sum_reaches : (p : ℕ) (n size by : ℤ) (rest : Code) (o : List PsObj) (items : List Item) → p < 2 ^ 32 → n *ℤ size ≡ by → Frames s under items (Word (codes "ptradd") rest ∷ [])
          → ((v : ℕ) → v < 2 ^ 32 → Takes t (moved sc p by) (Ok v) → Then rest (integer v ∷ o)) → ((x : Trouble Cause) (e : PsError) → told_as x ≡ Some e → Takes t (moved sc p by) (Err x) → Fail e)
          → Reach (Int size ∷ Int n ∷ integer p ∷ o) items
      sum_reaches p n size by rest o items h same f go bad =
          summed_reaches p n size by rest o items h same f (moved sc p by) (sum_seen (seen p) by) (moved_comes p by) (λ e is. is)
          (λ v low means. go v low (subst (λ (z : Result ℕ PsError). Comes (moved sc p by) z) means (moved_comes p by))) bad

      -- a pointer becomes the place of a leaf
      pub leaf_reaches : (p : ℕ) (u : StringId) (name : List ℕ) (k : Kind) (rest : Code) (o : List PsObj) (items : List Item) → p < 2 ^ 32 → bytes_of s u ≡ name → kind_named name ≡ Ok k
          → Frames s under items (Word (codes "Leaf") rest ∷ []) → (Takes t (live_at sc (Pointed p) (leaf_of k ∷ [])) (Ok tt) → Then rest (placed (place Memory p) o))
          → ((x : Trouble Cause) (e : PsError) → told_as x ≡ Some e → Takes t (live_at sc (Pointed p) (leaf_of k ∷ [])) (Err x) → Fail e) → Reach (Name u false ∷ integer p ∷ o) items
      leaf_reaches p u name k rest o items h is named f go bad =
          looked_reaches (codes "Leaf") 26 (seen p >>= λ found. need_live s found (OfKind k)) (λ w. placed (place Memory p) o) rest (Name u false ∷ integer p ∷ o) items leaf_is (λ c. refl)
          (λ after. leaf_acts p u name k o after h is named) f (live_at sc (Pointed p) (leaf_of k ∷ [])) (seen p >>= λ found. need_live s found (OfKind k)) (leaf_comes p k h) (λ e x. x)
          (λ w x. go (subst (λ (z : Result (Unit {0}) PsError). Comes (live_at sc (Pointed p) (leaf_of k ∷ [])) z) x (leaf_comes p k h))) bad
