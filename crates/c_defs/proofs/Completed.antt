-- A struct is completed: its row is made of its members, and the other rows stay.
use Rattle.std.proofs.Common.{arith, ◌≡◌, ◌≤◌, ◌<◌, ◌==◌, ℕ, zero, suc, Bool, true, false, nat_le, List, [], length, map, replicate, slice_get, slice_set, refl, sym, ap, subst, ◌∙◌, Option, Some, None}
use Rattle.std.specs.Option.{is_some}
use Rattle.c_tree.specs.declared.types.StructDef.{StructDef}
use Rattle.c_tree.specs.declared.types.Member.{Member}
use Rattle.c_tree.specs.Layout.{alignment_within, alignment_of_members, members_of, members_in}
use Rattle.c_typing.specs.Plain.{is_empty}
use Rattle.c_defs.specs.declared.rows.StructRow.{StructRow}
use Rattle.c_defs.specs.Numbers.{Finds}
use Rattle.c_defs.specs.Members.{name_of}
use Rattle.c_defs.specs.Depths.{is_within, are_within}
use Rattle.c_defs.specs.Leaves.{leaf_count, leaves_of_members}
use Rattle.c_defs.specs.Kept.{row_in, row_at, is_settled, bytes_aligned, IsCount, Describes, IsKept, AreKept}
use Rattle.c_defs.proofs.Comparing.{le_yes}
use Rattle.c_defs.proofs.Same.{same_leaves, same_alignment, same_within, all_within, leaves_same, alignment_same}
use Rattle.c_defs.proofs.Setting.{set_same, set_other}
use Rattle.c_defs.proofs.Settled.{within_stays, count_stays, alignment_stays, settled_more}
use Rattle.c_defs.proofs.Described.{kept_at, described}

count_is : (o : Option ℕ) (n k : ℕ) → n ≡ k → IsCount o n → IsCount o k
count_is o n k e h = subst (IsCount o) e h

-- ---- a row is made

pub row_made : (defs : List StructDef) (rows : List (Option StructRow)) (ms : List Member) (r : StructRow) → is_empty ms ≡ false → are_within (is_settled rows) ms ≡ true
    → ((n : ℕ) → n ≤ 63 → are_within (is_within defs n) ms ≡ nat_le r.deepest n) → alignment_of_members (alignment_within defs 63) ms ≡ bytes_aligned r.wide
    → IsCount r.leaves (leaves_of_members (leaf_count defs 63) ms) → Finds r.numbers (map name_of ms) → Describes defs rows ms r
row_made defs rows ms r e s d a k f =
    let within : (n : ℕ) → r.deepest ≤ n → n ≤ 63 → are_within (is_within defs n) ms ≡ true = λ n h l. d n l ∙ le_yes r.deepest n h in
    record {
      members = e;
      settled = s;
      depth = d;
      aligned = λ n h l. alignment_same defs ms n 63 (within n h l) l ∙ a;
      counted = λ n h l. count_is r.leaves _ _ (sym (leaves_same defs ms n 63 (within n h l) l)) k;
      numbers = f;
    }

-- ---- other structs change, those with rows stay

module _ (defs more : List StructDef) (rows longer : List (Option StructRow)) (kept : AreKept defs rows)
    (stay : (s : ℕ) → is_some (row_at rows s) ≡ true → members_of more s ≡ members_of defs s)
    (longer_than : (s : ℕ) → is_some (row_at rows s) ≡ true → is_some (row_at longer s) ≡ true) where
  settled_in : (s : ℕ) (o : Option StructRow) → row_at rows s ≡ o → is_some o ≡ true → are_within (is_settled rows) (members_of defs s) ≡ true
  settled_in s None e h = absurd (let x : false ≡ true = h in cc)
  settled_in s (Some r) e h = (described defs rows s r kept e).settled

  settled : (s : ℕ) → is_some (row_at rows s) ≡ true → are_within (is_settled rows) (members_of defs s) ≡ true
  settled s h = settled_in s (row_at rows s) refl h

  -- what is said of members among the structs before holds among those behind
  pub describes_more : (ms : List Member) (r : StructRow) → Describes defs rows ms r → Describes more longer ms r
  describes_more ms r d = record {
    members = d.members;
    settled = all_within (is_settled rows) (is_settled longer) (λ t. settled_more rows longer longer_than t) ms d.settled;
    depth = λ n l. same_within (is_settled rows) (is_within more n) (is_within defs n) (λ t. within_stays defs more rows stay settled n t) ms d.settled ∙ d.depth n l;
    aligned = λ n h l. same_alignment (is_settled rows) (alignment_within more n) (alignment_within defs n) (λ t. alignment_stays defs more rows stay settled n t) ms d.settled ∙ d.aligned n h l;
    counted = λ n h l. count_is r.leaves _ _ (sym (same_leaves (is_settled rows) (leaf_count more n) (leaf_count defs n) (λ t. count_stays defs more rows stay settled n t) ms d.settled)) (d.counted n h l);
    numbers = d.numbers;
  }

  pub kept_more : (ms : List Member) (o : Option StructRow) → IsKept defs rows ms o → IsKept more longer ms o
  kept_more ms None k = tt
  kept_more ms (Some r) k = describes_more ms r k

-- ---- one struct is completed

none_empty : (defs : List StructDef) (rows : List (Option StructRow)) (ms : List Member) (o : Option StructRow) → ms ≡ [] → IsKept defs rows ms o → o ≡ None
none_empty defs rows ms None e k = refl
none_empty defs rows ms (Some r) e k = absurd (let x : true ≡ false = ap is_empty (sym e) ∙ k.members in cc)

equal : (n s : ℕ) → (n == s) ≡ true → n ≡ s
equal n s h = grind arith

module _ (defs : List StructDef) (rows : List (Option StructRow)) (s : ℕ) (def : StructDef) (o : Option StructRow) (kept : AreKept defs rows) (here : s < length defs)
    (same : length rows ≡ length defs) (none : members_of defs s ≡ []) (row : IsKept defs rows def.members o) where
  no_row : (n : ℕ) → n ≡ s → is_some (row_at rows n) ≡ true → ⊥
  no_row n e h = let x : false ≡ true = sym (ap is_some (ap (row_at rows) e ∙ none_empty defs rows (members_of defs s) (row_at rows s) none (kept_at defs rows s kept))) ∙ h in absurd cc

  stay_at : (b : Bool) (n : ℕ) → (n == s) ≡ b → is_some (row_at rows n) ≡ true → members_of (slice_set defs s def) n ≡ members_of defs n
  stay_at true n e h = absurd (no_row n (equal n s e) h)
  stay_at false n e h = ap members_in (set_other defs s def n e)

  longer_at : (b : Bool) (n : ℕ) → (n == s) ≡ b → is_some (row_at rows n) ≡ true → is_some (row_at (slice_set rows s o) n) ≡ true
  longer_at true n e h = absurd (no_row n (equal n s e) h)
  longer_at false n e h = ap is_some (ap row_in (set_other rows s o n e)) ∙ h

  kept_before : (ms : List Member) (p : Option StructRow) → IsKept defs rows ms p → IsKept (slice_set defs s def) (slice_set rows s o) ms p
  kept_before ms p k = kept_more defs (slice_set defs s def) rows (slice_set rows s o) kept (λ n h. stay_at (n == s) n refl h) (λ n h. longer_at (n == s) n refl h) ms p k

  kept_there : (b : Bool) (n : ℕ) → (n == s) ≡ b → IsKept (slice_set defs s def) (slice_set rows s o) (members_of (slice_set defs s def) n) (row_at (slice_set rows s o) n)
  kept_there true n e =
      let P : ℕ → Type 0 = λ m. IsKept (slice_set defs s def) (slice_set rows s o) (members_of (slice_set defs s def) m) (row_at (slice_set rows s o) m) in
      let within : s < length rows = omega (arith, here, same) in
      let ms : def.members ≡ members_of (slice_set defs s def) s = sym (ap members_in (set_same defs s def here)) in
      let r : o ≡ row_at (slice_set rows s o) s = sym (ap row_in (set_same rows s o within)) in
      subst P (sym (equal n s e)) (subst (λ m. IsKept (slice_set defs s def) (slice_set rows s o) m (row_at (slice_set rows s o) s)) ms
      (subst (IsKept (slice_set defs s def) (slice_set rows s o) def.members) r (kept_before def.members o row)))
  kept_there false n e =
      let ms : members_of defs n ≡ members_of (slice_set defs s def) n = sym (ap members_in (set_other defs s def n e)) in
      let r : row_at rows n ≡ row_at (slice_set rows s o) n = sym (ap row_in (set_other rows s o n e)) in
      subst (λ m. IsKept (slice_set defs s def) (slice_set rows s o) m (row_at (slice_set rows s o) n)) ms
      (subst (IsKept (slice_set defs s def) (slice_set rows s o) (members_of defs n)) r (kept_before (members_of defs n) (row_at rows n) (kept_at defs rows n kept)))

  pub completed : AreKept (slice_set defs s def) (slice_set rows s o)
  unfolding AreKept
  completed n = kept_there (n == s) n refl

-- ---- nothing is kept

none_in : (n s : ℕ) → row_in (slice_get (replicate n None) s) ≡ None
none_in zero s = refl
none_in (suc n) zero = refl
none_in (suc n) (suc s) = none_in n s

pub none_kept : (rows : List (Option StructRow)) (n : ℕ) → rows ≡ replicate n None → (defs : List StructDef) → AreKept defs rows
unfolding AreKept
none_kept rows n e defs s = let r : row_at rows s ≡ None = ap (λ l. row_at l s) e ∙ none_in n s in subst (IsKept defs rows (members_of defs s)) (sym r) tt
