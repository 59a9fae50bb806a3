-- Items and bytes one behind another, one at a time.
use Rattle.std.proofs.Common.{◌≡◌, refl, ap, ◌∙◌, ℕ, zero, suc, ◌+◌, ◌-◌, ◌<◌, Bool, true, false, Option, Ok, Err, arith}
use Rattle.ldb_words.specs.declared.kinds.Kind.TheVariants.{Byte}
use Rattle.ps_store.specs.declared.object.DictId.{DictId}
use Rattle.ps_store.specs.StoreState.{StoreState}
use Rattle.ps_step.specs.Results.{◌>>=◌}
use Rattle.table_model.specs.declared.lack.Lack.{Lack}
use Rattle.table_model.specs.declared.found.Found.{Found}
use Rattle.table_model.specs.Reading.{Walked}
use Rattle.table_types.specs.Offsets.{if_offset, kind_live, type_live, items_live, run_from}

module _ (s : StoreState) (found : Option Found) (deep : ℕ) (item : DictId) (size i : ℕ) where
  abbrev on : ℕ → Walked Bool
  on j = type_live s found deep item j

  -- what comes of one item
  abbrev after : ℕ → Walked Bool → Walked Bool
  after n o = o >>= λ b. elim b [ false ↦ Ok false | true ↦ items_live on n size (i + size) ]

  items_by : (n : ℕ) (o : Walked Bool) → 0 < n → if_offset i (on i) ≡ o → items_live on n size i ≡ after (n - 1) o
  items_by zero o some e = absurd (omega (arith, some))
  items_by (suc n) o some e =
      let same : n ≡ suc n - 1 = omega arith in
      ap (after n) e ∙ ap (λ k. after k o) same

  pub items_lack : (count k : ℕ) (l : Lack) → k < count → if_offset i (type_live s found deep item i) ≡ Err l → items_live (λ j. type_live s found deep item j) (count - k) size i ≡ Err l
  items_lack count k l h e = items_by (count - k) (Err l) (omega (arith, h)) e

  pub items_on : (count k : ℕ) → k < count → if_offset i (type_live s found deep item i) ≡ Ok true
      → items_live (λ j. type_live s found deep item j) (count - k) size i ≡ items_live (λ j. type_live s found deep item j) (count - (k + 1)) size (i + size)
  items_on count k h e =
      let same : count - k - 1 ≡ count - (k + 1) = omega arith in
      items_by (count - k) (Ok true) (omega (arith, h)) e ∙ ap (λ m. items_live on m size (i + size)) same

module _ (s : StoreState) (found : Option Found) where
  abbrev then_on : ℕ → ℕ → ℕ → Walked Bool → Walked ℕ
  then_on k i n o = o >>= λ b. elim b [ false ↦ Ok k | true ↦ run_from s found n (suc k) (suc i) ]

  run_by : (k i n : ℕ) (o : Walked Bool) → 0 < n → if_offset i (kind_live s found Byte i) ≡ o → run_from s found n k i ≡ then_on k i (n - 1) o
  unfolding run_from
  run_by k i zero o some e = absurd (omega (arith, some))
  run_by k i (suc n) o some e =
      let same : n ≡ suc n - 1 = omega arith in
      ap (then_on k i n) e ∙ ap (λ m. then_on k i m o) same

  pub run_first : (most i : ℕ) → run_from s found (most - 0) 0 (i + 0) ≡ run_from s found most 0 i
  run_first most i =
      let a : most - 0 ≡ most = omega arith in
      let b : i + 0 ≡ i = omega arith in
      ap (λ m. run_from s found m 0 (i + 0)) a ∙ ap (λ j. run_from s found most 0 j) b

  run_none : (n k i : ℕ) → n ≡ 0 → run_from s found n k i ≡ Ok k
  unfolding run_from
  run_none zero k i z = refl
  run_none (suc n) k i z = absurd (omega (arith, z))

  pub run_done : (most k i : ℕ) → k ≡ most → run_from s found (most - k) k i ≡ Ok k
  run_done most k i e = run_none (most - k) k i (omega (arith, e))

  pub run_lack : (most k i : ℕ) (l : Lack) → k < most → if_offset i (kind_live s found Byte i) ≡ Err l → run_from s found (most - k) k i ≡ Err l
  run_lack most k i l h e = run_by k i (most - k) (Err l) (omega (arith, h)) e

  pub run_stop : (most k i : ℕ) → k < most → if_offset i (kind_live s found Byte i) ≡ Ok false → run_from s found (most - k) k i ≡ Ok k
  run_stop most k i h e = run_by k i (most - k) (Ok false) (omega (arith, h)) e

  pub run_on : (most k at : ℕ) → k < most → if_offset (at + k) (kind_live s found Byte (at + k)) ≡ Ok true
      → run_from s found (most - k) k (at + k) ≡ run_from s found (most - (k + 1)) (k + 1) (at + (k + 1))
  run_on most k at h e =
      let a : most - k - 1 ≡ most - (k + 1) = omega arith in
      let b : suc k ≡ k + 1 = omega arith in
      let d : suc (at + k) ≡ at + (k + 1) = omega arith in
      run_by k (at + k) (most - k) (Ok true) (omega (arith, h)) e
      ∙ (ap (λ m. run_from s found m (suc k) (suc (at + k))) a ∙ (ap (λ m. run_from s found (most - (k + 1)) m (suc (at + k))) b ∙ ap (λ m. run_from s found (most - (k + 1)) (k + 1) m) d))
