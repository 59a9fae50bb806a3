-- One more window of a flush, and one more register of a restore.
use Rattle.std.proofs.Common.{◌≡◌, ◌<◌, ◌+◌, ◌-◌, ℕ, suc, ◌&&◌, is_ok, refl, ap, sym, List, [], ◌∷◌, ◌++◌, drop, get_or, length, arith, ◌∙◌, drop-cons, add-one, append_assoc, length-append}
use Rattle.std.specs.Prelude.{slice_set, replicate}
use Rattle.std.proofs.lemmas.Grind.{common_steps}
use Rattle.std.proofs.lemmas.List.{set_at}
use Rattle.std.proofs.lemmas.Bool.{true≢false}
use Rattle.std.proofs.Common.{subst, true, false, Result, Ok, Err}
use Rattle.ldb_words.specs.declared.event.FaultKind.{FaultKind}
use Rattle.std.specs.Prelude.{take}
use Rattle.machine_state.specs.declared.layout.TheConstants.{CONTEXT_WORDS}
use Rattle.machine_state.specs.Regions.{words_in}
use Rattle.sparc_isa.specs.Loaded.{restored_from, restored_state}
use Rattle.sparc_isa.proofs.Flush.{stored_windows_ok}
use borrow.Rule.Slice.PartMut.{put_mid}
use Rattle.ldb_words.specs.declared.kinds.Order.TheVariants.{Big}
use Rattle.machine_state.specs.Regions.{Regions, load_words_of}
use Rattle.machine_state.specs.State.{MachineState}
use Rattle.sparc_isa.specs.Windows.{callers, current, flushed, flush_of, window_above, stack_pointer, stored_window, stored_windows, can_store_windows, and_then, with_register, with_registers}

pub can_store_more : (n k w : ℕ) (words : List ℕ) (r : Regions) → k < n
    → can_store_windows (n - k) w words r ≡ (is_ok (load_words_of Big r (stack_pointer words w) 16) && can_store_windows (n - (k + 1)) (window_above w) words r)
can_store_more n k w words r h =
    let e : n - k ≡ suc (n - (k + 1)) = omega arith in
    ap (λ m. can_store_windows m w words r) e

pub stored_more : (n k w : ℕ) (words : List ℕ) (r : Regions) → k < n
    → stored_windows (n - k) w words r ≡ and_then (stored_window w words r) (stored_windows (n - (k + 1)) (window_above w) words)
stored_more n k w words r h =
    let e : n - k ≡ suc (n - (k + 1)) = omega arith in
    ap (λ m. stored_windows m w words r) e

pub register_more : (k : ℕ) (vs : List ℕ) (m : MachineState) → k < length vs
    → with_registers k (drop k vs) m ≡ with_registers (k + 1) (drop (k + 1) vs) (with_register k (get_or vs k 0) m)
register_more k vs m h = rw (add-one k, drop-cons vs k 0) refl

-- ---- the words of the context block, put one part after another over zeros

put_in : (before middle behind new : List ℕ) (a k : ℕ) → length before ≡ a → length middle ≡ k
    → put_mid a k (before ++ (middle ++ behind)) new ≡ before ++ (new ++ behind)
put_in before middle behind new a k e f = grind (arith, common_steps)

regroup : (xs ys zs rest : List ℕ) → (xs ++ (ys ++ zs)) ++ rest ≡ xs ++ (ys ++ (zs ++ rest))
regroup xs ys zs rest = append_assoc xs (ys ++ zs) rest ∙ ap (λ l. xs ++ l) (append_assoc ys zs rest)

abbrev four : List ℕ → ℕ → ℕ → ℕ → ℕ → List ℕ
four xs a b c d = slice_set (slice_set (slice_set (slice_set xs 32 a) 33 b) 34 c) 35 d

four_set : (xs : List ℕ) (a b c d : ℕ) → length xs ≡ 32 → four (xs ++ (0 ∷ 0 ∷ 0 ∷ 0 ∷ [])) a b c d ≡ xs ++ (a ∷ b ∷ c ∷ d ∷ [])
four_set xs a b c d size =
    let e1 : length (xs ++ (a ∷ [])) ≡ 33 = omega (arith, length-append xs (a ∷ [])) in
    let e2 : length (xs ++ (a ∷ b ∷ [])) ≡ 34 = omega (arith, length-append xs (a ∷ b ∷ [])) in
    let e3 : length (xs ++ (a ∷ b ∷ c ∷ [])) ≡ 35 = omega (arith, length-append xs (a ∷ b ∷ c ∷ [])) in
    ap (λ l. slice_set (slice_set (slice_set l 33 b) 34 c) 35 d) (set_at xs 0 (0 ∷ 0 ∷ 0 ∷ []) a 32 size ∙ sym (append_assoc xs (a ∷ []) (0 ∷ 0 ∷ 0 ∷ [])))
    ∙ (ap (λ l. slice_set (slice_set l 34 c) 35 d) (set_at (xs ++ (a ∷ [])) 0 (0 ∷ 0 ∷ []) b 33 e1 ∙ (append_assoc xs (a ∷ []) (b ∷ 0 ∷ 0 ∷ []) ∙ sym (append_assoc xs (a ∷ b ∷ []) (0 ∷ 0 ∷ []))))
    ∙ (ap (λ l. slice_set l 35 d) (set_at (xs ++ (a ∷ b ∷ [])) 0 (0 ∷ []) c 34 e2 ∙ (append_assoc xs (a ∷ b ∷ []) (c ∷ 0 ∷ []) ∙ sym (append_assoc xs (a ∷ b ∷ c ∷ []) (0 ∷ []))))
    ∙ (set_at (xs ++ (a ∷ b ∷ c ∷ [])) 0 [] d 35 e3 ∙ append_assoc xs (a ∷ b ∷ c ∷ []) (d ∷ []))))

pub block_words : (gs os ws : List ℕ) (a b c d : ℕ) → length gs ≡ 8 → length os ≡ 8 → length ws ≡ 16
    → slice_set (slice_set (slice_set (slice_set (put_mid 16 16 (put_mid 8 8 (gs ++ replicate 28 0) os) ws) 32 a) 33 b) 34 c) 35 d
    ≡ gs ++ (os ++ (ws ++ (a ∷ b ∷ c ∷ d ∷ [])))
block_words gs os ws a b c d eg eo ew =
    let two : put_mid 8 8 (gs ++ (replicate 8 0 ++ replicate 20 0)) os ≡ gs ++ (os ++ replicate 20 0) = put_in gs (replicate 8 0) (replicate 20 0) os 8 8 eg refl in
    let sixteen : length (gs ++ os) ≡ 16 = omega (arith, length-append gs os) in
    let three : put_mid 16 16 ((gs ++ os) ++ (replicate 16 0 ++ replicate 4 0)) ws ≡ (gs ++ os) ++ (ws ++ replicate 4 0) = put_in (gs ++ os) (replicate 16 0) (replicate 4 0) ws 16 16 sixteen refl in
    let size : length (gs ++ (os ++ ws)) ≡ 32 = omega (arith, length-append gs (os ++ ws), length-append os ws) in
    ap (λ xs. four (put_mid 16 16 xs ws) a b c d) (two ∙ sym (append_assoc gs os (replicate 20 0)))
    ∙ (ap (λ xs. four xs a b c d) (three ∙ (append_assoc gs os (ws ++ replicate 4 0) ∙ sym (regroup gs os ws (replicate 4 0))))
    ∙ (four_set (gs ++ (os ++ ws)) a b c d size
    ∙ regroup gs os ws (a ∷ b ∷ c ∷ d ∷ [])))

-- ---- the flush of a machine, of which something is known by another name

refused_cases : (m : MachineState) (x : Result Regions FaultKind) → is_ok x ≡ false → flushed x m ≡ (false, m)
refused_cases m (Ok r) e = absurd (true≢false e)
refused_cases m (Err kind) e = refl

module _ (n m : MachineState) (same : n ≡ m) (size : length n.registers ≡ 136) where
  each : is_ok (stored_windows (callers n) (window_above (current n)) n.registers n.memory) ≡ can_store_windows (callers n) (window_above (current n)) n.registers n.memory
  each = stored_windows_ok (callers n) (window_above (current n)) n.registers n.memory (omega arith) size

  pub flush_refused : can_store_windows (callers n) (window_above (current n)) m.registers m.memory ≡ false → flush_of m ≡ (false, m)
  unfolding flush_of
  flush_refused h =
      let here = rw (← same) at h in
      subst (λ (k : MachineState). flush_of k ≡ (false, k)) same
      (refused_cases n (stored_windows (callers n) (window_above (current n)) n.registers n.memory) (each ∙ here))

  pub flush_stored : can_store_windows (callers n) (window_above (current n)) m.registers m.memory ≡ true
      → is_ok (stored_windows (callers n) (window_above (current n)) m.registers m.memory) ≡ true
  flush_stored h =
      let here = rw (← same) at h in
      rw (← same) (each ∙ here)

-- ---- the restore, one part after another

pub restored_is : (ws : List ℕ) (m n k : MachineState) → ws ≡ words_in Big CONTEXT_WORDS m.memory.context_bytes
    → n ≡ with_registers 0 (take 32 ws) m → k ≡ restored_from ws n → k ≡ restored_state m
unfolding restored_state
restored_is ws m n k e f g =
    g
    ∙ (ap (λ (x : MachineState). restored_from ws x) f
    ∙ ap (λ (v : List ℕ). restored_from v (with_registers 0 (take 32 v) m)) e)
