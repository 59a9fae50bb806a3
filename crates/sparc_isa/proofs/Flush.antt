-- A flush either stores each window or none: whether one can be stored does not depend on those stored before it.
use Rattle.std.proofs.Common.{◌≡◌, ◌≤◌, ◌<◌, ◌+◌, ◌-◌, ◌%◌, ◌∙◌, sym, refl, length, ℕ, zero, suc, Bool, true, false, ◌&&◌, cond, nat_eq, nat_le, List, Option, Some, None, IfSome, Result, Ok, Err, IfOk, is_ok, arith}
use Rattle.std.proofs.lemmas.Grind.{common_steps}
use Rattle.std.proofs.lemmas.Bool.Decides.{nat_tests}
use Rattle.std.specs.Prelude.{is_some, option_map, ok_or}
use Rattle.ldb_words.specs.declared.kinds.Order.TheVariants.{Big}
use Rattle.ldb_words.specs.declared.event.FaultKind.{FaultKind}
use Rattle.ldb_words.specs.declared.event.FaultKind.TheVariants.{Align, Outside}
use Rattle.machine_state.specs.declared.layout.TheConstants.{DATA, STACK}
use Rattle.machine_state.specs.Regions.{Regions, offset_in, or_else, bytes_from, writable, written, words_from, words_bytes, with_data, with_stack, overwritten, if_aligned, store_words_of, load_words_of}
use Rattle.machine_state.proofs.Words.{length_words_bytes}
use Rattle.sparc_isa.specs.Windows.{window_above, window_words, stack_pointer, stored_window, stored_windows, can_store_windows, and_then}

-- whether 64 bytes at an aligned address are in the data or the stack
is_place : ℕ → ℕ → ℕ → Bool
is_place data_size stack_size at =
    is_some (or_else (offset_in DATA data_size at 64) (offset_in STACK stack_size at 64)) && nat_eq (at % 4) 0

aligned_ok : {T : Type 0} → (b : Bool) (x : T) → is_ok {E = FaultKind} (cond b (Ok x) (Err Align)) ≡ b
aligned_ok true x = refl
aligned_ok false x = refl

load_cases : (r : Regions) (at : ℕ) (d s : Option ℕ)
    → is_ok (if_aligned at 4 (words_from Big 16 (or_else (bytes_from r.data_bytes d) (bytes_from r.stack_bytes s)))) ≡ is_some (or_else d s) && nat_eq (at % 4) 0
load_cases r at (Some o) s = aligned_ok (nat_eq (at % 4) 0) _
load_cases r at None (Some o) = aligned_ok (nat_eq (at % 4) 0) _
load_cases r at None None = refl

load_ok : (r : Regions) (at : ℕ) → is_ok (load_words_of Big r at 16) ≡ is_place (length r.data_bytes) (length r.stack_bytes) at
unfolding load_words_of writable is_place
load_ok r at = load_cases r at (offset_in DATA (length r.data_bytes) at 64) (offset_in STACK (length r.stack_bytes) at 64)

store_cases : (r : Regions) (ys : List ℕ) (at : ℕ) (d s : Option ℕ)
    → is_ok (if_aligned at 4 (ok_or (or_else (option_map (with_data r ys) d) (option_map (with_stack r ys) s)) Outside)) ≡ is_some (or_else d s) && nat_eq (at % 4) 0
store_cases r ys at (Some o) s = aligned_ok (nat_eq (at % 4) 0) _
store_cases r ys at None (Some o) = aligned_ok (nat_eq (at % 4) 0) _
store_cases r ys at None None = refl

store_ok : (r : Regions) (at : ℕ) (ws : List ℕ) → length ws ≡ 16
    → is_ok (store_words_of Big r at ws) ≡ is_place (length r.data_bytes) (length r.stack_bytes) at
unfolding store_words_of written is_place
store_ok r at ws sixteen =
    let size : length (words_bytes Big ws) ≡ 64 = omega (arith, length_words_bytes Big ws) in
    rw size
    (store_cases r (words_bytes Big ws) at (offset_in DATA (length r.data_bytes) at 64) (offset_in STACK (length r.stack_bytes) at 64))

-- ---- a store changes no region's length

record SameSizes (r s : Regions) : Type 0 where
  data_size : length s.data_bytes ≡ length r.data_bytes
  stack_size : length s.stack_bytes ≡ length r.stack_bytes

length-overwritten : (xs : List ℕ) (offset : ℕ) (ys : List ℕ) → offset + length ys ≤ length xs → length (overwritten xs offset ys) ≡ length xs
unfolding overwritten
length-overwritten xs offset ys fits = grind (arith, common_steps)

offset_fits : (base size at width : ℕ) → IfSome (offset_in base size at width) (λ o. o + width ≤ size)
offset_fits base size at width =
    elim (nat_le base at && nat_le (at + width) (base + size)) as (λ b. (nat_le base at && nat_le (at + width) (base + size)) ≡ b → IfSome (cond b (Some (at - base)) None) (λ o. o + width ≤ size)) [
      | true ↦ λ e. grind (arith, nat_tests)
      | false ↦ λ e. tt
    ] refl

if_ok_aligned : {T : Type 0} → (P : T → Type 0) (b : Bool) (x : T) → P x → IfOk {E = FaultKind} (cond b (Ok x) (Err Align)) P
if_ok_aligned P true x p = p
if_ok_aligned P false x p = tt

stored_cases : (r : Regions) (ys : List ℕ) (at : ℕ) (d s : Option ℕ) → IfSome d (λ o. o + length ys ≤ length r.data_bytes)
    → IfSome s (λ o. o + length ys ≤ length r.stack_bytes)
    → IfOk (if_aligned at 4 (ok_or (or_else (option_map (with_data r ys) d) (option_map (with_stack r ys) s)) Outside)) (SameSizes r)
stored_cases r ys at (Some o) s f g =
    if_ok_aligned (SameSizes r) (nat_eq (at % 4) 0) (with_data r ys o) (record { data_size = length-overwritten r.data_bytes o ys f; stack_size = refl })
stored_cases r ys at None (Some o) f g =
    if_ok_aligned (SameSizes r) (nat_eq (at % 4) 0) (with_stack r ys o) (record { data_size = refl; stack_size = length-overwritten r.stack_bytes o ys g })
stored_cases r ys at None None f g = tt

store_keeps : (r : Regions) (at : ℕ) (ws : List ℕ) → IfOk (store_words_of Big r at ws) (SameSizes r)
unfolding store_words_of written
store_keeps r at ws =
    stored_cases r (words_bytes Big ws) at
    (offset_in DATA (length r.data_bytes) at (length (words_bytes Big ws)))
    (offset_in STACK (length r.stack_bytes) at (length (words_bytes Big ws)))
    (offset_fits DATA (length r.data_bytes) at (length (words_bytes Big ws)))
    (offset_fits STACK (length r.stack_bytes) at (length (words_bytes Big ws)))

-- ---- all windows

same_places : (r s : Regions) (at : ℕ) → SameSizes r s → is_ok (load_words_of Big s at 16) ≡ is_ok (load_words_of Big r at 16)
same_places r s at same = rw (load_ok s at, load_ok r at, same.data_size, same.stack_size) refl

can_store_same : (n w : ℕ) (words : List ℕ) (r s : Regions) → SameSizes r s → can_store_windows n w words s ≡ can_store_windows n w words r
can_store_same zero w words r s same = refl
can_store_same (suc n) w words r s same =
    rw (same_places r s (stack_pointer words w) same, can_store_same n (window_above w) words r s same) refl

length-window : (words : List ℕ) (w : ℕ) → w < 8 → length words ≡ 136 → length (window_words words w) ≡ 16
length-window words w below size = grind (arith, common_steps)

if_ok_map : {T : Type 0} → (x : Result T FaultKind) (P Q : T → Type 0) → ((t : T) → P t → Q t) → IfOk x P → IfOk x Q
if_ok_map (Ok t) P Q f p = f t p
if_ok_map (Err kind) P Q f p = tt

step_cases : (n w : ℕ) (words : List ℕ) (r : Regions) (x : Result Regions FaultKind) → is_ok x ≡ is_ok (load_words_of Big r (stack_pointer words w) 16)
    → IfOk x (λ s. is_ok (stored_windows n (window_above w) words s) ≡ can_store_windows n (window_above w) words r)
    → is_ok (and_then x (stored_windows n (window_above w) words)) ≡ can_store_windows (suc n) w words r
step_cases n w words r (Ok s) e f = rw (← e) f
step_cases n w words r (Err kind) e f = rw (← e) refl

-- the windows are all stored exactly where each of them can be stored in the memory before
pub stored_windows_ok : (n w : ℕ) (words : List ℕ) (r : Regions) → w < 8 → length words ≡ 136
    → is_ok (stored_windows n w words r) ≡ can_store_windows n w words r
stored_windows_ok zero w words r below size = refl
stored_windows_ok (suc n) w words r below size =
    step_cases n w words r (stored_window w words r)
    (store_ok r (stack_pointer words w) (window_words words w) (length-window words w below size) ∙ sym (load_ok r (stack_pointer words w)))
    (if_ok_map
    (stored_window w words r)
    (SameSizes r)
    (λ s. is_ok (stored_windows n (window_above w) words s) ≡ can_store_windows n (window_above w) words r)
    (λ (s : Regions) (same : SameSizes r s). stored_windows_ok n (window_above w) words s (omega arith) size ∙ can_store_same n (window_above w) words r s same)
    (store_keeps r (stack_pointer words w) (window_words words w)))
