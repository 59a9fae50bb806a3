-- Whatever is done to a machine leaves it sound, and the first one is.
use Rattle.std.proofs.Common.{◌≡◌, ◌≢◌, ◌∙◌, ◌⊎◌, inl, inr, refl, sym, ap, ℕ, zero, suc, ◌+◌, ◌-◌, ◌*◌, ◌/◌, ◌%◌, ◌^◌, ◌≤◌, ◌<◌, ◌-ℤ◌, nat_eq, nat_lt, ◌&&◌, not, Bool, true, false, if◌then◌else◌, List, [], ◌∷◌, ◌++◌, length, take, drop, replicate, get_or, Option, Some, None, IfSome, IfOk, Result, Ok, Err, lit<, lit≤, arith, length-append}
use Rattle.std.specs.Prelude.{slice_set, slice_index, pos, negsuc, ℤ, int_div}
use Rattle.std.specs.Int.{w64, cast_signed}
use Rattle.std.proofs.lemmas.Grind.{common_steps}
use Rattle.std.proofs.lemmas.List.{length-take-le}
use Rattle.std.proofs.lemmas.Bool.Decides.{nat_tests}
use Rattle.ldb_words.specs.Word.{sum_of, difference_of, sign_extended, signed, bit_of}
use Rattle.ldb_words.specs.Arithmetic.{is_int}
use Rattle.ldb_words.specs.declared.kinds.Order.TheVariants.{Big}
use Rattle.ldb_words.specs.declared.event.FaultKind.{FaultKind}
use Rattle.machine_state.specs.declared.layout.TheConstants.{SPARC}
use Rattle.machine_state.specs.Regions.{Regions, words_in, load_of, store_of, overwritten, store_words_of, load_words_of}
use Rattle.machine_state.specs.State.{MachineState}
use Rattle.machine_state.specs.Sound.{AllBelow, AreRegisters, IsMemory, IsSoundFor, MayBegin, Keeps}
use Rattle.machine_state.specs.Step.{Outcome, moved, jumps, stores, requests}
use Rattle.machine_state.proofs.Bounds.{sum_fits, difference_fits, low_fits, and_fits, or_fits, xor_fits, inverted_fits, quotient_fits, either_fits, extended_fits, shifted_fits, signed_fits, IsSmall, high_fits, product_fits, product_signed_fits}
use Rattle.machine_state.proofs.Codes.{if_some, if_exact-kept, either_kept}
use Rattle.machine_state.proofs.SoundMemory.{LoadedBelow, WordsFit, below_index, below_take, below_drop, below_over, below_zeros, words_fit, length_words_in, load_one, load_two, load_four, load_words_fit, store_memory, store_words_memory, saved_memory}
use Rattle.machine_state.proofs.SoundSteps.{if_not_zero, below_set, loaded_fits, signed_byte_fits, signed_half_fits, either_sound, with_registers_sound, with_special_sound, with_facts_sound, with_place_sound, memory_sound, none_put, moved_sound, jumps_sound, loads_sound, stores_sound, requests_sound, step_sound, written_sound, given_sound, begun_sound}
use Rattle.sparc_isa.specs.declared.operand.Operand.{Operand}
use Rattle.sparc_isa.specs.declared.operand.Operand.TheVariants.{Register, Immediate}
use Rattle.sparc_isa.specs.declared.operand.ShiftOperand.{ShiftOperand}
use Rattle.sparc_isa.specs.declared.condition.Condition.{Condition}
use Rattle.sparc_isa.specs.declared.insn.Insn.{Insn}
use Rattle.sparc_isa.specs.declared.insn.Insn.TheVariants.{Call}
use Rattle.ldb_words.specs.declared.event.Event.TheVariants.{Went}
use Rattle.sparc_isa.specs.Arithmetic.{quotient_unsigned, quotient_signed, clamped, codes_of}
use Rattle.sparc_isa.specs.Codec.{word_of, op_of, displacement_of, five_of, op2_of, wide_of, op3_of, rs1_of, low_of, operand_of, wide_insn, arithmetic_insn, memory_insn, named_insn, insn_of}
use Rattle.sparc_isa.specs.Condition.{holds}
use Rattle.sparc_isa.specs.Fit.{OperandFits}
use Rattle.sparc_isa.specs.Loaded.{REGISTERS, first_state, outs, block_of, with_block, saved_state, restored_from, restored_state, sparc_behaviour}
use Rattle.sparc_isa.specs.Step.{value, distance, trap_number, address, dividend, inverted, writes, multiplies, divides, subtracts, writes_y, skips, is_annulled, branch_target, branches, calls, jumps_linked, loads, saves, restores, traps, traps_if, act, sparc_set, step_of}
use Rattle.sparc_isa.specs.Windows.{window_below, window_above, y, codes, current, invalid, with_y, with_codes, with_current, with_invalid, place_of, register, with_register, with_registers, window_place, window_words, stack_pointer, stored_window, spilled, spills, filled, fills, callers, and_then, stored_windows, flushed, flush_of}
use Rattle.sparc_isa.specs.Sound.{AreSpecial, IsSound}

-- ---- registers

place_some : (w r : ℕ) → nat_eq r 0 ≡ false → 0 ≡ place_of w r → ⊥
unfolding place_of
place_some w r e f = grind (arith, nat_tests)

with_register-sound : (r v : ℕ) (m : MachineState) → v < 2 ^ 32 → IsSound m → IsSound (with_register r v m)
unfolding with_register
with_register-sound r v m fits s = with_registers_sound s _ (if_not_zero (nat_eq r 0) 136 m.registers r (place_of (current m) r) v refl (place_some (current m) r) fits s.registers)

with_registers-sound : (r : ℕ) (vs : List ℕ) (m : MachineState) → AllBelow (2 ^ 32) vs → IsSound m → IsSound (with_registers r vs m)
with_registers-sound r [] m h s = s
with_registers-sound r (v ∷ vs) m h s = with_registers-sound (suc r) vs (with_register r v m) h.1 (with_register-sound r v m h.0 s)

abbrev Leaves : Outcome → Type 0
Leaves o = IsSound o.1

operand_fits : (low : ℕ) → OperandFits (operand_of low)
unfolding operand_of OperandFits
operand_fits low = by (nat_eq (low / 2 ^ 13 % 2) 0)
  where
    by : (b : Bool) → OperandFits (if b then Register (low % 2 ^ 5) else Immediate (low % 2 ^ 13))
    by true = omega arith
    by false = omega arith

clamped_small : (z : ℤ) → IsSmall (clamped z)
clamped_small (pos n) = by (nat_lt n (2 ^ 31)) refl
  where
    by : (b : Bool) → nat_lt n (2 ^ 31) ≡ b → IsSmall (if b then pos n else pos (2 ^ 31 - 1))
    by true e = grind (arith, nat_tests)
    by false e = lit< tt
clamped_small (negsuc n) = by (nat_lt n (2 ^ 31))
  where
    by : (b : Bool) → IsSmall (if b then negsuc n else negsuc (2 ^ 31 - 1))
    by true = tt
    by false = tt

quotient_signed_fits : (a b : ℕ) → quotient_signed a b < 2 ^ 32
unfolding quotient_signed
quotient_signed_fits a b = signed_fits _ (clamped_small (int_div (cast_signed w64 a) (signed b)))

quotient_unsigned_fits : (a b : ℕ) → quotient_unsigned a b < 2 ^ 32
unfolding quotient_unsigned
quotient_unsigned_fits a b = by (nat_lt (a / b) (2 ^ 32)) refl
  where
    by : (t : Bool) → nat_lt (a / b) (2 ^ 32) ≡ t → (if t then a / b else 2 ^ 32 - 1) < 2 ^ 32
    by true e = grind (arith, nat_tests)
    by false e = lit< tt

bit_least : (b : Bool) → bit_of b ≤ 1
bit_least true = lit≤ tt
bit_least false = lit≤ tt

codes_fit : (a b : ℕ) → codes_of a b < 16
unfolding codes_of
codes_fit a b = omega (arith, bit_least (nat_lt (2 ^ 31 - 1) (difference_of a b)), bit_least (nat_eq (difference_of a b) 0), bit_least (not (is_int (signed a -ℤ signed b))), bit_least (nat_lt a b))

-- ---- the windows

ne_above : (w : ℕ) → w < 8 → w ≢ (w + 1) % 8
ne_above w h e = omega (arith, h, e)

ne_two_above : (w : ℕ) → w < 8 → w ≢ ((w + 1) % 8 + 1) % 8
ne_two_above w h e = omega (arith, h, e)

ne_two_below : (w : ℕ) → w < 8 → w ≢ ((w + 7) % 8 + 7) % 8
ne_two_below w h e = omega (arith, h, e)

overwritten_first : (xs ys : List ℕ) (n : ℕ) → get_or (overwritten xs (suc n) ys) 0 0 ≡ get_or xs 0 0 ⊎ (length xs ≡ 0)
unfolding overwritten
overwritten_first [] ys n = inr refl
overwritten_first (x ∷ xs) ys n = inl refl

length-over : (xs ys : List ℕ) (n : ℕ) → n + length ys ≤ length xs → length (overwritten xs n ys) ≡ length xs
unfolding overwritten
length-over xs ys n fits = grind (arith, common_steps)

first_kept : (xs ys : List ℕ) (n : ℕ) → length xs ≡ 136 → get_or (overwritten xs (suc n) ys) 0 0 ≡ get_or xs 0 0
first_kept xs ys n size = by (overwritten_first xs ys n)
  where
    by : (get_or (overwritten xs (suc n) ys) 0 0 ≡ get_or xs 0 0) ⊎ (length xs ≡ 0) → get_or (overwritten xs (suc n) ys) 0 0 ≡ get_or xs 0 0
    by (inl e) = e
    by (inr e) = absurd (omega (arith, e, size))

window_over : (w : ℕ) (words new : List ℕ) → w < 8 → length new ≡ 16 → AllBelow (2 ^ 32) new → AreRegisters 136 words → AreRegisters 136 (overwritten words (window_place w) new)
window_over w words new h size fits r =
    let place : window_place w ≡ suc (7 + 16 * w) = omega arith in
    record {
      count_is = length-over words new (window_place w) (omega (arith, size, h, r.count_is)) ∙ r.count_is;
      each = below_over (2 ^ 32) words new (window_place w) r.each fits;
      zero_register = rw place (first_kept words new (7 + 16 * w) r.count_is ∙ r.zero_register);
    }

module _ {m : MachineState} (s : IsSoundFor SPARC 136 AreSpecial m) where
  reg : (r : ℕ) → register m r < 2 ^ 32
  reg r = below_index (2 ^ 32) m.registers (place_of (current m) r) (lit< tt) s.registers.each

  current_sound : (w : ℕ) → w < 8 → w ≢ invalid m → IsSound (with_current w m)
  unfolding with_current
  current_sound w h k = with_special_sound s _ (record { four = refl; y_fits = s.special.y_fits; codes_fit = s.special.codes_fit; current_fits = h; invalid_fits = s.special.invalid_fits; current_valid = k })

  invalid_sound : (w : ℕ) → w < 8 → current m ≢ w → IsSound (with_invalid w m)
  unfolding with_invalid
  invalid_sound w h k = with_special_sound s _ (record { four = refl; y_fits = s.special.y_fits; codes_fit = s.special.codes_fit; current_fits = s.special.current_fits; invalid_fits = h; current_valid = k })

  y_sound : (v : ℕ) → v < 2 ^ 32 → IsSound (with_y v m)
  unfolding with_y
  y_sound v h = with_special_sound s _ (record { four = refl; y_fits = h; codes_fit = s.special.codes_fit; current_fits = s.special.current_fits; invalid_fits = s.special.invalid_fits; current_valid = s.special.current_valid })

  codes_sound : (v : ℕ) → v < 16 → IsSound (with_codes v m)
  unfolding with_codes
  codes_sound v h = with_special_sound s _ (record { four = refl; y_fits = s.special.y_fits; codes_fit = h; current_fits = s.special.current_fits; invalid_fits = s.special.invalid_fits; current_valid = s.special.current_valid })

spilled-sound : (w : ℕ) (x : Result Regions FaultKind) (m : MachineState) → IsSound m → IfOk x IsMemory → w < 8 → current m ≢ w → Leaves (spilled w x m)
spilled-sound w (Err kind) m s h k v = s
spilled-sound w (Ok r) m s h k v = invalid_sound (none_put (memory_sound s r h)) w k v

filled-sound : (w : ℕ) (x : Result (List ℕ) FaultKind) (m : MachineState) → IsSound m → WordsFit 16 x → w < 8 → current m ≢ window_above w → Leaves (filled w x m)
filled-sound w (Err kind) m s h k v = s
filled-sound w (Ok words) m s h k v = invalid_sound (none_put (with_registers_sound s _ (window_over w m.registers words k h.0 h.1 s.registers))) (window_above w) (omega arith) v

stored-memory : (w : ℕ) (words : List ℕ) (r : Regions) → IsMemory r → IfOk (stored_window w words r) IsMemory
stored-memory w words r h = store_words_memory Big r (stack_pointer words w) (window_words words w) h

then-memory : (x : Result Regions FaultKind) (f : Regions → Result Regions FaultKind) → IfOk x IsMemory → ((r : Regions) → IsMemory r → IfOk (f r) IsMemory) → IfOk (and_then x f) IsMemory
then-memory (Ok r) f h k = k r h
then-memory (Err kind) f h k = tt

windows-memory : (n w : ℕ) (words : List ℕ) (r : Regions) → IsMemory r → IfOk (stored_windows n w words r) IsMemory
windows-memory zero w words r h = h
windows-memory (suc n) w words r h =
    then-memory (stored_window w words r) (stored_windows n (window_above w) words) (stored-memory w words r h) (λ (q : Regions) (k : IsMemory q). windows-memory n (window_above w) words q k)

flushed-sound : (x : Result Regions FaultKind) (m : MachineState) → IsSound m → IfOk x IsMemory → IsSound (flushed x m).1
flushed-sound (Err kind) m s h = s
flushed-sound (Ok r) m s h = invalid_sound (memory_sound s r h) (window_above (current m)) (omega arith) (ne_above (current m) s.special.current_fits)

flush-sound : (m : MachineState) → IsSound m → IsSound (flush_of m).1
unfolding flush_of
flush-sound m s = flushed-sound _ m s (windows-memory (callers m) (window_above (current m)) m.registers m.memory s.memory)

-- ---- the forms of instructions

not_eq : (a b : ℕ) (t : Bool) → nat_eq a b ≡ t → t ≡ false → a ≢ b
not_eq a b t e f g = grind (arith, nat_tests)

module _ {m : MachineState} (s : IsSoundFor SPARC 136 AreSpecial m) where
  y-fits : y m < 2 ^ 32
  y-fits = s.special.y_fits

  value-fits : (o : Operand) → OperandFits o → value m o < 2 ^ 32
  unfolding OperandFits
  value-fits (Register r) h = reg s r
  value-fits (Immediate v) h = extended_fits 13 v h (lit≤ tt)

  val : (low : ℕ) → value m (operand_of low) < 2 ^ 32
  val low = value-fits (operand_of low) (operand_fits low)

  writes-sound : (r v : ℕ) → v < 2 ^ 32 → Leaves (writes r v m)
  unfolding writes
  writes-sound r v fits = with_register-sound r v (moved m) fits (moved_sound s)

  multiplies-sound : (r n : ℕ) → n < 2 ^ 64 → Leaves (multiplies r n m)
  unfolding multiplies
  multiplies-sound r n h = y_sound (with_register-sound r (n % 2 ^ 32) (moved m) (low_fits n) (moved_sound s)) (n / 2 ^ 32) (high_fits n h)

  divides-sound : (r divisor quotient : ℕ) → quotient < 2 ^ 32 → Leaves (divides r divisor quotient m)
  unfolding divides
  divides-sound r divisor quotient h = either_sound (nat_eq divisor 0) _ _ s (writes-sound r quotient h)

  subtracts-sound : (r a b : ℕ) → Leaves (subtracts r a b m)
  unfolding subtracts
  subtracts-sound r a b = codes_sound (with_register-sound r (difference_of a b) (moved m) (difference_fits a b) (moved_sound s)) (codes_of a b) (codes_fit a b)

  writes_y-sound : (v : ℕ) → v < 2 ^ 32 → Leaves (writes_y v m)
  unfolding writes_y
  writes_y-sound v h = with_facts_sound (y_sound (moved_sound s) v h) _

  target-fits : (c : Condition) (d : ℕ) → branch_target c d m < 2 ^ 32
  target-fits c d = either_fits (holds c (codes m)) _ _ (sum_fits m.pc (sign_extended 22 d * 4 % 2 ^ 32)) (sum_fits m.next_pc 4)

  skips-sound : (place : ℕ) → place < 2 ^ 32 → Leaves (skips place (moved m))
  unfolding skips
  skips-sound place h = with_place_sound (moved_sound s) place (sum_of place 4) h (sum_fits place 4)

  branches-sound : (annul : Bool) (c : Condition) (d : ℕ) → Leaves (branches annul c d m)
  unfolding branches
  branches-sound annul c d =
      either_sound (is_annulled annul c (codes m)) _ _ (skips-sound (branch_target c d m) (target-fits c d))
      (jumps_sound (moved_sound s) (branch_target c d m) (target-fits c d))

  linked-sound : (r place : ℕ) → place < 2 ^ 32 → Leaves (jumps place (with_register r m.pc (moved m)))
  linked-sound r place h = jumps_sound (with_register-sound r m.pc (moved m) s.pc_fits (moved_sound s)) place h

  calls-sound : (d : ℕ) → Leaves (calls d m)
  unfolding calls
  calls-sound d = linked-sound 15 _ (sum_fits m.pc (d * 4))

  jumps_linked-sound : (r place : ℕ) → place < 2 ^ 32 → Leaves (jumps_linked r place m)
  unfolding jumps_linked
  jumps_linked-sound r place h = linked-sound r place h

  loads-sound : (r : ℕ) (x : Result ℕ FaultKind) → LoadedBelow (2 ^ 32) x → Leaves (loads r x m)
  loads-sound r x h = loads_sound s (writes r) (2 ^ 32) x h (writes-sound r)

  store-sound : (at width v : ℕ) → (width ≡ 1) ⊎ ((width ≡ 2) ⊎ (width ≡ 4)) → Leaves (stores (store_of Big m.memory at width v) m)
  store-sound at width v w = stores_sound s _ (store_memory Big m.memory at width v w s.memory)

  goes_to : (w r v : ℕ) (t : Bool) → nat_eq w (invalid m) ≡ t → t ≡ false → w < 8 → v < 2 ^ 32 → IsSound (with_register r v (with_current w (moved m)))
  unfolding moved
  goes_to w r v t e f h k = with_register-sound r v (with_current w (moved m)) k (current_sound (moved_sound s) w h (not_eq w (invalid m) t e f))

  spills-sound : (w : ℕ) → w < 8 → current m ≢ w → Leaves (spills w m)
  unfolding spills
  spills-sound w h k = spilled-sound w _ m s (stored-memory w m.registers m.memory s.memory) h k

  fills-sound : (w : ℕ) → w < 8 → current m ≢ window_above w → Leaves (fills w m)
  unfolding fills
  fills-sound w h k = filled-sound w _ m s (load_words_fit Big m.memory (register m 30) 16 s.memory) h k

  saves-by : (t : Bool) (r v : ℕ) → nat_eq (window_below (current m)) (invalid m) ≡ t → v < 2 ^ 32
      → Leaves (if◌then◌else◌ {A = Outcome} t (spills (window_below (window_below (current m))) m) (Went, with_register r v (with_current (window_below (current m)) (moved m))))
  saves-by true r v e h = spills-sound (window_below (window_below (current m))) (omega arith) (ne_two_below (current m) s.special.current_fits)
  saves-by false r v e h = goes_to (window_below (current m)) r v false e refl (omega arith) h

  saves-sound : (r v : ℕ) → v < 2 ^ 32 → Leaves (saves r v m)
  unfolding saves
  saves-sound r v h = saves-by (nat_eq (window_below (current m)) (invalid m)) r v refl h

  restores-by : (t : Bool) (r v : ℕ) → nat_eq (window_above (current m)) (invalid m) ≡ t → v < 2 ^ 32
      → Leaves (if◌then◌else◌ {A = Outcome} t (fills (window_above (current m)) m) (Went, with_register r v (with_current (window_above (current m)) (moved m))))
  restores-by true r v e h = fills-sound (window_above (current m)) (omega arith) (ne_two_above (current m) s.special.current_fits)
  restores-by false r v e h = goes_to (window_above (current m)) r v false e refl (omega arith) h

  restores-sound : (r v : ℕ) → v < 2 ^ 32 → Leaves (restores r v m)
  unfolding restores
  restores-sound r v h = restores-by (nat_eq (window_above (current m)) (invalid m)) r v refl h

  traps-sound : (number : ℕ) → Leaves (traps number m)
  unfolding traps
  traps-sound number = either_sound (nat_eq number 1) _ _ s (requests_sound s (with_register 8) _ _ (with_register-sound 8))

  traps_if-sound : (t : Bool) (number : ℕ) → Leaves (traps_if t number m)
  unfolding traps_if
  traps_if-sound t number = either_sound t _ _ (traps-sound number) (moved_sound s)

  -- ---- each instruction of a table

  wide_sound : (five op2 wide : ℕ) → wide < 2 ^ 22 → IfSome (wide_insn five op2 wide) (λ i. IsSound (act i m).1)
  unfolding wide_insn act
  wide_sound five op2 wide h =
      let high : wide * 2 ^ 10 < 2 ^ 32 = omega (arith, h) in
      let P : Insn → Type 0 = λ (i : Insn). IsSound (act i m).1 in
      if_some P (nat_eq op2 2) _ _ (branches-sound _ _ _)
      (if_some P (nat_eq op2 4) _ _ (writes-sound _ _ high)
      (tt))

  arithmetic_sound : (rd op3 rs1 low : ℕ) → IfSome (arithmetic_insn rd op3 rs1 low) (λ i. IsSound (act i m).1)
  unfolding arithmetic_insn act
  arithmetic_sound rd op3 rs1 low =
      let P : Insn → Type 0 = λ (i : Insn). IsSound (act i m).1 in
      if_some P (nat_eq op3 0x00) _ _ (writes-sound _ _ (sum_fits _ _))
      (if_some P (nat_eq op3 0x01) _ _ (writes-sound _ _ (and_fits _ _ (reg s rs1) (val low)))
      (if_some P (nat_eq op3 0x02) _ _ (writes-sound _ _ (or_fits _ _ (reg s rs1) (val low)))
      (if_some P (nat_eq op3 0x03) _ _ (writes-sound _ _ (xor_fits _ _ (reg s rs1) (val low)))
      (if_some P (nat_eq op3 0x04) _ _ (writes-sound _ _ (difference_fits _ _))
      (if_some P (nat_eq op3 0x05) _ _ (writes-sound _ _ (and_fits _ _ (reg s rs1) (inverted_fits (value m (operand_of low)))))
      (if_some P (nat_eq op3 0x06) _ _ (writes-sound _ _ (or_fits _ _ (reg s rs1) (inverted_fits (value m (operand_of low)))))
      (if_some P (nat_eq op3 0x07) _ _ (writes-sound _ _ (inverted_fits _))
      (if_some P (nat_eq op3 0x0a) _ _ (multiplies-sound _ _ (product_fits (register m rs1) (value m (operand_of low)) (reg s rs1) (val low)))
      (if_some P (nat_eq op3 0x0b) _ _ (multiplies-sound _ _ (product_signed_fits (register m rs1) (value m (operand_of low)) (reg s rs1) (val low)))
      (if_some P (nat_eq op3 0x0e) _ _ (divides-sound _ _ _ (quotient_unsigned_fits _ _))
      (if_some P (nat_eq op3 0x0f) _ _ (divides-sound _ _ _ (quotient_signed_fits _ _))
      (if_some P (nat_eq op3 0x14) _ _ (subtracts-sound _ _ _)
      (if_some P (nat_eq op3 0x25) _ _ (writes-sound _ _ (low_fits _))
      (if_some P (nat_eq op3 0x26) _ _ (writes-sound _ _ (quotient_fits (register m rs1) _ (reg s rs1)))
      (if_some P (nat_eq op3 0x27) _ _ (writes-sound _ _ (shifted_fits (register m rs1) _ (reg s rs1)))
      (if_some P (nat_eq op3 0x28) _ _ (writes-sound _ _ y-fits)
      (if_some P (nat_eq op3 0x30) _ _ (writes_y-sound _ (xor_fits _ _ (reg s rs1) (val low)))
      (if_some P (nat_eq op3 0x38) _ _ (jumps_linked-sound _ _ (sum_fits _ _))
      (if_some P (nat_eq op3 0x3a) _ _ (traps_if-sound _ _)
      (if_some P (nat_eq op3 0x3c) _ _ (saves-sound _ _ (sum_fits _ _))
      (if_some P (nat_eq op3 0x3d) _ _ (restores-sound _ _ (sum_fits _ _))
      (tt))))))))))))))))))))))

  memory-sound : (rd op3 rs1 low : ℕ) → IfSome (memory_insn rd op3 rs1 low) (λ i. IsSound (act i m).1)
  unfolding memory_insn act
  memory-sound rd op3 rs1 low =
      let at : ℕ = address m rs1 (operand_of low) in
      let P : Insn → Type 0 = λ (i : Insn). IsSound (act i m).1 in
      if_some P (nat_eq op3 0x00) _ _ (loads-sound _ _ (load_four Big m.memory at s.memory))
      (if_some P (nat_eq op3 0x01) _ _ (loads-sound _ _ (loaded_fits 256 (load_of Big m.memory at 1) (lit≤ tt) (load_one Big m.memory at s.memory)))
      (if_some P (nat_eq op3 0x02) _ _ (loads-sound _ _ (loaded_fits (2 ^ 16) (load_of Big m.memory at 2) (lit≤ tt) (load_two Big m.memory at s.memory)))
      (if_some P (nat_eq op3 0x04) _ _ (store-sound _ 4 _ (inr (inr refl)))
      (if_some P (nat_eq op3 0x05) _ _ (store-sound _ 1 _ (inl refl))
      (if_some P (nat_eq op3 0x06) _ _ (store-sound _ 2 _ (inr (inl refl)))
      (if_some P (nat_eq op3 0x09) _ _ (loads-sound _ _ (signed_byte_fits _ (load_one Big m.memory at s.memory)))
      (if_some P (nat_eq op3 0x0a) _ _ (loads-sound _ _ (signed_half_fits _ (load_two Big m.memory at s.memory)))
      (tt))))))))

  call_sound : (d : ℕ) → IsSound (act (Call d) m).1
  unfolding act
  call_sound d = calls-sound d

  named_sound : (w : ℕ) → IfSome (named_insn w) (λ i. IsSound (act i m).1)
  unfolding named_insn
  named_sound w =
      let P : Insn → Type 0 = λ (i : Insn). IsSound (act i m).1 in
      either_kept P (nat_eq (op_of w) 0) _ _ (wide_sound (five_of w) (op2_of w) (wide_of w) (omega arith))
      (either_kept P (nat_eq (op_of w) 1) _ _ (call_sound (displacement_of w))
      (either_kept P (nat_eq (op_of w) 2) _ _ (arithmetic_sound (five_of w) (op3_of w) (rs1_of w) (low_of w))
      (memory-sound (five_of w) (op3_of w) (rs1_of w) (low_of w))))

  insn_sound : (w : ℕ) → IfSome (insn_of w) (λ i. IsSound (act i m).1)
  unfolding insn_of
  insn_sound w = if_exact-kept (λ (i : Insn). IsSound (act i m).1) word_of w (named_insn w) (named_sound w)

  step-sound : IsSound (step_of m).1
  unfolding step_of
  step-sound = step_sound sparc_set m s (λ w h. insn_sound w)

  -- ---- the context block

  length-window : (n : ℕ) (words : List ℕ) (k : ℕ) → k + n ≤ length words → length (take n (drop k words)) ≡ n
  length-window n words k h = grind (arith, common_steps)

  block-length : length (block_of m) ≡ 36
  unfolding block_of
  block-length =
      let all : length m.registers ≡ 136 = s.registers.count_is in
      let gs : length (take 8 m.registers) ≡ 8 = length-take-le 8 m.registers (omega (arith, all)) in
      let os : length (outs m) ≡ 8 = length-window 8 m.registers (window_place (window_below (current m)) + 8) (omega (arith, all)) in
      let ws : length (window_words m.registers (current m)) ≡ 16 = length-window 16 m.registers (window_place (current m)) (omega (arith, all, s.special.current_fits)) in
      let rest : List ℕ = y m ∷ (codes m * 2 ^ 20 + current m) ∷ m.pc ∷ m.next_pc ∷ [] in
      omega (arith, length-append (take 8 m.registers) (outs m ++ (window_words m.registers (current m) ++ rest)), length-append (outs m) (window_words m.registers (current m) ++ rest), length-append (window_words m.registers (current m)) rest, gs, os, ws)

  with_block-sound : IsSound (with_block m)
  unfolding with_block
  with_block-sound = memory_sound s _ (saved_memory Big (block_of m) m.memory block-length s.memory)

  restored_from-sound : (ws : List ℕ) → AllBelow (2 ^ 32) ws → IsSound (restored_from ws m)
  restored_from-sound ws h =
      let word : (i : ℕ) → slice_index ws i < 2 ^ 32 = λ (i : ℕ). below_index (2 ^ 32) ws i (lit< tt) h in
      record {
        target_is = s.target_is;
        registers = s.registers;
        special = record { four = refl; y_fits = word 32; codes_fit = omega arith; current_fits = s.special.current_fits; invalid_fits = s.special.invalid_fits; current_valid = s.special.current_valid };
        pc_fits = word 34;
        next_pc_fits = word 35;
        memory = s.memory;
        input = s.input;
        put_fits = s.put_fits;
      }

saved-sound : (m : MachineState) → IsSound m → IsSound (saved_state m).1
unfolding saved_state
saved-sound m s = with_block-sound (flush-sound m s)

restored-sound : (m : MachineState) → IsSound m → IsSound (restored_state m)
unfolding restored_state
restored-sound m s =
    let ws : List ℕ = words_in Big 36 m.memory.context_bytes in
    let fit : AllBelow (2 ^ 32) ws = words_fit Big 36 m.memory.context_bytes s.memory.context.each in
    restored_from-sound (with_registers-sound 0 (take 32 ws) m (below_take (2 ^ 32) 32 ws fit) s) ws fit

-- ---- the start

first_registers : AreRegisters 136 (slice_set (replicate 136 0) 134 0x7ffe_ffa0)
first_registers = record { count_is = refl; each = below_set (2 ^ 32) (replicate 136 0) 134 0x7ffe_ffa0 (lit< tt) (below_zeros (2 ^ 32) 136 (lit< tt)); zero_register = refl }

first_special : AreSpecial (0 ∷ 0 ∷ 0 ∷ 1 ∷ [])
first_special = record { four = refl; y_fits = lit< tt; codes_fit = lit< tt; current_fits = lit< tt; invalid_fits = lit< tt; current_valid = λ (e : 0 ≡ 1). omega (arith, e) }

pub first_sound : (entry : ℕ) (text statics : List ℕ) → MayBegin entry text statics → IsSound (first_state entry text statics)
unfolding first_state place_of
first_sound entry text statics b = begun_sound _ (0 ∷ 0 ∷ 0 ∷ 1 ∷ []) entry text statics first_registers first_special b

pub keeps_sound : Keeps IsSound sparc_behaviour
keeps_sound = record {
  next = λ (m : MachineState) (s : IsSound m). step-sound s;
  saved = saved-sound;
  restored = restored-sound;
  written = written_sound;
  given = given_sound;
  taken = λ (m : MachineState) (s : IsSound m). none_put s;
  argument = λ (m : MachineState) (s : IsSound m). reg s 8;
}
