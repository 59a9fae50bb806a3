-- Whatever is done to a machine leaves it sound, and the first one is.
use Rattle.std.proofs.Common.{◌≡◌, ◌∙◌, ◌⊎◌, inl, inr, refl, ℕ, ℤ, ◌+◌, ◌-◌, ◌*◌, ◌/◌, ◌%◌, ◌^◌, ◌≤◌, ◌<◌, nat_eq, nat_lt, ◌&&◌, ◌||◌, not, Bool, true, false, if◌then◌else◌, List, [], ◌∷◌, ◌++◌, length, take, replicate, Option, Some, None, IfSome, Result, Ok, Err, lit<, lit≤, arith, length-append}
use Rattle.std.specs.Prelude.{slice_set, slice_index}
use Rattle.std.proofs.lemmas.List.{get_or-set_same, length-set, length-take-le}
use Rattle.std.proofs.lemmas.Bool.Decides.{nat_tests}
use Rattle.ldb_words.specs.Arithmetic.{divides}
use Rattle.ldb_words.specs.Word.{sum_of, sign_extended, signed}
use Rattle.ldb_words.specs.declared.kinds.Order.TheVariants.{Little}
use Rattle.ldb_words.specs.declared.event.FaultKind.{FaultKind}
use Rattle.machine_state.specs.declared.layout.TheConstants.{MIPS}
use Rattle.machine_state.specs.Regions.{Regions, words_in, load_of, store_of}
use Rattle.machine_state.specs.State.{MachineState}
use Rattle.machine_state.specs.Sound.{AllBelow, AreRegisters, IsSoundFor, MayBegin, Keeps}
use Rattle.machine_state.specs.Step.{Outcome, moved, jumps, stores, requests}
use Rattle.machine_state.proofs.Bounds.{sum_fits, difference_fits, low_fits, and_fits, or_fits, xor_fits, inverted_fits, quotient_fits, remainder_fits, bit_fits, either_fits, extended_fits, shifted_fits, quotient_signed_fits, remainder_signed_fits, high_fits, product_fits, product_signed_fits}
use Rattle.machine_state.proofs.Codes.{if_some, if_exact-kept, either_kept}
use Rattle.machine_state.proofs.SoundMemory.{LoadedBelow, below_index, below_take, below_zeros, words_fit, length_words_in, load_one, load_two, load_four, store_memory, saved_memory}
use Rattle.machine_state.proofs.SoundSteps.{if_not_zero, below_set, loaded_fits, signed_byte_fits, signed_half_fits, either_sound, with_registers_sound, with_special_sound, with_facts_sound, memory_sound, none_put, moved_sound, jumps_sound, loads_sound, stores_sound, requests_sound, step_sound, written_sound, given_sound, begun_sound}
use Rattle.mips_isa.specs.declared.insn.Insn.{Insn}
use Rattle.mips_isa.specs.Codec.{word_of, op_of, rs_of, rt_of, rd_of, shamt_of, funct_of, immediate_of, target_of, special_insn, branch_insn, jump_insn, immediate_insn, named_insn, insn_of}
use Rattle.mips_isa.specs.Loaded.{first_state, saved_state, restored_state, restored_from, mips_behaviour}
use Rattle.mips_isa.specs.Step.{register, with_register, writes, writes_special, reads_special, divides_signed, divides_unsigned, branches, jump_target, address, leaves_loaded, loads, act, mips_set, step_of}
use Rattle.mips_isa.specs.Sound.{AreHiLo, IsSound}

-- ---- registers

differs : (r : ℕ) → nat_eq r 0 ≡ false → 0 ≡ r → ⊥
differs r e f = grind (arith, nat_tests)

with_register-sound : (r v : ℕ) (m : MachineState) → v < 2 ^ 32 → IsSound m → IsSound (with_register r v m)
unfolding with_register
with_register-sound r v m fits s = with_registers_sound s _ (if_not_zero (nat_eq r 0) 32 m.registers r r v refl (differs r) fits s.registers)

abbrev Leaves : Outcome → Type 0
Leaves o = IsSound o.1

-- ---- the forms of instructions

module _ {m : MachineState} (s : IsSoundFor MIPS 32 AreHiLo m) where
  reg : (r : ℕ) → register m r < 2 ^ 32
  reg r = below_index (2 ^ 32) m.registers r (lit< tt) s.registers.each

  hi_lo : (i : ℕ) → slice_index m.special i < 2 ^ 32
  hi_lo i = below_index (2 ^ 32) m.special i (lit< tt) s.special.1

  writes-sound : (r v : ℕ) → v < 2 ^ 32 → Leaves (writes r v m)
  unfolding writes
  writes-sound r v fits = with_register-sound r v (moved m) fits (moved_sound s)

  writes_special-sound : (high low : ℕ) → high < 2 ^ 32 → low < 2 ^ 32 → Leaves (writes_special high low m)
  unfolding writes_special
  writes_special-sound high low h k = with_special_sound (moved_sound s) (high ∷ low ∷ []) (refl, (h, (k, tt)))

  product-sound : (n : ℕ) → n < 2 ^ 64 → Leaves (writes_special (n / 2 ^ 32) (n % 2 ^ 32) m)
  product-sound n h = writes_special-sound (n / 2 ^ 32) (n % 2 ^ 32) (high_fits n h) (low_fits n)

  reads_special-sound : (r v : ℕ) → v < 2 ^ 32 → Leaves (reads_special r v m)
  unfolding reads_special
  reads_special-sound r v fits = with_facts_sound (with_register-sound r v (moved m) fits (moved_sound s)) _

  divides_signed-sound : (rs rt : ℕ) → Leaves (divides_signed (signed (register m rs)) (signed (register m rt)) m)
  unfolding divides_signed
  divides_signed-sound rs rt =
      either_sound (divides (signed (register m rs)) (signed (register m rt))) _ _
      (writes_special-sound _ _ (remainder_signed_fits (register m rs) (signed (register m rt)) (reg rs)) (quotient_signed_fits (register m rs) (signed (register m rt)) (reg rs)))
      s

  divides_unsigned-sound : (rs rt : ℕ) → Leaves (divides_unsigned (register m rs) (register m rt) m)
  unfolding divides_unsigned
  divides_unsigned-sound rs rt =
      either_sound (nat_eq (register m rt) 0) _ _ s
      (writes_special-sound _ _ (remainder_fits (register m rs) (register m rt) (reg rs)) (quotient_fits (register m rs) (register m rt) (reg rs)))

  to-sound : (place : ℕ) → place < 2 ^ 32 → Leaves (jumps place (moved m))
  to-sound place h = jumps_sound (moved_sound s) place h

  linked-sound : (r place : ℕ) → place < 2 ^ 32 → Leaves (jumps place (with_register r (sum_of m.pc 8) (moved m)))
  linked-sound r place h = jumps_sound (with_register-sound r (sum_of m.pc 8) (moved m) (sum_fits m.pc 8) (moved_sound s)) place h

  branches-sound : (taken : Bool) (offset : ℕ) → Leaves (branches taken offset m)
  unfolding branches
  branches-sound taken offset =
      to-sound _ (either_fits taken _ _ (sum_fits (sum_of m.pc 4) (sign_extended 16 offset * 4 % 2 ^ 32)) (sum_fits m.next_pc 4))

  jump_target-fits : (place : ℕ) → place < 2 ^ 26 → jump_target m place < 2 ^ 32
  unfolding jump_target
  jump_target-fits place h = omega (arith, h, sum_fits m.pc 4)

  leaves_loaded-sound : (r v : ℕ) → v < 2 ^ 32 → Leaves (leaves_loaded r v m)
  unfolding leaves_loaded
  leaves_loaded-sound r v fits = with_facts_sound (with_register-sound r v (moved m) fits (moved_sound s)) _

  loads-sound : (r : ℕ) (x : Result ℕ FaultKind) → LoadedBelow (2 ^ 32) x → Leaves (loads r x m)
  loads-sound r x h = loads_sound s (leaves_loaded r) (2 ^ 32) x h (leaves_loaded-sound r)

  byte-sound : (r at : ℕ) → Leaves (loads r (load_of Little m.memory at 1) m)
  byte-sound r at = loads-sound r _ (loaded_fits 256 (load_of Little m.memory at 1) (lit≤ tt) (load_one Little m.memory at s.memory))

  half-sound : (r at : ℕ) → Leaves (loads r (load_of Little m.memory at 2) m)
  half-sound r at = loads-sound r _ (loaded_fits (2 ^ 16) (load_of Little m.memory at 2) (lit≤ tt) (load_two Little m.memory at s.memory))

  store-sound : (at width v : ℕ) → (width ≡ 1) ⊎ ((width ≡ 2) ⊎ (width ≡ 4)) → Leaves (stores (store_of Little m.memory at width v) m)
  store-sound at width v w = stores_sound s _ (store_memory Little m.memory at width v w s.memory)

  -- ---- each instruction of a table

  special_sound : (rs rt rd shamt funct : ℕ) → IfSome (special_insn rs rt rd shamt funct) (λ i. IsSound (act i m).1)
  unfolding special_insn act
  special_sound rs rt rd shamt funct =
      let P : Insn → Type 0 = λ (i : Insn). IsSound (act i m).1 in
      if_some P (nat_eq funct 0x00) _ _ (writes-sound _ _ (low_fits _))
      (if_some P (nat_eq funct 0x02) _ _ (writes-sound _ _ (quotient_fits (register m rt) (2 ^ shamt) (reg rt)))
      (if_some P (nat_eq funct 0x03) _ _ (writes-sound _ _ (shifted_fits (register m rt) shamt (reg rt)))
      (if_some P (nat_eq funct 0x04) _ _ (writes-sound _ _ (low_fits _))
      (if_some P (nat_eq funct 0x06) _ _ (writes-sound _ _ (quotient_fits (register m rt) (2 ^ (register m rs % 32)) (reg rt)))
      (if_some P (nat_eq funct 0x07) _ _ (writes-sound _ _ (shifted_fits (register m rt) (register m rs % 32) (reg rt)))
      (if_some P (nat_eq funct 0x08) _ _ (to-sound _ (reg rs))
      (if_some P (nat_eq funct 0x09) _ _ (linked-sound _ _ (reg rs))
      (if_some P (nat_eq funct 0x0c) _ _ (requests_sound s (with_register 2) _ _ (with_register-sound 2))
      (if_some P (nat_eq funct 0x0d) _ _ s
      (if_some P (nat_eq funct 0x10) _ _ (reads_special-sound _ _ (hi_lo 0))
      (if_some P (nat_eq funct 0x11) _ _ (writes_special-sound _ _ (reg rs) (hi_lo 1))
      (if_some P (nat_eq funct 0x12) _ _ (reads_special-sound _ _ (hi_lo 1))
      (if_some P (nat_eq funct 0x13) _ _ (writes_special-sound _ _ (hi_lo 0) (reg rs))
      (if_some P (nat_eq funct 0x18) _ _ (product-sound _ (product_signed_fits (register m rs) (register m rt) (reg rs) (reg rt)))
      (if_some P (nat_eq funct 0x19) _ _ (product-sound _ (product_fits (register m rs) (register m rt) (reg rs) (reg rt)))
      (if_some P (nat_eq funct 0x1a) _ _ (divides_signed-sound rs rt)
      (if_some P (nat_eq funct 0x1b) _ _ (divides_unsigned-sound rs rt)
      (if_some P (nat_eq funct 0x21) _ _ (writes-sound _ _ (sum_fits _ _))
      (if_some P (nat_eq funct 0x23) _ _ (writes-sound _ _ (difference_fits _ _))
      (if_some P (nat_eq funct 0x24) _ _ (writes-sound _ _ (and_fits _ _ (reg rs) (reg rt)))
      (if_some P (nat_eq funct 0x25) _ _ (writes-sound _ _ (or_fits _ _ (reg rs) (reg rt)))
      (if_some P (nat_eq funct 0x26) _ _ (writes-sound _ _ (xor_fits _ _ (reg rs) (reg rt)))
      (if_some P (nat_eq funct 0x27) _ _ (writes-sound _ _ (inverted_fits _))
      (if_some P (nat_eq funct 0x2a) _ _ (writes-sound _ _ (bit_fits _))
      (if_some P (nat_eq funct 0x2b) _ _ (writes-sound _ _ (bit_fits _))
      (tt))))))))))))))))))))))))))

  branch_sound : (rs rt offset : ℕ) → IfSome (branch_insn rs rt offset) (λ i. IsSound (act i m).1)
  unfolding branch_insn act
  branch_sound rs rt offset = let P : Insn → Type 0 = λ (i : Insn). IsSound (act i m).1 in
      if_some P (nat_eq rt 0x00) _ _ (branches-sound _ _)
      (if_some P (nat_eq rt 0x01) _ _ (branches-sound _ _)
      (tt))

  jump_sound : (op place : ℕ) → place < 2 ^ 26 → IfSome (jump_insn op place) (λ i. IsSound (act i m).1)
  unfolding jump_insn act
  jump_sound op place h = let P : Insn → Type 0 = λ (i : Insn). IsSound (act i m).1 in
      if_some P (nat_eq op 0x02) _ _ (to-sound _ (jump_target-fits place h))
      (if_some P (nat_eq op 0x03) _ _ (linked-sound _ _ (jump_target-fits place h))
      (tt))

  immediate_sound : (op rs rt immediate : ℕ) → immediate < 2 ^ 16 → IfSome (immediate_insn op rs rt immediate) (λ i. IsSound (act i m).1)
  unfolding immediate_insn act
  immediate_sound op rs rt immediate h =
      let fits : immediate < 2 ^ 32 = omega (arith, h) in
      let high : immediate * 2 ^ 16 < 2 ^ 32 = omega (arith, h) in
      let P : Insn → Type 0 = λ (i : Insn). IsSound (act i m).1 in
      if_some P (nat_eq op 0x04) _ _ (branches-sound _ _)
      (if_some P (nat_eq op 0x05) _ _ (branches-sound _ _)
      (if_some P (nat_eq op 0x06) _ _ (branches-sound _ _)
      (if_some P (nat_eq op 0x07) _ _ (branches-sound _ _)
      (if_some P (nat_eq op 0x09) _ _ (writes-sound _ _ (sum_fits _ _))
      (if_some P (nat_eq op 0x0a) _ _ (writes-sound _ _ (bit_fits _))
      (if_some P (nat_eq op 0x0b) _ _ (writes-sound _ _ (bit_fits _))
      (if_some P (nat_eq op 0x0c) _ _ (writes-sound _ _ (and_fits _ _ (reg rs) fits))
      (if_some P (nat_eq op 0x0d) _ _ (writes-sound _ _ (or_fits _ _ (reg rs) fits))
      (if_some P (nat_eq op 0x0e) _ _ (writes-sound _ _ (xor_fits _ _ (reg rs) fits))
      (if_some P (nat_eq op 0x0f) _ _ (writes-sound _ _ high)
      (if_some P (nat_eq op 0x20) _ _ (loads-sound _ _ (signed_byte_fits _ (load_one Little m.memory (address m rs immediate) s.memory)))
      (if_some P (nat_eq op 0x21) _ _ (loads-sound _ _ (signed_half_fits _ (load_two Little m.memory (address m rs immediate) s.memory)))
      (if_some P (nat_eq op 0x23) _ _ (loads-sound _ _ (load_four Little m.memory (address m rs immediate) s.memory))
      (if_some P (nat_eq op 0x24) _ _ (byte-sound _ _)
      (if_some P (nat_eq op 0x25) _ _ (half-sound _ _)
      (if_some P (nat_eq op 0x28) _ _ (store-sound _ 1 _ (inl refl))
      (if_some P (nat_eq op 0x29) _ _ (store-sound _ 2 _ (inr (inl refl)))
      (if_some P (nat_eq op 0x2b) _ _ (store-sound _ 4 _ (inr (inr refl)))
      (tt)))))))))))))))))))

  named_sound : (w : ℕ) → IfSome (named_insn w) (λ i. IsSound (act i m).1)
  unfolding named_insn
  named_sound w =
      let P : Insn → Type 0 = λ (i : Insn). IsSound (act i m).1 in
      either_kept P (nat_eq (op_of w) 0) _ _ (special_sound (rs_of w) (rt_of w) (rd_of w) (shamt_of w) (funct_of w))
      (either_kept P (nat_eq (op_of w) 1) _ _ (branch_sound (rs_of w) (rt_of w) (immediate_of w))
      (either_kept P (nat_lt (op_of w) 4) _ _ (jump_sound (op_of w) (target_of w) (omega arith))
      (immediate_sound (op_of w) (rs_of w) (rt_of w) (immediate_of w) (omega arith))))

  insn_sound : (w : ℕ) → IfSome (insn_of w) (λ i. IsSound (act i m).1)
  unfolding insn_of
  insn_sound w = if_exact-kept (λ (i : Insn). IsSound (act i m).1) word_of w (named_insn w) (named_sound w)

  step-sound : IsSound (step_of m).1
  unfolding step_of
  step-sound = step_sound mips_set m s (λ w h. insn_sound w)

  -- ---- the context block

  saved-sound : IsSound (saved_state m)
  unfolding saved_state
  saved-sound =
      let two : length (m.special ++ (m.pc ∷ m.next_pc ∷ [])) ≡ 4 = omega (arith, length-append m.special (m.pc ∷ m.next_pc ∷ []), s.special.0) in
      let size : length (m.registers ++ (m.special ++ (m.pc ∷ m.next_pc ∷ []))) ≡ 36 =
      omega (arith, length-append m.registers (m.special ++ (m.pc ∷ m.next_pc ∷ [])), s.registers.count_is, two) in
      memory_sound s _ (saved_memory Little _ m.memory size s.memory)

  restored_from-sound : (ws : List ℕ) → length ws ≡ 36 → AllBelow (2 ^ 32) ws → IsSound (restored_from ws m)
  restored_from-sound ws size h =
      let word : (i : ℕ) → slice_index ws i < 2 ^ 32 = λ (i : ℕ). below_index (2 ^ 32) ws i (lit< tt) h in
      let front : length (take 32 ws) ≡ 32 = length-take-le 32 ws (omega (arith, size)) in
      record {
        target_is = s.target_is;
        registers = record {
          count_is = length-set (take 32 ws) 0 0 ∙ front;
          each = below_set (2 ^ 32) (take 32 ws) 0 0 (lit< tt) (below_take (2 ^ 32) 32 ws h);
          zero_register = get_or-set_same (take 32 ws) 0 0 0 (omega (arith, front));
        };
        special = (refl, (word 32, (word 33, tt)));
        pc_fits = word 34;
        next_pc_fits = word 35;
        memory = s.memory;
        input = s.input;
        put_fits = s.put_fits;
      }

  restored-sound : IsSound (restored_state m)
  unfolding restored_state
  restored-sound =
      restored_from-sound (words_in Little 36 m.memory.context_bytes) (length_words_in Little 36 m.memory.context_bytes)
      (words_fit Little 36 m.memory.context_bytes s.memory.context.each)

-- ---- the start

first_registers : AreRegisters 32 (slice_set (replicate 32 0) 29 0x7ffe_ffa0)
first_registers = record { count_is = refl; each = below_set (2 ^ 32) (replicate 32 0) 29 0x7ffe_ffa0 (lit< tt) (below_zeros (2 ^ 32) 32 (lit< tt)); zero_register = refl }

pub first_sound : (entry : ℕ) (text statics : List ℕ) → MayBegin entry text statics → IsSound (first_state entry text statics)
unfolding first_state
first_sound entry text statics b = begun_sound _ (0 ∷ 0 ∷ []) entry text statics first_registers (refl, (lit< tt, (lit< tt, tt))) b

pub keeps_sound : Keeps IsSound mips_behaviour
keeps_sound = record {
  next = λ (m : MachineState) (s : IsSound m). step-sound s;
  saved = λ (m : MachineState) (s : IsSound m). saved-sound s;
  restored = λ (m : MachineState) (s : IsSound m). restored-sound s;
  written = written_sound;
  given = given_sound;
  taken = λ (m : MachineState) (s : IsSound m). none_put s;
  argument = λ (m : MachineState) (s : IsSound m). reg s 4;
}
