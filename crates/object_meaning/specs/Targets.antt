-- Both targets, as compiled code uses them.
use Rattle.std.specs.Prelude.{ℕ, ◌+◌, ◌*◌, List, [], ◌∷◌, Bool, true, false, ℤ, pos, ◌-ℤ◌, Option, Some, None}
use Rattle.machine_state.specs.declared.layout.TheConstants.{MIPS, SPARC, CONTEXT}
use Rattle.mips_isa.specs.declared.insn.Insn.TheVariants as mips
use Rattle.mips_isa.specs.Codec as mips_code
use Rattle.object_meaning.specs.Changes.{Target}

-- a register that is kept so many bytes above the stack pointer, by its distance from the frame's base
abbrev pub kept : (frame : ℕ) → (register at : ℕ) → ℕ × ℤ
kept frame r at = (r, pos at -ℤ pos frame)

abbrev pub mips_saved : (frame : ℕ) → List (ℕ × ℤ)
mips_saved frame =
    kept frame 31 64 ∷ kept frame 16 68 ∷ kept frame 17 72 ∷ kept frame 18 76 ∷ kept frame 19 80
    ∷ kept frame 20 84 ∷ kept frame 21 88 ∷ kept frame 22 92 ∷ kept frame 23 96 ∷ []

-- Each function keeps its return address at 64 above its stack pointer, and its caller's `$16` to `$23` from 68 on. The return
-- lies behind the call and its slot.
abbrev pub mips_target : Target
mips_target = record {
  number = MIPS;
  linkage = 100;
  register_at = λ pointer inner r. inner + 68 + 4 * r;
  base_at = λ innermost pointer. None;
  return_at = λ innermost pointer. pointer + 64;
  return_behind = 8;
  pointer_word = 29;
  saved_by = mips_saved;
  no_op = mips_code.word_of (mips.Sll 0 0 0);
  break_word = mips_code.word_of mips.Break;
}

abbrev base_of : Bool → ℕ → ℕ
base_of true pointer = CONTEXT + 4 * 30
base_of false pointer = pointer + 56

abbrev return_of : Bool → ℕ → ℕ
return_of true pointer = CONTEXT + 4 * 31
return_of false pointer = pointer + 60

-- Each frame begins with its window: `%l0` to `%l7`, then `%i0` to `%i7`. `%i6` is the frame's base and `%i7` the address of the
-- call. A no-op is SETHI of 0 into `%g0`, a break `ta 1`.
abbrev pub sparc_target : Target
sparc_target = record {
  number = SPARC;
  linkage = 132;
  register_at = λ pointer inner r. pointer + 4 * r;
  base_at = λ innermost pointer. Some (base_of innermost pointer);
  return_at = return_of;
  return_behind = 0;
  pointer_word = 14;
  saved_by = λ frame. [];
  no_op = 0x0100_0000;
  break_word = 0x91d0_2001;
}
