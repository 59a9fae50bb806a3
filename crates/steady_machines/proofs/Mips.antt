-- Machines of the MIPS.
use Rattle.std.proofs.Common.{refl, ℕ, ℤ, nat_eq, Bool, Result}
use Rattle.ldb_words.specs.Arithmetic.{divides}
use Rattle.ldb_words.specs.declared.kinds.Order.TheVariants.{Little}
use Rattle.ldb_words.specs.declared.event.FaultKind.{FaultKind}
use Rattle.machine_state.specs.State.{MachineState}
use Rattle.machine_state.specs.Step.{moved, jumps}
use Rattle.mips_isa.specs.declared.insn.Insn.{Insn}
use Rattle.mips_isa.specs.declared.insn.Insn.TheVariants.{Sll, Srl, Sra, Sllv, Srlv, Srav, Jr, Jalr, Syscall, Break as BreakInsn, Mfhi, Mthi, Mflo, Mtlo, Mult, Multu, Div, Divu, Addu, Subu, And, Or, Xor, Nor, Slt, Sltu, Bltz, Bgez, J, Jal, Beq, Bne, Blez, Bgtz, Addiu, Slti, Sltiu, Andi, Ori, Xori, Lui, Lb, Lh, Lw, Lbu, Lhu, Sb, Sh, Sw}
use Rattle.mips_isa.specs.Loaded.{saved_state, restored_state, mips_behaviour}
use Rattle.mips_isa.specs.Step.{register, with_register, writes, writes_special, reads_special, divides_signed, divides_unsigned, branches, address, leaves_loaded, loads, act, mips_set, step_of}
use Rattle.steady_machines.specs.Steady.{Steady, Steadies}
use Rattle.steady_machines.proofs.Steps.{same, onward, either, moved_steady, jumps_steady, loads_steady, store_text, saved_text, stores_steady, requests_steady, step_steady}

register_steady : (r v : ℕ) (m : MachineState) → Steady m (with_register r v m)
unfolding with_register
register_steady r v m = record { target = refl; text = refl }

writes_steady : (r v : ℕ) (m : MachineState) → Steady m (writes r v m).1
unfolding writes
writes_steady r v m = onward (moved_steady m) (register_steady r v (moved m))

special_steady : (high low : ℕ) (m : MachineState) → Steady m (writes_special high low m).1
unfolding writes_special
special_steady high low m = onward (moved_steady m) (record { target = refl; text = refl })

reads_special_steady : (r v : ℕ) (m : MachineState) → Steady m (reads_special r v m).1
unfolding reads_special
reads_special_steady r v m = let h = onward (moved_steady m) (register_steady r v (moved m)) in record { target = h.target; text = h.text }

signed_steady : (a b : ℤ) (m : MachineState) → Steady m (divides_signed a b m).1
unfolding divides_signed
signed_steady a b m = either (divides a b) _ _ (special_steady _ _ m) (same m)

unsigned_steady : (a b : ℕ) (m : MachineState) → Steady m (divides_unsigned a b m).1
unfolding divides_unsigned
unsigned_steady a b m = either (nat_eq b 0) _ _ (same m) (special_steady _ _ m)

linked_steady : (r v place : ℕ) (m : MachineState) → Steady m (jumps place (with_register r v (moved m))).1
linked_steady r v place m = onward (onward (moved_steady m) (register_steady r v (moved m))) (jumps_steady place (with_register r v (moved m)))

branches_steady : (taken : Bool) (offset : ℕ) (m : MachineState) → Steady m (branches taken offset m).1
unfolding branches
branches_steady taken offset m = onward (moved_steady m) (jumps_steady _ (moved m))

loaded_steady : (r v : ℕ) (m : MachineState) → Steady m (leaves_loaded r v m).1
unfolding leaves_loaded
loaded_steady r v m = let h = onward (moved_steady m) (register_steady r v (moved m)) in record { target = h.target; text = h.text }

loading_steady : (r : ℕ) (x : Result ℕ FaultKind) (m : MachineState) → Steady m (loads r x m).1
loading_steady r x m = loads_steady (leaves_loaded r) x m (λ v. loaded_steady r v m)

act_steady : (i : Insn) (m : MachineState) → Steady m (act i m).1
unfolding act
act_steady (Sll rd rt shamt) m = writes_steady rd _ m
act_steady (Srl rd rt shamt) m = writes_steady rd _ m
act_steady (Sra rd rt shamt) m = writes_steady rd _ m
act_steady (Sllv rd rt rs) m = writes_steady rd _ m
act_steady (Srlv rd rt rs) m = writes_steady rd _ m
act_steady (Srav rd rt rs) m = writes_steady rd _ m
act_steady (Jr rs) m = onward (moved_steady m) (jumps_steady _ (moved m))
act_steady (Jalr rd rs) m = linked_steady rd _ _ m
act_steady Syscall m = requests_steady (with_register 2) (register_steady 2) _ _ m
act_steady BreakInsn m = same m
act_steady (Mfhi rd) m = reads_special_steady rd _ m
act_steady (Mthi rs) m = special_steady _ _ m
act_steady (Mflo rd) m = reads_special_steady rd _ m
act_steady (Mtlo rs) m = special_steady _ _ m
act_steady (Mult rs rt) m = special_steady _ _ m
act_steady (Multu rs rt) m = special_steady _ _ m
act_steady (Div rs rt) m = signed_steady _ _ m
act_steady (Divu rs rt) m = unsigned_steady _ _ m
act_steady (Addu rd rs rt) m = writes_steady rd _ m
act_steady (Subu rd rs rt) m = writes_steady rd _ m
act_steady (And rd rs rt) m = writes_steady rd _ m
act_steady (Or rd rs rt) m = writes_steady rd _ m
act_steady (Xor rd rs rt) m = writes_steady rd _ m
act_steady (Nor rd rs rt) m = writes_steady rd _ m
act_steady (Slt rd rs rt) m = writes_steady rd _ m
act_steady (Sltu rd rs rt) m = writes_steady rd _ m
act_steady (Bltz rs offset) m = branches_steady _ offset m
act_steady (Bgez rs offset) m = branches_steady _ offset m
act_steady (J target) m = onward (moved_steady m) (jumps_steady _ (moved m))
act_steady (Jal target) m = linked_steady 31 _ _ m
act_steady (Beq rs rt offset) m = branches_steady _ offset m
act_steady (Bne rs rt offset) m = branches_steady _ offset m
act_steady (Blez rs offset) m = branches_steady _ offset m
act_steady (Bgtz rs offset) m = branches_steady _ offset m
act_steady (Addiu rt rs immediate) m = writes_steady rt _ m
act_steady (Slti rt rs immediate) m = writes_steady rt _ m
act_steady (Sltiu rt rs immediate) m = writes_steady rt _ m
act_steady (Andi rt rs immediate) m = writes_steady rt _ m
act_steady (Ori rt rs immediate) m = writes_steady rt _ m
act_steady (Xori rt rs immediate) m = writes_steady rt _ m
act_steady (Lui rt immediate) m = writes_steady rt _ m
act_steady (Lb rt base offset) m = loading_steady rt _ m
act_steady (Lh rt base offset) m = loading_steady rt _ m
act_steady (Lw rt base offset) m = loading_steady rt _ m
act_steady (Lbu rt base offset) m = loading_steady rt _ m
act_steady (Lhu rt base offset) m = loading_steady rt _ m
act_steady (Sb rt base offset) m = stores_steady _ m (store_text Little m.memory (address m base offset) 1 (register m rt))
act_steady (Sh rt base offset) m = stores_steady _ m (store_text Little m.memory (address m base offset) 2 (register m rt))
act_steady (Sw rt base offset) m = stores_steady _ m (store_text Little m.memory (address m base offset) 4 (register m rt))

pub mips_steady : Steadies mips_behaviour
unfolding step_of saved_state restored_state
mips_steady = record {
  next = step_steady mips_set act_steady;
  saved = λ (m : MachineState). record { target = refl; text = saved_text Little _ m.memory };
  restored = λ (m : MachineState). record { target = refl; text = refl };
}
