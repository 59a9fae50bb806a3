-- Machines of the SPARC.
use Rattle.std.proofs.Common.{take, ◌≡◌, ◌∙◌, refl, ℕ, zero, suc, nat_eq, Bool, List, [], ◌∷◌, Result, None, Ok, Err, IfOk}
use Rattle.ldb_words.specs.declared.kinds.Order.TheVariants.{Big}
use Rattle.ldb_words.specs.declared.event.FaultKind.{FaultKind}
use Rattle.machine_state.specs.declared.layout.TheConstants.{CONTEXT_WORDS}
use Rattle.machine_state.specs.Regions.{Regions, words_in}
use Rattle.machine_state.specs.State.{MachineState}
use Rattle.machine_state.specs.Step.{moved}
use Rattle.sparc_isa.specs.declared.condition.Condition.{Condition}
use Rattle.sparc_isa.specs.declared.insn.Insn.{Insn}
use Rattle.sparc_isa.specs.declared.insn.Insn.TheVariants.{Call, Bicc, Sethi, Add, And, Or, Xor, Sub, Andn, Orn, Xnor, Umul, Smul, Udiv, Sdiv, Subcc, Sll, Srl, Sra, Rdy, Wry, Jmpl, Ticc, Save, Restore, Ld, Ldub, Lduh, St, Stb, Sth, Ldsb, Ldsh}
use Rattle.sparc_isa.specs.Loaded.{with_block, block_of, saved_state, restored_state, sparc_behaviour}
use Rattle.sparc_isa.specs.Windows.{window_below, window_above, current, codes, invalid, with_y, with_codes, with_current, with_invalid, register, with_register, with_registers, stack_pointer, window_words, stored_window, spilled, spills, filled, fills, callers, and_then, stored_windows, flushed, flush_of}
use Rattle.sparc_isa.specs.Step.{address, writes, multiplies, divides, subtracts, writes_y, skips, is_annulled, branches, calls, jumps_linked, loads, saves, restores, traps, traps_if, act, sparc_set, step_of}
use Rattle.steady_machines.specs.Steady.{Steady, Steadies}
use Rattle.steady_machines.proofs.Steps.{same, onward, either, moved_steady, jumps_steady, loads_steady, store_text, store_words_text, saved_text, stores_steady, requests_steady, step_steady}

register_steady : (r v : ℕ) (m : MachineState) → Steady m (with_register r v m)
unfolding with_register
register_steady r v m = record { target = refl; text = refl }

y_steady : (v : ℕ) (m : MachineState) → Steady m (with_y v m)
unfolding with_y
y_steady v m = record { target = refl; text = refl }

codes_steady : (v : ℕ) (m : MachineState) → Steady m (with_codes v m)
unfolding with_codes
codes_steady v m = record { target = refl; text = refl }

current_steady : (w : ℕ) (m : MachineState) → Steady m (with_current w m)
unfolding with_current
current_steady w m = record { target = refl; text = refl }

invalid_steady : (w : ℕ) (m : MachineState) → Steady m (with_invalid w m)
unfolding with_invalid
invalid_steady w m = record { target = refl; text = refl }

-- ---- the forms of instructions

writes_steady : (r v : ℕ) (m : MachineState) → Steady m (writes r v m).1
unfolding writes
writes_steady r v m = onward (moved_steady m) (register_steady r v (moved m))

multiplies_steady : (rd product : ℕ) (m : MachineState) → Steady m (multiplies rd product m).1
unfolding multiplies
multiplies_steady rd product m = onward (onward (moved_steady m) (register_steady rd _ (moved m))) (y_steady _ _)

divides_steady : (rd divisor quotient : ℕ) (m : MachineState) → Steady m (divides rd divisor quotient m).1
unfolding divides
divides_steady rd divisor quotient m = either (nat_eq divisor 0) _ _ (same m) (writes_steady rd quotient m)

subtracts_steady : (rd a b : ℕ) (m : MachineState) → Steady m (subtracts rd a b m).1
unfolding subtracts
subtracts_steady rd a b m = onward (onward (moved_steady m) (register_steady rd _ (moved m))) (codes_steady _ _)

writes_y_steady : (v : ℕ) (m : MachineState) → Steady m (writes_y v m).1
unfolding writes_y
writes_y_steady v m = let h = onward (moved_steady m) (y_steady v (moved m)) in record { target = h.target; text = h.text }

skips_steady : (target : ℕ) (m : MachineState) → Steady m (skips target m).1
unfolding skips
skips_steady target m = record { target = refl; text = refl }

branches_steady : (annul : Bool) (condition : Condition) (displacement : ℕ) (m : MachineState) → Steady m (branches annul condition displacement m).1
unfolding branches
branches_steady annul condition displacement m =
    either (is_annulled annul condition (codes m)) _ _ (onward (moved_steady m) (skips_steady _ (moved m))) (onward (moved_steady m) (jumps_steady _ (moved m)))

linked_steady : (rd target : ℕ) (m : MachineState) → Steady m (jumps_linked rd target m).1
unfolding jumps_linked
linked_steady rd target m = onward (onward (moved_steady m) (register_steady rd _ (moved m))) (jumps_steady target _)

loading_steady : (r : ℕ) (x : Result ℕ FaultKind) (m : MachineState) → Steady m (loads r x m).1
loading_steady r x m = loads_steady (writes r) x m (λ v. writes_steady r v m)

traps_steady : (number : ℕ) (m : MachineState) → Steady m (traps number m).1
unfolding traps
traps_steady number m = either (nat_eq number 1) _ _ (same m) (requests_steady (with_register 8) (register_steady 8) _ _ m)

traps_if_steady : (holds : Bool) (number : ℕ) (m : MachineState) → Steady m (traps_if holds number m).1
unfolding traps_if
traps_if_steady holds number m = either holds _ _ (traps_steady number m) (moved_steady m)

-- ---- windows

abbrev StoresText : MachineState → Result Regions FaultKind → Type 0
StoresText m x = IfOk x (λ r. r.text_bytes ≡ m.memory.text_bytes)

spilled_steady : (w : ℕ) (x : Result Regions FaultKind) (m : MachineState) → StoresText m x → Steady m (spilled w x m).1
spilled_steady w (Err kind) m h = same m
spilled_steady w (Ok r) m h = onward (record { target = refl; text = h }) (invalid_steady w (record m { memory = r; put = None }))

spills_steady : (w : ℕ) (m : MachineState) → Steady m (spills w m).1
unfolding spills
spills_steady w m = spilled_steady w _ m (store_words_text Big m.memory (stack_pointer m.registers w) (window_words m.registers w))

filled_steady : (w : ℕ) (x : Result (List ℕ) FaultKind) (m : MachineState) → Steady m (filled w x m).1
filled_steady w (Err kind) m = same m
filled_steady w (Ok words) m = onward (record { target = refl; text = refl }) (invalid_steady (window_above w) _)

fills_steady : (w : ℕ) (m : MachineState) → Steady m (fills w m).1
unfolding fills
fills_steady w m = filled_steady w _ m

window_steady : (rd v w : ℕ) (m : MachineState) → Steady m (with_register rd v (with_current w (moved m)))
window_steady rd v w m = onward (onward (moved_steady m) (current_steady w (moved m))) (register_steady rd v _)

saves_steady : (rd v : ℕ) (m : MachineState) → Steady m (saves rd v m).1
unfolding saves
saves_steady rd v m =
    let w : ℕ = window_below (current m) in
    either (nat_eq w (invalid m)) _ _ (spills_steady (window_below w) m) (window_steady rd v w m)

restores_steady : (rd v : ℕ) (m : MachineState) → Steady m (restores rd v m).1
unfolding restores
restores_steady rd v m =
    let w : ℕ = window_above (current m) in
    either (nat_eq w (invalid m)) _ _ (fills_steady w m) (window_steady rd v w m)

-- ---- the flush, the save and the restore

ok_behind : (r z : Regions) (x : Result Regions FaultKind) → z.text_bytes ≡ r.text_bytes → IfOk x (λ u. u.text_bytes ≡ z.text_bytes) → IfOk x (λ u. u.text_bytes ≡ r.text_bytes)
ok_behind r z (Err kind) h k = tt
ok_behind r z (Ok u) h k = k ∙ h

and_then_text : (r : Regions) (x : Result Regions FaultKind) (next : Regions → Result Regions FaultKind) → IfOk x (λ z. z.text_bytes ≡ r.text_bytes) → ((z : Regions) → IfOk (next z) (λ u. u.text_bytes ≡ z.text_bytes))
    → IfOk (and_then x next) (λ z. z.text_bytes ≡ r.text_bytes)
and_then_text r (Err kind) next h k = tt
and_then_text r (Ok z) next h k = ok_behind r z (next z) h (k z)

windows_text : (n w : ℕ) (words : List ℕ) (r : Regions) → IfOk (stored_windows n w words r) (λ z. z.text_bytes ≡ r.text_bytes)
windows_text zero w words r = refl
windows_text (suc n) w words r =
    and_then_text r (stored_window w words r) (stored_windows n (window_above w) words) (store_words_text Big r (stack_pointer words w) (window_words words w)) (windows_text n (window_above w) words)

flushed_steady : (x : Result Regions FaultKind) (m : MachineState) → StoresText m x → Steady m (flushed x m).1
flushed_steady (Err kind) m h = same m
flushed_steady (Ok r) m h = onward (record { target = refl; text = h }) (invalid_steady (window_above (current m)) (record m { memory = r }))

flush_steady : (m : MachineState) → Steady m (flush_of m).1
unfolding flush_of
flush_steady m = flushed_steady _ m (windows_text (callers m) (window_above (current m)) m.registers m.memory)

block_steady : (m : MachineState) → Steady m (with_block m)
unfolding with_block
block_steady m = record { target = refl; text = saved_text Big (block_of m) m.memory }

saved_steady : (m : MachineState) → Steady m (saved_state m).1
unfolding saved_state
saved_steady m = onward (flush_steady m) (block_steady (flush_of m).1)

registers_steady : (r : ℕ) (vs : List ℕ) (m : MachineState) → Steady m (with_registers r vs m)
registers_steady r [] m = same m
registers_steady r (v ∷ vs) m = onward (register_steady r v m) (registers_steady (suc r) vs (with_register r v m))

restored_steady : (m : MachineState) → Steady m (restored_state m)
unfolding restored_state
restored_steady m = let h = registers_steady 0 (take 32 (words_in Big CONTEXT_WORDS m.memory.context_bytes)) m in record { target = h.target; text = h.text }

act_steady : (i : Insn) (m : MachineState) → Steady m (act i m).1
unfolding act calls
act_steady (Call displacement) m = onward (onward (moved_steady m) (register_steady 15 _ (moved m))) (jumps_steady _ (with_register 15 m.pc (moved m)))
act_steady (Bicc annul condition displacement) m = branches_steady annul condition displacement m
act_steady (Sethi rd immediate) m = writes_steady rd _ m
act_steady (Add rd rs1 operand) m = writes_steady rd _ m
act_steady (And rd rs1 operand) m = writes_steady rd _ m
act_steady (Or rd rs1 operand) m = writes_steady rd _ m
act_steady (Xor rd rs1 operand) m = writes_steady rd _ m
act_steady (Sub rd rs1 operand) m = writes_steady rd _ m
act_steady (Andn rd rs1 operand) m = writes_steady rd _ m
act_steady (Orn rd rs1 operand) m = writes_steady rd _ m
act_steady (Xnor rd rs1 operand) m = writes_steady rd _ m
act_steady (Umul rd rs1 operand) m = multiplies_steady rd _ m
act_steady (Smul rd rs1 operand) m = multiplies_steady rd _ m
act_steady (Udiv rd rs1 operand) m = divides_steady rd _ _ m
act_steady (Sdiv rd rs1 operand) m = divides_steady rd _ _ m
act_steady (Subcc rd rs1 operand) m = subtracts_steady rd _ _ m
act_steady (Sll rd rs1 count) m = writes_steady rd _ m
act_steady (Srl rd rs1 count) m = writes_steady rd _ m
act_steady (Sra rd rs1 count) m = writes_steady rd _ m
act_steady (Rdy rd) m = writes_steady rd _ m
act_steady (Wry rs1 operand) m = writes_y_steady _ m
act_steady (Jmpl rd rs1 operand) m = linked_steady rd _ m
act_steady (Ticc condition rs1 operand) m = traps_if_steady _ _ m
act_steady (Save rd rs1 operand) m = saves_steady rd _ m
act_steady (Restore rd rs1 operand) m = restores_steady rd _ m
act_steady (Ld rd rs1 operand) m = loading_steady rd _ m
act_steady (Ldub rd rs1 operand) m = loading_steady rd _ m
act_steady (Lduh rd rs1 operand) m = loading_steady rd _ m
act_steady (St rd rs1 operand) m = stores_steady _ m (store_text Big m.memory (address m rs1 operand) 4 (register m rd))
act_steady (Stb rd rs1 operand) m = stores_steady _ m (store_text Big m.memory (address m rs1 operand) 1 (register m rd))
act_steady (Sth rd rs1 operand) m = stores_steady _ m (store_text Big m.memory (address m rs1 operand) 2 (register m rd))
act_steady (Ldsb rd rs1 operand) m = loading_steady rd _ m
act_steady (Ldsh rd rs1 operand) m = loading_steady rd _ m

pub sparc_steady : Steadies sparc_behaviour
unfolding step_of
sparc_steady = record {
  next = step_steady sparc_set act_steady;
  saved = saved_steady;
  restored = restored_steady;
}
