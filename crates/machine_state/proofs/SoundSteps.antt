-- What the skeleton of a step does to a machine in which all fits.
use Rattle.std.proofs.Common.{◌≡◌, ◌∙◌, refl, ℕ, zero, suc, ◌+◌, ◌-◌, ◌^◌, ◌%◌, ◌≤◌, ◌<◌, ◌&&◌, nat_eq, nat_lt, nat_le, Bool, true, false, if◌then◌else◌, List, [], ◌∷◌, ◌++◌, length, Option, Some, None, IfSome, IfOk, Result, Ok, Err, arith, length-append, lit<, lit≤}
use Rattle.std.specs.Prelude.{slice_set}
use Rattle.std.proofs.lemmas.List.{get_or-set_other, length-set}
use Rattle.std.proofs.lemmas.Bool.Decides.{nat_tests}
use Rattle.ldb_words.specs.declared.event.FaultKind.{FaultKind}
use Rattle.ldb_words.specs.declared.event.Outside.{Outside}
use Rattle.machine_state.specs.declared.layout.TheConstants.{DATA_SIZE}
use Rattle.machine_state.specs.Regions.{Regions, write_of}
use Rattle.machine_state.specs.State.{MachineState, Facts, order_of, with_memory, with_input, given_input, begun}
use Rattle.machine_state.specs.Step.{Outcome, moved, jumps, on_loaded, sign_loaded, stores, byte_read, reads_input, puts, requests, InstructionSet, decoded, fetched, step_by}
use Rattle.machine_state.specs.Sound.{AllBelow, AreBytes, IsMemory, AreRegisters, IsInput, IsSoundFor, IsWidth, MayBegin}
use Rattle.machine_state.proofs.Bounds.{sum_fits, extended_fits}
use Rattle.machine_state.proofs.SoundMemory.{below_append, LoadedBelow, write_memory, first_memory, fetch_fits}

-- ---- registers

pub below_set : (bound : ℕ) (xs : List ℕ) (i v : ℕ) → v < bound → AllBelow bound xs → AllBelow bound (slice_set xs i v)
below_set bound [] i v h k = tt
below_set bound (x ∷ xs) zero v h k = (h, k.1)
below_set bound (x ∷ xs) (suc i) v h k = (k.0, below_set bound xs i v h k.1)

pub register_set : (count : ℕ) (words : List ℕ) (i v : ℕ) → (0 ≡ i → ⊥) → v < 2 ^ 32 → AreRegisters count words → AreRegisters count (slice_set words i v)
register_set count words i v some fits r = record {
  count_is = length-set words i v ∙ r.count_is;
  each = below_set (2 ^ 32) words i v fits r.each;
  zero_register = get_or-set_other words i 0 v 0 some ∙ r.zero_register;
}

pub if_not_zero : (b : Bool) (count : ℕ) (words : List ℕ) (r i v : ℕ) → nat_eq r 0 ≡ b → (nat_eq r 0 ≡ false → 0 ≡ i → ⊥) → v < 2 ^ 32 → AreRegisters count words
    → AreRegisters count (if b then words else slice_set words i v)
if_not_zero true count words r i v e some fits h = h
if_not_zero false count words r i v e some fits h = register_set count words i v (some e) fits h

-- ---- what was loaded, as a word

pub loaded_fits : (bound : ℕ) (x : Result ℕ FaultKind) → bound ≤ 2 ^ 32 → LoadedBelow bound x → LoadedBelow (2 ^ 32) x
loaded_fits bound (Ok v) h k = omega (arith, h, k)
loaded_fits bound (Err kind) h k = tt

pub signed_byte_fits : (x : Result ℕ FaultKind) → LoadedBelow 256 x → LoadedBelow (2 ^ 32) (sign_loaded 8 x)
signed_byte_fits (Ok v) h = extended_fits 8 v h (lit≤ tt)
signed_byte_fits (Err kind) h = tt

pub signed_half_fits : (x : Result ℕ FaultKind) → LoadedBelow (2 ^ 16) x → LoadedBelow (2 ^ 32) (sign_loaded 16 x)
signed_half_fits (Ok v) h = extended_fits 16 v h (lit≤ tt)
signed_half_fits (Err kind) h = tt

-- ---- machines; a target with so many registers

-- a value may be left where results are left
abbrev pub MayLeave : (target count : ℕ) → (List ℕ → Type 0) → (ℕ → MachineState → MachineState) → Type 0
MayLeave target count AreSpecial leave = (v : ℕ) (m : MachineState) → v < 2 ^ 32 → IsSoundFor target count AreSpecial m → IsSoundFor target count AreSpecial (leave v m)

module _ {target count : ℕ} {AreSpecial : List ℕ → Type 0} where
  pub either_sound : (b : Bool) (x y : Outcome) → IsSoundFor target count AreSpecial x.1 → IsSoundFor target count AreSpecial y.1 → IsSoundFor target count AreSpecial (if◌then◌else◌ {A = Outcome} b x y).1
  either_sound true x y p q = p
  either_sound false x y p q = q

  module _ {m : MachineState} (s : IsSoundFor target count AreSpecial m) where
    pub with_registers_sound : (words : List ℕ) → AreRegisters count words → IsSoundFor target count AreSpecial (record m { registers = words })
    with_registers_sound words r = record { target_is = s.target_is; registers = r; special = s.special; pc_fits = s.pc_fits; next_pc_fits = s.next_pc_fits; memory = s.memory; input = s.input; put_fits = s.put_fits }

    pub with_special_sound : (words : List ℕ) → AreSpecial words → IsSoundFor target count AreSpecial (record m { special = words })
    with_special_sound words r = record { target_is = s.target_is; registers = s.registers; special = r; pc_fits = s.pc_fits; next_pc_fits = s.next_pc_fits; memory = s.memory; input = s.input; put_fits = s.put_fits }

    pub with_facts_sound : (f : Facts) → IsSoundFor target count AreSpecial (record m { facts = f })
    with_facts_sound f = record { target_is = s.target_is; registers = s.registers; special = s.special; pc_fits = s.pc_fits; next_pc_fits = s.next_pc_fits; memory = s.memory; input = s.input; put_fits = s.put_fits }

    pub with_place_sound : (pc next_pc : ℕ) → pc < 2 ^ 32 → next_pc < 2 ^ 32 → IsSoundFor target count AreSpecial (record m { pc = pc; next_pc = next_pc })
    with_place_sound pc next_pc h k = record { target_is = s.target_is; registers = s.registers; special = s.special; pc_fits = h; next_pc_fits = k; memory = s.memory; input = s.input; put_fits = s.put_fits }

    pub memory_sound : (r : Regions) → IsMemory r → IsSoundFor target count AreSpecial (record m { memory = r })
    memory_sound r h = record { target_is = s.target_is; registers = s.registers; special = s.special; pc_fits = s.pc_fits; next_pc_fits = s.next_pc_fits; memory = h; input = s.input; put_fits = s.put_fits }

    pub none_put : IsSoundFor target count AreSpecial (record m { put = None })
    none_put = record { target_is = s.target_is; registers = s.registers; special = s.special; pc_fits = s.pc_fits; next_pc_fits = s.next_pc_fits; memory = s.memory; input = s.input; put_fits = tt }

    byte_put : (b : ℕ) → b < 256 → IsSoundFor target count AreSpecial (record m { put = Some b })
    byte_put b h = record { target_is = s.target_is; registers = s.registers; special = s.special; pc_fits = s.pc_fits; next_pc_fits = s.next_pc_fits; memory = s.memory; input = s.input; put_fits = h }

    pub moved_sound : IsSoundFor target count AreSpecial (moved m)
    unfolding moved
    moved_sound = record { target_is = s.target_is; registers = s.registers; special = s.special; pc_fits = s.next_pc_fits; next_pc_fits = sum_fits m.next_pc 4; memory = s.memory; input = s.input; put_fits = tt }

    pub jumps_sound : (place : ℕ) → place < 2 ^ 32 → IsSoundFor target count AreSpecial (jumps place m).1
    unfolding jumps
    jumps_sound place h = record { target_is = s.target_is; registers = s.registers; special = s.special; pc_fits = s.pc_fits; next_pc_fits = h; memory = s.memory; input = s.input; put_fits = s.put_fits }

    pub loads_sound : (finish : ℕ → MachineState → Outcome) (bound : ℕ) (x : Result ℕ FaultKind) → LoadedBelow bound x
        → ((v : ℕ) → v < bound → IsSoundFor target count AreSpecial (finish v m).1) → IsSoundFor target count AreSpecial (on_loaded finish x m).1
    loads_sound finish bound (Err kind) h k = s
    loads_sound finish bound (Ok v) h k = k v h

    -- input is taken from the front
    taken_input : (b : ℕ) (bs : List ℕ) → m.left ≡ b ∷ bs → IsSoundFor target count AreSpecial (record m { left = bs })
    taken_input b bs e =
        let i : IsInput (b ∷ bs) m.given = rw (← e) s.input in
        record {
          target_is = s.target_is;
          registers = s.registers;
          special = s.special;
          pc_fits = s.pc_fits;
          next_pc_fits = s.next_pc_fits;
          memory = s.memory;
          input = record { each = i.each.1; within = omega (arith, i.within); fits = i.fits };
          put_fits = s.put_fits;
        }

    first_byte : (b : ℕ) (bs : List ℕ) → m.left ≡ b ∷ bs → b < 256
    first_byte b bs e = let i : IsInput (b ∷ bs) m.given = rw (← e) s.input in i.each.0

  stores_sound_by : (m : MachineState) (x : Result Regions FaultKind) → IsSoundFor target count AreSpecial m → IfOk x IsMemory → IsSoundFor target count AreSpecial (stores x m).1
  unfolding stores
  stores_sound_by m (Err kind) s h = s
  stores_sound_by m (Ok r) s h = moved_sound (memory_sound s r h)

  pub stores_sound : {m : MachineState} (s : IsSoundFor target count AreSpecial m) (x : Result Regions FaultKind) → IfOk x IsMemory → IsSoundFor target count AreSpecial (stores x m).1
  stores_sound {m} s x h = stores_sound_by m x s h

  read_by : (leave : ℕ → MachineState → MachineState) (m : MachineState) (bytes : List ℕ) → MayLeave target count AreSpecial leave → m.left ≡ bytes → IsSoundFor target count AreSpecial m → IsSoundFor target count AreSpecial (byte_read leave bytes m)
  read_by leave m [] may e s = may (2 ^ 32 - 1) m (lit< tt) s
  read_by leave m (b ∷ bs) may e s = may b (record m { left = bs }) (omega (arith, first_byte s b bs e)) (taken_input s b bs e)

  reads_sound : (leave : ℕ → MachineState → MachineState) (m : MachineState) → MayLeave target count AreSpecial leave → IsSoundFor target count AreSpecial m → IsSoundFor target count AreSpecial (reads_input leave m)
  unfolding reads_input
  reads_sound leave m may s = read_by leave m m.left may refl s

  puts_sound : (leave : ℕ → MachineState → MachineState) (b : ℕ) (m : MachineState) → MayLeave target count AreSpecial leave → b < 256 → IsSoundFor target count AreSpecial m → IsSoundFor target count AreSpecial (puts leave b m)
  unfolding puts
  puts_sound leave b m may h s = byte_put (may b m (omega (arith, h)) s) b h

  pub requests_sound : {m : MachineState} (s : IsSoundFor target count AreSpecial m) (leave : ℕ → MachineState → MachineState) (number argument : ℕ) → MayLeave target count AreSpecial leave → IsSoundFor target count AreSpecial (requests leave number argument m).1
  unfolding requests
  requests_sound {m} s leave number argument may =
      let n = moved_sound s in
      either_sound (nat_eq number 1) _ _ (reads_sound leave (moved m) may n)
      (either_sound (nat_eq number 2) _ _ (puts_sound leave (argument % 256) (moved m) may (omega arith) n)
      (either_sound (nat_lt 2 number && nat_lt number 6) _ _ n s))

  -- ---- a step

  decoded_sound : {I : Type 0} (set : InstructionSet I) (o : Option I) (m : MachineState) → IsSoundFor target count AreSpecial m
      → IfSome o (λ i. IsSoundFor target count AreSpecial (set.act i m).1) → IsSoundFor target count AreSpecial (decoded set o m).1
  decoded_sound set None m s h = s
  decoded_sound set (Some i) m s h = either_sound (set.is_hazard i m.facts) _ _ s h

  fetched_sound : {I : Type 0} (set : InstructionSet I) (x : Result ℕ FaultKind) (m : MachineState) → IsSoundFor target count AreSpecial m → LoadedBelow (2 ^ 32) x
      → ((word : ℕ) → word < 2 ^ 32 → IfSome (set.insn_of word) (λ i. IsSoundFor target count AreSpecial (set.act i m).1)) → IsSoundFor target count AreSpecial (fetched set x m).1
  fetched_sound set (Err kind) m s f h = s
  fetched_sound set (Ok word) m s f h = decoded_sound set (set.insn_of word) m s (h word f)

  -- a step keeps it, if each instruction of a word does
  pub step_sound : {I : Type 0} (set : InstructionSet I) (m : MachineState) → IsSoundFor target count AreSpecial m
      → ((word : ℕ) → word < 2 ^ 32 → IfSome (set.insn_of word) (λ i. IsSoundFor target count AreSpecial (set.act i m).1)) → IsSoundFor target count AreSpecial (step_by set m).1
  step_sound set m s h = fetched_sound set _ m s (fetch_fits set.order m.memory m.pc s.memory) h

  -- ---- what is done from outside

  memory_written : (m : MachineState) (x : Result Regions Outside) → IsSoundFor target count AreSpecial m → IfOk x IsMemory → IsSoundFor target count AreSpecial (with_memory x m).1
  memory_written m (Ok r) s h = memory_sound s r h
  memory_written m (Err e) s h = s

  pub written_sound : (m : MachineState) (at width value : ℕ) → IsWidth width → IsSoundFor target count AreSpecial m
      → IsSoundFor target count AreSpecial (with_memory (write_of (order_of m) m.memory at width value) m).1
  written_sound m at width value w s = memory_written m _ s (write_memory (order_of m) m.memory at width value w s.memory)

  more_input : (m : MachineState) (bytes : List ℕ) (b : Bool) → nat_le (m.given + length bytes) (2 ^ 24) ≡ b → AreBytes bytes → IsSoundFor target count AreSpecial m
      → IsSoundFor target count AreSpecial (if◌then◌else◌ {A = Bool × MachineState} b (true, with_input bytes m) (false, m)).1
  more_input m bytes true e h s =
      let fits : m.given + length bytes ≤ 2 ^ 24 = grind (arith, nat_tests) in
      let all : length (m.left ++ bytes) ≡ length m.left + length bytes = length-append m.left bytes in
      record {
        target_is = s.target_is;
        registers = s.registers;
        special = s.special;
        pc_fits = s.pc_fits;
        next_pc_fits = s.next_pc_fits;
        memory = s.memory;
        input = record { each = below_append 256 m.left bytes s.input.each h; within = omega (arith, all, s.input.within); fits = fits };
        put_fits = s.put_fits;
      }
  more_input m bytes false e h s = s

  pub given_sound : (m : MachineState) (bytes : List ℕ) → AreBytes bytes → IsSoundFor target count AreSpecial m → IsSoundFor target count AreSpecial (given_input bytes m).1
  given_sound m bytes h s = more_input m bytes (nat_le (m.given + length bytes) (2 ^ 24)) refl h s

  pub begun_sound : (registers special : List ℕ) (entry : ℕ) (text statics : List ℕ) → AreRegisters count registers → AreSpecial special → MayBegin entry text statics
      → IsSoundFor target count AreSpecial (begun target registers special entry text statics)
  begun_sound registers special entry text statics r sp b = record {
    target_is = refl;
    registers = r;
    special = sp;
    pc_fits = b.entry_fits;
    next_pc_fits = sum_fits entry 4;
    memory = first_memory text statics b.text_bytes b.text_fits b.static_bytes b.statics_fit;
    input = record { each = tt; within = omega arith; fits = omega arith };
    put_fits = tt;
  }
