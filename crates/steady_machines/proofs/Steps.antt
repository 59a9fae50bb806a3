-- The parts of a step that both targets have.
use Rattle.std.proofs.Common.{◌≡◌, ◌∙◌, refl, ℕ, ◌%◌, ◌&&◌, nat_eq, nat_lt, Bool, true, false, if◌then◌else◌, List, [], ◌∷◌, length, Option, Some, None, Result, Ok, Err, IfOk}
use Rattle.std.specs.Prelude.{option_map, ok_or}
use Rattle.ldb_words.specs.declared.kinds.Order.{Order}
use Rattle.ldb_words.specs.declared.event.FaultKind.{FaultKind}
use Rattle.ldb_words.specs.declared.event.FaultKind.TheVariants.{Align, Outside}
use Rattle.machine_state.specs.declared.layout.TheConstants.{DATA, STACK}
use Rattle.machine_state.specs.Regions.{Regions, or_else, if_aligned, offset_in, with_data, with_stack, written, store_of, store_words_of, fetch_of, bytes_of, words_bytes, saved_words}
use Rattle.machine_state.specs.State.{MachineState}
use Rattle.machine_state.specs.Step.{Outcome, moved, jumps, on_loaded, stores, byte_read, reads_input, puts, requests, InstructionSet, decoded, fetched, step_by}
use Rattle.steady_machines.specs.Steady.{Steady}

pub same : (m : MachineState) → Steady m m
same m = record { target = refl; text = refl }

pub onward : {m n o : MachineState} → Steady m n → Steady n o → Steady m o
onward h k = record { target = k.target ∙ h.target; text = k.text ∙ h.text }

pub either : {m : MachineState} (b : Bool) (x y : Outcome) → Steady m x.1 → Steady m y.1 → Steady m (if b then x else y).1
either true x y h k = h
either false x y h k = k

pub moved_steady : (m : MachineState) → Steady m (moved m)
unfolding moved
moved_steady m = record { target = refl; text = refl }

pub jumps_steady : (place : ℕ) (m : MachineState) → Steady m (jumps place m).1
unfolding jumps
jumps_steady place m = record { target = refl; text = refl }

pub loads_steady : (finish : ℕ → MachineState → Outcome) (x : Result ℕ FaultKind) (m : MachineState) → ((v : ℕ) → Steady m (finish v m).1) → Steady m (on_loaded finish x m).1
loads_steady finish (Err kind) m h = same m
loads_steady finish (Ok v) m h = h v

-- ---- stores

abbrev HasText : Regions → Regions → Type 0
HasText r x = x.text_bytes ≡ r.text_bytes

abbrev TextIn : Regions → Option Regions → Type 0
TextIn r None = Unit {0}
TextIn r (Some x) = HasText r x

data_text : (r : Regions) (ys : List ℕ) (o : Option ℕ) → TextIn r (option_map (with_data r ys) o)
data_text r ys None = tt
data_text r ys (Some n) = refl

stack_text : (r : Regions) (ys : List ℕ) (o : Option ℕ) → TextIn r (option_map (with_stack r ys) o)
stack_text r ys None = tt
stack_text r ys (Some n) = refl

else_text : (r : Regions) (o p : Option Regions) → TextIn r o → TextIn r p → TextIn r (or_else o p)
else_text r None p h k = k
else_text r (Some x) p h k = h

ok_text : (r : Regions) (o : Option Regions) → TextIn r o → IfOk (ok_or o Outside) (HasText r)
ok_text r None h = tt
ok_text r (Some x) h = h

written_text : (r : Regions) (at : ℕ) (ys : List ℕ) → IfOk (written r at ys) (HasText r)
unfolding written
written_text r at ys =
    let statics : Option ℕ = offset_in DATA (length r.data_bytes) at (length ys) in
    let stack : Option ℕ = offset_in STACK (length r.stack_bytes) at (length ys) in
    ok_text r (or_else (option_map (with_data r ys) statics) (option_map (with_stack r ys) stack))
    (else_text r (option_map (with_data r ys) statics) (option_map (with_stack r ys) stack) (data_text r ys statics) (stack_text r ys stack))

aligned_text : (r : Regions) (b : Bool) (x : Regions) → HasText r x → IfOk {E = FaultKind} (if b then Ok x else Err Align) (HasText r)
aligned_text r true x h = h
aligned_text r false x h = tt

if_text : (r : Regions) (at width : ℕ) (x : Result Regions FaultKind) → IfOk x (HasText r) → IfOk (if_aligned at width x) (HasText r)
if_text r at width (Err kind) h = tt
if_text r at width (Ok x) h = aligned_text r (nat_eq (at % width) 0) x h

pub store_text : (o : Order) (r : Regions) (at width v : ℕ) → IfOk (store_of o r at width v) (λ x. x.text_bytes ≡ r.text_bytes)
unfolding store_of
store_text o r at width v = if_text r at width _ (written_text r at (bytes_of o width v))

pub store_words_text : (o : Order) (r : Regions) (at : ℕ) (ws : List ℕ) → IfOk (store_words_of o r at ws) (λ x. x.text_bytes ≡ r.text_bytes)
unfolding store_words_of
store_words_text o r at ws = if_text r at 4 _ (written_text r at (words_bytes o ws))

pub saved_text : (o : Order) (ws : List ℕ) (r : Regions) → (saved_words o ws r).text_bytes ≡ r.text_bytes
unfolding saved_words
saved_text o ws r = refl

pub stores_steady : (x : Result Regions FaultKind) (m : MachineState) → IfOk x (λ r. r.text_bytes ≡ m.memory.text_bytes) → Steady m (stores x m).1
unfolding stores moved
stores_steady (Err kind) m h = same m
stores_steady (Ok r) m h = record { target = refl; text = h }

-- ---- requests

module _ (leave : ℕ → MachineState → MachineState) (leaves : (v : ℕ) (n : MachineState) → Steady n (leave v n)) where
  byte_steady : (xs : List ℕ) (n : MachineState) → Steady n (byte_read leave xs n)
  byte_steady [] n = leaves _ n
  byte_steady (b ∷ bs) n = onward (record { target = refl; text = refl }) (leaves b (record n { left = bs }))

  reads_steady : (n : MachineState) → Steady n (reads_input leave n)
  unfolding reads_input
  reads_steady n = byte_steady n.left n

  puts_steady : (b : ℕ) (n : MachineState) → Steady n (puts leave b n)
  unfolding puts
  puts_steady b n = let h = leaves b n in record { target = h.target; text = h.text }

  pub requests_steady : (number argument : ℕ) (m : MachineState) → Steady m (requests leave number argument m).1
  unfolding requests
  requests_steady number argument m =
      either (nat_eq number 1) _ _ (onward (moved_steady m) (reads_steady (moved m)))
      (either (nat_eq number 2) _ _ (onward (moved_steady m) (puts_steady (argument % 256) (moved m)))
      (either (nat_lt 2 number && nat_lt number 6) _ _ (moved_steady m) (same m)))

-- ---- the step

module _ {I : Type 0} (set : InstructionSet I) (acts : (i : I) (m : MachineState) → Steady m (set.act i m).1) where
  decoded_steady : (i : Option I) (m : MachineState) → Steady m (decoded set i m).1
  decoded_steady None m = same m
  decoded_steady (Some i) m = either (set.is_hazard i m.facts) _ _ (same m) (acts i m)

  fetched_steady : (x : Result ℕ FaultKind) (m : MachineState) → Steady m (fetched set x m).1
  fetched_steady (Err kind) m = same m
  fetched_steady (Ok word) m = decoded_steady (set.insn_of word) m

  pub step_steady : (m : MachineState) → Steady m (step_by set m).1
  step_steady m = fetched_steady (fetch_of set.order m.memory m.pc) m
