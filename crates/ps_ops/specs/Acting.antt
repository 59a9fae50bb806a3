-- What an operator did, by the memory that is told.
use Rattle.std.specs.Prelude.{◌≡◌, ◌≤◌, ℕ, List, Option, IsSome, Some, None, Result, Ok, Err}
use Rattle.ldb_edge.specs.Count.{Rose}
use Rattle.machine_state.specs.Regions.{Regions}
use Rattle.ps_store.specs.Store.{closed_part}
use Rattle.abs_mem.specs.Meaning.{Seen, Led}
use Rattle.abs_mem.specs.declared.memory.MemFault.{MemFault}
use Rattle.abs_mem.specs.declared.memory.MemFault.TheVariants.{Outside, LinkFault, BadReply}
use Rattle.ps_step.specs.declared.fault.PsFault.TheVariants.{Error, Spent, Link, NoMemory}
use Rattle.ps_step.specs.declared.machine.PsCore.{PsCore}
use Rattle.ps_run.specs.Runs.{Answer}
use Rattle.dialect_model.specs.Dial.{Dial, Raises, Needs as Wants}
use Rattle.dialect_model.specs.Operators.{act}
use Rattle.dialect_model.specs.Operating.{Operates}
use Rattle.dialect_model.specs.Forcing.{ForcesUnit}
use Rattle.ps_bare.specs.Deferred.{IsDeferred}
use Rattle.ps_ops.specs.declared.halt.Halt.{Halt}
use Rattle.ps_ops.specs.declared.halt.Halt.TheVariants.{Raised, Wanting, Broken, Needs}
use Rattle.ps_ops.specs.Desk.{Desk, dial_of, memory_of}

-- units that an operator needed were run, one after another, since so many steps were left
pub data Prepares (d : Dial) (op : ℕ) (c : PsCore) (left : ℕ) : PsCore → ℕ → Type 0 where
  begun : Prepares d op c left c left
  further : {c₁ c₂ : PsCore} {u m n : ℕ} → Prepares d op c left c₁ m → act op d c₁ ≡ Err (Wants u) → ForcesUnit u c₁ m (Ok tt) n c₂ → Prepares d op c left c₂ n

-- Memory ran out once such units were run: under the operator itself, which left the target, and the steps are those that were left
-- then; or in the run of one more unit that it needed, and the dial is as it was. What is closed is as the units that were run left it.
pub data RunsShort (d : Dial) (op : ℕ) (c : PsCore) (left : ℕ) : Dial → PsCore → ℕ → Type 0 where
  acting : {d' : Dial} {c₁ c' : PsCore} {m : ℕ} → Prepares d op c left c₁ m → d'.target ≡ d.target → closed_part c'.store ≡ closed_part c₁.store → RunsShort d op c left d' c' m
  running : {c₁ c' : PsCore} {u m n : ℕ} → Prepares d op c left c₁ m → act op d c₁ ≡ Err (Wants u) → IsDeferred c₁.store u → closed_part c'.store ≡ closed_part c₁.store → n ≤ m → RunsShort d op c left d c' n

module _ {R : Type 0} where
  -- a bad reply came, and no fault: so no bytes were told
  pub record NeverTold (k : Desk) (s s' : Seen R) : Type 0 where
    pub faults : s'.faults ≡ s.faults
    pub never : (rg : Regions) (r : R) → s.tells (memory_of k rg) r → ⊥

  -- no fault came, and the target's bytes are as before
  pub record KeepsMemory (k : Desk) (s : Seen R) (k' : Desk) (s' : Seen R) : Type 0 where
    pub faults : s'.faults ≡ s.faults
    pub keeps : (rg : Regions) (r : R) → s.tells (memory_of k rg) r → s'.tells (memory_of k' rg) r

  -- and the dials over them have the same target
  abbrev pub KeepsTarget : (k : Desk) → Seen R → (k' : Desk) → Type 0
  KeepsTarget k s k' = (rg : Regions) (r : R) → s.tells (memory_of k rg) r → (dial_of k' rg).target ≡ (dial_of k rg).target

  -- An operator was run once. Where it only raises an error or needs a unit all is as before. Where memory ran out the target's
  -- bytes are. Where the memory gave no answer nothing is said of the state.
  abbrev pub ActsOn : (op : ℕ) → Desk → Seen R → PsCore → Result (Unit {0}) Halt → Desk → Seen R → PsCore → Type 0
  ActsOn op k s c (Ok x) k' s' c' =
      (s'.faults ≡ s.faults)
      × ((rg : Regions) (r : R) → s.tells (memory_of k rg) r → (rg' : Regions) × s'.tells (memory_of k' rg') r × (act op (dial_of k rg) c ≡ Ok (dial_of k' rg', c')))
  ActsOn op k s c (Err (Raised e)) k' s' c' =
      (s'.faults ≡ s.faults) × (c' ≡ c)
      × ((rg : Regions) (r : R) → s.tells (memory_of k rg) r → s'.tells (memory_of k' rg) r × (dial_of k' rg ≡ dial_of k rg) × (act op (dial_of k rg) c ≡ Err (Raises e)))
  ActsOn op k s c (Err (Needs u)) k' s' c' =
      (s'.faults ≡ s.faults) × (c' ≡ c)
      × ((rg : Regions) (r : R) → s.tells (memory_of k rg) r
      → s'.tells (memory_of k' rg) r × (dial_of k' rg ≡ dial_of k rg) × (act op (dial_of k rg) c ≡ Err (Wants u)) × IsDeferred c.store u)
  ActsOn op k s c (Err Wanting) k' s' c' = KeepsMemory k s k' s' × KeepsTarget k s k'
  ActsOn op k s c (Err (Broken LinkFault)) k' s' c' = Rose s.faults s'.faults
  ActsOn op k s c (Err (Broken (BadReply frame))) k' s' c' = NeverTold k s s'
  ActsOn op k s c (Err (Broken (Outside p))) k' s' c' = ⊥

  -- What an operator of the dialect does: units that it needs are run first.
  abbrev pub OperatesTold : Desk → Seen R → PsCore → (op left : ℕ) → Answer → Desk → Seen R → PsCore → (left' : ℕ) → Type 0
  OperatesTold k s c op left answer k' s' c' left' =
      (s'.faults ≡ s.faults)
      × ((rg : Regions) (r : R) → s.tells (memory_of k rg) r → (rg' : Regions) × s'.tells (memory_of k' rg') r × Operates (dial_of k rg) c op left answer (dial_of k' rg') c' left')

  -- why the memory gave no answer: the link's count rose, or a bad reply came, and so no bytes were told
  abbrev pub KeepsFault : Option MemFault → Desk → Seen R → Seen R → Type 0
  KeepsFault (Some LinkFault) k s s' = Rose s.faults s'.faults
  KeepsFault (Some (BadReply frame)) k s s' = NeverTold k s s'
  KeepsFault (Some (Outside p)) k s s' = ⊥
  KeepsFault None k s s' = ⊥

  abbrev pub OperatesBy : Desk → Seen R → PsCore → (op left : ℕ) → Answer → Desk → Seen R → PsCore → (left' : ℕ) → Option MemFault → Type 0
  OperatesBy k s c op left (Ok x) k' s' c' left' fault = OperatesTold k s c op left (Ok x) k' s' c' left'
  OperatesBy k s c op left (Err (Error e)) k' s' c' left' fault = OperatesTold k s c op left (Err (Error e)) k' s' c' left'
  OperatesBy k s c op left (Err Spent) k' s' c' left' fault = OperatesTold k s c op left (Err Spent) k' s' c' left'
  OperatesBy k s c op left (Err Link) k' s' c' left' fault = KeepsFault fault k s s'
  OperatesBy k s c op left (Err NoMemory) k' s' c' left' fault =
      KeepsMemory k s k' s' × ((rg : Regions) (r : R) → s.tells (memory_of k rg) r → RunsShort (dial_of k rg) op c left (dial_of k' rg) c' left')

  -- It gives no steps back. Where the memory gave no answer it is kept why. Where memory ran out some of the units that it needs
  -- were run, and the target's bytes are as before.
  abbrev pub OperatesOn : Desk → Seen R → PsCore → (op left : ℕ) → Answer → Desk → Seen R → PsCore → (left' : ℕ) → (fault : Option MemFault) → Type 0
  OperatesOn k s c op left answer k' s' c' left' fault = (left' ≤ left) × (answer ≡ Err Link → IsSome fault) × OperatesBy k s c op left answer k' s' c' left' fault

-- Its calls led from a memory to another. Where a bad reply is kept, the last of them brought it.
abbrev pub LedKept : {M : Type 0} → (M → Option (List ℕ) → M → Type 0) → M → Answer → M → (fault : Option MemFault) → Type 0
LedKept leads m (Ok x) m' fault = leads m None m'
LedKept leads m (Err (Error e)) m' fault = leads m None m'
LedKept leads m (Err Spent) m' fault = leads m None m'
LedKept leads m (Err NoMemory) m' fault = leads m None m'
LedKept leads m (Err Link) m' (Some f) = Led {A = Unit {0}} leads m (Err f) m'
LedKept leads m (Err Link) m' None = ⊥
