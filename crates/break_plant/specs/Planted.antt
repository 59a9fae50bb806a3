-- What a planted breakpoint is.
use Rattle.std.specs.Prelude.{◌≡◌, ◌≢◌, ℕ, nat_eq, if◌then◌else◌, List, Option, Some, None, Result, Ok, Err}
use Rattle.ldb_words.specs.declared.kinds.Kind.TheVariants.{Word}
use Rattle.ldb_edge.specs.Count.{Rose}
use Rattle.machine_state.specs.declared.layout.TheConstants.{SPARC}
use Rattle.frame_bytes.specs.declared.frame.Place.{Place}
use Rattle.frame_bytes.specs.declared.frame.Space.TheVariants.{Memory}
use Rattle.frame_bytes.specs.Bytes.{Bytes, fetched, stored}
use Rattle.abs_mem.specs.Meaning.{Seen, Same, OnTold, Untold}
use Rattle.abs_mem.specs.declared.memory.MemFault.{MemFault}
use Rattle.abs_mem.specs.declared.memory.MemFault.TheVariants.{Outside, LinkFault, BadReply}
use Rattle.break_plant.specs.declared.planting.PlantFault.{PlantFault}
use Rattle.break_plant.specs.declared.planting.PlantFault.TheVariants as fault

-- the no-op of a target: `sll $0, $0, 0` on the MIPS, `sethi 0, %g0` on the SPARC
abbrev pub noop_of : ℕ → ℕ
noop_of target = if nat_eq target SPARC then 16777216 else 0

-- the word at which a target stops for the debugger: `break` on the MIPS, `ta 1` on the SPARC
abbrev pub break_of : ℕ → ℕ
break_of target = if nat_eq target SPARC then 2446336001 else 13

abbrev pub in_memory : ℕ → Place
in_memory at = record { space = Memory; at = at }

abbrev pub word_at : Bytes → ℕ → Option ℕ
word_at b at = fetched b Memory at Word

-- The no-op was there, and the break word is: nothing else changed.
pub record Planted {R : Type 0} (target at : ℕ) (s s' : Seen R) : Type 0 where
  pub faults : s'.faults ≡ s.faults
  pub was : OnTold s (λ b. word_at b at ≡ Some (noop_of target))
  pub is : (b : Bytes) (r : R) → s.tells b r → (b' : Bytes) × (stored b Memory at Word (break_of target) ≡ Some b') × s'.tells b' r

-- Planting by its answer. It is refused where another word is there, and changes nothing then.
abbrev pub Plants : {R : Type 0} → (target at : ℕ) → Seen R → Result Unit PlantFault → Seen R → Type 0
Plants target at s (Ok x) s' = Planted target at s s'
Plants target at s (Err (fault.NotNoop a word)) s' = (a ≡ at) × (word ≢ noop_of target) × Same s s' × OnTold s (λ b. word_at b at ≡ Some word)
Plants target at s (Err (fault.Memory (Outside p))) s' = (p ≡ in_memory at) × Same s s' × OnTold s (λ b. word_at b at ≡ None)
Plants target at s (Err (fault.Memory LinkFault)) s' = Rose s.faults s'.faults
Plants target at s (Err (fault.Memory (BadReply frame))) s' = Untold s s'

-- its calls led from a memory to another
abbrev pub LedPlant : {M : Type 0} → (M → Option (List ℕ) → M → Type 0) → M → Result Unit PlantFault → M → Type 0
LedPlant leads m (Err (fault.Memory (BadReply frame))) m' = leads m (Some frame.items) m'
LedPlant leads m (Err (fault.Memory LinkFault)) m' = Unit {0}
LedPlant leads m (Err (fault.Memory (Outside p))) m' = leads m None m'
LedPlant leads m (Err (fault.NotNoop a word)) m' = leads m None m'
LedPlant leads m (Ok x) m' = leads m None m'

-- whether the breakpoint may be planted, by the word that was fetched
abbrev pub seen_by : (target at : ℕ) → Result ℕ MemFault → Result Unit PlantFault
seen_by target at (Ok word) = if nat_eq word (noop_of target) then Ok tt else Err (fault.NotNoop at word)
seen_by target at (Err f) = Err (fault.Memory f)

abbrev pub done_by : Result Unit MemFault → Result Unit PlantFault
done_by (Ok x) = Ok tt
done_by (Err f) = Err (fault.Memory f)
