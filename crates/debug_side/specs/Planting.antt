-- What is put before a step, and taken away where it can't be put.
use Rattle.std.specs.Prelude.{◌≡◌, ◌≢◌, ℕ, true, false, List, [], ◌∷◌, ◌++◌, map, Option, Some, None, Bool, Result, Ok, Err}
use Rattle.ldb_edge.specs.Count.{Rose}
use Rattle.ldb_words.specs.declared.kinds.Kind.TheVariants.{Word}
use Rattle.machine_state.specs.Regions.{Regions, write_of}
use Rattle.machine_state.specs.Sound.{IsMemory}
use Rattle.frame_bytes.specs.declared.frame.Space.TheVariants.{Memory}
use Rattle.frame_bytes.specs.Bytes.{Bytes, stored}
use Rattle.abs_mem.specs.Meaning.{Seen, Same, OnTold, Untold, Led}
use Rattle.abs_mem.specs.declared.memory.MemFault.{MemFault}
use Rattle.abs_mem.specs.declared.memory.MemFault.TheVariants as mem
use Rattle.wire_talk.specs.declared.fault.TalkFault.{TalkFault}
use Rattle.wire_talk.specs.declared.fault.TalkFault.TheVariants as talk
use Rattle.break_plant.specs.Planted.{noop_of, break_of, word_at}
use Rattle.table_points.specs.declared.row.Point.{Point}
use Rattle.debug_side.specs.Meant.{address_of}
use Rattle.debug_side.specs.Wrote.{Wrote, words_put_back}

abbrev pub mem_fault : TalkFault → MemFault
mem_fault talk.LinkFault = mem.LinkFault
mem_fault (talk.BadReply frame) = mem.BadReply frame

-- ---- one address

-- the no-op stood there, and the break word was written
pub record IsPut (target at : ℕ) (b : Bytes) (r : Regions) : Type 0 where
  pub was : word_at b at ≡ Some (noop_of target)
  pub is : write_of b.order b.regions at 4 (break_of target) ≡ Ok r

-- another word stands there
pub record IsOther (target at : ℕ) (b : Bytes) : Type 0 where
  pub word : ℕ
  pub there : word_at b at ≡ Some word
  pub differs : word ≢ noop_of target

abbrev pub PlantsOne : {R : Type 0} → (target at : ℕ) → Seen R → Result Bool MemFault → Seen R → Type 0
PlantsOne target at s (Ok true) s' = Wrote s s' (IsPut target at)
PlantsOne target at s (Ok false) s' = Same s s' × OnTold s (IsOther target at)
PlantsOne target at s (Err (mem.Outside place)) s' = Same s s' × OnTold s (λ b. word_at b at ≡ None)
PlantsOne target at s (Err mem.LinkFault) s' = Rose s.faults s'.faults
PlantsOne target at s (Err (mem.BadReply frame)) s' = Untold s s'

-- where an address is outside, the words that were planted are taken away, the last first
abbrev pub GivesUp : {R : Type 0} → (target : ℕ) → Seen R → List Point → MemFault → Result Unit MemFault → Seen R → Type 0
GivesUp target s planted fault (Ok x) s' = ⊥
GivesUp target s planted (mem.Outside place) (Err (mem.Outside place')) s' =
    (place' ≡ place) × Wrote s s' (λ b r. r ≡ words_put_back b.order (noop_of target) (map address_of planted) b.regions)
GivesUp target s planted (mem.Outside place) (Err mem.LinkFault) s' = Rose s.faults s'.faults
GivesUp target s planted (mem.Outside place) (Err (mem.BadReply frame)) s' = Untold s s'
GivesUp target s planted fault (Err fault') s' = (fault' ≡ fault) × Same s s'

-- its calls: where an address is outside they go on, and else there are none
abbrev pub LedOn : {M : Type 0} → (M → Option (List ℕ) → M → Type 0) → M → MemFault → Result Unit MemFault → M → Type 0
LedOn leads m (mem.Outside place) result m' = Led leads m result m'
LedOn leads m fault result m' = (result ≡ Err fault) × (m' ≡ m)

-- ---- the points of a step

-- the points that are kept, and one more whose word was put
abbrev pub kept_with : (is_put : Bool) → List Point → Point → List Point
kept_with true kept p = kept ++ p ∷ []
kept_with false kept p = kept

-- Words of a step put at some points, one after another: where the no-op stands the break word comes, and the point is kept.
pub data PutsWords (target : ℕ) : Bytes → List Point → (kept : List Point) → Bytes → Type 0 where
  at_none : {b : Bytes} → PutsWords target b [] [] b
  is_put : {b c d : Bytes} {ps kept : List Point} (p : Point) → word_at b p.at ≡ Some (noop_of target) → stored b Memory p.at Word (break_of target) ≡ Some c → PutsWords target c ps kept d → PutsWords target b (p ∷ ps) (p ∷ kept) d
  is_passed : {b d : Bytes} {ps kept : List Point} (p : Point) (word : ℕ) → word_at b p.at ≡ Some word → word ≢ noop_of target → PutsWords target b ps kept d → PutsWords target b (p ∷ ps) kept d

-- so they are put up to a point whose address is outside
pub data MeetsNone (target : ℕ) : Bytes → List Point → Type 0 where
  is_outside : {b : Bytes} {ps : List Point} (p : Point) → word_at b p.at ≡ None → MeetsNone target b (p ∷ ps)
  behind_put : {b c : Bytes} {ps : List Point} (p : Point) → word_at b p.at ≡ Some (noop_of target) → stored b Memory p.at Word (break_of target) ≡ Some c → MeetsNone target c ps → MeetsNone target b (p ∷ ps)
  behind_passed : {b : Bytes} {ps : List Point} (p : Point) (word : ℕ) → word_at b p.at ≡ Some word → word ≢ noop_of target → MeetsNone target b ps → MeetsNone target b (p ∷ ps)

-- What planting before a step comes to, and the points that are left. Where an address is outside, the bytes that were told are told still.
abbrev pub PlantsAll : {R : Type 0} → (target : ℕ) → (old : List Point) → Seen R → Result Unit MemFault → (new : List Point) → Seen R → Type 0
PlantsAll {R = R} target old s (Ok x) new s' = (s'.faults ≡ s.faults) × ((b : Bytes) (r : R) → s.tells b r → (d : Bytes) × PutsWords target b old new d × s'.tells d r)
PlantsAll {R = R} target old s (Err (mem.Outside place)) new s' = (s'.faults ≡ s.faults) × ((b : Bytes) (r : R) → s.tells b r → MeetsNone target b old × (IsMemory b.regions → s'.tells b r))
PlantsAll target old s (Err mem.LinkFault) new s' = Rose s.faults s'.faults
PlantsAll target old s (Err (mem.BadReply frame)) new s' = Untold s s'
