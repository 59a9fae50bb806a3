-- What a call that writes words of a target leaves of its memory.
use Rattle.std.specs.Prelude.{◌≡◌, ℕ, List, [], ◌∷◌, Option, Some, None, Result, Ok, Err}
use Rattle.ldb_words.specs.declared.kinds.Order.{Order}
use Rattle.ldb_words.specs.Word.{sum_of}
use Rattle.ldb_edge.specs.Count.{Rose}
use Rattle.machine_state.specs.Regions.{Regions, write_of}
use Rattle.frame_bytes.specs.Bytes.{Bytes, or_none}
use Rattle.abs_mem.specs.Meaning.{Seen, Untold}
use Rattle.abs_mem.specs.declared.memory.MemFault.{MemFault}
use Rattle.abs_mem.specs.declared.memory.MemFault.TheVariants as mem
use Rattle.debug_side.specs.declared.words.TheConstants.{PC_OFFSET, NEXT_PC_OFFSET}
use Rattle.wire_talk.specs.declared.fault.TalkFault.{TalkFault}
use Rattle.wire_talk.specs.declared.fault.TalkFault.TheVariants as talk

-- words were written, one after another
pub data Writes (o : Order) : Regions → Regions → Type 0 where
  none_written : {r : Regions} → Writes o r r
  writes : {r s t : Regions} (at word : ℕ) → Writes o r s → write_of o s at 4 word ≡ Ok t → Writes o r t

-- No fault came, and the bytes that were told are told with other regions, into which words were written and of which this
-- holds.
pub record Wrote {R : Type 0} (s s' : Seen R) (P : Bytes → Regions → Type 0) : Type 0 where
  pub faults : s'.faults ≡ s.faults
  pub after : (b : Bytes) (r : R) → s.tells b r → (m : Regions) × Writes b.order b.regions m × P b m × s'.tells (record b { regions = m }) r

-- ---- a word where it can be written

abbrev pub or_same : Regions → Option Regions → Regions
or_same r None = r
or_same r (Some r') = r'

abbrev pub word_put : Order → (word at : ℕ) → Regions → Regions
word_put o word at r = or_same r (or_none (write_of o r at 4 word))

-- at each of some addresses, the first first
abbrev pub words_put : Order → (word : ℕ) → List ℕ → Regions → Regions
words_put o word [] r = r
words_put o word (at ∷ ats) r = words_put o word ats (word_put o word at r)

-- the last first
abbrev pub words_put_back : Order → (word : ℕ) → List ℕ → Regions → Regions
words_put_back o word [] r = r
words_put_back o word (at ∷ ats) r = word_put o word at (words_put_back o word ats r)

-- the words of the pc and the next pc in a context block, past the no-op at an address
abbrev pub passed : (context : ℕ) → Option ℕ → Order → Regions → Regions
passed context None o r = r
passed context (Some at) o r = word_put o (sum_of at 8) (sum_of context NEXT_PC_OFFSET) (word_put o (sum_of at 4) (sum_of context PC_OFFSET) r)

-- a call that writes words where it can, which alone its link can keep it from
abbrev pub Puts : {R : Type 0} → Seen R → Result Unit TalkFault → (P : Bytes → Regions → Type 0) → Seen R → Type 0
Puts s (Ok x) P s' = Wrote s s' P
Puts s (Err talk.LinkFault) P s' = Rose s.faults s'.faults
Puts s (Err (talk.BadReply frame)) P s' = Untold s s'

-- its calls led from a memory to another
abbrev pub LedTalk : {M A : Type 0} → (M → Option (List ℕ) → M → Type 0) → M → Result A TalkFault → M → Type 0
LedTalk leads m (Ok x) m' = leads m None m'
LedTalk leads m (Err talk.LinkFault) m' = Unit {0}
LedTalk leads m (Err (talk.BadReply frame)) m' = leads m (Some frame.items) m'

-- that a place is outside is no fault of a call that writes where it can
abbrev pub where_it_can : Result Unit MemFault → Result Unit TalkFault
where_it_can (Ok x) = Ok tt
where_it_can (Err (mem.Outside place)) = Ok tt
where_it_can (Err mem.LinkFault) = Err talk.LinkFault
where_it_can (Err (mem.BadReply frame)) = Err (talk.BadReply frame)
