-- Words that are read of a target, and put back where others were written.
use Rattle.std.specs.Prelude.{◌≡◌, ◌⊎◌, ℕ, List, [], ◌∷◌, map, Option, Some, None, Result, Ok, Err}
use Rattle.ldb_words.specs.declared.kinds.Order.{Order}
use Rattle.ldb_edge.specs.Count.{Rose}
use Rattle.machine_state.specs.Regions.{Regions}
use Rattle.frame_bytes.specs.Bytes.{Bytes}
use Rattle.abs_mem.specs.Meaning.{Seen, Same, OnTold, Untold}
use Rattle.break_plant.specs.Planted.{word_at}
use Rattle.wire_talk.specs.declared.fault.TalkFault.{TalkFault}
use Rattle.wire_talk.specs.declared.fault.TalkFault.TheVariants as talk
use Rattle.table_points.specs.declared.row.Point.{Point}
use Rattle.debug_side.specs.Wrote.{word_put}
use Rattle.debug_side.specs.declared.there.WordThere.{WordThere}
use Rattle.debug_side.specs.declared.there.ReadFault.{ReadFault}
use Rattle.debug_side.specs.declared.there.ReadFault.TheVariants.{Talk, NoMemory}

-- what stands at an address
abbrev pub there_at : Bytes → ℕ → WordThere
there_at b at = record { at = at; word = word_at b at }

-- what stands at some points
abbrev pub words_at : Bytes → List Point → List WordThere
words_at b ps = map (λ p. there_at b p.at) ps

-- one of some points has this address
abbrev pub IsAmong : ℕ → List Point → Type 0
IsAmong at [] = ⊥
IsAmong at (p ∷ ps) = (p.at ≡ at) ⊎ IsAmong at ps

-- it was read, and no fault came
abbrev pub AreRead : {R : Type 0} → List Point → List WordThere → (s s' : Seen R) → Type 0
AreRead ps ws s s' = Same s s' × OnTold s (λ b. ws ≡ words_at b ps)

-- why it wasn't
abbrev pub FailsToRead : {R : Type 0} → ReadFault → (s s' : Seen R) → Type 0
FailsToRead NoMemory s s' = Same s s'
FailsToRead (Talk talk.LinkFault) s s' = Rose s.faults s'.faults
FailsToRead (Talk (talk.BadReply frame)) s s' = Untold s s'

-- one address
abbrev pub Reads : {R : Type 0} → (at : ℕ) → Seen R → Result WordThere TalkFault → Seen R → Type 0
Reads at s (Ok w) s' = Same s s' × OnTold s (λ b. w ≡ there_at b at)
Reads at s (Err fault) s' = FailsToRead (Talk fault) s s'

abbrev put_if : Order → (at : ℕ) → Option ℕ → Regions → Regions
put_if o at None r = r
put_if o at (Some word) r = word_put o word at r

-- the memory with what stood at an address, and at some addresses, the first first
abbrev pub put_there : Order → WordThere → Regions → Regions
put_there o w r = put_if o w.at w.word r

abbrev pub all_there : Order → List WordThere → Regions → Regions
all_there o [] r = r
all_there o (w ∷ ws) r = all_there o ws (put_there o w r)
