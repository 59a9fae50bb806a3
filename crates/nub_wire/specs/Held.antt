-- What stands at the front of bytes and what a reader of frames keeps, by the frames of messages alone. No public contract
-- cites it.
use Rattle.std.specs.Prelude.{◌≡◌, ℕ, ◌<◌, ◌≤◌, Bool, true, false, List, [], ◌++◌, length}
use Rattle.nub_wire.specs.declared.message.Msg.{Msg}
use Rattle.nub_wire.specs.declared.front.Front.{Front}
use Rattle.nub_wire.specs.declared.front.Front.TheVariants.{Part, Whole, Nothing}
use Rattle.nub_wire.specs.Spelling.{frame_of, MsgFits, AllBytes}
use Rattle.nub_wire.specs.Feeding.{IsPartial, BeginsNoFrame}

-- the bytes are a message's frame, and bytes behind it
pub record BeginsFrame (bytes : List ℕ) (m : Msg) : Type 0 where
  pub fits : MsgFits m
  pub behind : List ℕ
  pub whole : bytes ≡ frame_of m ++ behind

-- this stands at the front of bytes
abbrev pub IsFront : List ℕ → Front → Type 0
IsFront bytes Part = IsPartial bytes
IsFront bytes (Whole m) = BeginsFrame bytes m
IsFront bytes Nothing = BeginsNoFrame bytes

-- The bytes are part of a frame, whatever bytes come behind them, before so many have come.
abbrev pub IsQuiet : List ℕ → ℕ → Type 0
IsQuiet held missing = (more : List ℕ) → AllBytes more → length more < missing → IsPartial (held ++ more)

-- what is held are bytes, and where no bytes began no frame they are part of one
pub record IsFeeding (held : List ℕ) (missing : ℕ) (is_bad : Bool) : Type 0 where
  pub each : AllBytes held
  pub partial : is_bad ≡ false → IsQuiet held missing
  pub some : 1 ≤ missing
  pub cleared : is_bad ≡ true → held ≡ []
