-- What a session that a fault ended has told and put: a front of a conversation.
use Rattle.std.specs.Prelude.{◌≡◌, ◌⊎◌, ℕ, Bool, true, List, [], ◌∷◌, ◌++◌, Option, Some}
use Rattle.targets.specs.Targets.{machine_behaviour}
use Rattle.c_session.specs.declared.command.Command.{Command}
use Rattle.cc_call.specs.declared.ended.Fault.{Fault}
use Rattle.cc_call.specs.declared.ended.Fault.TheVariants.{Write}
use Rattle.cc_call.specs.Faults.{TakesFront}
use Rattle.claims.specs.Side.{SessionState}
use Rattle.ldb_top.specs.Ahead.{Lines}
use Rattle.ldb_top.specs.Conversed.{Told, IsNext, IsPassed, HasConversed, commands_in}
use Rattle.ldb_top.specs.Late.{LateAs}
use Rattle.ldb_top.specs.Lines.{late_line}
use Rattle.ldb_top.specs.Said.{IsFront}

-- ---- the line that was in progress

-- A front of its output was put, behind what was put before; once it was put whole, a front of its reply was told. A failed read and want of memory
-- come between two lines.
pub record IsInPart (fault : Fault) (st : SessionState) (c : Option Command) (told put : List ℕ) : Type 0 where
  pub unwritten : fault ≡ Write
  pub reply : List ℕ
  pub next : SessionState
  pub is_next : IsNext IsPassed machine_behaviour st c reply next
  pub told_front : IsFront told reply
  pub put_front : IsFront put next.written
  pub behind : IsFront st.written put
  pub output_first : (told ≡ []) ⊎ (put ≡ next.written)

-- ---- a conversation that is broken off

module _ (fault : Fault) where
  -- The lines from a session on were answered up to one, which was not yet answered or only in part: what was told, and what the first
  -- side's machine had put in all.
  abbrev pub BreaksOff : SessionState → List (Option Command) → (told put : List ℕ) → Type 0
  BreaksOff st [] told put = (told ≡ []) × (put ≡ st.written)
  BreaksOff st (c ∷ cs) told put =
      ((told ≡ []) × (put ≡ st.written))
      ⊎ (IsInPart fault st c told put
      ⊎ ((reply : List ℕ) × (rest : List ℕ) × (next : SessionState) × IsNext IsPassed machine_behaviour st c reply next × (told ≡ reply ++ rest) × BreaksOff next cs rest put))

  -- From a machine session on, where the lines ahead and what the transcript had taken are told: what it took behind this, and what
  -- the output file holds, is a conversation that was broken off.
  abbrev pub HasBrokenOff : (raw : Bool) → SessionState → Option Lines → (taken taken' out : Option (List ℕ)) → Type 0
  HasBrokenOff raw st lines taken taken' out =
      (ls : Lines) (before : List ℕ) → lines ≡ Some ls → taken ≡ Some before → Told before taken' out (BreaksOff st (commands_in raw ls.0))

  -- the whole conversation, and behind it a front of the line that tells that the commands are too long, which couldn't be written whole
  pub record HasBrokenLate (raw : Bool) (st : SessionState) (lines : Option Lines) (taken taken' out : Option (List ℕ)) : Type 0 where
    pub unwritten : fault ≡ Write
    pub long : LateAs true lines
    pub between : Option (List ℕ)
    pub conversed : HasConversed raw st lines taken between out
    pub front : TakesFront between taken' late_line

  -- either of them
  abbrev pub HasFaulted : (raw : Bool) → SessionState → Option Lines → (taken taken' out : Option (List ℕ)) → Type 0
  HasFaulted raw st lines taken taken' out = HasBrokenOff raw st lines taken taken' out ⊎ HasBrokenLate raw st lines taken taken' out
