-- Where sessions come to.
use Rattle.std.specs.Prelude.{◌≡◌, ◌⊎◌, List, [], ◌∷◌, Option}
use Rattle.c_tree.specs.declared.rows.Program.{Program}
use Rattle.c_reading.specs.Readings.{Reading}
use Rattle.c_session.specs.declared.command.Command.{Command}
use Rattle.c_session.specs.Commands.{Sides, Answer, IllTyped, answer, ReadsLine}
use Rattle.c_session.specs.Allowed.{Lines, Standing, AnswerReplies, MemoryReplies}

module _ (p : Program) (sides : Sides) where
  -- each of these lines was answered, by what its text is, and the session went on
  abbrev pub AreAnswered : Standing → List (Option Command) → Standing → Type 0
  AreAnswered st [] last = last ≡ st
  AreAnswered st (c ∷ cs) last =
      (reply : Lines) × (next : Standing)
      × (MemoryReplies st c reply next ⊎ ((x : Reading) × ReadsLine p sides st.session c x × AnswerReplies p st (answer p sides st.session x c) reply next))
      × AreAnswered next cs last

abbrev pub HasAnswer : Answer → Type 0
HasAnswer IllTyped = ⊥
HasAnswer a = Unit {0}
