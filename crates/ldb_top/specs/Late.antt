-- Commands that are longer than they may be, and not ended by `quit` before.
use Rattle.std.specs.Prelude.{◌≡◌, ℕ, Bool, true, false, ◌&&◌, not, List, Option, None, Some}
use Rattle.std.specs.List.{list_any}
use Rattle.c_session.specs.declared.command.Command.{Command}
use Rattle.c_session.specs.declared.command.Command.TheVariants.{Quit}
use Rattle.cmd_lang.specs.Commands.{read_of}
use Rattle.ldb_top.specs.declared.serving.Ending.{Ending}
use Rattle.ldb_top.specs.declared.serving.Ending.TheVariants as ending
use Rattle.ldb_top.specs.declared.serving.Next.{Next}
use Rattle.ldb_top.specs.declared.serving.Next.TheVariants as next
use Rattle.ldb_top.specs.Ahead.{Lines}

abbrev pub asks_quit : Option Command → Bool
asks_quit None = false
asks_quit (Some Quit) = true
asks_quit (Some command) = false

-- a line that is the command `quit`
abbrev pub is_quit : List ℕ → Bool
is_quit line = asks_quit (read_of false line)

-- more follows than may be read, and no line before is `quit`
abbrev pub is_late : Lines → Bool
is_late lines = lines.1 && not (list_any is_quit lines.0)

-- so it is with the lines ahead, where they are told
abbrev pub LateAs : Bool → Option Lines → Type 0
LateAs late None = Unit {0}
LateAs late (Some lines) = is_late lines ≡ late

-- what follows one line
abbrev pub Follows : List ℕ → Next → Type 0
Follows line next.Line = is_quit line ≡ false
Follows line next.End = is_quit line ≡ true
Follows line next.Late = ⊥

-- what follows the next line, by the lines ahead before and after it
abbrev pub GoesOn : (before after : Option Lines) → Next → Type 0
GoesOn before after next.Line = (late : Bool) → LateAs late after → LateAs late before
GoesOn before after next.End = LateAs false before
GoesOn before after next.Late = LateAs true before

-- how a session ended, by the lines that were ahead of it
abbrev pub EndsAs : Option Lines → Ending → Type 0
EndsAs lines ending.Read = LateAs false lines
EndsAs lines ending.Late = LateAs true lines
