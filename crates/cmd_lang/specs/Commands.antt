-- Command lines: which command a line is.
use Rattle.std.specs.Prelude.{ℕ, Bool, ◌&&◌, List, length, if◌then◌else◌, nat_le, codes, Option, None, Some}
use Rattle.std.specs.Option.{option_map}
use Rattle.std.specs.Str.{bytes_eq}
use Rattle.c_session.specs.declared.command.Command.{Command}
use Rattle.c_session.specs.declared.command.Command.TheVariants.{Break, Clear, Continue, Step, Turns, Frames, Frame, Print, Eval, Assign, Quit, Regs, Code, Ps}
use Rattle.cmd_lang.specs.Numbers.{number_of, limit_of}
use Rattle.cmd_lang.specs.Places.{spot_of}
use Rattle.cmd_lang.specs.Words.{is_nothing, without_blanks, first_word, behind_word, lone_word}

-- commands that have no argument
abbrev pub alone : List ℕ → Option Command
alone w =
    if bytes_eq w (codes "continue") then Some Continue
    else if bytes_eq w (codes "step") then Some Step
    else if bytes_eq w (codes "frames") then Some Frames
    else if bytes_eq w (codes "quit") then Some Quit
    else if bytes_eq w (codes "regs") then Some Regs
    else None

-- commands whose argument is one word
abbrev pub with_word : List ℕ → List ℕ → Option Command
with_word w a =
    if bytes_eq w (codes "print") then Some (Print a)
    else if bytes_eq w (codes "break") then option_map Break (spot_of a)
    else if bytes_eq w (codes "clear") then option_map Clear (spot_of a)
    else if bytes_eq w (codes "turns") then option_map Turns (limit_of a)
    else if bytes_eq w (codes "frame") then option_map Frame (number_of a)
    else None

abbrev pub with_lone : List ℕ → Option (List ℕ) → Option Command
with_lone w None = None
with_lone w (Some a) = with_word w a

-- commands whose argument is the rest of the line; `ps` where PostScript is taken
abbrev pub with_text : Bool → List ℕ → List ℕ → Option Command
with_text raw w text =
    if bytes_eq w (codes "eval") then Some (Eval text)
    else if bytes_eq w (codes "assign") then Some (Assign text)
    else if bytes_eq w (codes "code") then Some (Code text)
    else if raw && bytes_eq w (codes "ps") then Some (Ps text)
    else with_lone w (lone_word text)

abbrev pub command_of : Bool → List ℕ → List ℕ → Option Command
command_of raw w rest = if is_nothing rest then alone w else with_text raw w rest

abbrev pub read_words : Bool → List ℕ → Option Command
read_words raw line = command_of raw (first_word line) (behind_word line)

-- the command of a line of at most 1,000 bytes, if it is one
abbrev pub read_of : Bool → List ℕ → Option Command
read_of raw line = if nat_le (length line) 1000 then read_words raw (without_blanks line) else None
