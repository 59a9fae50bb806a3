-- The lines of replies.
use Rattle.std.specs.Prelude.{ℕ, suc, List, [], ◌∷◌, ◌++◌, codes, decimal, nat_eq, if◌then◌else◌}
use Rattle.std.specs.Fmt.{signed_decimal}
use Rattle.ldb_words.specs.Word.{signed}
use Rattle.ldb_words.specs.declared.event.FaultKind.{FaultKind}
use Rattle.ldb_words.specs.declared.event.FaultKind.TheVariants as kind
use Rattle.machine_state.specs.declared.layout.TheConstants.{SPARC}
use Rattle.ps_step.specs.Errors.{error_text}
use Rattle.table_model.specs.Rows.{PointRow}
use Rattle.ps_leaves.specs.Forms.{hex_text}
use Rattle.dialect_model.specs.TableUse.{Refused, Kind, Spent, Wanting}
use Rattle.c_session.specs.Commands.{refusal_text}
use Rattle.claims.specs.Side.{SideEvent, Stops, Pauses, Exits, Faults, OutOfTurns, OutOfStack, Troubled}

-- the lines that answer a command
abbrev pub Reply : Type 0
Reply = List (List ℕ)

-- `F:L.C`
abbrev pub place_text : PointRow → List ℕ
place_text p = p.file ++ (codes ":" ++ (decimal p.line ++ (codes "." ++ decimal p.column)))

-- `frame K FUNC F:L.C`
abbrev pub frame_text : ℕ → PointRow → List ℕ
frame_text k p = codes "frame " ++ (decimal k ++ (codes " " ++ (p.function ++ (codes " " ++ place_text p))))

abbrev pub frame_texts : ℕ → List PointRow → Reply
frame_texts k [] = []
frame_texts k (p ∷ ps) = frame_text k p ∷ frame_texts (suc k) ps

-- ---- events

abbrev pub fault_text : FaultKind → List ℕ
fault_text kind.Hazard = codes "hazard"
fault_text kind.Illegal = codes "illegal"
fault_text kind.Align = codes "align"
fault_text kind.Outside = codes "outside"
fault_text kind.Break = codes "break"
fault_text kind.Division = codes "division"
fault_text kind.Request = codes "request"
fault_text kind.Window = codes "window"

abbrev pub event_text : SideEvent → List ℕ
event_text (Stops p) = codes "stop " ++ (place_text p ++ (codes " " ++ p.function))
event_text (Pauses pc) = codes "pause at " ++ hex_text 8 pc
event_text (Exits status) = codes "exited " ++ signed_decimal (signed status)
event_text (Faults fault pc) = codes "fault " ++ (fault_text fault ++ (codes " at " ++ hex_text 8 pc))
event_text OutOfTurns = codes "turns"
event_text OutOfStack = codes "stack"

-- ---- commands that aren't done

abbrev pub trouble_text : Troubled → List ℕ
trouble_text (Refused u) = refusal_text u
trouble_text (Kind e) = codes "psfault " ++ error_text e
trouble_text Spent = codes "psfault spent"
trouble_text Wanting = codes "no memory"

abbrev pub trouble_reply : Troubled → Reply
trouble_reply e = trouble_text e ∷ []

-- ---- `regs`

abbrev pub target_text : ℕ → List ℕ
target_text target = if nat_eq target SPARC then codes "sparc" else codes "mips"

abbrev pub words_text : List ℕ → List ℕ
words_text [] = []
words_text (w ∷ ws) = codes " " ++ (hex_text 8 w ++ words_text ws)
