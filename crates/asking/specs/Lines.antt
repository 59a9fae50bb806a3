-- The lines of replies.
use Rattle.std.specs.Prelude.{◌≡◌, ℕ, suc, List, [], ◌∷◌, ◌++◌, codes, decimal, nat_eq, if◌then◌else◌}
use Rattle.machine_state.specs.declared.layout.TheConstants.{SPARC}
use Rattle.table_model.specs.Rows.{PointRow}
use Rattle.ps_leaves.specs.Forms.{hex_text}

-- a text and its LF
abbrev pub line : List ℕ → List ℕ
line text = text ++ 10 ∷ []

-- a text that begins with these bytes
abbrev pub BeginsWith : (bytes text : List ℕ) → Type 0
BeginsWith bytes text = (rest : List ℕ) × (text ≡ bytes ++ rest)

-- `F:L.C`
abbrev pub place_text : PointRow → List ℕ
place_text p = p.file ++ (codes ":" ++ (decimal p.line ++ (codes "." ++ decimal p.column)))

-- `frame K FUNC F:L.C`
abbrev pub frame_text : ℕ → PointRow → List ℕ
frame_text k p = codes "frame " ++ (decimal k ++ (codes " " ++ (p.function ++ (codes " " ++ place_text p))))

-- the lines of frames, from the one with a number on
abbrev pub frame_lines : ℕ → List PointRow → List ℕ
frame_lines k [] = []
frame_lines k (p ∷ ps) = line (frame_text k p) ++ frame_lines (suc k) ps

-- ---- `regs`

abbrev pub target_text : ℕ → List ℕ
target_text target = if nat_eq target SPARC then codes "sparc" else codes "mips"

abbrev pub words_text : List ℕ → List ℕ
words_text [] = []
words_text (w ∷ ws) = codes " " ++ (hex_text 8 w ++ words_text ws)
