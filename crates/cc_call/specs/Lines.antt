-- The lines that are printed.
use Rattle.std.specs.Prelude.{ℕ, zero, suc, Bool, true, false, List, [], ◌∷◌, ◌++◌, codes, decimal}
use Rattle.ldb_cc.specs.declared.fault.BuildFault.{BuildFault}
use Rattle.ldb_cc.specs.declared.fault.BuildFault.TheVariants as cause

abbrev pub end : List ℕ
end = 10 ∷ []

-- the name of a source
abbrev pub name_in : List (List ℕ) → ℕ → List ℕ
name_in [] n = []
name_in (name ∷ names) zero = name
name_in (name ∷ names) (suc n) = name_in names n

-- F:L.C
abbrev pub place_text : List (List ℕ) → (unit line column : ℕ) → List ℕ
place_text names unit line column = name_in names unit ++ (codes ":" ++ (decimal line ++ (codes "." ++ decimal column)))

-- a cause of a refusal; want of memory is none
abbrev pub cause_text : List (List ℕ) → BuildFault → List ℕ
cause_text names cause.Source = codes "limit source"
cause_text names (cause.Lex unit line column) = codes "lex " ++ place_text names unit line column
cause_text names cause.Tokens = codes "limit tokens"
cause_text names (cause.Syntax unit line column) = codes "syntax " ++ place_text names unit line column
cause_text names (cause.Deep unit line column) = codes "deep " ++ place_text names unit line column
cause_text names cause.Arguments = codes "limit arguments"
cause_text names (cause.Rule rule unit line column) = codes "type " ++ (decimal rule ++ (codes " " ++ place_text names unit line column))
cause_text names (cause.Twice name) = codes "twice " ++ name
cause_text names (cause.Unknown name) = codes "unknown " ++ name
cause_text names cause.NoMain = codes "nomain"
cause_text names cause.Statics = codes "limit data"
cause_text names cause.NoMemory = []

-- whether it is a cause of a refusal
abbrev pub is_refusal : BuildFault → Bool
is_refusal cause.NoMemory = false
is_refusal _ = true

abbrev pub refused_line : List (List ℕ) → BuildFault → List ℕ
refused_line names fault = codes "program refused " ++ (cause_text names fault ++ end)

abbrev pub missing_line : List ℕ → List ℕ
missing_line name = codes "nofile " ++ (name ++ end)

abbrev pub built_line : List ℕ
built_line = codes "built" ++ end
