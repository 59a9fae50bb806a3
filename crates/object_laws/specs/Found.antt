-- Uses of an object whose words and names are there.
use Rattle.std.specs.Prelude.{◌≡◌, ◌≤◌, ◌⊎◌, ℕ, ◌+◌, ◌*◌, false, List, [], ◌∷◌, length}
use Rattle.obj_file.specs.declared.object.Form.TheVariants.{Word}
use Rattle.obj_file.specs.declared.object.StaticDef.{StaticDef}
use Rattle.obj_file.specs.declared.object.Use.{Use}
use Rattle.gen_parts.specs.Links.{IsOneOf, static_names}

-- four bytes at a multiple of 4 of a static object, which so many bytes come before
abbrev pub IsWordOf : (before : ℕ) → StaticDef → (at : ℕ) → Type 0
IsWordOf before s at = (k : ℕ) × (at ≡ before + k * 4) × (k * 4 + 4 ≤ length s.bytes)

-- so of one of some static objects
abbrev pub LiesInOne : (before : ℕ) → List StaticDef → (at : ℕ) → Type 0
LiesInOne before [] at = ⊥
LiesInOne before (s ∷ ss) at = IsWordOf before s at ⊎ LiesInOne (before + length s.bytes) ss at

-- a use in static objects is of a whole word, which lies in one of them, and names one of them
abbrev pub IsStaticUse : List StaticDef → Use → Type 0
IsStaticUse statics u = u.in_text ≡ false → (u.form ≡ Word) × LiesInOne 0 statics u.at × IsOneOf u.name (static_names statics)

-- a use names one of some names
abbrev pub IsGiven : List (List ℕ) → Use → Type 0
IsGiven names u = IsOneOf u.name names
