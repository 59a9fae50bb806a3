-- Sources that were read.
use Rattle.std.specs.Prelude.{◌≡◌, ◌≤◌, ◌<◌, ℕ, List, length, map, Option, Some, None, IsSome}
use Rattle.std.specs.Global.{Vec}
use Rattle.std.specs.FinMap as files
use Rattle.c_file.specs.Made.{Each}
use Rattle.ldb_edge.specs.Known.{FileMap}
use Rattle.ldb_cc.specs.Sources.{IsFirst}
use Rattle.ldb_cc.specs.Scanning.{items_of}
use Rattle.cc_call.specs.Lines.{name_in}
use Rattle.cc_call.specs.declared.reading.Found.{Found}
use Rattle.cc_call.specs.declared.reading.Found.TheVariants.{All, Missing}

-- a text of at most 1,048,576 bytes is all of the file; of a longer file something too long was read, and no more than it has
pub record IsFrontOf (text whole : List ℕ) : Type 0 where
  pub all : length text ≤ 1048576 → text ≡ whole
  pub within : length text ≤ length whole

-- a text was read of what is held under a name
abbrev pub IsRead : Option (List ℕ) → List ℕ → Type 0
IsRead None text = ⊥
IsRead (Some whole) text = IsFrontOf text whole

-- what was found under a name
abbrev pub IsFound : Option (List ℕ) → Option (Vec ℕ) → Type 0
IsFound held None = held ≡ None
IsFound held (Some text) = IsRead held text.items

-- the texts of files
abbrev pub AreRead : FileMap → (names texts : List (List ℕ)) → Type 0
AreRead known names texts = Each (λ name text. IsRead (files.get known name) text) names texts

-- the file of this number is the first that isn't there
abbrev pub IsMissing : FileMap → List (List ℕ) → ℕ → Type 0
IsMissing known names n = IsFirst (λ name. IsSome (files.get known name)) (λ name. files.get known name ≡ None) n names

-- the texts of all files, or the first that isn't there
abbrev pub AreFound : FileMap → List (List ℕ) → Found → Type 0
AreFound known names (All texts) = AreRead known names (map items_of texts.items)
AreFound known names (Missing n) = IsMissing known names n

-- as many texts as names, or the number of one
abbrev pub IsFoundOf : ℕ → Found → Type 0
IsFoundOf count (All texts) = length texts.items ≡ count
IsFoundOf count (Missing n) = n < count

-- of a file that isn't there the files said so
abbrev pub IsMissedOf : (List ℕ → Type 0) → List (List ℕ) → Found → Type 0
IsMissedOf missed names (All texts) = Unit {0}
IsMissedOf missed names (Missing n) = missed (name_in names n)
