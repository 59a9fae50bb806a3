-- The files that a session is begun with, by what is held.
use Rattle.std.specs.Prelude.{◌≡◌, ◌≤◌, ℕ, Bool, false, if◌then◌else◌, nat_lt, is_some, List, [], ◌∷◌, length, take, Option, None, Some}
use Rattle.std.specs.Global.{Vec}
use Rattle.std.specs.FinMap as files
use Rattle.ldb_edge.specs.Known.{FileMap}

-- the first of some names under which nothing is held
abbrev pub first_missing : FileMap → List (List ℕ) → Option (List ℕ)
first_missing known [] = None
first_missing known (name ∷ names) = if is_some (files.get known name) then first_missing known names else Some name

-- an input of more than 16,777,216 bytes
abbrev pub is_long : Option (List ℕ) → Bool
is_long None = false
is_long (Some bytes) = nat_lt 16777216 (length bytes)

-- what was read of a file: all of it, or a front that is longer than `most`
pub record IsFrontOf (most : ℕ) (text whole : List ℕ) : Type 0 where
  pub front : text ≡ take (length text) whole
  pub all : length text ≤ most → text ≡ whole

-- what was read of what is held
abbrev pub IsRead : ℕ → Option (List ℕ) → List ℕ → Type 0
IsRead most None text = ⊥
IsRead most (Some whole) text = IsFrontOf most text whole

-- what was found under a name
abbrev pub IsFound : ℕ → Option (List ℕ) → Option (Vec ℕ) → Type 0
IsFound most held None = held ≡ None
IsFound most held (Some text) = IsRead most held text.items
