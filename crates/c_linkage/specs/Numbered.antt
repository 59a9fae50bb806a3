-- The numbers that the code's names at file scope keep of their rows.
use Rattle.std.specs.Prelude.{◌≡◌, ◌<◌, ℕ, true, Bool, if◌then◌else◌, List, map, reverse, length, Option, Some, None, option_map, slice_get}
use Rattle.c_defs.specs.Numbers.{number_in}
use Rattle.c_linkage.specs.declared.file_names.FileName.{FileName as Row}
use Rattle.c_linkage.specs.declared.file_names.FileNames.TheInside.{Inside}
use Rattle.c_scope.specs.Here.{meaning_of}
use Rattle.c_linkage.specs.Names.{FileName, is_here, is_external}
use Rattle.c_linkage.specs.FileNames.{file_name, AreConsistent}
use Rattle.c_linkage.specs.FileNumbers.{number_at}
use Rattle.c_linkage.specs.Telling.{is_open, telling}

-- the row of a number
abbrev pub row_at : List Row → Option ℕ → Option FileName
row_at rows None = None
row_at rows (Some n) = option_map file_name (slice_get rows n)

-- of a row that comes behind others, and one before it that told most
abbrev pub is_open_row : Option Row → Bool
is_open_row None = true
is_open_row (Some r) = is_open (meaning_of r.meaning)

abbrev pub more_number : List Row → Option ℕ → ℕ → ℕ
more_number rows None n = n
more_number rows (Some m) n = if is_open_row (slice_get rows m) then n else m

-- a number is that of a row
abbrev pub IsBelow : ℕ → Option ℕ → Type 0
IsBelow n None = Unit {0}
IsBelow n (Some m) = m < n

-- a number is that of a declaration among some rows, or there is none
pub record Points (rows : List Row) (number : Option ℕ) (f : Option FileName) : Type 0 where
  pub below : IsBelow (length rows) number
  pub row : row_at rows number ≡ f

-- the declarations, the last first
abbrev pub declared : List Row → List FileName
declared rows = reverse (map file_name rows)

pub record IsNumbered (n : Inside) : Type 0 where
  pub consistent : AreConsistent (declared n.rows.items)
  pub files : (u : ℕ) (t : List ℕ) → Points n.rows.items (number_at n.by_file u t) (telling (is_here u t) (declared n.rows.items))
  pub externals : (t : List ℕ) → Points n.rows.items (number_in n.by_name t) (telling (is_external t) (declared n.rows.items))
