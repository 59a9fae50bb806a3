-- The lines that are printed where no session is begun, and behind a session whose commands are too long.
use Rattle.std.specs.Prelude.{◌≡◌, ◌⊎◌, ℕ, true, List, [], ◌++◌, codes, decimal, Option, None, Some}
use Rattle.ps_step.specs.Errors.{error_text}
use Rattle.table_run.specs.declared.run.TableFault.{TableFault}
use Rattle.table_run.specs.declared.run.TableFault.TheVariants as table
use Rattle.ldb_cc.specs.declared.fault.BuildFault.{BuildFault}
use Rattle.cc_call.specs.Lines.{end, missing_line, is_refusal, refused_line}
use Rattle.ldb_top.specs.declared.status.Stop.{Stop}
use Rattle.ldb_top.specs.declared.status.Stop.TheVariants.{Read, NoMemory, Missing, TooLong, Refused, Bad}
use Rattle.ldb_top.specs.Names.{Names}

abbrev pub long_line : List ℕ → List ℕ
long_line name = codes "toolong " ++ (name ++ end)

abbrev pub late_line : List ℕ
late_line = codes "toolong commands\n"

abbrev pub bad_image_line : ℕ → List ℕ
bad_image_line at = codes "badfile image at " ++ (decimal at ++ end)

abbrev pub bad_table_line : List ℕ → List ℕ
bad_table_line word = codes "badfile table " ++ (word ++ end)

-- the word that tells why a table gives nothing to begin with
abbrev pub table_word : TableFault → Option (List ℕ)
table_word (table.Raised e) = Some (error_text e)
table_word table.Spent = Some (codes "spent")
table_word table.Shape = Some (codes "shape")
table_word table.NoMemory = None

-- the line tells of this fault of a table
pub record TellsTable (fault : TableFault) (line : List ℕ) : Type 0 where
  pub word : List ℕ
  pub word_is : table_word fault ≡ Some word
  pub line_is : line ≡ bad_table_line word

-- the line tells of this fault of sources with these names
pub record TellsRefusal (names : List (List ℕ)) (fault : BuildFault) (line : List ℕ) : Type 0 where
  pub is_told : is_refusal fault ≡ true
  pub line_is : line ≡ refused_line names fault

-- ---- by what ends a call before its session

-- the line that it tells
abbrev pub line_of : Stop → List ℕ
line_of Read = []
line_of NoMemory = []
line_of (Missing line) = line
line_of (TooLong line) = line
line_of (Refused line) = line
line_of (Bad line) = line

-- it tells of a fault that sources with these names may have
abbrev pub IsRefusedLine : (names : List (List ℕ)) → List ℕ → Type 0
IsRefusedLine names line = (fault : BuildFault) × TellsRefusal names fault line

-- it tells of a fault that a table may have
abbrev pub IsTableLine : List ℕ → Type 0
IsTableLine line = (fault : TableFault) × TellsTable fault line

-- or of an image
abbrev pub IsBadLine : List ℕ → Type 0
IsBadLine line = ((at : ℕ) × (line ≡ bad_image_line at)) ⊎ IsTableLine line

-- it is a line that some files with these names get, whatever these hold
abbrev pub IsLine : Names → Stop → Type 0
IsLine n Read = Unit {0}
IsLine n NoMemory = Unit {0}
IsLine n (Missing line) = (name : List ℕ) × (line ≡ missing_line name)
IsLine n (TooLong line) = line ≡ long_line n.input
IsLine n (Refused line) = IsRefusedLine n.about line
IsLine n (Bad line) = IsBadLine line
