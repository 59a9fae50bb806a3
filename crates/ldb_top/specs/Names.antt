-- The names of the files of a session, among its words.
use Rattle.std.specs.Prelude.{ℕ, ◌≤◌, List, [], ◌∷◌, ◌++◌, length, map, string_bytes, codes, if◌then◌else◌, Option, None, Some}
use Rattle.std.specs.Str.{bytes_eq}
use Rattle.cc_call.specs.Lines.{name_in}
use Rattle.compiled_tables.specs.Conditions.{AreFileNames}
use Rattle.ldb_cc.specs.declared.aim.Aim.{Aim}
use Rattle.ldb_cc.specs.declared.aim.Aim.TheVariants.{Mips, Sparc}
use Rattle.ldb_top.specs.declared.words.Aims.{Aims}
use Rattle.ldb_top.specs.declared.words.Aims.TheVariants.{One, Both}
use Rattle.ldb_top.specs.declared.words.DebugRequest.{DebugRequest}
use Rattle.ldb_top.specs.declared.words.GoRequest.{GoRequest}
use Rattle.ldb_top.specs.Words.{Form, Debug, Go, unscheduled}

-- names of sources: at most 16, of at most 255 bytes each
pub record AreSourceNames (names : List (List ℕ)) : Type 0 where
  pub few : length names ≤ 16
  pub short : AreFileNames names

-- What the session is about: the sources, or the image and the table. Where sources are compiled for one target alone, that one.
pub record Names : Type 0 where
  pub aim : Option Aim
  pub about : List (List ℕ)
  pub input : List ℕ
  pub output : List ℕ

-- those that are read, in their order
abbrev pub read_names : Names → List (List ℕ)
read_names n = n.about ++ n.input ∷ []

-- the words behind a target and two names
abbrev pub sources_in : List (List ℕ) → List (List ℕ)
sources_in (target ∷ input ∷ output ∷ sources) = sources
sources_in _ = []

-- the one target of a word, if it isn't that of both
abbrev pub aim_named : List ℕ → Option Aim
aim_named w =
    if bytes_eq w (codes "both") then None
    else if bytes_eq w (codes "mips") then Some Mips
    else if bytes_eq w (codes "sparc") then Some Sparc
    else None

abbrev pub aim_in : Aims → Option Aim
aim_in (One aim) = Some aim
aim_in Both = None

-- those of TARGET INPUT OUTPUT SRC..
abbrev pub go_names : List (List ℕ) → Names
go_names words = record { aim = aim_named (name_in words 0); about = sources_in words; input = name_in words 1; output = name_in words 2 }

-- the names among the words behind `debug` or `go`
abbrev pub names_of : Form → List (List ℕ) → Names
names_of Debug words = record { aim = None; about = name_in words 0 ∷ name_in words 1 ∷ []; input = name_in words 2; output = name_in words 3 }
names_of Go words = go_names (unscheduled words)
names_of _ words = record { aim = None; about = []; input = []; output = [] }

-- those of a request
abbrev pub names_in_debug : DebugRequest → Names
names_in_debug r = record { aim = None; about = r.image.now ∷ r.table.now ∷ []; input = r.input.now; output = r.output.now }

abbrev pub names_in_go : GoRequest → Names
names_in_go r = record { aim = aim_in r.aims; about = map string_bytes r.sources.now; input = r.input.now; output = r.output.now }
