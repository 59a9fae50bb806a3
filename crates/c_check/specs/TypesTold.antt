-- What the code finds of an object's type among the names at file scope.
use Rattle.std.specs.Prelude.{◌≡◌, List, Option, Some, None}
use denote.Ref.{Bor}
use Rattle.c_linkage.specs.declared.file_names.FileName.{FileName as Row}
use Rattle.c_scope.specs.Here.{meaning_of}
use Rattle.c_linkage.specs.Names.{FileName, Defining}
use Rattle.c_file.specs.Files.{State}
use Rattle.c_linkage.specs.Types.{type_or}
use Rattle.c_file.specs.Made.{object_type}

-- a declaration that tells all that is told of the type of a defined object
abbrev pub IsToldOf : List FileName → Defining → Option (Bor Row) → Type 0
IsToldOf fs d None = Unit {0}
IsToldOf fs d (Some f) = (q : State) → q.names ≡ fs → object_type q d ≡ type_or (meaning_of f.now.meaning)
