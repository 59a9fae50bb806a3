-- What a call leaves of the files.
use Rattle.std.specs.Prelude.{◌≡◌, ◌≢◌, ℕ, Bool, true, List, drop, Option, None, Some, is_some}
use Rattle.std.specs.FinMap as map
use Rattle.std.specs.Coded.{Coded-set, coded_option, coded_list, coded_bool, coded_ℕ, ×_prop, Π_prop}
use Rattle.ldb_edge.specs.Known.{FileMap}
use Rattle.ldb_top.specs.Names.{names_of}
use Rattle.ldb_top.specs.Words.{Form, Debug, Go}

-- what a name holds, where the files tell it
abbrev pub held_under : Option FileMap → List ℕ → Option (List ℕ)
held_under None name = None
held_under (Some files) name = map.get files name

-- there is something under a name, where the files tell it
abbrev pub is_there : List ℕ → Option FileMap → Bool
is_there name None = true
is_there name (Some files) = is_some (map.get files name)

-- every name but one holds what it held, and what was under that one isn't taken away
abbrev pub OthersKept : (name : List ℕ) → (held held' : Option FileMap) → Type 0
OthersKept name held held' =
    (is_some held' ≡ is_some held) × (((other : List ℕ) → other ≢ name → held_under held' other ≡ held_under held other) × (is_there name held ≡ true → is_there name held' ≡ true))

-- and that in one way
pub others_kept_prop : (name : List ℕ) (held held' : Option FileMap) → IsProp (OthersKept name held held')
others_kept_prop name held held' =
    ×_prop (Coded-set coded_bool _ _) (×_prop (Π_prop (λ other. Π_prop (λ apart. Coded-set (coded_option (coded_list coded_ℕ)) _ _))) (Π_prop (λ there. Coded-set coded_bool _ _)))

-- the name of the output of a session, among the words behind `debug` or `go`
abbrev pub output_of : Form → List (List ℕ) → List ℕ
output_of form words = (names_of form words).output

-- a session writes its output alone, and words of another form write no file
abbrev pub LeavesFiles : Option Form → (words : List (List ℕ)) → (held held' : Option FileMap) → Type 0
LeavesFiles (Some Debug) words held held' = OthersKept (output_of Debug (drop 1 words)) held held'
LeavesFiles (Some Go) words held held' = OthersKept (output_of Go (drop 1 words)) held held'
LeavesFiles _ words held held' = held' ≡ held
