-- What the code's state of a program is.
use Rattle.std.specs.Prelude.{◌≡◌, ℕ, List, map, length, Option, Some, None, Result, Ok, Err}
use Rattle.c_trees.specs.declared.unit.External.{External}
use Rattle.c_tree.specs.declared.rows.Function.{Function}
use Rattle.c_linkage.specs.declared.state.State.{State as Standing}
use Rattle.c_linkage.specs.declared.state.FileFault.{FileFault}
use Rattle.c_linkage.specs.declared.state.FileFault.TheVariants as fault
use Rattle.c_scope.specs.Here.{environment_of}
use Rattle.c_mentions.specs.Tags.{now}
use Rattle.c_linkage.specs.FileNames.{AreConsistent}
use Rattle.c_linkage.specs.Names.{defining, AreInOrder, AreWithin}
use Rattle.c_linkage.specs.Wanted.{called, awaited, started}
use Rattle.c_file.specs.Files.{State, Bodied}
use Rattle.c_file.specs.Made.{Each, IsFunctionOf, all_points}
use Rattle.c_file.specs.Programs.{Told, Well, Lacks, Breaks, at_first, AllFiles}
use Rattle.c_linkage.specs.FileTags.{tags_of}

-- the functions, whose statements are there where each name is declared
abbrev pub AreFunctions : State → Option (List ℕ) → List Function → Type 0
AreFunctions q None fs = Each (IsFunctionOf q) q.bodies fs
AreFunctions q (Some name) fs = length fs ≡ length q.bodies

-- the code's state of a program of so many files
pub record Stands (units : ℕ) (s : Standing) (q : State) : Type 0 where
  pub here : environment_of s.here ≡ q.here
  pub others : s.others.items ≡ q.others
  pub names : s.names ≡ q.names
  pub definitions : map defining s.definitions.items ≡ q.definitions
  pub calls : map called s.calls.items ≡ q.calls
  pub late : map awaited s.late.items ≡ q.late
  pub starts : map started s.starts.items ≡ q.starts
  pub functions : AreFunctions q s.unknown s.functions.items
  pub points : s.points.items ≡ all_points q 0 q.bodies
  pub count : length s.points.items ≡ q.points
  pub strings : map now s.strings.items ≡ q.strings
  pub ordered : AreInOrder q.definitions
  pub within : AreWithin units q.definitions

-- no rule is broken, but a name may be missing
abbrev pub told : Option (List ℕ) → Told
told None = Well
told (Some name) = Lacks name

-- the files of a program, looked through to the first rule that is broken
abbrev pub LooksThrough : List (List External) → Result Standing FileFault → Type 0
LooksThrough us (Ok s) = (q : State) × AllFiles (tags_of us) (at_first (tags_of us)) us (told s.unknown) q × Stands (length us) s q
LooksThrough us (Err (fault.Rule r u at)) = (q : State) × AllFiles (tags_of us) (at_first (tags_of us)) us (Breaks r u at) q
LooksThrough us (Err fault.NoMemory) = Unit {0}
