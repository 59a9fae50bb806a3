-- What the rows of objects say.
use Rattle.std.specs.Prelude.{ℕ, suc, Bool, ◌&&◌, ◌==◌, if◌then◌else◌, List, [], ◌∷◌, map, Option, Some, None, bytes_eq, slice_get, option_map}
use Rattle.c_tree.specs.declared.rows.ObjectRow.{ObjectRow}
use Rattle.c_tree.specs.declared.rows.Start.{Start}
use Rattle.c_typing.specs.Plain.{Plain, plain}
use Rattle.c_rows.specs.declared.places.Places.{Places}
use Rattle.c_rows.specs.declared.starts.Starts.{Starts as Kept}
use Rattle.c_linkage.specs.FileNumbers.{number_at}
use Rattle.c_linkage.specs.Names.{Defining}
use Rattle.c_initial.specs.Begins.{Begin, zeros}
use Rattle.c_linkage.specs.Wanted.{Started}
use Rattle.c_linkage.specs.declared.state.Started.{Started as Row}
use Rattle.c_linkage.specs.Wanted.{started}
use Rattle.c_rows.specs.Placed.{start_by}

-- the number of the first that is an object's
abbrev pub start_number : ℕ → List Started → (unit : ℕ) → List ℕ → Option ℕ
start_number n [] u name = None
start_number n (s ∷ ss) u name = if (s.unit == u) && bytes_eq s.name name then Some n else start_number (suc n) ss u name

abbrev pub started_at : List Row → Option ℕ → Option Started
started_at ss None = None
started_at ss (Some n) = option_map started (slice_get ss n)

abbrev pub begins_or : List Begin → Option Started → List Begin
begins_or bs None = bs
begins_or bs (Some s) = s.begins

abbrev pub starts_by : Places → Kept → Defining → Plain → List Start
starts_by p k d t = map (start_by p d.unit) (begins_or (zeros k.defs.now t) (started_at k.of.now (number_at k.numbers d.unit d.name)))

-- the name, the file, whether it is `static`, the type, and what its leaves hold at first
abbrev pub Said : Type 0
Said = List ℕ × ℕ × Bool × Plain × List Start

abbrev pub object_said : ObjectRow → Said
object_said o = (o.name, o.unit, o.is_static, plain o.ctype, o.start)

abbrev pub said_by : Places → Kept → Defining → Plain → Said
said_by p k d t = (d.name, d.unit, d.is_static, t, starts_by p k d t)

abbrev pub said_all : Places → Kept → List Defining → List Plain → List Said
said_all p k (d ∷ ds) (t ∷ ts) = said_by p k d t ∷ said_all p k ds ts
said_all p k _ _ = []
