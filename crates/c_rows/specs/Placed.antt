-- Which object or function of a program a name of a file means, by the code's maps.
use Rattle.std.specs.Prelude.{ℕ, Bool, false, ◌&&◌, ◌||◌, if◌then◌else◌, List, [], ◌∷◌, Option, Some, None}
use Rattle.c_tree.specs.declared.rows.Start.{Start}
use Rattle.c_tree.specs.declared.rows.Start.TheVariants as start
use Rattle.c_tree.specs.declared.rows.Referent.{Referent}
use Rattle.c_tree.specs.declared.rows.Referent.TheVariants as refers
use Rattle.c_judge.specs.declared.symbol.Symbol.{Symbol}
use Rattle.c_scope.specs.declared.link.Link.{Link}
use Rattle.c_rows.specs.declared.places.Places.{Places}
use Rattle.c_linkage.specs.Names.{FileName, is_here}
use Rattle.c_rows.specs.Fresh.{sees}
use Rattle.c_rows.specs.Linked.{linked_in}
use Rattle.c_initial.specs.Begins.{Begin, Bits, Within, Text}
use Rattle.c_judge.specs.Scope.{or_else_number}

-- a declaration of a name in a file is `static`, and one of some is
abbrev pub is_static_one : (unit : ℕ) → List ℕ → FileName → Bool
is_static_one u name f = is_here u name f && f.is_static

abbrev pub has_static : (unit : ℕ) → List ℕ → List FileName → Bool
has_static u name [] = false
has_static u name (f ∷ fs) = is_static_one u name f || has_static u name fs

abbrev pub is_static_by : Places → (unit : ℕ) → List ℕ → Bool
is_static_by p u name = sees p.statics u name

abbrev pub object_by : Places → (unit : ℕ) → List ℕ → Option ℕ
object_by p u name = linked_in p.objects u (is_static_by p u name) name

abbrev pub function_by : Places → (unit : ℕ) → List ℕ → Option ℕ
function_by p u name = linked_in p.functions u (is_static_by p u name) name

-- what a leaf holds at first
abbrev pub start_by : Places → (unit : ℕ) → Begin → Start
start_by p u (Bits n) = start.Number n
start_by p u (Within name n) = start.Object (or_else_number 0 (object_by p u name)) n
start_by p u (Text k) = start.Str k

abbrev pub function_or_none : Option ℕ → Referent
function_or_none None = refers.Declared
function_or_none (Some f) = refers.Function f

-- what a name at file scope denotes
abbrev pub refers_by : Places → (is_function : Bool) → (unit : ℕ) → List ℕ → Referent
refers_by p f u name = if f then function_or_none (function_by p u name) else refers.Object (or_else_number 0 (object_by p u name))

abbrev pub local_or : Option ℕ → Referent → Referent
local_or (Some x) r = refers.Local x
local_or None r = r

abbrev pub referent_by : Places → Symbol → Link → Referent
referent_by p s l = local_or l.local (refers_by p s.function l.unit s.name)
