-- Procedures that leave the place of an object, and the static objects.
use Rattle.std.specs.Prelude.{ℕ, Bool, true, false, suc, ◌+◌, ◌-◌, List, [], ◌∷◌, ◌++◌, take, length, codes, decimal, Option, Some, None, slice_get, if◌then◌else◌, pos}
use Rattle.obj_file.specs.declared.object.LocalPlace.{LocalPlace}
use Rattle.obj_file.specs.declared.object.LocalPlace.TheVariants.{Slot, Reg}
use Rattle.c_tree.specs.declared.rows.Program.{Program}
use Rattle.c_tree.specs.declared.rows.UnitRow.{UnitRow}
use Rattle.c_tree.specs.declared.rows.ObjectRow.{ObjectRow}
use Rattle.c_tree.specs.declared.rows.Local.{Local}
use Rattle.ps_text.specs.Code.{Code, Stop, Lit, Proc}
use Rattle.ps_emit.specs.Terms.{◌⋯◌, word, string, integer, number, bracketed, defined, anchor_name}
use Rattle.ps_emit.specs.Types.{type_code}

abbrev procedure : Code → Code
procedure body = Proc body Stop

-- at the address of a static object or a string
abbrev pub anchored : ℕ → Code
anchored k = procedure (integer (pos 0) ⋯ Lit (anchor_name k) Stop ⋯ word "Anchor" ⋯ word "Absolute")

abbrev pub absolute : ℕ → Code
absolute address = procedure (number address ⋯ word "Absolute")

-- where the locals of a function are, and how it declares them
pub record Homes : Type 0 where
  pub places : List LocalPlace
  pub locals : List Local

abbrev pub homes : List LocalPlace → List Local → Homes
homes places locals = record { places = places; locals = locals }

abbrev pub declared_register : Option Local → Bool
declared_register None = false
declared_register (Some l) = l.register

-- The word `Register` is how a table tells that a variable is `register`. One that got none drops a register's place again.
abbrev pub register_told : Bool → Code
register_told true = integer (pos 0) ⋯ word "Register" ⋯ word "pop" ⋯ word "pop"
register_told false = Stop

abbrev pub place_words : LocalPlace → (register : Bool) → Code
place_words (Slot offset) register = integer offset ⋯ word "Local" ⋯ register_told register
place_words (Reg r) register = integer (pos r) ⋯ word "Register"

-- a local whose place is not told has none
abbrev pub words_at : Option LocalPlace → (register : Bool) → Code
words_at None register = Stop
words_at (Some p) register = place_words p register

abbrev pub home_words : Homes → ℕ → Code
home_words h x = words_at (slice_get h.places x) (declared_register (slice_get h.locals x))

abbrev pub placed_at : Homes → ℕ → Code
placed_at h x = procedure (home_words h x)

-- ---- labels

abbrev pub file_in : Option UnitRow → List ℕ
file_in None = []
file_in (Some u) = u.file

-- the name of a source file without its ending `.c`
abbrev pub without_ending : List ℕ → List ℕ
without_ending file = take (length file - 2) file

-- what stands before the name in a static object's label: the unit where the name is the unit's alone
abbrev pub label_front : List UnitRow → ObjectRow → List ℕ
label_front us o = if o.is_static then without_ending (file_in (slice_get us o.unit)) ++ 46 ∷ [] else []

-- the label of a static object: `name` or `unit.name`
abbrev pub object_label : List UnitRow → ObjectRow → List ℕ
object_label us o = label_front us o ++ o.name

abbrev pub string_label : ℕ → List ℕ
string_label k = codes "str" ++ decimal k

-- ---- static objects and strings

abbrev pub object_code : List UnitRow → ℕ → ObjectRow → Code
object_code us k o = string o.name ⋯ string (object_label us o) ⋯ anchored k ⋯ type_code o.ctype ⋯ word "NewObject"

abbrev pub objects_from : List UnitRow → ℕ → List ObjectRow → Code
objects_from us k [] = Stop
objects_from us k (o ∷ os) = object_code us k o ⋯ objects_from us (suc k) os

-- a string with its NUL: the k-th one, whose anchor has such a number
abbrev pub string_code : (k anchor : ℕ) → List ℕ → Code
string_code k anchor text = string (string_label k) ⋯ anchored anchor ⋯ word "char" ⋯ number (suc (length text)) ⋯ word "ArrayOf" ⋯ word "NewString"

abbrev pub strings_from : (k anchor : ℕ) → List (List ℕ) → Code
strings_from k anchor [] = Stop
strings_from k anchor (t ∷ ts) = string_code k anchor t ⋯ strings_from (suc k) (suc anchor) ts

abbrev pub objects_code : Program → Code
objects_code p = defined "objects" (bracketed (objects_from p.units 0 p.objects ⋯ strings_from 0 (length p.objects) p.strings))
