-- Static objects and strings: their bytes at first, and where addresses stand among these.
use Rattle.std.specs.Prelude.{ℕ, suc, ◌+◌, ◌-◌, ◌%◌, ◌^◌, nat_eq, if◌then◌else◌, false, List, [], ◌∷◌, ◌++◌, length}
use Rattle.ldb_words.specs.declared.kinds.Order.{Order}
use Rattle.machine_state.specs.Regions.{bytes_of, zeros}
use Rattle.obj_file.specs.declared.object.Form.TheVariants.{Word}
use Rattle.obj_file.specs.declared.object.StaticDef.{StaticDef}
use Rattle.obj_file.specs.declared.object.Use.{Use}
use Rattle.slot_ir.specs.declared.code.SlotCode.{SlotCode}
use Rattle.slot_ir.specs.declared.code.SlotObject.{SlotObject}
use Rattle.slot_ir.specs.declared.code.SlotStart.{SlotStart}
use Rattle.slot_ir.specs.declared.code.SlotValue.{SlotValue}
use Rattle.slot_ir.specs.declared.code.SlotValue.TheVariants as value
use Rattle.gen_parts.specs.Names.{object_name}

-- a number in 1, 2 or 4 bytes
abbrev pub number_bytes : Order → (width bits : ℕ) → List ℕ
number_bytes order width bits =
    if nat_eq width 1 then bytes_of order 1 (bits % 2 ^ 8) else if nat_eq width 2 then bytes_of order 2 (bits % 2 ^ 16) else bytes_of order 4 bits

-- what a leaf holds at first; an address is zeros, which a linker writes over
abbrev pub value_bytes : Order → (width : ℕ) → SlotValue → List ℕ
value_bytes order width (value.Number bits) = number_bytes order width bits
value_bytes order width value.Null = number_bytes order width 0
value_bytes order width (value.Object object offset) = 0 ∷ 0 ∷ 0 ∷ 0 ∷ []
value_bytes order width (value.Str string) = 0 ∷ 0 ∷ 0 ∷ 0 ∷ []

abbrev pub leaf_bytes : Order → SlotStart → List ℕ
leaf_bytes order s = value_bytes order s.width s.value

abbrev pub data_use : (at object add : ℕ) → Use
data_use at object add = record { in_text = false; at = at; form = Word; name = object_name object; add = add }

-- strings are numbered behind so many objects
abbrev pub value_uses : (objects at : ℕ) → SlotValue → List Use
value_uses objects at (value.Number bits) = []
value_uses objects at value.Null = []
value_uses objects at (value.Object object offset) = data_use at object offset ∷ []
value_uses objects at (value.Str string) = data_use at (objects + string) 0 ∷ []

-- the bytes from an offset on up to the last leaf, zeros between leaves
abbrev pub start_bytes : Order → (here : ℕ) → List SlotStart → List ℕ
start_bytes order here [] = []
start_bytes order here (s ∷ ss) = zeros (s.at - here) ++ leaf_bytes order s ++ start_bytes order (here + (s.at - here) + length (leaf_bytes order s)) ss

-- the addresses among them; the bytes of all objects are counted one after another, and so many come before
abbrev pub start_uses : Order → (objects before here : ℕ) → List SlotStart → List Use
start_uses order objects before here [] = []
start_uses order objects before here (s ∷ ss) =
    value_uses objects (before + (here + (s.at - here))) s.value ++ start_uses order objects before (here + (s.at - here) + length (leaf_bytes order s)) ss

abbrev pub filled : (size : ℕ) → List ℕ → List ℕ
filled size bytes = bytes ++ zeros (size - length bytes)

unfoldable pub object_bytes : Order → SlotObject → List ℕ
object_bytes order o = filled o.size (start_bytes order 0 o.start)

abbrev pub objects_statics : Order → (number : ℕ) → List SlotObject → List StaticDef
objects_statics order number [] = []
objects_statics order number (o ∷ os) = record { name = object_name number; bytes = object_bytes order o } ∷ objects_statics order (suc number) os

abbrev pub objects_uses : Order → (objects before : ℕ) → List SlotObject → List Use
objects_uses order objects before [] = []
objects_uses order objects before (o ∷ os) = start_uses order objects before 0 o.start ++ objects_uses order objects (before + length (object_bytes order o)) os

-- a string and its NUL
abbrev pub strings_statics : (number : ℕ) → List (List ℕ) → List StaticDef
strings_statics number [] = []
strings_statics number (t ∷ ts) = record { name = object_name number; bytes = t ++ 0 ∷ [] } ∷ strings_statics (suc number) ts

-- the static objects and then the strings of a program
unfoldable pub program_statics : Order → SlotCode → List StaticDef
program_statics order c = objects_statics order 0 c.objects ++ strings_statics (length c.objects) c.strings

unfoldable pub data_uses : Order → SlotCode → List Use
data_uses order c = objects_uses order (length c.objects) 0 c.objects
