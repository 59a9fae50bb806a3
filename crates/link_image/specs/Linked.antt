-- What a linker makes of objects: where it places their static objects, and the image and its rows.
use Rattle.std.specs.Prelude.{◌≡◌, ℕ, ◌+◌, ◌-◌, List, [], ◌∷◌, ◌++◌, length, Option}
use Rattle.std.specs.Int.{next_multiple_of}
use Rattle.machine_state.specs.Regions.{zeros}
use Rattle.machine_state.specs.declared.layout.TheConstants.{TEXT, DATA}
use Rattle.obj_file.specs.declared.object.StaticDef.{StaticDef}
use Rattle.obj_file.specs.declared.object.Object.{Object}
use Rattle.obj_placed.specs.Placed.{all_statics, anchors_at, names_of, address_of, placed_texts, placed_statics}

-- ---- static objects: from DATA on, each at the next multiple of 4 behind 4 free bytes

-- from the address of a static object to that of the next
abbrev pub room_of : StaticDef → ℕ
room_of s = next_multiple_of (length s.bytes) 4 + 4

-- the addresses of static objects of which the first has this one, which is a multiple of 4
abbrev pub addresses_from : (at : ℕ) → List StaticDef → List ℕ
addresses_from at [] = []
addresses_from at (s ∷ ss) = at ∷ addresses_from (at + room_of s) ss

-- the address that one more static object would have
abbrev pub next_address : (at : ℕ) → List StaticDef → ℕ
next_address at [] = at
next_address at (s ∷ ss) = next_address (at + room_of s) ss

abbrev pub anchors_from : (at : ℕ) → List StaticDef → List (List ℕ × ℕ)
anchors_from at ss = anchors_at (addresses_from at ss) ss

abbrev pub linked_addresses : List Object → List ℕ
linked_addresses objects = addresses_from DATA (all_statics objects)

-- the address of a name
unfoldable pub linked_address : List Object → List ℕ → Option ℕ
linked_address objects name = address_of (names_of objects (linked_addresses objects)) name

-- ---- the image

unfoldable pub linked_text : List Object → List ℕ
linked_text objects = placed_texts (linked_address objects) TEXT objects

-- The bytes of static objects, each at its address, and zeros between them; `there` bytes of the data come before.
abbrev pub data_from : (there : ℕ) → (addresses : List ℕ) → (statics : List (List ℕ)) → List ℕ
data_from there [] ps = []
data_from there (a ∷ addresses) [] = []
data_from there (a ∷ addresses) (p ∷ ps) = zeros (a - DATA - there) ++ p ++ data_from (there + (a - DATA - there) + length p) addresses ps

unfoldable pub linked_statics : List Object → List ℕ
linked_statics objects = data_from 0 (linked_addresses objects) (placed_statics (linked_address objects) objects)

abbrev pub IsFor : (target : ℕ) → Object → Type 0
IsFor target o = o.target ≡ target
