-- Bytes in which the address of a name stands at each place that uses the name.
use Rattle.std.specs.Prelude.{ℕ, ◌+◌, ◌%◌, Bool, true, false, not, if◌then◌else◌, List, [], ◌∷◌, ◌++◌, take, drop, Option, Some, None}
use Rattle.machine_state.specs.Regions.{number_of, bytes_of}
use Rattle.obj_file.specs.declared.object.Use.{Use}
use Rattle.obj_placed.specs.Fields.{patched_word, order_of}

-- addresses have 32 bits
abbrev pub wrapped : ℕ → ℕ
wrapped n = n % 4294967296

-- bytes that begin at an address, with the word of a use patched
unfoldable pub patched_at : (target base : ℕ) → (address : ℕ) → Use → List ℕ → List ℕ
patched_at target base address u bytes =
    take u.at bytes ++ (bytes_of (order_of target) 4 (patched_word target u.form (wrapped (base + u.at)) (wrapped (address + u.add)) (number_of (order_of target) 4 (drop u.at bytes))) ++ drop (u.at + 4) bytes)

-- whether a use stands in the text, or else in the static objects
abbrev pub stands_in : (in_text : Bool) → Use → Bool
stands_in true u = u.in_text
stands_in false u = not u.in_text

-- a name that has no address changes nothing
abbrev pub patched_by : (target base : ℕ) → Option ℕ → Use → List ℕ → List ℕ
patched_by target base None u bytes = bytes
patched_by target base (Some address) u bytes = patched_at target base address u bytes

-- bytes that begin at an address, once each use in them is patched, in order
abbrev pub patched : (target base : ℕ) → (address_of : List ℕ → Option ℕ) → (in_text : Bool) → List Use → List ℕ → List ℕ
patched target base address_of in_text [] bytes = bytes
patched target base address_of in_text (u ∷ us) bytes =
    patched target base address_of in_text us (if stands_in in_text u then patched_by target base (address_of u.name) u bytes else bytes)
