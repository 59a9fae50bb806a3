-- What patching leaves of some bytes, word by word: so who knows the uses of an object knows its placed text without following the patching.
use Rattle.std.specs.Prelude.{◌≡◌, ◌≢◌, ◌≤◌, ◌⊎◌, ℕ, ◌+◌, Bool, true, List, length, take, drop, Option, Some, slice_get}
use Rattle.std.specs.List.{AllByRecursion}
use Rattle.machine_state.specs.Regions.{number_of}
use Rattle.machine_state.specs.Sound.{AreBytes}
use Rattle.obj_file.specs.declared.object.Use.{Use}
use Rattle.obj_placed.specs.Fields.{patched_word, order_of}
use Rattle.obj_placed.specs.Patched.{wrapped, stands_in}

-- the word at an offset
abbrev pub word_at : (target at : ℕ) → List ℕ → ℕ
word_at target at bytes = number_of (order_of target) 4 (drop at bytes)

-- a use that stands there shares no byte with so many bytes at an offset
abbrev pub IsApart : (in_text : Bool) → (at size : ℕ) → Use → Type 0
IsApart in_text at size u = stands_in in_text u ≡ true → (u.at + 4 ≤ at) ⊎ (at + size ≤ u.at)

-- the use of a number stands there, and no other shares a byte with it
pub record IsAlone (in_text : Bool) (us : List Use) (j : ℕ) (u : Use) : Type 0 where
  pub is : slice_get us j ≡ Some u
  pub stands : stands_in in_text u ≡ true
  pub apart : (k : ℕ) (v : Use) → k ≢ j → slice_get us k ≡ Some v → IsApart in_text u.at 4 v

-- Bytes that begin at an address, and what they are once patched: as long; the same where no use is; the word of a use that is alone has
-- its field replaced by what the use asks for.
pub record ArePatched (target base : ℕ) (address_of : List ℕ → Option ℕ) (in_text : Bool) (us : List Use) (bytes placed : List ℕ) : Type 0 where
  pub size : length placed ≡ length bytes
  pub are_bytes : AreBytes bytes → AreBytes placed
  pub unused : (at size : ℕ) → AllByRecursion (IsApart in_text at size) us → take size (drop at placed) ≡ take size (drop at bytes)
  pub used : AreBytes bytes → (j address : ℕ) (u : Use) → IsAlone in_text us j u → address_of u.name ≡ Some address
      → word_at target u.at placed ≡ patched_word target u.form (wrapped (base + u.at)) (wrapped (address + u.add)) (word_at target u.at bytes)
