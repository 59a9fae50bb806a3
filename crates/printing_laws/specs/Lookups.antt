-- What the debugger's dialect looks up when values are printed, whatever functions of units are run on the way.
use Rattle.std.specs.Prelude.{◌≡◌, ◌⊎◌, ℕ, ℤ, ◌^◌, ◌%◌, min, List, Ok, Err}
use Rattle.std.specs.Int.{w8, cast_signed}
use Rattle.ldb_words.specs.Word.{signed}
use Rattle.ldb_words.specs.declared.kinds.Kind.{Kind}
use Rattle.ldb_words.specs.declared.kinds.Kind.TheVariants.{Byte, Word, Address}
use Rattle.ps_store.specs.declared.object.PsObj.{PsObj}
use Rattle.ps_store.specs.StoreState.{StoreState}
use Rattle.ps_step.specs.declared.machine.PsCore.{PsCore}
use Rattle.ps_step.specs.Results.{◌>>=◌}
use Rattle.frame_bytes.specs.declared.frame.Space.{Space}
use Rattle.frame_bytes.specs.Bytes.{fetched}
use Rattle.ps_places.specs.Places.{place}
use Rattle.ps_places.specs.Accesses.{or_outside}
use Rattle.ps_append.specs.Characters.{bytes_from, MOST_READ}
use Rattle.ps_leaves.specs.Forms.{pointer_text}
use Rattle.ps_leaves.specs.Leaves.{run_of}
use Rattle.dialect_model.specs.Dial.{Dial, Acted, Needs, raised}
use Rattle.dialect_model.specs.Acting.{space_bytes, found}
use Rattle.dialect_model.specs.Forcing.{ForcesUnit}

-- ---- stores

-- A store to which one comes from a first one by running functions of units, whatever is on the stacks.
pub data Reached (first : StoreState) : StoreState → Type 0 where
  unmoved : Reached first first
  onward : (unit left left' : ℕ) (c c' : PsCore) → Reached first c.store → ForcesUnit unit c left (Ok tt) left' c' → Reached first c'.store

-- Whichever functions of units were run, what is looked up is the same, or more of them have to be run first.
abbrev pub Always : {A : Type 0} → StoreState → (StoreState → Acted A) → A → Type 0
Always first asked x = (now : StoreState) → Reached first now → (asked now ≡ Ok x) ⊎ ((unit : ℕ) × (asked now ≡ Err (Needs unit)))

-- ---- what is looked up

-- the number of a kind at a place
abbrev pub number_there : Dial → Space → (at : ℕ) → Kind → StoreState → Acted ℕ
number_there d space at k s = space_bytes d s space >>= λ b. raised (or_outside (fetched b space at k))

-- a number of a kind as an integer: a byte is a `char`
abbrev pub integer_of : Kind → ℕ → ℤ
integer_of Byte n = cast_signed w8 (n % 2 ^ 8)
integer_of Word n = signed n
integer_of Address n = signed n

-- the bytes up to the first NUL from a place on, at most so many, and no more than show that there are more than 200
abbrev pub string_there : Dial → Space → (at count : ℕ) → StoreState → Acted (List ℕ)
string_there d space at count s = space_bytes d s space >>= λ b. raised (bytes_from (min count MOST_READ) b (place space at))

-- the text of a pointer
abbrev pub pointer_there : Dial → (address : ℕ) → StoreState → Acted (List ℕ)
pointer_there d p s = found d s p >>= λ o. Ok (pointer_text s p o)

-- how many characters lie where a pointer leads
abbrev pub run_there : Dial → (address : ℕ) → StoreState → Acted PsObj
run_there d p s = found d s p >>= λ o. raised (run_of s o)
