-- Images: what a machine starts with, and its bytes in a file.
use Rattle.std.specs.Prelude.{◌≡◌, ◌⊎◌, ◌≤◌, ◌<◌, ℕ, ◌+◌, ◌%◌, ◌^◌, Bool, true, false, ◌&&◌, ◌||◌, nat_eq, nat_lt, nat_le, if◌then◌else◌, List, [], ◌∷◌, ◌++◌, length, take, drop, Option, Some, None, ⊤, Result, Ok, Err}
use Rattle.std.specs.Int.{Width, byte_len, w8, w16, w32, from_be_bytes, to_be_bytes}
use Rattle.machine_state.specs.declared.layout.TheConstants.{MIPS, SPARC, TEXT}
use Rattle.obj_file.specs.declared.image.ImageFault.{ImageFault}
use Rattle.obj_file.specs.declared.image.ImageFault.TheVariants.{BadImage, NoMemory}

-- ---- the value

pub record ImageFields : Type 0 where
  pub target : ℕ
  pub entry : ℕ
  pub text : List ℕ
  pub statics : List ℕ

-- what the format asks of the fields
pub record IsImage (i : ImageFields) : Type 0 where
  pub known : (i.target ≡ MIPS) ⊎ (i.target ≡ SPARC)
  pub least_text : 4 ≤ length i.text
  pub most_text : length i.text ≤ 2 ^ 24
  pub whole_words : length i.text % 4 ≡ 0
  pub most_data : length i.statics ≤ 2 ^ 20
  pub entry_aligned : i.entry % 4 ≡ 0
  pub entry_from : TEXT ≤ i.entry
  pub entry_below : i.entry < TEXT + length i.text

-- ---- the bytes: numbers are big-endian

-- `LDBI`
abbrev pub magic : ℕ
magic = 0x4c44_4249

abbrev pub word_bytes : ℕ → List ℕ
word_bytes n = to_be_bytes w32 n

-- `LDBI`, the version, the target, two zeros, the entry, the lengths of text and data, the text, the data
unfoldable pub image_bytes : ImageFields → List ℕ
image_bytes i =
    word_bytes magic ++ (1 ∷ i.target ∷ 0 ∷ 0 ∷ [])
    ++ word_bytes i.entry ++ word_bytes (length i.text) ++ word_bytes (length i.statics)
    ++ i.text ++ i.statics

-- ---- what is wrong with bytes that are no image

-- whether n bytes from an offset on are all there
abbrev pub are_there : ℕ → ℕ → List ℕ → Bool
are_there at n bytes = nat_le (at + n) (length bytes)

-- the number in the bytes from an offset on, if they are all there
abbrev pub number_at : Width → ℕ → List ℕ → Option ℕ
number_at w at bytes =
    if are_there at (byte_len w) bytes then Some (from_be_bytes w (take (byte_len w) (drop at bytes))) else None

unfoldable pub byte_at : ℕ → List ℕ → Option ℕ
byte_at at bytes = number_at w8 at bytes

unfoldable pub half_at : ℕ → List ℕ → Option ℕ
half_at at bytes = number_at w16 at bytes

unfoldable pub word_at : ℕ → List ℕ → Option ℕ
word_at at bytes = number_at w32 at bytes

-- whether there is a number that passes the test
abbrev pub holds : Option ℕ → (ℕ → Bool) → Bool
holds None is_right = false
holds (Some n) is_right = is_right n

abbrev pub or_zero : Option ℕ → ℕ
or_zero None = 0
or_zero (Some n) = n

-- the fields in the order in which they are checked: the offset of each, and whether it is all there and right
abbrev pub header_checks : List ℕ → List (ℕ × Bool)
header_checks bytes =
    (0, holds (word_at 0 bytes) (λ n. nat_eq n magic)) ∷
    (4, holds (byte_at 4 bytes) (λ n. nat_eq n 1)) ∷
    (5, holds (byte_at 5 bytes) (λ n. nat_eq n MIPS || nat_eq n SPARC)) ∷
    (6, holds (half_at 6 bytes) (λ n. nat_eq n 0)) ∷
    (8, holds (word_at 8 bytes) (λ n. true)) ∷
    (12, holds (word_at 12 bytes) (λ n. nat_le 4 n && nat_le n (2 ^ 24) && nat_eq (n % 4) 0)) ∷
    (16, holds (word_at 16 bytes) (λ n. nat_le n (2 ^ 20))) ∷
    []

-- the text and the data, then the entry, which is a multiple of 4 inside the text, and the end
abbrev pub body_checks : ℕ → ℕ → ℕ → List ℕ → List (ℕ × Bool)
body_checks entry text_length data_length bytes =
    (20, are_there 20 text_length bytes) ∷
    (20 + text_length, are_there (20 + text_length) data_length bytes) ∷
    (8, nat_eq (entry % 4) 0 && nat_le TEXT entry && nat_lt entry (TEXT + text_length)) ∷
    (20 + text_length + data_length, nat_eq (length bytes) (20 + text_length + data_length)) ∷
    []

-- the offset of the first that is wrong
abbrev pub first_of : List (ℕ × Bool) → Option ℕ
first_of [] = None
first_of (row ∷ rows) = if row.1 then first_of rows else Some row.0

-- the first that there is
abbrev pub or_else : Option ℕ → Option ℕ → Option ℕ
or_else None o = o
or_else (Some x) o = Some x

unfoldable pub wrong_in_header : List ℕ → Option ℕ
wrong_in_header bytes = first_of (header_checks bytes)

unfoldable pub wrong_in_body : ℕ → ℕ → ℕ → List ℕ → Option ℕ
wrong_in_body entry text_length data_length bytes = first_of (body_checks entry text_length data_length bytes)

-- the offset of the first wrong field, or None for an image
unfoldable pub first_wrong : List ℕ → Option ℕ
first_wrong bytes =
    or_else (wrong_in_header bytes)
    (wrong_in_body (or_zero (word_at 8 bytes)) (or_zero (word_at 12 bytes)) (or_zero (word_at 16 bytes)) bytes)

-- what a reader may answer to some bytes
abbrev pub Reads : List ℕ → Result ImageFields ImageFault → Type 0
Reads bytes (Ok i) = (first_wrong bytes ≡ None) × (bytes ≡ image_bytes i)
Reads bytes (Err (BadImage at)) = first_wrong bytes ≡ Some at
Reads bytes (Err NoMemory) = ⊤

-- a header in which nothing is wrong, with its numbers
pub record IsHeader (bytes : List ℕ) (target entry text_length data_length : ℕ) : Type 0 where
  pub right : wrong_in_header bytes ≡ None
  pub magic_there : word_at 0 bytes ≡ Some magic
  pub version_there : byte_at 4 bytes ≡ Some 1
  pub target_there : byte_at 5 bytes ≡ Some target
  pub zeros_there : half_at 6 bytes ≡ Some 0
  pub entry_there : word_at 8 bytes ≡ Some entry
  pub text_there : word_at 12 bytes ≡ Some text_length
  pub data_there : word_at 16 bytes ≡ Some data_length
  pub known : (target ≡ MIPS) ⊎ (target ≡ SPARC)
  pub least_text : 4 ≤ text_length
  pub most_text : text_length ≤ 2 ^ 24
  pub whole_words : text_length % 4 ≡ 0
  pub most_data : data_length ≤ 2 ^ 20

-- text and data end where the bytes do, and the entry is a multiple of 4 inside the text
pub record IsBody (bytes : List ℕ) (entry text_length data_length : ℕ) : Type 0 where
  pub whole : length bytes ≡ 20 + text_length + data_length
  pub entry_aligned : entry % 4 ≡ 0
  pub entry_from : TEXT ≤ entry
  pub entry_below : entry < TEXT + text_length
