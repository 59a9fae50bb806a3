-- Places and kinds as operands: a place is the name of a space and an offset, a kind is a name.
use Rattle.std.specs.Prelude.{ℕ, false, nat_le, nat_lt, length, List, ◌∷◌, drop, codes, bytes_eq, if◌then◌else◌, Option, Some, None, Result, Ok, Err}
use Rattle.ldb_words.specs.Word.{sum_of}
use Rattle.ldb_words.specs.declared.kinds.Kind.{Kind}
use Rattle.ldb_words.specs.declared.kinds.Kind.TheVariants.{Byte, Word, Address}
use Rattle.ps_store.specs.declared.object.PsObj.{PsObj}
use Rattle.ps_store.specs.declared.object.PsObj.TheVariants.{Name, Str}
use Rattle.ps_store.specs.declared.object.StringId.{StringId}
use Rattle.ps_store.specs.declared.object.Part.TheVariants.{Table}
use Rattle.ps_store.specs.StoreState.{StoreState}
use Rattle.ps_store.specs.Store.{bytes_of}
use Rattle.ps_step.specs.declared.fault.PsError.{PsError}
use Rattle.ps_step.specs.declared.fault.PsError.TheVariants.{TypeCheck, RangeCheck, LimitCheck, StackOverflow}
use Rattle.ps_step.specs.declared.machine.PsCore.{PsCore}
use Rattle.ps_step.specs.Results.{◌>>=◌}
use Rattle.ps_step.specs.Operands.{one_of}
use Rattle.ps_step.specs.State.{Made, with_operands}
use Rattle.ps_words.specs.Operators.{word_in, integer}
use Rattle.frame_bytes.specs.declared.frame.Space.{Space}
use Rattle.frame_bytes.specs.declared.frame.Space.TheVariants.{Memory, Registers, Immediate}
use Rattle.frame_bytes.specs.declared.frame.Place.{Place}

-- the characters of a name; a string stands for the name of its characters
abbrev pub text_of : StoreState → PsObj → Result (List ℕ) PsError
text_of s (Name t x) = Ok (bytes_of s t)
text_of s (Str t x) = Ok (bytes_of s t)
text_of s other = Err TypeCheck

-- the characters of the string that was found
abbrev pub named_text : StoreState → Result StringId PsError → Result (List ℕ) PsError
named_text s (Ok t) = Ok (bytes_of s t)
named_text s (Err e) = Err e

-- a name has at most 127 characters
abbrev pub name_text : List ℕ → Result (List ℕ) PsError
name_text text = if nat_le (length text) 127 then Ok text else Err LimitCheck

abbrev pub name_of : StoreState → PsObj → Result (List ℕ) PsError
name_of s x = text_of s x >>= name_text

abbrev pub space_named : List ℕ → Result Space PsError
space_named text =
    name_text text >>= λ name.
    if bytes_eq name (codes "d") then Ok Memory
    else if bytes_eq name (codes "r") then Ok Registers
    else if bytes_eq name (codes "i") then Ok Immediate
    else Err RangeCheck

abbrev pub kind_named : List ℕ → Result Kind PsError
kind_named text =
    name_text text >>= λ name.
    if bytes_eq name (codes "c") then Ok Byte
    else if bytes_eq name (codes "w") then Ok Word
    else if bytes_eq name (codes "p") then Ok Address
    else Err RangeCheck

abbrev pub place : Space → ℕ → Place
place space at = record { space = space; at = at }

-- The first three strings of a store's table part are the names of the spaces, so an operator that leaves a place makes none.
abbrev pub space_number : Space → ℕ
space_number Memory = 0
space_number Registers = 1
space_number Immediate = 2

abbrev pub space_name : Space → PsObj
space_name space = Name (record { part = Table; index = space_number space }) false

-- a place comes in the place of one operand
abbrev pub placing : Space → ℕ → PsCore → Made
placing space at c =
    if nat_lt (length c.operands) 100000 then Ok (with_operands c (integer at ∷ space_name space ∷ drop 1 c.operands)) else Err StackOverflow

-- the word that is the topmost operand
abbrev pub top_word : PsCore → Result ℕ PsError
top_word c = one_of c.operands >>= word_in

-- `n Absolute`, `n Register`
abbrev pub placing_at : Space → PsCore → Made
placing_at space c = top_word c >>= λ n. placing space n c

-- `n Local`: so far from the base of the frame, if there is one
abbrev pub base_of : Option ℕ → Result ℕ PsError
base_of None = Err RangeCheck
base_of (Some base) = Ok base

abbrev pub placing_local : Option ℕ → PsCore → Made
placing_local base c = top_word c >>= λ n. base_of base >>= λ b. placing Memory (sum_of b n) c
