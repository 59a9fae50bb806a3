-- Strings that lie in a memory.
use Rattle.std.specs.Prelude.{◌≡◌, ℕ, zero, suc, ◌%◌, ◌==◌, min, true, false, List, [], ◌∷◌, ◌++◌, drop, Result, Ok, Err}
use Rattle.ldb_words.specs.Word.{sum_of}
use Rattle.ldb_words.specs.declared.kinds.Kind.TheVariants.{Byte}
use Rattle.c_show.specs.Printed.{string_text}
use Rattle.ldb_edge.specs.Count.{Rose}
use Rattle.ps_step.specs.declared.fault.PsError.{PsError}
use Rattle.ps_step.specs.declared.fault.PsFault.TheVariants.{Error, Spent, Link, NoMemory}
use Rattle.ps_step.specs.declared.machine.PsCore.{PsCore}
use Rattle.ps_step.specs.Results.{◌>>=◌}
use Rattle.ps_step.specs.Arithmetic.{integer_of}
use Rattle.ps_step.specs.Operands.{triple_of}
use Rattle.ps_step.specs.State.{with_operands}
use Rattle.ps_step.specs.Values.{count_of}
use Rattle.frame_bytes.specs.declared.frame.Place.{Place}
use Rattle.frame_bytes.specs.Bytes.{Bytes, fetched}
use Rattle.abs_mem.specs.Meaning.{Seen, Same, OnTold, Untold}
use Rattle.ps_words.specs.Operators.{word_in}
use Rattle.ps_places.specs.Places.{text_of, space_named, place}
use Rattle.ps_places.specs.Accesses.{or_outside}
use Rattle.abs_mem.specs.declared.memory.MemFault.TheVariants.{Outside, LinkFault, BadReply}
use Rattle.ps_places.specs.declared.access.Trouble.{Trouble}
use Rattle.ps_places.specs.declared.access.Trouble.TheVariants.{Ps, Broken}

-- the bytes from a place on up to the first NUL, at most so many
abbrev pub bytes_from : ℕ → Bytes → Place → Result (List ℕ) PsError
bytes_from zero b p = Ok []
bytes_from (suc n) b p = or_outside (fetched b p.space p.at Byte) >>= λ x. elim (x % 256 == 0) [
  | true ↦ Ok []
  | false ↦ bytes_from n b (record p { at = sum_of p.at 1 }) >>= λ bs. Ok ((x % 256) ∷ bs)
]

-- of more than 200 characters no more bytes are read than show that there are more
abbrev pub MOST_READ : ℕ
MOST_READ = 201

-- `space n count PutChars`: the place, and how many bytes are read
abbrev pub string_place : PsCore → Result (Place × ℕ) PsError
string_place c =
    triple_of c.operands >>= λ t. text_of c.store t.0 >>= λ space. word_in t.1 >>= λ at. integer_of t.2 >>= λ n.
    space_named space >>= λ sp. count_of t.2 >>= λ count. Ok (place sp at, min count MOST_READ)

abbrev pub appending_chars : List ℕ → Bytes → PsCore → Result (List ℕ × PsCore) PsError
appending_chars out b c = string_place c >>= λ a. bytes_from a.1 b a.0 >>= λ bs. Ok (out ++ string_text bs, with_operands c (drop 3 c.operands))

-- What was read of the bytes that are told. A reading changes nothing.
abbrev pub ReadsBytes : {R : Type 0} → (Bytes → Result (List ℕ) PsError) → List ℕ → Seen R → Result (Unit {0}) Trouble → List ℕ → Seen R → Type 0
ReadsBytes f old s (Ok x) new s' = Same s s' × OnTold s (λ b. (f b >>= λ bs. Ok (old ++ bs)) ≡ Ok new)
ReadsBytes f old s (Err (Ps (Error e))) new s' = Same s s' × OnTold s (λ b. f b ≡ Err e)
ReadsBytes f old s (Err (Ps NoMemory)) new s' = Same s s'
ReadsBytes f old s (Err (Ps Spent)) new s' = ⊥
ReadsBytes f old s (Err (Ps Link)) new s' = ⊥
ReadsBytes f old s (Err (Broken LinkFault)) new s' = Rose s.faults s'.faults
ReadsBytes f old s (Err (Broken (BadReply frame))) new s' = Untold s s'
ReadsBytes f old s (Err (Broken (Outside p))) new s' = ⊥

-- The string was appended. An error leaves the text and the state as they were. A reading changes no byte, also where memory runs
-- out.
abbrev pub AppendsChars : {R : Type 0} → List ℕ → Seen R → PsCore → Result (Unit {0}) Trouble → List ℕ → Seen R → PsCore → Type 0
AppendsChars {R} out s c (Ok x) out' s' c' = Same s s' × ((b : Bytes) (r : R) → s.tells b r → appending_chars out b c ≡ Ok (out', c'))
AppendsChars {R} out s c (Err (Ps (Error e))) out' s' c' = Same s s' × (out' ≡ out) × (c' ≡ c) × ((b : Bytes) (r : R) → s.tells b r → appending_chars out b c ≡ Err e)
AppendsChars out s c (Err (Ps NoMemory)) out' s' c' = Same s s'
AppendsChars out s c (Err (Ps Spent)) out' s' c' = ⊥
AppendsChars out s c (Err (Ps Link)) out' s' c' = ⊥
AppendsChars out s c (Err (Broken LinkFault)) out' s' c' = Rose s.faults s'.faults
AppendsChars out s c (Err (Broken (BadReply frame))) out' s' c' = Untold s s'
AppendsChars out s c (Err (Broken (Outside p))) out' s' c' = ⊥
