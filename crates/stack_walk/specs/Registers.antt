-- Words of registers.
use Rattle.std.specs.Prelude.{ℕ, List, Option, Result, Ok, Err}
use Rattle.ldb_words.specs.declared.kinds.Kind.TheVariants.{Word}
use Rattle.frame_bytes.specs.Bytes.{Bytes, word_address}
use Rattle.ps_step.specs.Results.{◌>>=◌}
use Rattle.table_model.specs.Reading.{Walked, fetch_at, or_outside}
use Rattle.abs_mem.specs.declared.memory.MemFault.{MemFault}
use Rattle.abs_mem.specs.declared.walk.WalkFault.{WalkFault}
use Rattle.abs_mem.specs.declared.walk.WalkFault.TheVariants as fault

-- what a walk answers, by what a memory did
abbrev pub word_of : Result ℕ MemFault → Result ℕ WalkFault
word_of (Ok x) = Ok x
word_of (Err f) = Err (fault.Memory f)

-- the word of a register, outside where there is none
abbrev pub register_word : List (Option ℕ) → ℕ → Bytes → Walked ℕ
register_word places r b = or_outside (word_address places r) >>= λ at. fetch_at b at Word
