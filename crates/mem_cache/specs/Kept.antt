-- Values that were fetched from a memory and are kept.
use Rattle.std.specs.Prelude.{◌≡◌, ℕ, List, Contains, Some}
use Rattle.ldb_words.specs.declared.kinds.Kind.{Kind}
use Rattle.ldb_words.specs.declared.kinds.Kind.TheVariants.{Byte, Word, Address}
use Rattle.frame_bytes.specs.declared.frame.Space.{Space}
use Rattle.frame_bytes.specs.declared.frame.Space.TheVariants.{Memory, Registers, Immediate}
use Rattle.frame_bytes.specs.declared.frame.Place.{Place}
use Rattle.frame_bytes.specs.Bytes.{Bytes, fetched}
use Rattle.abs_mem.specs.Meaning.{Seen}
use Rattle.mem_cache.specs.declared.cached.Access.{Access}

abbrev pub space_number : Space → ℕ
space_number Memory = 0
space_number Registers = 1
space_number Immediate = 2

abbrev pub kind_number : Kind → ℕ
kind_number Byte = 0
kind_number Word = 1
kind_number Address = 2

-- the place and the kind of an access
abbrev pub access_of : Place → Kind → Access
access_of p k = record { space = space_number p.space; kind = kind_number k; at = p.at }

-- each kept value is the number at its place
abbrev pub AreRight : List (Access × ℕ) → Bytes → Type 0
AreRight kept b = (p : Place) (k : Kind) (v : ℕ) → Contains kept (access_of p k, v) → fetched b p.space p.at k ≡ Some v

-- the memory below tells these bytes, and all that is kept is right of them
pub record KeptTells {R : Type 0} (s : Seen R) (kept : List (Access × ℕ)) (b : Bytes) (r : R) : Type 0 where
  pub below : s.tells b r
  pub right : AreRight kept b

abbrev pub kept_seen : {R : Type 0} → List (Access × ℕ) → Seen R → Seen R
kept_seen kept s = record { faults = s.faults; tells = KeptTells s kept }
