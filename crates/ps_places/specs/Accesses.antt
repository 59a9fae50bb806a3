-- Accesses of the memory of a target, by the bytes that it tells.
use Rattle.std.specs.Prelude.{◌≡◌, ℕ, ◌%◌, ◌^◌, Bool, true, false, nat_lt, length, pos, List, ◌∷◌, drop, if◌then◌else◌, Option, Some, None, Result, Ok, Err}
use Rattle.std.specs.Int.{w8, cast_signed}
use Rattle.ldb_edge.specs.Count.{Rose}
use Rattle.ldb_words.specs.declared.kinds.Kind.{Kind}
use Rattle.ldb_words.specs.declared.kinds.Kind.TheVariants.{Byte, Word, Address}
use Rattle.ps_store.specs.declared.object.PsObj.{PsObj}
use Rattle.ps_store.specs.declared.object.PsObj.TheVariants.{Int}
use Rattle.ps_step.specs.declared.fault.PsError.{PsError}
use Rattle.ps_step.specs.declared.fault.PsError.TheVariants.{RangeCheck, InvalidAccess, StackOverflow}
use Rattle.ps_step.specs.declared.fault.PsFault.TheVariants.{Error, Spent, Link, NoMemory}
use Rattle.ps_step.specs.declared.machine.PsCore.{PsCore}
use Rattle.ps_step.specs.Results.{◌>>=◌}
use Rattle.ps_step.specs.Operands.{triple_of, quadruple_of}
use Rattle.ps_step.specs.State.{with_operands}
use Rattle.ps_words.specs.Operators.{word_in, integer}
use Rattle.frame_bytes.specs.declared.frame.Space.{Space}
use Rattle.frame_bytes.specs.declared.frame.Space.TheVariants.{Memory, Registers, Immediate}
use Rattle.frame_bytes.specs.declared.frame.Place.{Place}
use Rattle.frame_bytes.specs.Bytes.{Bytes, fetched, stored}
use Rattle.abs_mem.specs.Meaning.{Seen, Same, Untold}
use Rattle.ps_places.specs.Places.{text_of, space_named, kind_named, place, space_name, top_word}
use Rattle.abs_mem.specs.declared.memory.MemFault.{MemFault}
use Rattle.abs_mem.specs.declared.memory.MemFault.TheVariants.{Outside, LinkFault, BadReply}
use Rattle.ps_places.specs.declared.access.Trouble.{Trouble}
use Rattle.ps_places.specs.declared.access.Trouble.TheVariants.{Ps, Broken}

-- what an operator makes of the bytes and the state, or the error that it raises
abbrev pub Act : Type 0
Act = Result (Bytes × PsCore) PsError

-- a byte that is not held is out of range
abbrev pub or_outside : {A : Type 0} → Option A → Result A PsError
or_outside None = Err RangeCheck
or_outside (Some x) = Ok x

-- a number of a kind as an object: the lowest byte is read as a `char`
abbrev pub value_of : Kind → ℕ → PsObj
value_of Byte n = Int (cast_signed w8 (n % 2 ^ 8))
value_of Word n = integer n
value_of Address n = integer n

-- `space n kind fetch`: what is asked for, and the value in its place. Types of operands are asked before what they name.
abbrev pub fetch_of : PsCore → Result (Place × Kind) PsError
fetch_of c =
    triple_of c.operands >>= λ t. text_of c.store t.0 >>= λ space. word_in t.1 >>= λ at. text_of c.store t.2 >>= λ kind.
    space_named space >>= λ sp. kind_named kind >>= λ k. Ok (place sp at, k)

abbrev pub fetching : Bytes → PsCore → Act
fetching b c = fetch_of c >>= λ a. or_outside (fetched b a.0.space a.0.at a.1) >>= λ v. Ok (b, with_operands c (value_of a.1 v ∷ drop 3 c.operands))

-- only `ps` may store to the target
abbrev pub may_store : Bool → Space → Bool
may_store raw Immediate = true
may_store raw Memory = raw
may_store raw Registers = raw

abbrev pub allowed : Bool → Result (Unit {0}) PsError
allowed true = Ok tt
allowed false = Err InvalidAccess

-- `v space n kind store`
abbrev pub store_of : Bool → PsCore → Result (Place × Kind × ℕ) PsError
store_of raw c =
    quadruple_of c.operands >>= λ t. word_in t.0 >>= λ v. text_of c.store t.1 >>= λ space. word_in t.2 >>= λ at. text_of c.store t.3 >>= λ kind.
    space_named space >>= λ sp. allowed (may_store raw sp) >>= λ u. kind_named kind >>= λ k. Ok (place sp at, k, v)

abbrev pub storing : Bool → Bytes → PsCore → Act
storing raw b c = store_of raw c >>= λ a. or_outside (stored b a.0.space a.0.at a.1 a.2) >>= λ b'. Ok (b', with_operands c (drop 4 c.operands))

-- `v Immediate`: the value in the cell, and the cell's place
abbrev pub cell_place : Place
cell_place = record { space = Immediate; at = 0 }

abbrev pub immediate_value : PsCore → Result ℕ PsError
immediate_value c = top_word c >>= λ v. (if nat_lt (length c.operands) 100000 then Ok v else Err StackOverflow)

abbrev pub with_cell_place : PsCore → PsCore
with_cell_place c = with_operands c (Int (pos 0) ∷ space_name Immediate ∷ drop 1 c.operands)

abbrev pub placing_value : Bytes → PsCore → Act
placing_value b c = immediate_value c >>= λ v. or_outside (stored b Immediate 0 Word v) >>= λ b'. Ok (b', with_cell_place c)

-- what a memory's fault is to an operator
abbrev pub troubled : MemFault → Trouble
troubled (Outside p) = Ps (Error RangeCheck)
troubled other = Broken other

-- no fault came, and what was told still is, but for what the cell holds
pub record ButCell {R : Type 0} (s s' : Seen R) : Type 0 where
  pub faults : s'.faults ≡ s.faults
  pub keeps : (b : Bytes) (r : R) → s.tells b r → (cell : Option ℕ) × s'.tells (record b { cell = cell }) r

-- The operator did what the definition makes of the bytes that are told. An error leaves the bytes and the state as they were.
-- Where memory ran out no byte of a target changed. Of the interpreter's state nothing is said then, nor where the link failed
-- or a bad reply came.
abbrev pub Over : {R : Type 0} → (Bytes → PsCore → Act) → Seen R → PsCore → Result (Unit {0}) Trouble → Seen R → PsCore → Type 0
Over {R} act s c (Ok x) s' c' = (s'.faults ≡ s.faults) × ((b : Bytes) (r : R) → s.tells b r → (b' : Bytes) × s'.tells b' r × (act b c ≡ Ok (b', c')))
Over {R} act s c (Err (Ps (Error e))) s' c' = Same s s' × (c' ≡ c) × ((b : Bytes) (r : R) → s.tells b r → act b c ≡ Err e)
Over act s c (Err (Ps NoMemory)) s' c' = ButCell s s'
Over act s c (Err (Ps Spent)) s' c' = ⊥
Over act s c (Err (Ps Link)) s' c' = ⊥
Over act s c (Err (Broken LinkFault)) s' c' = Rose s.faults s'.faults
Over act s c (Err (Broken (BadReply frame))) s' c' = Untold s s'
Over act s c (Err (Broken (Outside p))) s' c' = ⊥

-- its calls led from a memory to another; where a bad reply is answered, the last of them brought it
abbrev pub LedAct : {M : Type 0} → (M → Option (List ℕ) → M → Type 0) → M → Result (Unit {0}) Trouble → M → Type 0
LedAct leads m (Err (Broken (BadReply frame))) m' = leads m (Some frame.items) m'
LedAct leads m (Err (Broken LinkFault)) m' = Unit {0}
LedAct leads m (Err (Broken (Outside p))) m' = leads m None m'
LedAct leads m (Err (Ps f)) m' = leads m None m'
LedAct leads m (Ok x) m' = leads m None m'
