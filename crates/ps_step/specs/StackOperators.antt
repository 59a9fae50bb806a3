-- Operators on the operand stack.
use Rattle.std.specs.Prelude.{ℕ, ℤ, pos, ◌+◌, ◌-◌, ◌==◌, nat_lt, unsigned_abs, if◌then◌else◌, Option, Some, None, Result, Ok, Err, List, ◌∷◌, ◌++◌, length, drop, take, slice_get}
use Rattle.std.specs.Int.{int_rem_euclid}
use Rattle.ps_store.specs.declared.object.PsObj.{PsObj}
use Rattle.ps_step.specs.declared.fault.PsError.TheVariants.{StackUnderflow, StackOverflow, UnmatchedMark}
use Rattle.ps_step.specs.declared.machine.PsCore.{PsCore}
use Rattle.ps_step.specs.Results.{◌>>=◌}
use Rattle.ps_step.specs.Arithmetic.{integer_of}
use Rattle.ps_step.specs.Marks.{mark_from}
use Rattle.ps_step.specs.Operands.{one_of, pair_of}
use Rattle.ps_step.specs.State.{Made, with_operands, pushing}
use Rattle.ps_step.specs.Values.{as_count, count_of}

-- `exch`, `dup`, `pop`
abbrev pub exchanging : PsCore → Made
exchanging c = pair_of c.operands >>= λ p. Ok (with_operands c (p.0 ∷ p.1 ∷ drop 2 c.operands))

abbrev pub duplicating : PsCore → Made
duplicating c = one_of c.operands >>= λ x. pushing x c

abbrev pub popping : PsCore → Made
popping c = one_of c.operands >>= λ x. Ok (with_operands c (drop 1 c.operands))

-- `copy` of the n objects under the count
abbrev pub copying_top : ℕ → PsCore → Made
copying_top n c =
    let under = drop 1 c.operands in
    if nat_lt n (length c.operands)
    then (if nat_lt 100000 (length c.operands - 1 + n) then Err StackOverflow else Ok (with_operands c (take n under ++ under)))
    else Err StackUnderflow

-- `index`: the operand that is so many below the count
abbrev pub indexing : PsCore → Made
indexing c = do
  depth ← one_of c.operands
  n ← count_of depth
  elim (slice_get c.operands (n + 1)) [ Some x ↦ Ok (with_operands c (x ∷ drop 1 c.operands)) | None ↦ Err StackUnderflow ]

-- how many places j turns n objects up
abbrev pub turns : ℤ → ℕ → ℕ
turns j n = if n == 0 then 0 else unsigned_abs (int_rem_euclid j (pos n))

-- the n topmost objects, of which the k topmost go under the others
abbrev pub rolled : ℕ → ℕ → List PsObj → List PsObj
rolled n k xs = drop k (take n xs) ++ take k xs ++ drop n xs

-- `roll`
abbrev pub rolling : PsCore → Made
rolling c = do
  p ← pair_of c.operands
  j ← integer_of p.1
  n ← count_of p.0
  if nat_lt (length c.operands - 2) n then Err StackUnderflow else Ok (with_operands c (rolled n (turns j n) (drop 2 c.operands)))

-- `counttomark`, `cleartomark`
abbrev pub counting : PsCore → Made
counting c = elim (mark_from 0 c.operands) [ Some n ↦ as_count n >>= λ x. pushing x c | None ↦ Err UnmatchedMark ]

abbrev pub clearing : PsCore → Made
clearing c = elim (mark_from 0 c.operands) [ Some n ↦ Ok (with_operands c (drop (n + 1) c.operands)) | None ↦ Err UnmatchedMark ]
