-- Operators on pointers, by the objects to which they belong (C90 6.3.6, 6.3.8).
use Rattle.std.specs.Prelude.{ℕ, ℤ, pos, negsuc, zero, suc, ◌+ℤ◌, ◌-ℤ◌, ◌*ℤ◌, nat_eq, nat_le, ◌&&◌, if◌then◌else◌, ◌∷◌, drop, Option, Some, None, Result, Ok, Err}
use Rattle.ldb_words.specs.Word.{sum_of}
use Rattle.ps_store.specs.declared.object.PsObj.TheVariants.{Int}
use Rattle.ps_step.specs.declared.fault.PsError.{PsError}
use Rattle.ps_step.specs.declared.fault.PsError.TheVariants.{Pointer}
use Rattle.ps_step.specs.declared.machine.PsCore.{PsCore}
use Rattle.ps_step.specs.Results.{◌>>=◌}
use Rattle.ps_step.specs.Arithmetic.{integer_of, quotient}
use Rattle.ps_step.specs.Operands.{pair_of, triple_of}
use Rattle.ps_step.specs.State.{Made, with_operands}
use Rattle.ps_words.specs.Operators.{word_in, integer}
use Rattle.table_model.specs.declared.found.Found.{Found}

-- what there is, or the error pointer: so where an address belongs to no object
abbrev pub or_pointer : {A : Type 0} → Option A → Result A PsError
or_pointer None = Err Pointer
or_pointer (Some x) = Ok x

-- an offset in an object, from 0 to its size, as an address
abbrev pub address_at : Found → ℤ → Option ℕ
address_at o (pos i) = if nat_le i o.size then Some (sum_of o.base i) else None
address_at o (negsuc i) = None

-- `p n size ptradd`: the operands; the pointer so many items further. The product is exact.
abbrev pub sum_operands : PsCore → Result (ℕ × ℤ × ℤ) PsError
sum_operands c = triple_of c.operands >>= λ t. word_in t.0 >>= λ p. integer_of t.1 >>= λ n. integer_of t.2 >>= λ size. Ok (p, n, size)

abbrev pub pointer_sum : Option Found → ℤ → ℤ → Result ℕ PsError
pointer_sum found n size = or_pointer found >>= λ o. or_pointer (address_at o (pos o.at +ℤ (n *ℤ size)))

abbrev pub leaving_sum : Option Found → ℤ → ℤ → PsCore → Made
leaving_sum found n size c = pointer_sum found n size >>= λ p. Ok (with_operands c (integer p ∷ drop 3 c.operands))

-- The offsets of two addresses of one object: the first object that has an address is known by its base and size.
abbrev pub offsets_in_one : Found → Found → Option (ℤ × ℤ)
offsets_in_one a b = if nat_eq a.base b.base && nat_eq a.size b.size then Some (pos a.at, pos b.at) else None

abbrev pub distance : Option Found → Option Found → Result ℤ PsError
distance p q = or_pointer p >>= λ a. or_pointer q >>= λ b. or_pointer (offsets_in_one a b) >>= λ ij. Ok (ij.0 -ℤ ij.1)

-- `p q size ptrsub`: how many items lie between; by a size of 0 there is no result
abbrev pub difference_operands : PsCore → Result (ℕ × ℕ × ℤ) PsError
difference_operands c = triple_of c.operands >>= λ t. word_in t.0 >>= λ p. word_in t.1 >>= λ q. integer_of t.2 >>= λ size. Ok (p, q, size)

abbrev pub pointer_difference : Option Found → Option Found → ℤ → Result ℤ PsError
pointer_difference p q size = distance p q >>= λ d. quotient d size

abbrev pub leaving_difference : Option Found → Option Found → ℤ → PsCore → Made
leaving_difference p q size c = pointer_difference p q size >>= λ n. Ok (with_operands c (Int n ∷ drop 3 c.operands))

-- `p q ptrcmp`: -1, 0 or 1
abbrev pub comparison_operands : PsCore → Result (ℕ × ℕ) PsError
comparison_operands c = pair_of c.operands >>= λ t. word_in t.0 >>= λ p. word_in t.1 >>= λ q. Ok (p, q)

abbrev pub order_of : ℤ → ℤ
order_of (negsuc n) = negsuc 0
order_of (pos zero) = pos 0
order_of (pos (suc n)) = pos 1

abbrev pub leaving_order : Option Found → Option Found → PsCore → Made
leaving_order p q c = distance p q >>= λ d. Ok (with_operands c (Int (order_of d) ∷ drop 2 c.operands))
