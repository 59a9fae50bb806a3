-- Operators that make one object of one or two.
use Rattle.std.specs.Prelude.{Bool, Result, Ok, Err, List, ◌∷◌, drop}
use Rattle.std.specs.Bool.{beq}
use Rattle.ps_store.specs.declared.object.PsObj.TheVariants.{Bool as Truth}
use Rattle.ps_step.specs.declared.arithmetic.Arithmetic.{Arithmetic}
use Rattle.ps_step.specs.declared.arithmetic.Bitwise.{Bitwise}
use Rattle.ps_step.specs.declared.compare.Relation.{Relation}
use Rattle.ps_step.specs.declared.machine.PsCore.{PsCore}
use Rattle.ps_step.specs.Results.{◌>>=◌}
use Rattle.ps_step.specs.Arithmetic.{arithmetic_of, bitwise_of, shifting_of, negation_of, opposite_of}
use Rattle.ps_step.specs.Compare.{same_object, relation_of}
use Rattle.ps_step.specs.Composites.{value_in, put_in}
use Rattle.ps_step.specs.Operands.{one_of, pair_of, triple_of}
use Rattle.ps_step.specs.State.{Made, with_operands}
use Rattle.ps_step.specs.Values.{as_count, length_of}

-- `add`, `sub`, `mul`, `idiv`, `mod`; `and`, `or`, `xor`; `bitshift`
abbrev pub calculating : Arithmetic → PsCore → Made
calculating op c = pair_of c.operands >>= λ p. arithmetic_of op p.0 p.1 >>= λ x. Ok (with_operands c (x ∷ drop 2 c.operands))

abbrev pub combining : Bitwise → PsCore → Made
combining op c = pair_of c.operands >>= λ p. bitwise_of op p.0 p.1 >>= λ x. Ok (with_operands c (x ∷ drop 2 c.operands))

abbrev pub shifting : PsCore → Made
shifting c = pair_of c.operands >>= λ p. shifting_of p.0 p.1 >>= λ x. Ok (with_operands c (x ∷ drop 2 c.operands))

-- `neg`, `not`
abbrev pub negating : PsCore → Made
negating c = one_of c.operands >>= λ a. negation_of a >>= λ x. Ok (with_operands c (x ∷ drop 1 c.operands))

abbrev pub inverting : PsCore → Made
inverting c = one_of c.operands >>= λ a. opposite_of a >>= λ x. Ok (with_operands c (x ∷ drop 1 c.operands))

-- `eq`, or `ne` where `equal` is false; `lt`, `le`, `gt`, `ge`
abbrev pub equating : Bool → PsCore → Made
equating equal c = pair_of c.operands >>= λ p. Ok (with_operands c (Truth (beq (same_object c.store p.0 p.1) equal) ∷ drop 2 c.operands))

abbrev pub comparing : Relation → PsCore → Made
comparing relation c = pair_of c.operands >>= λ p. relation_of relation c.store p.0 p.1 >>= λ x. Ok (with_operands c (x ∷ drop 2 c.operands))

-- `get`, `put`, `length`
abbrev pub getting : PsCore → Made
getting c = pair_of c.operands >>= λ p. value_in c.store p.0 p.1 >>= λ x. Ok (with_operands c (x ∷ drop 2 c.operands))

abbrev pub putting : PsCore → Made
putting c = triple_of c.operands >>= λ p. put_in c.store p.0 p.1 p.2 >>= λ s. Ok (record c { store = s; operands = drop 3 c.operands })

abbrev pub measuring : PsCore → Made
measuring c = one_of c.operands >>= λ whole. length_of c.store whole >>= λ n. as_count n >>= λ x. Ok (with_operands c (x ∷ drop 1 c.operands))
