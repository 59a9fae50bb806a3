-- Checked parts of an expression, as the rules see them.
use Rattle.std.specs.Prelude.{◌≡◌, ◌≤◌, ◌<◌, ℕ, Option, Some, None, Result, option_map, IfOk}
use Rattle.std.specs.declared.alloc.AllocError.{AllocError}
use Rattle.c_tree.specs.declared.types.CType.{CType}
use Rattle.c_tree.specs.Types.{type_of}
use Rattle.c_typing.specs.Plain.{Plain, plain, value_type}
use Rattle.c_typing.specs.Rules.{Operand}
use Rattle.c_judge.specs.declared.part.Part.{Part}
use Rattle.c_judge.specs.declared.part.Facts.{Facts}
use Rattle.c_typing.specs.Values.{is_null}
use Rattle.c_typing.specs.declared.constant.Constant.{Constant}
use Rattle.c_judge.specs.Answers.{Known, Broken}
use Rattle.c_judge.specs.Judgement.{Judged, bound}

-- what is known of an expression of a type
abbrev pub judged_as : Plain → Facts → Judged
judged_as t f = record { operand = record { ctype = t; lvalue = f.lvalue; register = f.register; string = f.string; null = is_null f.constant }; constant = f.constant }

abbrev pub judged_of : Part → Judged
judged_of p = judged_as (plain (type_of p.typed.value)) p.facts

abbrev pub operand_of : Part → Operand
operand_of p = (judged_of p).operand

-- the type of a part's value
abbrev pub value_of : Part → Plain
value_of p = value_type (plain (type_of p.typed.value))

-- a rule's type, or None where it is broken
abbrev pub Gives : Result (Option CType) AllocError → Option Plain → Type 0
Gives r t = IfOk r (λ x. option_map plain x ≡ t)

-- a size where it is at most 1,048,576 bytes
abbrev pub IsWithinSize : ℕ → Option ℕ → Type 0
IsWithinSize n (Some m) = (m ≡ n) × (n ≤ 1048576)
IsWithinSize n None = 1048576 < n

-- a bound, or None where its rule is broken
abbrev pub IsBound : Constant → Option ℕ → Type 0
IsBound c (Some n) = (at : ℕ) → bound at c ≡ Known n
IsBound c None = (at : ℕ) → bound at c ≡ Broken 2 at
