-- How many words a target's code takes, where each flat operator takes so many.
use Rattle.std.specs.Prelude.{ℕ, ◌+◌, ◌*◌, ◌≤◌, List, [], ◌∷◌}
use Rattle.slot_ir.specs.declared.code.SlotCode.{SlotCode}
use Rattle.slot_ir.specs.declared.code.SlotFunction.{SlotFunction}
use Rattle.slot_ir.specs.declared.code.SlotOp.{SlotOp}
use Rattle.slot_ir.specs.WellFormed.{weight_of}
use Rattle.flat_ir.specs.declared.code.FlatOp.{FlatOp}
use Rattle.flat_gen.specs.declared.layout.Layout.{Layout}
use Rattle.flat_gen.specs.Codes.{one_code}

abbrev pub most_words : ℕ
most_words = 17

module _ (words : FlatOp → ℕ) where
  abbrev pub words_in : List FlatOp → ℕ
  words_in [] = 0
  words_in (o ∷ os) = words o + words_in os

  -- At most 17 words an operator of slot code, wherever temporaries and locals lie and jumps go; a call takes so many more for each argument.
  abbrev pub IsNarrow : Type 0
  IsNarrow = (c : SlotCode) (f : SlotFunction) (l : Layout) (starts : List ℕ) (op : SlotOp) → words_in (one_code c f l starts op) ≤ most_words * weight_of op
