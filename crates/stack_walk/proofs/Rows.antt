-- Rows of targets that have no walker of their own.
use Rattle.std.proofs.Common.{◌≡◌, refl, false, true, List, [], ◌∷◌, ◌++◌, replicate, Some, None}
use Rattle.table_model.specs.declared.row.SavingRow.{SavingRow}
use Rattle.table_model.specs.Frames.{words_from, outer_places}

-- RV32IM: `x2` is the stack pointer and `x1` has the return address, 4 behind the call; `x8`, `x9` and `x18` to `x27` are preserved
abbrev riscv_row : SavingRow
riscv_row = record { stack_pointer = 2; return_register = 1; distance = 4; preserved = replicate 8 false ++ (true ∷ true ∷ (replicate 8 false ++ (replicate 10 true ++ replicate 4 false))) }

-- outward of a frame with its words from 1024 on and its base at 4096, whose function saves `x1` and `x8` below the base
riscv_places : outer_places riscv_row.preserved 0 4096 (words_from 32 1024) (record { register = 1; offset = 4294967292 } ∷ record { register = 8; offset = 4294967288 } ∷ [])
    ≡ replicate 8 None ++ (Some 4088 ∷ Some 1060 ∷ (replicate 8 None ++ (words_from 10 1096 ++ replicate 4 None)))
riscv_places = refl
