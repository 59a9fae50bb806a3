-- The uses of a text lie in its words, one behind the other.
use Rattle.std.proofs.Common.{◌≡◌, ◌≤◌, ℕ, suc, zero, ◌+◌, ◌-◌, ◌*◌, ◌%◌, List, [], ◌∷◌, ◌++◌, length, length-append, Bool, true, false, Option, Some, None, refl, subst, sym, ap, ◌∙◌, arith}
use Rattle.std.specs.List.{AllByRecursion}
use Rattle.ldb_words.specs.declared.kinds.Order.{Order}
use Rattle.obj_file.specs.declared.object.FunctionRow.{FunctionRow}
use Rattle.obj_file.specs.declared.object.Name.{Name}
use Rattle.obj_file.specs.declared.object.Object.{Object}
use Rattle.slot_ir.specs.declared.code.SlotCode.{SlotCode}
use Rattle.slot_ir.specs.declared.code.SlotFunction.{SlotFunction}
use Rattle.slot_ir.specs.declared.code.SlotObject.{SlotObject}
use Rattle.slot_ir.specs.declared.code.SlotStart.{SlotStart}
use Rattle.slot_ir.specs.declared.code.SlotValue.{SlotValue}
use Rattle.slot_ir.specs.declared.code.SlotValue.TheVariants as value
use Rattle.gen_parts.specs.Statics.{leaf_bytes, value_uses, start_uses, object_bytes, objects_uses, data_uses}
use Rattle.obj_file.specs.declared.object.Use.{Use}
use Rattle.obj_file.specs.declared.object.Form.TheVariants.{Jump}
use Rattle.flat_ir.specs.declared.code.FlatOp.{FlatOp}
use Rattle.flat_ir.specs.declared.code.FlatOp.TheVariants as flat
use Rattle.flat_ir.specs.declared.code.FlatFunction.{FlatFunction}
use Rattle.flat_ir.specs.declared.code.FlatCode.{FlatCode}
use Rattle.flat_ir.specs.declared.moves.MoveStep.{MoveStep}
use Rattle.flat_ir.specs.declared.moves.MoveStep.TheVariants as step
use Rattle.flat_ir.specs.declared.moves.Mover.{Mover}
use Rattle.gen_parts.specs.Coding.{Coding}
use Rattle.gen_parts.specs.Links.{UsesLieIn, NamesLieIn, RowsLieIn, IsInData, IsInOrder, HasRoom}
use Rattle.gen_parts.specs.Text.{text_bytes, ops_insns, ops_offsets, function_insns, functions_insns, steps_insns, copy_insns, mover_insns, movers_insns, program_insns}
use Rattle.gen_parts.specs.Uses.{text_use, offset_of, op_uses, ops_uses}
use Rattle.gen_parts.specs.Names.{function_name, mover_name, descending_name}
use Rattle.gen_parts.specs.Parts.{jump_use, direction_name, step_uses, steps_uses, copy_uses, choice_uses, ascending_at, descending_at, mover_uses, mover_names, movers_uses, movers_names, end_of_returns, operators_at, end_at, offsets, function_uses, function_row, functions_uses, functions_names, functions_rows, functions_at, program_uses, program_names, program_rows, IsObjectOf}

-- ---- lists of uses

wider : (us : List Use) (a b from end : ℕ) → a ≤ from → end ≤ b → UsesLieIn from us end → UsesLieIn a us b
wider [] a b from end h k l = omega arith
wider (u ∷ us) a b from end h k l = (l.0, l.1, omega (arith, l.2), wider us (u.at + 4) b (u.at + 4) end (omega arith) k l.3)

joined : (us vs : List Use) (a b c : ℕ) → UsesLieIn a us b → UsesLieIn b vs c → UsesLieIn a (us ++ vs) c
joined [] vs a b c l k = wider vs a c b c l (omega arith) k
joined (u ∷ us) vs a b c l k = (l.0, l.1, l.2, joined us vs (u.at + 4) b c l.3 k)

three : {A : Type 0} (a b c : List A) → length (a ++ b ++ c) ≡ length a + (length b + length c)
three a b c = omega (arith, length-append (a ++ b) c, length-append a b)

whole : (n : ℕ) → (n * 4) % 4 ≡ 0
whole n = omega arith

-- one use in the word behind so many others of some
one : (n k size : ℕ) (u : Use) → u.in_text ≡ true → u.at ≡ n * 4 + k * 4 → k + 1 ≤ size → UsesLieIn (n * 4) (u ∷ []) ((n + size) * 4)
one n k size u t e h = (t, omega (arith, e), omega (arith, e), omega (arith, e))

le_same : (n : ℕ) → n ≤ n
le_same n = omega arith

none : (n size : ℕ) → UsesLieIn (n * 4) [] ((n + size) * 4)
none n size = omega arith

module _ {Insn : Type 0} (t : Coding Insn) (room : HasRoom t) where
  -- ---- copies of structs

  step_lies : (back : Bool) (n : ℕ) (before s : MoveStep) → UsesLieIn (n * 4) (step_uses back (n * 4) s) ((n + length (t.step back before s)) * 4)
  step_lies back n before (step.Leaf kind) = none n _
  step_lies back n before (step.Skip bytes) = none n _
  step_lies back n before (step.Items count) = none n _
  step_lies back n before step.Again = none n _
  step_lies back n before (step.Struct number words) = one n 1 (length (t.step back before (step.Struct number words))) (text_use (n * 4 + 4) Jump (direction_name back number) 0) refl refl (room.inside back before number words)

  steps_lie : (back : Bool) (n : ℕ) (before : MoveStep) (ss : List MoveStep) → UsesLieIn (n * 4) (steps_uses t back n before ss) ((n + length (steps_insns t back before ss)) * 4)
  steps_lie back n before [] = none n 0
  steps_lie back n before (s ∷ ss) =
      let size : (n + length (t.step back before s)) + length (steps_insns t back s ss) ≡ n + length (t.step back before s ++ steps_insns t back s ss) = omega (arith, length-append (t.step back before s) (steps_insns t back s ss)) in
      subst (λ (m : ℕ). UsesLieIn (n * 4) (steps_uses t back n before (s ∷ ss)) (m * 4)) size
      (joined (step_uses back (n * 4) s) _ (n * 4) ((n + length (t.step back before s)) * 4) _ (step_lies back n before s) (steps_lie back (n + length (t.step back before s)) s ss))

  copy_lies : (back : Bool) (n : ℕ) (ss : List MoveStep) → UsesLieIn (n * 4) (copy_uses t back n ss) ((n + length (copy_insns t back ss)) * 4)
  copy_lies back n ss =
      let before : n * 4 ≤ (n + length t.copy_begin) * 4 = omega arith in
      let size : length (copy_insns t back ss) ≡ length t.copy_begin + (length (steps_insns t back step.Again ss) + length t.copy_end) = three t.copy_begin (steps_insns t back step.Again ss) t.copy_end in
      wider (copy_uses t back n ss) (n * 4) _ ((n + length t.copy_begin) * 4) _ before (omega (arith, size)) (steps_lie back (n + length t.copy_begin) step.Again ss)

  mover_lies : (number n : ℕ) (m : Mover) → UsesLieIn (n * 4) (mover_uses t number n m) ((n + length (mover_insns t m)) * 4)
  unfolding mover_uses mover_insns
  mover_lies number n m =
      let size : length (t.choice m.size ++ copy_insns t false m.ascending ++ copy_insns t true m.descending) ≡ length (t.choice m.size) + (length (copy_insns t false m.ascending) + length (copy_insns t true m.descending)) = three (t.choice m.size) (copy_insns t false m.ascending) (copy_insns t true m.descending) in
      let all : (descending_at t n m + length (copy_insns t true m.descending)) * 4 ≡ (n + length (t.choice m.size ++ copy_insns t false m.ascending ++ copy_insns t true m.descending)) * 4 = omega (arith, size) in
      subst (λ (e : ℕ). UsesLieIn (n * 4) (choice_uses t number n ++ copy_uses t false (ascending_at t n m) m.ascending ++ copy_uses t true (descending_at t n m) m.descending) e) all
      (joined (choice_uses t number n ++ copy_uses t false (ascending_at t n m) m.ascending) (copy_uses t true (descending_at t n m) m.descending) (n * 4) (descending_at t n m * 4) _
      (joined (choice_uses t number n) (copy_uses t false (ascending_at t n m) m.ascending) (n * 4) (ascending_at t n m * 4) (descending_at t n m * 4)
      (one n t.shape.choice_jump (length (t.choice m.size)) (text_use (n * 4 + t.shape.choice_jump * 4) Jump (descending_name number) 0) refl refl (room.choice m.size)) (copy_lies false (ascending_at t n m) m.ascending))
      (copy_lies true (descending_at t n m) m.descending))

  movers_lie : (number n : ℕ) (ms : List Mover) → UsesLieIn (n * 4) (movers_uses t number n ms) ((n + length (movers_insns t ms)) * 4)
  movers_lie number n [] = none n 0
  movers_lie number n (m ∷ ms) =
      let size : (n + length (mover_insns t m)) + length (movers_insns t ms) ≡ n + length (mover_insns t m ++ movers_insns t ms) = omega (arith, length-append (mover_insns t m) (movers_insns t ms)) in
      subst (λ (k : ℕ). UsesLieIn (n * 4) (movers_uses t number n (m ∷ ms)) (k * 4)) size
      (joined (mover_uses t number n m) _ (n * 4) ((n + length (mover_insns t m)) * 4) _ (mover_lies number n m) (movers_lie (suc number) (n + length (mover_insns t m)) ms))

  -- ---- functions

  module _ (number entry : ℕ) (places : List ℕ) (frame end : ℕ) where
    return_lies : (n : ℕ) (by_end : Bool) → t.shape.returns_by_end ≡ by_end
        → UsesLieIn (n * 4) (op_uses number entry places (end_of_returns by_end end) t.shape.jump_word (n * 4) flat.Return) ((n + length (t.operator frame flat.Return)) * 4)
    return_lies n true e = one n 1 (length (t.operator frame flat.Return)) (text_use (n * 4 + 4) Jump (function_name number) (end - entry)) refl refl (room.return frame e)
    return_lies n false e = none n _

    op_lies : (n : ℕ) (o : FlatOp) → UsesLieIn (n * 4) (op_uses number entry places (end_of_returns t.shape.returns_by_end end) t.shape.jump_word (n * 4) o) ((n + length (t.operator frame o)) * 4)
    op_lies n (flat.StaticAddress to object) =
        let two : 2 ≤ length (t.operator frame (flat.StaticAddress to object)) = room.address frame object to in
        (refl, whole n, le_same (n * 4), (refl, omega arith, le_same (n * 4 + 4), omega (arith, two)))
    op_lies n (flat.Copy shape) = one n 0 (length (t.operator frame (flat.Copy shape))) (text_use (n * 4) Jump (mover_name shape) 0) refl (omega arith) (room.copy frame shape)
    op_lies n (flat.Call function) = one n 0 (length (t.operator frame (flat.Call function))) (text_use (n * 4) Jump (function_name function) 0) refl (omega arith) (room.call frame function)
    op_lies n (flat.Jump place) = one n 0 (length (t.operator frame (flat.Jump place))) (text_use (n * 4) Jump (function_name number) (offset_of places place - entry)) refl (omega arith) (room.jump frame place)
    op_lies n (flat.JumpIf is_zero place) = one n t.shape.jump_word (length (t.operator frame (flat.JumpIf is_zero place))) (text_use (n * 4 + t.shape.jump_word * 4) Jump (function_name number) (offset_of places place - entry)) refl refl (room.jump_if frame place is_zero)
    op_lies n flat.Return = return_lies n t.shape.returns_by_end refl
    op_lies n (flat.Set to bits) = none n _
    op_lies n (flat.FrameAddress to from) = none n _
    op_lies n (flat.Get to from) = none n _
    op_lies n (flat.Put from to) = none n _
    op_lies n (flat.Load access) = none n _
    op_lies n (flat.Store kind) = none n _
    op_lies n (flat.Fill bytes) = none n _
    op_lies n (flat.ReadRegister register access) = none n _
    op_lies n (flat.WriteRegister register) = none n _
    op_lies n (flat.Extend access) = none n _
    op_lies n (flat.Unary op) = none n _
    op_lies n (flat.Binary op) = none n _
    op_lies n (flat.Scale size back) = none n _
    op_lies n (flat.Apart size) = none n _
    op_lies n (flat.Pass argument from) = none n _
    op_lies n (flat.Argument argument landing) = none n _
    op_lies n (flat.Stop point) = none n _
    op_lies n (flat.Ask request) = none n _

    ops_lie : (n : ℕ) (os : List FlatOp)
        → UsesLieIn (n * 4) (ops_uses number entry places (end_of_returns t.shape.returns_by_end end) t.shape.jump_word (ops_offsets t frame n os) os) ((n + length (ops_insns t frame os)) * 4)
    ops_lie n [] = none n 0
    ops_lie n (o ∷ os) =
        let size : (n + length (t.operator frame o)) + length (ops_insns t frame os) ≡ n + length (t.operator frame o ++ ops_insns t frame os) = omega (arith, length-append (t.operator frame o) (ops_insns t frame os)) in
        subst (λ (k : ℕ). UsesLieIn (n * 4) (ops_uses number entry places (end_of_returns t.shape.returns_by_end end) t.shape.jump_word (ops_offsets t frame n (o ∷ os)) (o ∷ os)) (k * 4)) size
        (joined (op_uses number entry places (end_of_returns t.shape.returns_by_end end) t.shape.jump_word (n * 4) o) _ (n * 4) ((n + length (t.operator frame o)) * 4) _ (op_lies n o) (ops_lie (n + length (t.operator frame o)) os))

  function_lies : (number n : ℕ) (f : FlatFunction) → UsesLieIn (n * 4) (function_uses t number n f) ((n + length (function_insns t f)) * 4)
  unfolding function_uses function_insns
  function_lies number n f =
      let size : length (t.prologue f.frame ++ ops_insns t f.frame f.code ++ t.epilogue f.frame) ≡ length (t.prologue f.frame) + (length (ops_insns t f.frame f.code) + length (t.epilogue f.frame)) = three (t.prologue f.frame) (ops_insns t f.frame f.code) (t.epilogue f.frame) in
      let before : n * 4 ≤ operators_at t n f * 4 = omega arith in
      wider (function_uses t number n f) (n * 4) _ (operators_at t n f * 4) _ before (omega (arith, size)) (ops_lie number (n * 4) (offsets t n f) f.frame (end_at t n f * 4) (operators_at t n f) f.code)

  functions_lie : (number n : ℕ) (fs : List FlatFunction) → UsesLieIn (n * 4) (functions_uses t number n fs) ((n + length (functions_insns t fs)) * 4)
  functions_lie number n [] = none n 0
  functions_lie number n (f ∷ fs) =
      let size : (n + length (function_insns t f)) + length (functions_insns t fs) ≡ n + length (function_insns t f ++ functions_insns t fs) = omega (arith, length-append (function_insns t f) (functions_insns t fs)) in
      subst (λ (k : ℕ). UsesLieIn (n * 4) (functions_uses t number n (f ∷ fs)) (k * 4)) size
      (joined (function_uses t number n f) _ (n * 4) ((n + length (function_insns t f)) * 4) _ (function_lies number n f) (functions_lie (suc number) (n + length (function_insns t f)) fs))

  program_lies : (c : FlatCode) → UsesLieIn 0 (program_uses t c) (length (program_insns t c) * 4)
  unfolding program_uses program_insns
  program_lies c =
      let size : length (t.start ++ movers_insns t c.movers ++ functions_insns t c.functions) ≡ length t.start + (length (movers_insns t c.movers) + length (functions_insns t c.functions)) = three t.start (movers_insns t c.movers) (functions_insns t c.functions) in
      let all : (functions_at t c + length (functions_insns t c.functions)) * 4 ≡ length (t.start ++ movers_insns t c.movers ++ functions_insns t c.functions) * 4 = omega (arith, size) in
      let main : Use = jump_use 0 (function_name c.main) in
      let first : UsesLieIn 0 (main ∷ []) (length t.start * 4) =
      let call : 1 ≤ length t.start = room.start in
      (refl, refl, le_same 0, omega (arith, call)) in
      subst (λ (e : ℕ). UsesLieIn 0 (program_uses t c) e) all
      (joined ((main ∷ []) ++ movers_uses t 0 (length t.start) c.movers) (functions_uses t 0 (functions_at t c) c.functions) 0 (functions_at t c * 4) _
      (joined (main ∷ []) (movers_uses t 0 (length t.start) c.movers) 0 (length t.start * 4) (functions_at t c * 4) first (movers_lie 0 (length t.start) c.movers))
      (functions_lie 0 (functions_at t c) c.functions))

-- ---- names and rows

wider_names : (ns : List Name) (a b from end : ℕ) → a ≤ from → end ≤ b → NamesLieIn from ns end → NamesLieIn a ns b
wider_names [] a b from end h k l = omega arith
wider_names (n ∷ ns) a b from end h k l = (l.0, omega (arith, l.1), wider_names ns n.at b n.at end (omega arith) k l.2)

joined_names : (ns ms : List Name) (a b c : ℕ) → NamesLieIn a ns b → NamesLieIn b ms c → NamesLieIn a (ns ++ ms) c
joined_names [] ms a b c l k = wider_names ms a c b c l (omega arith) k
joined_names (n ∷ ns) ms a b c l k = (l.0, l.1, joined_names ns ms n.at b c l.2 k)

module _ {Insn : Type 0} (t : Coding Insn) where
  mover_names_lie : (number n : ℕ) (m : Mover) → NamesLieIn (n * 4) (mover_names t number n m) ((n + length (mover_insns t m)) * 4)
  unfolding mover_names mover_insns
  mover_names_lie number n m =
      let size : length (t.choice m.size ++ copy_insns t false m.ascending ++ copy_insns t true m.descending) ≡ length (t.choice m.size) + (length (copy_insns t false m.ascending) + length (copy_insns t true m.descending)) = three (t.choice m.size) (copy_insns t false m.ascending) (copy_insns t true m.descending) in
      let second : n * 4 ≤ ascending_at t n m * 4 = omega arith in
      let third : ascending_at t n m * 4 ≤ descending_at t n m * 4 = omega arith in
      let last : descending_at t n m * 4 ≤ (n + length (t.choice m.size ++ copy_insns t false m.ascending ++ copy_insns t true m.descending)) * 4 = omega (arith, size) in
      (whole n, le_same (n * 4), (whole (ascending_at t n m), second, (whole (descending_at t n m), third, last)))

  movers_names_lie : (number n : ℕ) (ms : List Mover) → NamesLieIn (n * 4) (movers_names t number n ms) ((n + length (movers_insns t ms)) * 4)
  movers_names_lie number n [] = none n 0
  movers_names_lie number n (m ∷ ms) =
      let size : (n + length (mover_insns t m)) + length (movers_insns t ms) ≡ n + length (mover_insns t m ++ movers_insns t ms) = omega (arith, length-append (mover_insns t m) (movers_insns t ms)) in
      subst (λ (k : ℕ). NamesLieIn (n * 4) (movers_names t number n (m ∷ ms)) (k * 4)) size
      (joined_names (mover_names t number n m) _ (n * 4) ((n + length (mover_insns t m)) * 4) _ (mover_names_lie number n m) (movers_names_lie (suc number) (n + length (mover_insns t m)) ms))

  functions_names_lie : (number n : ℕ) (fs : List FlatFunction) → NamesLieIn (n * 4) (functions_names t number n fs) ((n + length (functions_insns t fs)) * 4)
  functions_names_lie number n [] = none n 0
  functions_names_lie number n (f ∷ fs) =
      let next : n * 4 ≤ (n + length (function_insns t f)) * 4 = omega arith in
      let size : ((n + length (function_insns t f)) + length (functions_insns t fs)) * 4 ≤ (n + length (function_insns t f ++ functions_insns t fs)) * 4 = omega (arith, length-append (function_insns t f) (functions_insns t fs)) in
      (whole n, le_same (n * 4), wider_names (functions_names t (suc number) (n + length (function_insns t f)) fs) (n * 4) _ ((n + length (function_insns t f)) * 4) _ next size (functions_names_lie (suc number) (n + length (function_insns t f)) fs))

  rows_lie : (n : ℕ) (slots : List SlotFunction) (fs : List FlatFunction) → RowsLieIn (n * 4) (functions_rows t n slots fs) ((n + length (functions_insns t fs)) * 4)
  unfolding function_row
  rows_lie n slots [] = none n 0
  rows_lie n [] (f ∷ fs) = none n _
  rows_lie n (s ∷ slots) (f ∷ fs) =
      let next : n * 4 ≤ (n + length (function_insns t f)) * 4 = omega arith in
      let size : (n + length (function_insns t f)) + length (functions_insns t fs) ≡ n + length (function_insns t f ++ functions_insns t fs) = omega (arith, length-append (function_insns t f) (functions_insns t fs)) in (
        whole n,
        whole (n + length (function_insns t f)),
        le_same (n * 4),
        next,
        subst (λ (k : ℕ). RowsLieIn ((n + length (function_insns t f)) * 4) (functions_rows t (n + length (function_insns t f)) slots fs) (k * 4)) size (rows_lie (n + length (function_insns t f)) slots fs),
      )

  wider_rows : (rs : List FunctionRow) (a b from end : ℕ) → a ≤ from → end ≤ b → RowsLieIn from rs end → RowsLieIn a rs b
  wider_rows [] a b from end h k l = omega arith
  wider_rows (r ∷ rs) a b from end h k l = (l.0, l.1, omega (arith, l.2), l.3, wider_rows rs r.end b r.end end (omega arith) k l.4)

  program_size : (c : FlatCode) → (functions_at t c + length (functions_insns t c.functions)) * 4 ≡ length (program_insns t c) * 4
  unfolding program_insns
  program_size c =
      let size : length (t.start ++ movers_insns t c.movers ++ functions_insns t c.functions) ≡ length t.start + (length (movers_insns t c.movers) + length (functions_insns t c.functions)) = three t.start (movers_insns t c.movers) (functions_insns t c.functions) in
      omega (arith, size)

  program_names_lie : (c : FlatCode) → NamesLieIn 0 (program_names t c) (length (program_insns t c) * 4)
  unfolding program_names
  program_names_lie c =
      let behind : 0 ≤ length t.start * 4 = omega arith in
      let others : NamesLieIn (length t.start * 4) (movers_names t 0 (length t.start) c.movers ++ functions_names t 0 (functions_at t c) c.functions) ((functions_at t c + length (functions_insns t c.functions)) * 4) =
      joined_names (movers_names t 0 (length t.start) c.movers) _ (length t.start * 4) (functions_at t c * 4) _ (movers_names_lie 0 (length t.start) c.movers) (functions_names_lie 0 (functions_at t c) c.functions) in
      subst (λ (e : ℕ). NamesLieIn 0 (program_names t c) e) (program_size c)
      (refl, le_same 0, wider_names (movers_names t 0 (length t.start) c.movers ++ functions_names t 0 (functions_at t c) c.functions) 0 _ (length t.start * 4) _ behind (le_same _) others)

  program_rows_lie : (slots : List SlotFunction) (c : FlatCode) → RowsLieIn 0 (program_rows t slots c) (length (program_insns t c) * 4)
  unfolding program_rows
  program_rows_lie slots c =
      let behind : 0 ≤ functions_at t c * 4 = omega arith in
      subst (λ (e : ℕ). RowsLieIn 0 (program_rows t slots c) e) (program_size c)
      (wider_rows (functions_rows t (functions_at t c) slots c.functions) 0 _ (functions_at t c * 4) _ behind (le_same _) (rows_lie (functions_at t c) slots c.functions))

-- ---- uses in static objects

all_append : (us vs : List Use) → AllByRecursion IsInData us → AllByRecursion IsInData vs → AllByRecursion IsInData (us ++ vs)
all_append [] vs h k = k
all_append (u ∷ us) vs h k = (h.0, all_append us vs h.1 k)

value_in_data : (objects at : ℕ) (v : SlotValue) → AllByRecursion IsInData (value_uses objects at v)
value_in_data objects at (value.Number bits) = tt
value_in_data objects at value.Null = tt
value_in_data objects at (value.Object object offset) = (refl, tt)
value_in_data objects at (value.Str string) = (refl, tt)

starts_in_data : (order : Order) (objects before here : ℕ) (ss : List SlotStart) → AllByRecursion IsInData (start_uses order objects before here ss)
starts_in_data order objects before here [] = tt
starts_in_data order objects before here (s ∷ ss) =
    all_append (value_uses objects (before + (here + (s.at - here))) s.value) _ (value_in_data objects (before + (here + (s.at - here))) s.value)
    (starts_in_data order objects before (here + (s.at - here) + length (leaf_bytes order s)) ss)

objects_in_data : (order : Order) (objects before : ℕ) (os : List SlotObject) → AllByRecursion IsInData (objects_uses order objects before os)
objects_in_data order objects before [] = tt
objects_in_data order objects before (o ∷ os) =
    all_append (start_uses order objects before 0 o.start) _ (starts_in_data order objects before 0 o.start) (objects_in_data order objects (before + length (object_bytes order o)) os)

program_in_data : (order : Order) (c : SlotCode) → AllByRecursion IsInData (data_uses order c)
unfolding data_uses
program_in_data order c = objects_in_data order (length c.objects) 0 c.objects

-- ---- the object

text_size : {Insn : Type 0} (t : Coding Insn) (room : HasRoom t) (is : List Insn) → length (text_bytes t is) ≡ length is * 4
text_size t room [] = refl
text_size t room (i ∷ is) = omega (arith, length-append (t.bytes_of i) (text_bytes t is), room.word i, text_size t room is)

pub object_in_order : {Insn : Type 0} (t : Coding Insn) (room : HasRoom t) (slots : SlotCode) (flat : FlatCode) (o : Object) → IsObjectOf t slots flat o → IsInOrder o
object_in_order t room slots flat o is =
    let size : length (program_insns t flat) * 4 ≡ length o.text = sym (ap length is.text ∙ text_size t room (program_insns t flat)) in
    record {
      size = ap (λ n. n % 4) (sym size) ∙ whole (length (program_insns t flat));
      names = subst (λ (e : ℕ). NamesLieIn 0 o.names e) size (subst (λ (ns : List Name). NamesLieIn 0 ns (length (program_insns t flat) * 4)) (sym is.names) (program_names_lie t flat));
      functions = subst (λ (e : ℕ). RowsLieIn 0 o.functions e) size (subst (λ (rs : List FunctionRow). RowsLieIn 0 rs (length (program_insns t flat) * 4)) (sym is.functions) (program_rows_lie t slots.functions flat));
      text_uses = program_uses t flat;
      data_uses = data_uses t.shape.order slots;
      uses = is.uses;
      in_text = subst (λ (e : ℕ). UsesLieIn 0 (program_uses t flat) e) size (program_lies t room flat);
      in_data = program_in_data t.shape.order slots;
    }
