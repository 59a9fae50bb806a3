-- Names, functions and stopping points lie in the text.
use Rattle.std.proofs.Common.{◌≡◌, ◌≤◌, ◌<◌, ℕ, suc, ◌+◌, ◌*◌, List, [], ◌∷◌, ◌++◌, length, length-append, Bool, true, false, ◌&&◌, refl, sym, ap, ap₂, subst, ◌∙◌, arith, le-leb}
use Rattle.std.specs.Prelude.{codes}
use Rattle.std.specs.List.{AllByRecursion, list_all}
use Rattle.std.proofs.lemmas.Bool.{lt-ltb}
use Rattle.obj_file.specs.declared.object.FunctionRow.{FunctionRow}
use Rattle.obj_file.specs.declared.object.Name.{Name}
use Rattle.obj_file.specs.declared.object.Object.{Object}
use Rattle.slot_ir.specs.declared.code.SlotCode.{SlotCode}
use Rattle.flat_ir.specs.declared.code.FlatFunction.{FlatFunction}
use Rattle.flat_ir.specs.declared.code.FlatCode.{FlatCode}
use Rattle.flat_ir.specs.declared.moves.MoveStep.{MoveStep}
use Rattle.flat_ir.specs.declared.moves.MoveStep.TheVariants as step
use Rattle.flat_ir.specs.declared.moves.Mover.{Mover}
use Rattle.gen_parts.specs.Coding.{Coding}
use Rattle.gen_parts.specs.Links.{RowsLieIn, IsInOrder}
use Rattle.gen_parts.specs.Text.{text_bytes, ops_insns, function_insns, functions_insns, steps_insns, copy_insns, mover_insns, movers_insns, program_insns}
use Rattle.gen_parts.specs.Parts.{named, mover_names, movers_names, functions_names, functions_at, program_names, IsObjectOf}
use Rattle.link_image.specs.Conditions.{name_lies, point_lies, row_lies, has_rows_inside}
use Rattle.object_laws.specs.Stops.{IsStop, HasStops, HasPlainEnds}
use Rattle.object_laws.proofs.Lists.{all_append}

three : {A : Type 0} (a b c : List A) → length (a ++ b ++ c) ≡ length a + (length b + length c)
three a b c = omega (arith, length-append (a ++ b) c, length-append a b)

abbrev IsBelow : (high : ℕ) → Name → Type 0
IsBelow high n = n.at < high * 4

module _ {Insn : Type 0} (t : Coding Insn) (start : 1 ≤ length t.start) (copies : 1 ≤ length t.copy_begin) (functions : (frame : ℕ) → 1 ≤ length (t.prologue frame)) where
  copy_long : (back : Bool) (ss : List MoveStep) → 1 ≤ length (copy_insns t back ss)
  copy_long back ss = omega (arith, copies, three t.copy_begin (steps_insns t back step.Again ss) t.copy_end)

  mover_below : (number n high : ℕ) (m : Mover) → n + length (mover_insns t m) ≤ high → AllByRecursion (IsBelow high) (mover_names t number n m)
  unfolding mover_names mover_insns
  mover_below number n high m h =
      let up : List Insn = copy_insns t false m.ascending in
      let down : List Insn = copy_insns t true m.descending in
      let size : length (t.choice m.size ++ up ++ down) ≡ length (t.choice m.size) + (length up + length down) = three (t.choice m.size) up down in
      let one : 1 ≤ length up = copy_long false m.ascending in
      let two : 1 ≤ length down = copy_long true m.descending in
      (omega (arith, h, size, one, two), (omega (arith, h, size, one, two), (omega (arith, h, size, one, two), tt)))

  movers_below : (number n high : ℕ) (ms : List Mover) → n + length (movers_insns t ms) ≤ high → AllByRecursion (IsBelow high) (movers_names t number n ms)
  movers_below number n high [] h = tt
  movers_below number n high (m ∷ ms) h =
      let size : length (mover_insns t m ++ movers_insns t ms) ≡ length (mover_insns t m) + length (movers_insns t ms) = length-append (mover_insns t m) (movers_insns t ms) in
      all_append (IsBelow high) (mover_names t number n m) _ (mover_below number n high m (omega (arith, h, size))) (movers_below (suc number) (n + length (mover_insns t m)) high ms (omega (arith, h, size)))

  function_long : (f : FlatFunction) → 1 ≤ length (function_insns t f)
  unfolding function_insns
  function_long f = omega (arith, functions f.frame, three (t.prologue f.frame) (ops_insns t f.frame f.code) (t.epilogue f.frame))

  functions_below : (number n high : ℕ) (fs : List FlatFunction) → n + length (functions_insns t fs) ≤ high → AllByRecursion (IsBelow high) (functions_names t number n fs)
  functions_below number n high [] h = tt
  functions_below number n high (f ∷ fs) h =
      let size : length (function_insns t f ++ functions_insns t fs) ≡ length (function_insns t f) + length (functions_insns t fs) = length-append (function_insns t f) (functions_insns t fs) in
      let one : 1 ≤ length (function_insns t f) = function_long f in
      (omega (arith, h, size, one), functions_below (suc number) (n + length (function_insns t f)) high fs (omega (arith, h, size)))

  program_below : (c : FlatCode) → AllByRecursion (IsBelow (length (program_insns t c))) (program_names t c)
  unfolding program_names program_insns
  program_below c =
      let movers : List Insn = movers_insns t c.movers in
      let others : List Insn = functions_insns t c.functions in
      let size : length (t.start ++ movers ++ others) ≡ length t.start + (length movers + length others) = three t.start movers others in
      let high : ℕ = length (t.start ++ movers ++ others) in
      let first : List Name = named 0 (codes "start") ∷ [] in
      all_append (IsBelow high) (first ++ movers_names t 0 (length t.start) c.movers) (functions_names t 0 (functions_at t c) c.functions)
      (all_append (IsBelow high) first (movers_names t 0 (length t.start) c.movers) (omega (arith, start, size), tt) (movers_below 0 (length t.start) high c.movers (omega (arith, size))))
      (functions_below 0 (functions_at t c) high c.functions (omega (arith, size)))

  text_long : ((i : Insn) → length (t.bytes_of i) ≡ 4) → (is : List Insn) → length (text_bytes t is) ≡ length is * 4
  text_long word [] = refl
  text_long word (i ∷ is) = omega (arith, length-append (t.bytes_of i) (text_bytes t is), word i, text_long word is)

  -- a text has an instruction
  pub text_least : ((i : Insn) → length (t.bytes_of i) ≡ 4) → (c : SlotCode) (flat : FlatCode) (o : Object) → IsObjectOf t c flat o → 4 ≤ length o.text
  unfolding program_insns
  text_least word c flat o made =
      let movers : List Insn = movers_insns t flat.movers in
      let others : List Insn = functions_insns t flat.functions in
      let size : length o.text ≡ length (t.start ++ movers ++ others) * 4 = ap length made.text ∙ text_long word (t.start ++ movers ++ others) in
      omega (arith, start, size, three t.start movers others)

-- ---- as a linker asks

names_lie : (high size : ℕ) (ns : List Name) → size ≡ high * 4 → AllByRecursion (IsBelow high) ns → list_all (name_lies size) ns ≡ true
names_lie high size [] e h = refl
names_lie high size (n ∷ ns) e h = ap₂ (λ (a b : Bool). a && b) (lt-ltb n.at size (omega (arith, e, h.0))) (names_lie high size ns e h.1)

rows_end : (from : ℕ) (rs : List FunctionRow) (end : ℕ) → RowsLieIn from rs end → from ≤ end
rows_end from [] end h = h
rows_end from (r ∷ rs) end h = omega (arith, h.2, h.3, rows_end r.end rs end h.4)

module _ {Insn : Type 0} (t : Coding Insn) (no_op : Insn) (is_transfer : Insn → Bool) (is : List Insn) (text : List ℕ) where
  points_lie : (from end size : ℕ) (ps : List ℕ) → end ≤ size → AllByRecursion (IsStop t no_op is_transfer is text from end) ps → list_all (point_lies size) ps ≡ true
  points_lie from end size [] l h = refl
  points_lie from end size (p ∷ ps) l h = ap₂ (λ (a b : Bool). a && b) (lt-ltb p size (omega (arith, l, h.0.inside))) (points_lie from end size ps l h.1)

  rows_lie : (from size : ℕ) (rs : List FunctionRow) → RowsLieIn from rs size → AllByRecursion (HasStops t no_op is_transfer is text) rs → list_all (row_lies size) rs ≡ true
  rows_lie from size [] l h = refl
  rows_lie from size (r ∷ rs) l h =
      let end : r.end ≤ size = rows_end r.end rs size l.4 in
      ap₂ (λ (a b : Bool). a && b)
      (ap₂ (λ (a b : Bool). a && b) (le-leb r.entry r.end l.3) (ap₂ (λ (a b : Bool). a && b) (le-leb r.end size end) (points_lie r.entry r.end size r.points end h.0)))
      (rows_lie r.end size rs l.4 h.1)

  pub all_inside : HasPlainEnds t no_op is_transfer → 1 ≤ length t.start → 1 ≤ length t.copy_begin → ((frame : ℕ) → 1 ≤ length (t.prologue frame)) → (c : SlotCode) (flat : FlatCode) (o : Object) → IsObjectOf t c flat o → IsInOrder o
      → AllByRecursion (HasStops t no_op is_transfer is text) o.functions → has_rows_inside o ≡ true
  all_inside ends start copies functions c flat o made order stops =
      let size : length o.text ≡ length (program_insns t flat) * 4 = ap length made.text ∙ text_long t start copies functions ends.word (program_insns t flat) in
      let below : AllByRecursion (IsBelow (length (program_insns t flat))) o.names = subst (λ (ns : List Name). AllByRecursion (IsBelow (length (program_insns t flat))) ns) (sym made.names) (program_below t start copies functions flat) in
      ap₂ (λ (a b : Bool). a && b) (names_lie (length (program_insns t flat)) (length o.text) o.names size below) (rows_lie 0 (length o.text) o.functions order.functions stops)
