-- The operators of the manual leave what is closed.
use Rattle.std.proofs.Common.{ℕ, ◌%◌, ◌+◌, ◌-◌, ◌==◌, nat_lt, nat_le, Bool, true, false, if◌then◌else◌, Option, Some, None, Result, Ok, Err, List, length, reverse, take, drop, replicate, slice_get}
use Rattle.ps_store.specs.declared.object.ArrayId.{ArrayId}
use Rattle.ps_store.specs.declared.object.PsObj.{PsObj}
use Rattle.ps_store.specs.declared.object.PsObj.TheVariants.{Int, Bool as Truth, Mark, Null}
use Rattle.ps_store.specs.StoreState.{StoreState}
use Rattle.ps_store.specs.Store.{bytes_of, elements_of, making_array, making_dict, making_text, writing_elements}
use Rattle.ps_step.specs.declared.fault.PsError.{PsError}
use Rattle.ps_step.specs.declared.fault.PsError.TheVariants.{RangeCheck, UnmatchedMark}
use Rattle.ps_step.specs.declared.item.Item.{Item}
use Rattle.ps_step.specs.declared.item.Item.TheVariants.{Object, Procedure, Repeat, For, Loop}
use Rattle.ps_step.specs.declared.machine.PsCore.{PsCore}
use Rattle.ps_step.specs.declared.operator.StackOperator.{StackOperator}
use Rattle.ps_step.specs.declared.operator.StackOperator.TheVariants as stack
use Rattle.ps_step.specs.declared.operator.CompositeOperator.{CompositeOperator}
use Rattle.ps_step.specs.declared.operator.CompositeOperator.TheVariants as composite
use Rattle.ps_step.specs.declared.operator.ValueOperator.{ValueOperator}
use Rattle.ps_step.specs.declared.operator.ValueOperator.TheVariants as value
use Rattle.ps_step.specs.declared.operator.ControlOperator.{ControlOperator}
use Rattle.ps_step.specs.declared.operator.ControlOperator.TheVariants as control
use Rattle.ps_step.specs.declared.operator.Operator.{Operator}
use Rattle.ps_step.specs.declared.operator.Operator.TheVariants.{Stack, Composite, Value, Control, Copy, CloseDict, Cvs}
use Rattle.ps_step.specs.Arithmetic.{integer_of, truth_of, arithmetic_of, bitwise_of, shifting_of, negation_of, opposite_of}
use Rattle.ps_step.specs.Compare.{relation_of}
use Rattle.ps_step.specs.Composites.{MadePart, value_in, put_in, placed_text, copied, filled}
use Rattle.ps_step.specs.ControlOperators.{goes_on, cursor_of}
use Rattle.ps_step.specs.CopyOperators.{replacing, copying_by}
use Rattle.ps_step.specs.Executing.{on_stack, on_composites, on_values, on_control, operating}
use Rattle.ps_step.specs.Item.{loop_from}
use Rattle.ps_step.specs.Keys.{current, holder_of, key_of, meant_by, put_under, under, value_under}
use Rattle.ps_step.specs.Marks.{mark_from}
use Rattle.ps_step.specs.Operands.{one_of, pair_of, triple_of, quadruple_of}
use Rattle.ps_step.specs.Results.{◌>>=◌, stored, opened}
use Rattle.ps_step.specs.StackOperators.{copying_top}
use Rattle.ps_step.specs.State.{Made, pushing, scheduling, calling}
use Rattle.ps_step.specs.Text.{text_of}
use Rattle.ps_step.specs.Values.{as_count, array_of, count_of, dict_of, length_of, procedure_of, string_of}
use Rattle.printing_laws.proofs.Leaving.{All, behind, behind_all, chosen, either, Both, behind_at, at_both, Leaves, leaves_same}
use Rattle.printing_laws.proofs.Stores.{array_leaves, dict_leaves, text_leaves, elements_leave}
use Rattle.printing_laws.proofs.Parts.{PartLeft, put_left, put_in_left, placed_left, copied_left, filled_left}

module _ (c : PsCore) where
  abbrev pub After : PsCore → Type 0
  After c' = Leaves c.store c'.store

  abbrev pub Raised : PsError × PsCore → Type 0
  Raised failed = Leaves c.store failed.1.store

  same : Leaves c.store c.store
  same = leaves_same c.store

  pub pushed : (x : PsObj) → All After (pushing x c)
  pushed x = either After (nat_lt (length c.operands) 100000) _ _ same tt

  pub scheduled : (i : Item) → All After (scheduling i c)
  scheduled i = either After (nat_lt (length c.execution) 1000) _ _ same tt

  pub called : (a : ArrayId) → All After (calling a c)
  called a = either After (nat_lt 0 (length (elements_of c.store a))) _ _ (scheduled (Procedure a 0)) same

  -- an object more is left, if there is room
  abbrev one : Result PsObj PsError
  one = one_of c.operands

  abbrev two : Result (PsObj × PsObj) PsError
  two = pair_of c.operands

  stack_kept : (op : StackOperator) → All After (on_stack op c)
  stack_kept stack.Exch = behind After two _ (λ p. same)
  stack_kept stack.Dup = behind After one _ (λ x. pushed x)
  stack_kept stack.Pop = behind After one _ (λ x. same)
  stack_kept stack.Index = behind After one _ (λ depth. behind After (count_of depth) _ (λ n. chosen After (slice_get c.operands (n + 1)) _ _ (λ x. same) tt))
  stack_kept stack.Roll = behind After two _ (λ p. behind After (integer_of p.1) _ (λ j. behind After (count_of p.0) _ (λ n. either After (nat_lt (length c.operands - 2) n) _ _ tt same)))
  stack_kept stack.Mark = pushed Mark
  stack_kept stack.CountToMark = chosen After (mark_from 0 c.operands) _ _ (λ n. behind After (as_count n) _ (λ x. pushed x)) tt
  stack_kept stack.ClearToMark = chosen After (mark_from 0 c.operands) _ _ (λ n. same) tt

  -- an object was made in the store
  array_after : (items : List PsObj) (f : ArrayId × StoreState → Made) → ((made : ArrayId × StoreState) → Leaves c.store made.1 → All After (f made)) → All After (stored (making_array c.store items) >>= f)
  array_after items f h = behind_all After (λ made. Leaves c.store made.1) (stored (making_array c.store items)) f (array_leaves c.store items) h

  composites_kept : (op : CompositeOperator) → All After (on_composites op c)
  composites_kept composite.CloseArray = chosen After (mark_from 0 c.operands) _ _ (λ n. array_after (reverse (take n c.operands)) _ (λ made l. l)) tt
  composites_kept composite.Array = behind After one _ (λ size. behind After (count_of size) _ (λ n. array_after (replicate n Null) _ (λ made l. l)))
  composites_kept composite.ALoad = behind After one _ (λ whole. behind After (array_of whole) _ (λ a. either After (nat_lt 100000 (length c.operands + length (elements_of c.store a))) _ _ tt same))
  composites_kept composite.AStore =
      behind After one _ (λ whole. behind After (array_of whole) _ (λ a. either After (nat_lt (length (elements_of c.store a)) (length c.operands)) _ _
      (behind_all After (Leaves c.store) (opened (writing_elements c.store a 0 (reverse (take (length (elements_of c.store a)) (drop 1 c.operands))))) _
      (elements_leave c.store a 0 (reverse (take (length (elements_of c.store a)) (drop 1 c.operands)))) (λ s l. l)) tt))
  composites_kept composite.Dict =
      behind After one _ (λ size. behind After (count_of size) _ (λ n. behind_all After (λ made. Leaves c.store made.1) (stored (making_dict c.store)) _ (dict_leaves c.store) (λ made l. l)))
  composites_kept composite.Begin = behind After one _ (λ x. behind After (dict_of x) _ (λ d. either After (nat_lt (length c.dictionaries) 64) _ _ same tt))
  composites_kept composite.End = either After (nat_le (length c.dictionaries) (length c.store.base)) _ _ tt same
  composites_kept composite.Def = behind After two _ (λ p. behind After (current c.dictionaries) _ (λ d. behind_all After (Leaves c.store) (put_under c.store d p.0 p.1) _ (put_left c.store d p.0 p.1) (λ s l. l)))
  composites_kept composite.Load = behind After one _ (λ place. behind After (meant_by c.store c.dictionaries place) _ (λ found. behind After (under found) _ (λ x. same)))
  composites_kept composite.Known = behind After two _ (λ p. behind After (dict_of p.0) _ (λ d. behind After (value_under c.store d p.1) _ (λ found. same)))
  composites_kept composite.Where =
      behind After one _ (λ place. behind After (key_of c.store place) _ (λ key. chosen After (holder_of c.store c.dictionaries key) _ _ (λ d. either After (nat_lt (length c.operands) 100000) _ _ same tt) same))
  composites_kept composite.String =
      behind After one _ (λ size. behind After (count_of size) _ (λ n.
      behind_all After (λ made. Leaves c.store made.1) (stored (making_text 16777216 c.store (replicate n 0))) _ (text_leaves 16777216 c.store (replicate n 0)) (λ made l. l)))
  composites_kept composite.Cvx = behind After one _ (λ x. same)
  composites_kept composite.Cvlit = behind After one _ (λ x. same)
  composites_kept composite.Cvn =
      behind After one _ (λ whole. behind After (string_of whole) _ (λ t.
      behind_all After (λ made. Leaves c.store made.1) (stored (making_text 127 c.store (bytes_of c.store t.0))) _ (text_leaves 127 c.store (bytes_of c.store t.0)) (λ made l. l)))
  composites_kept composite.Get = behind After two _ (λ p. behind After (value_in c.store p.0 p.1) _ (λ x. same))
  composites_kept composite.Put = behind After (triple_of c.operands) _ (λ p. behind_all After (Leaves c.store) (put_in c.store p.0 p.1 p.2) _ (put_in_left c.store p.0 p.1 p.2) (λ s l. l))
  composites_kept composite.Length = behind After one _ (λ whole. behind After (length_of c.store whole) _ (λ n. behind After (as_count n) _ (λ x. same)))

  values_kept : (op : ValueOperator) → All After (on_values op c)
  values_kept (value.Arithmetic op) = behind After two _ (λ p. behind After (arithmetic_of op p.0 p.1) _ (λ x. same))
  values_kept value.Neg = behind After one _ (λ a. behind After (negation_of a) _ (λ x. same))
  values_kept value.BitShift = behind After two _ (λ p. behind After (shifting_of p.0 p.1) _ (λ x. same))
  values_kept (value.Bitwise op) = behind After two _ (λ p. behind After (bitwise_of op p.0 p.1) _ (λ x. same))
  values_kept value.Not = behind After one _ (λ a. behind After (opposite_of a) _ (λ x. same))
  values_kept value.Eq = behind After two _ (λ p. same)
  values_kept value.Ne = behind After two _ (λ p. same)
  values_kept (value.Relation relation) = behind After two _ (λ p. behind After (relation_of relation c.store p.0 p.1) _ (λ x. same))
  values_kept value.True = pushed (Truth true)
  values_kept value.False = pushed (Truth false)
  values_kept value.Null = pushed Null

  -- an item was put on the execution stack, or not
  entered : (r : Made) (f : PsCore → Made) → All After r → ((c' : PsCore) → Leaves c.store c'.store → All After (f c')) → All After (r >>= f)
  entered r f l h = behind_all After After r f l h

  control_kept : (op : ControlOperator) → All After (on_control op c)
  control_kept control.If =
      behind After two _ (λ p. behind After (truth_of p.0) _ (λ b. behind After (procedure_of p.1) _ (λ a. entered (if b then calling a c else Ok c) _ (either After b (calling a c) (Ok c) (called a) same) (λ c' l. l))))
  control_kept control.IfElse =
      behind After (triple_of c.operands) _ (λ p. behind After (truth_of p.0) _ (λ b. behind After (procedure_of p.1) _ (λ x. behind After (procedure_of p.2) _ (λ y.
      entered (calling (if b then x else y) c) _ (called (if b then x else y)) (λ c' l. l)))))
  control_kept control.For =
      behind After (quadruple_of c.operands) _ (λ p. behind After (integer_of p.0) _ (λ next. behind After (integer_of p.1) _ (λ by. behind After (integer_of p.2) _ (λ limit. behind After (procedure_of p.3) _ (λ a.
      entered (if goes_on next by limit then scheduling (For next by limit a) c else Ok c) _
      (either After (goes_on next by limit) (scheduling (For next by limit a) c) (Ok c) (scheduled (For next by limit a)) same) (λ c' l. l))))))
  control_kept control.Repeat =
      behind After two _ (λ p. behind After (procedure_of p.1) _ (λ a. behind After (count_of p.0) _ (λ n.
      entered (if nat_lt 0 n then scheduling (Repeat n a) c else Ok c) _ (either After (nat_lt 0 n) (scheduling (Repeat n a) c) (Ok c) (scheduled (Repeat n a)) same) (λ c' l. l))))
  control_kept control.Loop = behind After one _ (λ body. behind After (procedure_of body) _ (λ a. entered (scheduling (Loop a) c) _ (scheduled (Loop a)) (λ c' l. l)))
  control_kept control.Exit = chosen After (loop_from 0 c.execution) _ _ (λ n. same) tt
  control_kept control.ForAll =
      behind After two _ (λ p. behind After (procedure_of p.1) _ (λ a. behind After (cursor_of p.0 a) _ (λ cursor. behind After (length_of c.store p.0) _ (λ n.
      entered (if nat_lt 0 n then scheduling cursor c else Ok c) _ (either After (nat_lt 0 n) (scheduling cursor c) (Ok c) (scheduled cursor) same) (λ c' l. l)))))
  control_kept control.Exec = behind After one _ (λ x. entered (scheduling (Object x) c) _ (scheduled (Object x)) (λ c' l. l))
  control_kept control.Stop = tt
  control_kept control.Stopped = behind After one _ (λ x. either After (nat_lt (length c.execution + 1) 1000) _ _ same tt)

  -- ---- operators whose error may come after something was made or put

  replaced : (n : ℕ) (r : MadePart) → PartLeft c.store r → Both After Raised (replacing n c r)
  replaced n (Ok made) l = l
  replaced n (Err failed) l = l

  copied_number : (n : ℕ) → All After (copying_top n c)
  copied_number n = either After (nat_lt n (length c.operands)) _ _ (either After (nat_lt 100000 (length c.operands - 1 + n)) _ _ tt same) tt

  copied_top : (top : PsObj) → Both After Raised (copying_by top c)
  copied_top (Int n) = at_both After Raised c (count_of (Int n) >>= λ count. copying_top count c) (behind After (count_of (Int n)) (λ count. copying_top count c) (λ count. copied_number count)) (λ e. same)
  copied_top top = behind_at After Raised c two _ (λ p. replaced 2 (copied c.store p.0 p.1) (copied_left c.store p.0 p.1)) (λ e. same)

  closed_dict : (o : Option ℕ) → Both After Raised (elim o [
    | None ↦ Err (UnmatchedMark, c)
    | Some n ↦ if n % 2 == 1 then Err (RangeCheck, c) else replacing (n + 1) c (filled c.store (reverse (take n c.operands)))
  ])
  closed_dict None = same
  closed_dict (Some n) = by_even (n % 2 == 1)
    where
      by_even : (b : Bool) → Both After Raised (if b then Err (RangeCheck, c) else replacing (n + 1) c (filled c.store (reverse (take n c.operands))))
      by_even true = same
      by_even false = replaced (n + 1) (filled c.store (reverse (take n c.operands))) (filled_left c.store (reverse (take n c.operands)))

  pub operated : (op : Operator) → Both After Raised (operating op c)
  operated (Stack op) = at_both After Raised c (on_stack op c) (stack_kept op) (λ e. same)
  operated (Composite op) = at_both After Raised c (on_composites op c) (composites_kept op) (λ e. same)
  operated (Value op) = at_both After Raised c (on_values op c) (values_kept op) (λ e. same)
  operated (Control op) = at_both After Raised c (on_control op c) (control_kept op) (λ e. same)
  operated Copy = behind_at After Raised c one _ (λ top. copied_top top) (λ e. same)
  operated CloseDict = closed_dict (mark_from 0 c.operands)
  operated Cvs =
      behind_at After Raised c two _ (λ p. behind_at After Raised c (string_of p.1) _ (λ t.
      replaced 2 (placed_text c.store (text_of c.store p.0) t.0 t.1) (placed_left c.store (text_of c.store p.0) t.0 t.1)) (λ e. same)) (λ e. same)
