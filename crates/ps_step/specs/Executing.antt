-- Objects are executed.
use Rattle.std.specs.Prelude.{ℕ, ◌-◌, Bool, true, false, Option, Some, None, Result, Ok, Err, List}
use Rattle.ps_store.specs.declared.object.PsObj.{PsObj}
use Rattle.ps_store.specs.declared.object.PsObj.TheVariants.{Bool as Truth, Name, Str, Array, Op, Mark, Null}
use Rattle.ps_store.specs.declared.object.StringId.{StringId}
use Rattle.ps_store.specs.Store.{bytes_of}
use Rattle.ps_step.specs.declared.fault.PsError.{PsError}
use Rattle.ps_step.specs.declared.fault.PsError.TheVariants.{Undefined, InvalidExit}
use Rattle.ps_step.specs.declared.item.Item.TheVariants.{Object, Text}
use Rattle.ps_step.specs.declared.machine.PsCore.{PsCore}
use Rattle.ps_step.specs.declared.operator.StackOperator.{StackOperator}
use Rattle.ps_step.specs.declared.operator.StackOperator.TheVariants.{Exch, Dup, Pop, Index, Roll, Mark as PushMark, CountToMark, ClearToMark}
use Rattle.ps_step.specs.declared.operator.CompositeOperator.{CompositeOperator}
use Rattle.ps_step.specs.declared.operator.CompositeOperator.TheVariants.{CloseArray, Array as MakeArray, ALoad, AStore, Dict as MakeDict, Begin, End, Def, Load, Known, Where, String as MakeString, Cvx, Cvlit, Cvn, Get, Put, Length}
use Rattle.ps_step.specs.declared.operator.ValueOperator.{ValueOperator}
use Rattle.ps_step.specs.declared.operator.ValueOperator.TheVariants.{Arithmetic as Calculate, Neg, BitShift, Bitwise as Combine, Not, Eq, Ne, Relation as Compare, True as PushTrue, False as PushFalse, Null as PushNull}
use Rattle.ps_step.specs.declared.operator.ControlOperator.{ControlOperator}
use Rattle.ps_step.specs.declared.operator.ControlOperator.TheVariants.{If, IfElse, For as ForOf, Repeat as RepeatOf, Loop as LoopOf, Exit, ForAll, Exec, Stop, Stopped as StoppedOf}
use Rattle.ps_step.specs.declared.operator.Operator.{Operator}
use Rattle.ps_step.specs.declared.operator.Operator.TheVariants.{Stack, Composite, Value, Control, Copy, CloseDict, Cvs}
use Rattle.ps_step.specs.Results.{at}
use Rattle.ps_step.specs.Keys.{named}
use Rattle.ps_step.specs.Operator.{operator_at}
use Rattle.ps_step.specs.State.{Made, pushing, scheduling, calling}
use Rattle.ps_step.specs.StackOperators.{exchanging, duplicating, popping, indexing, rolling, counting, clearing}
use Rattle.ps_step.specs.ArrayOperators.{closing_array, making_nulls_of, loading_all, storing_all}
use Rattle.ps_step.specs.DictionaryOperators.{making_dict_of, beginning, ending, defining, loading, knowing, finding}
use Rattle.ps_step.specs.StringOperators.{making_string_of, naming_of, converting}
use Rattle.ps_step.specs.ValueOperators.{calculating, combining, shifting, negating, inverting, equating, comparing, getting, putting, measuring}
use Rattle.ps_step.specs.ControlOperators.{choosing, choosing_one, counting_up, repeating, looping, exiting, each_of, executing_top, guarding}
use Rattle.ps_step.specs.CopyOperators.{MadeOrLeft, copying, closing_dict, writing_text}

-- an operator on the operand stack
abbrev pub on_stack : StackOperator → PsCore → Made
on_stack Exch c = exchanging c
on_stack Dup c = duplicating c
on_stack Pop c = popping c
on_stack Index c = indexing c
on_stack Roll c = rolling c
on_stack PushMark c = pushing Mark c
on_stack CountToMark c = counting c
on_stack ClearToMark c = clearing c

-- an operator on arrays, dictionaries, strings and names
abbrev pub on_composites : CompositeOperator → PsCore → Made
on_composites CloseArray c = closing_array c
on_composites MakeArray c = making_nulls_of c
on_composites ALoad c = loading_all c
on_composites AStore c = storing_all c
on_composites MakeDict c = making_dict_of c
on_composites Begin c = beginning c
on_composites End c = ending c
on_composites Def c = defining c
on_composites Load c = loading c
on_composites Known c = knowing c
on_composites Where c = finding c
on_composites MakeString c = making_string_of c
on_composites Cvx c = converting true c
on_composites Cvlit c = converting false c
on_composites Cvn c = naming_of c
on_composites Get c = getting c
on_composites Put c = putting c
on_composites Length c = measuring c

-- an operator on integers, booleans and their like
abbrev pub on_values : ValueOperator → PsCore → Made
on_values (Calculate op) c = calculating op c
on_values Neg c = negating c
on_values BitShift c = shifting c
on_values (Combine op) c = combining op c
on_values Not c = inverting c
on_values Eq c = equating true c
on_values Ne c = equating false c
on_values (Compare relation) c = comparing relation c
on_values PushTrue c = pushing (Truth true) c
on_values PushFalse c = pushing (Truth false) c
on_values PushNull c = pushing Null c

-- a control operator
abbrev pub on_control : ControlOperator → PsCore → Made
on_control If c = choosing c
on_control IfElse c = choosing_one c
on_control ForOf c = counting_up c
on_control RepeatOf c = repeating c
on_control LoopOf c = looping c
on_control Exit c = exiting c
on_control ForAll c = each_of c
on_control Exec c = executing_top c
on_control Stop c = Err InvalidExit
on_control StoppedOf c = guarding c

-- an operator: the state after it, or its error and the state that stands there
abbrev pub operating : Operator → PsCore → MadeOrLeft
operating (Stack op) c = at c (on_stack op c)
operating (Composite op) c = at c (on_composites op c)
operating (Value op) c = at c (on_values op c)
operating (Control op) c = at c (on_control op c)
operating Copy c = copying c
operating CloseDict c = closing_dict c
operating Cvs c = writing_text c

-- What an object that is executed makes of a state: the state after it, and the number of the dialect's operator
-- that is asked for, if one is; or the error that it raises, and the state that stands there.
abbrev pub Turn : Type 0
Turn = Result (PsCore × Option ℕ) (PsError × PsCore)

-- nothing is asked of the dialect
abbrev pub alone : MadeOrLeft → Turn
alone (Ok c) = Ok (c, None)
alone (Err failed) = Err failed

-- an operator by its number; those from 61 on are the dialect's own
abbrev pub numbered : ℕ → PsCore → Turn
numbered n c = elim (operator_at n) [ Some op ↦ alone (operating op c) | None ↦ Ok (c, Some (n - 61)) ]

-- A value is executed: an operator does its work, a procedure is entered, a string begins to be executed,
-- a name is executed in the next step, and any other object is pushed.
abbrev pub acting : PsObj → PsCore → Turn
acting (Array a true) c = alone (at c (calling a c))
acting (Op n) c = numbered n c
acting (Name t true) c = alone (at c (scheduling (Object (Name t true)) c))
acting (Str t true) c = alone (at c (scheduling (Text t 0) c))
acting x c = alone (at c (pushing x c))

-- a name is executed: its value is
abbrev pub naming : List ℕ → PsCore → Turn
naming text c = elim (named c.store c.dictionaries text) [ Some x ↦ acting x c | None ↦ Err (Undefined, c) ]

-- an object is executed
abbrev pub executing : PsObj → PsCore → Turn
executing (Name t true) c = naming (bytes_of c.store t) c
executing x c = acting x c

-- an object is met in a procedure or a text; one that is a procedure itself is pushed
abbrev pub meeting : PsObj → PsCore → Turn
meeting (Array a true) c = alone (at c (pushing (Array a true) c))
meeting x c = executing x c
