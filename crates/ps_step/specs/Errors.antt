-- The names of errors.
use Rattle.std.specs.Prelude.{ℕ, List, codes}
use Rattle.ps_step.specs.declared.fault.PsError.{PsError}
use Rattle.ps_step.specs.declared.fault.PsError.TheVariants as ps

abbrev pub error_text : PsError → List ℕ
error_text ps.StackUnderflow = codes "stackunderflow"
error_text ps.StackOverflow = codes "stackoverflow"
error_text ps.DictStackUnderflow = codes "dictstackunderflow"
error_text ps.DictStackOverflow = codes "dictstackoverflow"
error_text ps.ExecStackOverflow = codes "execstackoverflow"
error_text ps.TypeCheck = codes "typecheck"
error_text ps.Undefined = codes "undefined"
error_text ps.RangeCheck = codes "rangecheck"
error_text ps.UndefinedResult = codes "undefinedresult"
error_text ps.UnmatchedMark = codes "unmatchedmark"
error_text ps.InvalidExit = codes "invalidexit"
error_text ps.InvalidAccess = codes "invalidaccess"
error_text ps.SyntaxError = codes "syntaxerror"
error_text ps.LimitCheck = codes "limitcheck"
error_text ps.Overflow = codes "overflow"
error_text ps.Division = codes "division"
error_text ps.Shift = codes "shift"
error_text ps.Pointer = codes "pointer"
