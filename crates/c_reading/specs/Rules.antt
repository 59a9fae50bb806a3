-- Readings that keep to the typing rules.
use Rattle.std.specs.Prelude.{◌≡◌, ℕ, List, Some}
use Rattle.c_tree.specs.declared.typed.Typed.{Typed}
use Rattle.c_tree.specs.declared.rows.Program.{Program}
use Rattle.c_source.specs.Meaning.{IsPlain, IsAssignment}
use Rattle.c_typing.specs.Statements.{locals_at, function_at}
use Rattle.c_reading.specs.Scope.{as_completed, scope_with}
use Rattle.c_reading.specs.Kept.{KeepsRules}
use Rattle.c_reading.specs.Readings.{Use, AsValue, AsAssignment, Reading, Read}

-- an expression without assignments and calls, or a plain assignment
abbrev pub IsOfUse : Use → Typed → Type 0
IsOfUse AsValue e = IsPlain e
IsOfUse AsAssignment e = IsAssignment e

-- A text at a stopping point is refused, or read as an expression that keeps to the rules among the names there, with types as any file completes them.
abbrev pub ReadsTyped : Program → Use → (point : ℕ) → List ℕ → Reading → Type 0
ReadsTyped p u q text x = (f : ℕ) (e : Typed) → function_at p q ≡ Some f → x ≡ Read e → IsOfUse u e × KeepsRules (scope_with p f (locals_at p q) (as_completed p)) e
