-- What is asked of a program so that its functions keep to the rules.
use Rattle.std.specs.Prelude.{◌≡◌, ◌<◌, ℕ, false, List, [], length, Some, None, slice_get}
use Rattle.c_tree.specs.declared.types.CType.TheVariants.{Struct}
use Rattle.c_tree.specs.declared.rows.Program.{Program}
use Rattle.c_typing.specs.Plain.{Plain}
use Rattle.c_typing.specs.Written.{IsWritten}
use Rattle.c_typing.specs.Expressions.{Function}
use Rattle.c_typing.specs.Declarations.{scope_at}
use Rattle.c_scope.specs.Environment.{Row}
use Rattle.c_linkage.specs.Names.{is_built_in}
use Rattle.c_file.specs.Files.{State}
use Rattle.c_linkage.specs.Wanted.{Called}

-- each struct is within its limits
abbrev pub StructsAreWritten : Program → Type 0
StructsAreWritten p = (n : ℕ) → n < length p.defs → IsWritten p.defs (Struct n)

-- What is called by a name is, in the program, the function that the name denotes in its file.
abbrev pub CallsAreThere : Program → State → Type 0
CallsAreThere p q = (i : ℕ) (c : Called) → slice_get q.calls i ≡ Some c → (n : ℕ) (r : Row) (t : Plain) (ts : List Plain) → slice_get q.here.names n ≡ Some r → r.local ≡ None → r.name ≡ c.name → (is_built_in r.name ≡ false → r.unit ≡ c.unit)
    → r.denoted ≡ Function t ts → (f : ℕ) → slice_get (scope_at p f []).names n ≡ Some (Function t ts)
