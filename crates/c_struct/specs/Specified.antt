-- What the code answers of the type that a declaration begins with. Behind a rule that is broken nothing is asked of what is declared.
use Rattle.std.specs.Prelude.{List, Result, Ok, Err}
use Rattle.c_trees.specs.declared.declaration.FileSpec.{FileSpec}
use Rattle.c_tree.specs.declared.types.CType.{CType}
use Rattle.c_tree.specs.declared.types.StructDef.{StructDef}
use Rattle.c_typing.specs.Plain.{Plain, plain}
use Rattle.c_judge.specs.declared.fault.Fault.{Fault}
use Rattle.c_judge.specs.declared.fault.Fault.TheVariants as fault
use Rattle.c_judge.specs.Answers.{Answer, Known, Unknown, Broken}
use Rattle.c_scope.specs.Environment.{Environment}
use Rattle.c_struct.specs.Specifies.{Specifies}

abbrev pub Answers : (Answer Plain → Environment → Type 0) → Result CType Fault → Environment → Type 0
Answers P (Ok t) w = P (Known (plain t)) w
Answers P (Err (fault.Unknown name)) w = (u : Environment) × P (Unknown name) u
Answers P (Err (fault.Rule r at)) w = (u : Environment) × P (Broken r at) u
Answers P (Err fault.NoMemory) w = Unit {0}

abbrev pub IsSpecified : List StructDef → Environment → FileSpec → Result CType Fault → Environment → Type 0
IsSpecified others v s r w = Answers (Specifies others v s) r w
