-- The structs that are open, as the code keeps them.
use Rattle.std.specs.Prelude.{List, [], ◌∷◌, Result, Ok, Err}
use Rattle.c_trees.specs.declared.declaration.MemberPart.{MemberPart}
use Rattle.c_tree.specs.declared.types.StructDef.{StructDef}
use Rattle.c_typing.specs.Plain.{Plain}
use Rattle.c_judge.specs.declared.fault.Fault.{Fault}
use Rattle.c_judge.specs.declared.fault.Fault.TheVariants as fault
use Rattle.c_judge.specs.Answers.{Answer, Unknown, Broken}
use Rattle.c_struct.specs.declared.members.OpenStruct.{OpenStruct}
use Rattle.c_struct.specs.declared.specifying.Nesting.{Nesting}
use Rattle.c_scope.specs.Environment.{Environment}
use Rattle.c_struct.specs.Structs.{Open}
use Rattle.c_struct.specs.Opened.{HasNames}
use Rattle.c_struct.specs.Laying.{open_of}
use Rattle.c_struct.specs.Specifies.{Inside}

-- parts that do not close each struct
abbrev pub unbalanced : Fault
unbalanced = fault.Rule 3 0

-- the last of some structs first, before others
abbrev pub last_first : List Open → List OpenStruct → List Open
last_first behind [] = behind
last_first behind (o ∷ os) = last_first (open_of o ∷ behind) os

-- the innermost first
abbrev pub opens_of : Nesting → List Open
opens_of n = open_of n.inner ∷ last_first [] n.outer.items

abbrev pub AllNamed : List OpenStruct → Type 0
AllNamed [] = Unit {0}
AllNamed (o ∷ os) = HasNames o × AllNamed os

abbrev pub AreNamed : Nesting → Type 0
AreNamed n = HasNames n.inner × AllNamed n.outer.items

-- A part is passed: what comes of the parts behind it comes of all. Or it is refused, whatever stands behind it.
abbrev pub Passes : List StructDef → Environment → List Open → MemberPart → Environment → Result Nesting Fault → Type 0
Passes others v os p w (Ok n) = AreNamed n × ((ps : List MemberPart) (a : Answer Plain) (x : Environment) → Inside others w (opens_of n) ps a x → Inside others v os (p ∷ ps) a x)
Passes others v os p w (Err (fault.Unknown name)) = (ps : List MemberPart) → (x : Environment) × Inside others v os (p ∷ ps) (Unknown name) x
Passes others v os p w (Err (fault.Rule r at)) = (ps : List MemberPart) → (x : Environment) × Inside others v os (p ∷ ps) (Broken r at) x
Passes others v os p w (Err fault.NoMemory) = Unit {0}
