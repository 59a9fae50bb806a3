-- Reading a declared name with its initializer token by token. It ends before the token behind it.
use Rattle.std.specs.Prelude.{Bool, true, false, if◌then◌else◌, Option, Some, None}
use Rattle.c_symbol.specs.declared.terminal.Terminal.{Terminal}
use Rattle.c_symbol.specs.declared.symbol.AssignOp.TheVariants.{Plain}
use Rattle.c_symbol.specs.declared.symbol.BinaryOp.TheVariants.{Assign}
use Rattle.c_symbol.specs.declared.symbol.Symbol.{Symbol}
use Rattle.c_symbol.specs.declared.symbol.Symbol.TheVariants.{Binary}
use Rattle.c_trees.specs.Declarators.{DeclaratorTree}
use Rattle.c_trees.specs.Initializers.{InitialTree}
use Rattle.c_declaration.specs.declared.built.Built.{Built}
use Rattle.c_declaration.specs.declared.state.DeclaratorParser.{DeclaratorParser}
use Rattle.c_declaration.specs.declared.state.InitialParser.{InitialParser}
use Rattle.c_declaration.specs.declared.state.NameParser.{NameParser}
use Rattle.c_declaration.specs.declared.state.NameParser.TheVariants.{Declarator, Initial}
use Rattle.c_declaration.specs.declared.state.ReadName.{ReadName}
use Rattle.c_declaration.specs.declared.state.ReadName.TheVariants.{Bare, With}
use Rattle.c_declaration.specs.declared.step.Step.{Step}
use Rattle.c_declaration.specs.declared.step.Step.TheVariants.{Goes, Ends}
use Rattle.c_declaration.specs.DeclaratorReading.{declarator_offer, declarator_start}
use Rattle.c_declaration.specs.InitialReading.{initial_offer, initial_start}

abbrev pub Next : Type 0
Next = Option (Step NameParser ReadName)

abbrev pub goes : NameParser → Next
goes p = Some (Goes p)

abbrev pub is_equals : Symbol → Bool
is_equals (Binary (Assign Plain)) = true
is_equals _ = false

abbrev pub behind_declarator : Symbol → Option (Built DeclaratorTree) → Next
behind_declarator symbol d = if is_equals symbol then goes (Initial d initial_start) else Some (Ends (Bare d))

abbrev pub declarator_offered : Symbol → Option (Step DeclaratorParser (Option (Built DeclaratorTree))) → Next
declarator_offered symbol None = None
declarator_offered symbol (Some (Goes q)) = goes (Declarator q)
declarator_offered symbol (Some (Ends d)) = behind_declarator symbol d

abbrev pub initial_offered : Option (Built DeclaratorTree) → Option (Step InitialParser (Option (Built InitialTree))) → Next
initial_offered d None = None
initial_offered d (Some (Goes q)) = goes (Initial d q)
initial_offered d (Some (Ends i)) = Some (Ends (With d i))

-- one token more, or the declared name before it
abbrev pub name_offer : NameParser → Terminal → Next
name_offer (Declarator p) t = declarator_offered t.symbol (declarator_offer p t)
name_offer (Initial d p) t = initial_offered d (initial_offer p t)

-- nothing was read
abbrev pub name_start : NameParser
name_start = Declarator declarator_start
