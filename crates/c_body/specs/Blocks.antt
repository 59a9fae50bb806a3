-- Blocks as far as they are checked.
use Rattle.std.specs.Prelude.{◌≡◌, List, [], ◌∷◌, ◌++◌, Vec, Option, Result, Ok, Err}
use Rattle.std.specs.declared.alloc.Global.{Global}
use Rattle.c_trees.specs.Statements.{StatementTree, Begun, Closed, with_locals, with_statements}
use Rattle.c_tree.specs.declared.typed.Site.{Site}
use Rattle.c_tree.specs.declared.typed.Stmt.{Stmt}
use Rattle.c_tree.specs.declared.typed.DeclaredLocal.{DeclaredLocal}
use Rattle.c_typing.specs.Plain.{Plain}
use Rattle.c_judge.specs.declared.fault.Fault.{Fault}
use Rattle.c_judge.specs.declared.fault.Fault.TheVariants.{NoMemory}
use Rattle.c_body.specs.declared.blocks.Braces.{Braces}
use Rattle.c_body.specs.declared.blocks.Inside.{Inside}
use Rattle.c_mentions.specs.Literals.{in_statement}
use Rattle.c_body.specs.Stops.{stops}
use Rattle.c_body.specs.Calls.{calls_in}
use Rattle.c_body.specs.Becoming.{Becomes, Holds}
use Rattle.c_body.specs.Bodies.{Around, after, found}
use Rattle.c_body.specs.Walks.{Walked, Passes, before_of}

-- what stands between braces, and the block
abbrev pub inside_of : Braces → StatementTree
inside_of b = with_statements (with_locals (Begun b.opening) b.locals.now) b.statements.now

abbrev pub block_of : Braces → StatementTree
block_of b = Closed (inside_of b) b.closing

-- a walk passes a statement
abbrev pub PassesStatement : Plain → Around → StatementTree → Walked → Result (Option Stmt) Fault → Walked → Type 0
PassesStatement t a s w r u = Passes w (found t w.here a s) (after w.here s) (stops w.here s) (in_statement s) (calls_in w.here s) (Becomes w.here (before_of w) s) r u

-- a walk passes a block as far as it stands
abbrev pub PassesInside : Plain → Around → Site → StatementTree → Walked → Result (Option Inside) Fault → Walked → Type 0
PassesInside t a site b w r u =
    Passes w (found t w.here a b) (after w.here b) (stops w.here b) (in_statement b) (calls_in w.here b) (λ z. Holds w.here (before_of w) b site z.locals.items z.statements.items) r u

-- the items of a `Vec`, where there is memory
abbrev pub Grows : {T : Type 0} → List T → Result (Vec T Global) Fault → Type 0
Grows xs (Ok v) = v.items ≡ xs
Grows xs (Err e) = e ≡ NoMemory

-- a block with the locals of one declaration more, or with one statement more
abbrev pub AddsLocals : Inside × Vec DeclaredLocal Global → Inside → Type 0
AddsLocals p b = (b.locals.items ≡ p.0.locals.items ++ p.1.items) × (b.statements.items ≡ p.0.statements.items)

abbrev pub AddsStatement : Inside × Stmt → Inside → Type 0
AddsStatement p b = (b.locals.items ≡ p.0.locals.items) × (b.statements.items ≡ p.0.statements.items ++ p.1 ∷ [])
