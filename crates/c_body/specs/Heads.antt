-- What stands before the statement of a loop, a `switch` or a label, once it is checked.
use Rattle.std.specs.Prelude.{◌≡◌, Option, Result}
use Rattle.c_trees.specs.Statements.{StatementTree}
use Rattle.c_trees.specs.declared.statement.Head.{Head}
use Rattle.c_trees.specs.declared.statement.Head.TheVariants as head
use Rattle.c_tree.specs.declared.typed.Stmt.{Stmt}
use Rattle.c_tree.specs.declared.typed.Stmt.TheVariants as typed
use Rattle.c_typing.specs.Plain.{Plain}
use Rattle.c_judge.specs.declared.fault.Fault.{Fault}
use Rattle.c_judge.specs.Elaboration.{site_of}
use Rattle.c_body.specs.declared.around.Around.{Around as Stands}
use Rattle.c_body.specs.declared.heads.CheckedHead.{CheckedHead}
use Rattle.c_body.specs.declared.heads.CheckedHead.TheVariants as checked
use Rattle.c_scope.specs.Environment.{Environment}
use Rattle.c_mentions.specs.Literals.{in_head}
use Rattle.c_body.specs.Stops.{at_head}
use Rattle.c_body.specs.Calls.{called_head}
use Rattle.c_body.specs.Becoming.{Before, IsStop, IsStopOrNone, IsLabel, past_part}
use Rattle.c_body.specs.Bodies.{Around, head_found}
use Rattle.c_body.specs.Walks.{Walked, Passes, before_of}

abbrev pub around_of : Stands → Around
around_of a = record { loop = a.repeats; breaks = a.breaks; switch = a.switch; labels = a.labels; body = a.body }

-- what a head becomes
abbrev pub IsHead : Environment → Before → Head → CheckedHead → Type 0
IsHead v c (head.While at e) (checked.While site q) = (site ≡ site_of at) × IsStop v c e q
IsHead v c (head.For at i e k) (checked.For site x y z) =
    (site ≡ site_of at) × IsStopOrNone v c i x × IsStopOrNone v (past_part c i) e y × IsStopOrNone v (past_part (past_part c i) e) k z
IsHead v c (head.Switch at e) (checked.Switch site q) = (site ≡ site_of at) × IsStop v c e q
IsHead v c (head.Case at e) (checked.Case site n) = (site ≡ site_of at) × IsLabel v e n
IsHead v c (head.Default at) (checked.Default site) = site ≡ site_of at
IsHead v c _ _ = ⊥

-- a walk passes the head of this statement
abbrev pub PassesHead : Plain → Around → Head → StatementTree → Walked → Result (Option CheckedHead) Fault → Walked → Type 0
PassesHead t a h s w r u = Passes w (head_found t w.here a h s) w.here (at_head w.here h) (in_head h) (called_head w.here h) (IsHead w.here (before_of w) h) r u

-- a head with the statement behind it
abbrev pub HasHead : CheckedHead → Stmt → Stmt → Type 0
HasHead (checked.While site q) s (typed.While' x p _ t) = (x ≡ site) × (p ≡ q) × (t ≡ s)
HasHead (checked.For site i e k) s (typed.For' x j f l _ t) = (x ≡ site) × (j ≡ i) × (f ≡ e) × (l ≡ k) × (t ≡ s)
HasHead (checked.Switch site q) s (typed.Switch' x p _ t) = (x ≡ site) × (p ≡ q) × (t ≡ s)
HasHead (checked.Case site n) s (typed.Case' x m _ t) = (x ≡ site) × (m ≡ n) × (t ≡ s)
HasHead (checked.Default site) s (typed.Default' x _ t) = (x ≡ site) × (t ≡ s)
HasHead _ s _ = ⊥
