-- What remains to be done of an activation's tree.
use Rattle.std.specs.Prelude.{ℕ, ◌+◌, List, [], ◌∷◌, ◌++◌, Bool, true, false, Option, Some, None, length, if◌then◌else◌}
use Rattle.c_tree.specs.declared.types.CType.{CType}
use Rattle.c_tree.specs.declared.typed.BinaryOp.{BinaryOp}
use Rattle.c_tree.specs.declared.typed.UnaryOp.{UnaryOp}
use Rattle.c_tree.specs.declared.typed.Typed.{Typed}
use Rattle.c_tree.specs.declared.typed.Pointed.{Pointed}
use Rattle.c_tree.specs.declared.typed.DeclaredLocal.{DeclaredLocal}
use Rattle.c_tree.specs.declared.typed.Stmt.{Stmt}
use Rattle.c_tree.specs.declared.typed.Stmt.TheVariants.{While', Do', For', Case', Default'}
use Rattle.c_tree.specs.declared.rows.Program.{Program}
use Rattle.c_tree.specs.declared.rows.Function.{Function}
use Rattle.c_store.specs.Store.{Value}
use Rattle.c_store.specs.Frames.{Here, ActivationRecord}
use Rattle.c_source.specs.Blocks.{local_type, zero_as}
use Rattle.c_tree.specs.Points.{first_of}
use Rattle.c_tree.specs.Rows.{declared_in, statements_in}

-- a label of a `switch`: its constant, and the statements from it on
pub record Label : Type 0 where
  pub constant : ℕ
  pub from : List Stmt

pub data Item : Type 0 where
  -- an expression's value, and the place of an lvalue
  Eval Locate : (e : Typed) → Item
  Push : (v : Value) → Item
  Bound : (local : ℕ) → Item
  -- on the values computed last: reading, converting and writing at a type
  Load Convert Store Copy : (t : CType) → Item
  -- a compound assignment, whose value is the new one or the old one
  Update : (t : CType) (op : BinaryOp) (s : CType) (new : Bool) → Item
  Change : (op : UnaryOp) (t : CType) → Item
  Combine : (op : BinaryOp) (s t : CType) → Item
  Offset : (bytes : ℕ) → Item
  Use Discard Truth : Item
  AndThen OrElse : (e : Typed) → Item
  Pick : (t : CType) (a b : Typed) → Item
  -- where the two ways of a choice meet
  Joined : Item
  Enter : (callee arguments : ℕ) → Item
  -- statements
  Run : (s : Stmt) → Item
  Stop : (point : ℕ) → Item
  Choose : (a : Stmt) (b : List Stmt) → Item
  Open : (ds : List DeclaredLocal) → Item
  Close : (scope : ℕ) → Item
  -- a loop's test was computed; a loop's body has ended. The number of locals in scope around the loop.
  Turn Again : (loop : Stmt) (scope : ℕ) → Item
  Select : (body : Stmt) (scope : ℕ) → Item
  Seek : (v : ℕ) (next : Label) (labels : List Label) (default : List Stmt) (scope : ℕ) → Item
  Switched : (scope : ℕ) → Item
  GiveBack Leave : Item

-- an outer activation, with the values computed, last first, and what remains to be done
pub record Activation : Type 0 where
  pub activation : ActivationRecord
  pub values : List Value
  pub control : List Item

pub record State : Type 0 where
  pub here : Here
  pub values : List Value
  pub control : List Item
  pub outer : List Activation

abbrev pub runs_of : List Stmt → List Item
runs_of [] = []
runs_of (s ∷ rest) = Run s ∷ runs_of rest

abbrev pub evals_of : List Typed → List Item
evals_of [] = []
evals_of (e ∷ rest) = Eval e ∷ evals_of rest

-- the initializers of a block, which are assignments at their declarators
abbrev pub init_of : Program → ℕ → ℕ → Option Pointed → List Item
init_of p f x None = []
init_of p f x (Some q) = Stop q.point ∷ Bound x ∷ Eval q.e ∷ Store (local_type p f x) ∷ Discard ∷ []

abbrev pub inits_of : Program → ℕ → List DeclaredLocal → List Item
inits_of p f [] = []
inits_of p f (d ∷ ds) = init_of p f d.local d.init ++ inits_of p f ds

-- the same of a present part of a `for`, whose value is dropped
abbrev pub part_of : Option Pointed → List Item
part_of None = []
part_of (Some q) = Stop q.point ∷ Eval q.e ∷ Discard ∷ []

-- ---- loops

abbrev pub test_of : Option Pointed → Stmt → Stmt → ℕ → List Item
test_of None body s n = Run body ∷ Again s n ∷ []
test_of (Some q) body s n = Stop q.point ∷ Eval q.e ∷ Turn s n ∷ []

-- what begins a loop, what comes after its body, and what comes where its test has passed
abbrev pub loop_begins : Stmt → ℕ → List Item
loop_begins (While' at q b s) n = test_of (Some q) s (While' at q b s) n
loop_begins (Do' at b s q) n = Run s ∷ Again (Do' at b s q) n ∷ []
loop_begins (For' at i q t b s) n = part_of i ++ test_of q s (For' at i q t b s) n
loop_begins s n = []

abbrev pub loop_goes_on : Stmt → ℕ → List Item
loop_goes_on (While' at q b s) n = test_of (Some q) s (While' at q b s) n
loop_goes_on (Do' at b s q) n = test_of (Some q) s (Do' at b s q) n
loop_goes_on (For' at i q t b s) n = part_of t ++ test_of q s (For' at i q t b s) n
loop_goes_on s n = []

abbrev pub loop_turns : Stmt → ℕ → List Item
loop_turns (While' at q b s) n = Run s ∷ Again (While' at q b s) n ∷ []
loop_turns (Do' at b s q) n = Run s ∷ Again (Do' at b s q) n ∷ []
loop_turns (For' at i q t b s) n = Run s ∷ Again (For' at i q t b s) n ∷ []
loop_turns s n = []

-- a loop or `switch` round what is being done: the number of locals in scope around it, and what remains
pub record Round : Type 0 where
  pub scope : ℕ
  pub control : List Item

-- where a `break` goes on: after the innermost loop or `switch`
abbrev pub broken : List Item → Option Round
broken [] = None
broken (Again s n ∷ k) = Some (record { scope = n; control = k })
broken (Switched n ∷ k) = Some (record { scope = n; control = k })
broken (_ ∷ k) = broken k

-- where a `continue` goes on: at the end of the innermost loop's body
abbrev pub continued : List Item → Option Round
continued [] = None
continued (Again s n ∷ k) = Some (record { scope = n; control = Again s n ∷ k })
continued (_ ∷ k) = continued k

-- ---- labels, which stand directly before a statement of the block

abbrev pub labels_of : Stmt → List Stmt → List Label
labels_of (Case' at c _ s) from = record { constant = c; from = from } ∷ labels_of s from
labels_of (Default' at _ s) from = labels_of s from
labels_of s from = []

abbrev pub is_default : Stmt → Bool
is_default (Case' at c _ s) = is_default s
is_default (Default' at _ s) = true
is_default s = false

abbrev pub labels_in : List Stmt → List Label
labels_in [] = []
labels_in (s ∷ rest) = labels_of s (s ∷ rest) ++ labels_in rest

-- a value is compared with the next label, or there is none left and `default` is chosen
abbrev pub seeks : ℕ → List Label → List Stmt → (scope : ℕ) → List Item → List Item
seeks v [] default n k = runs_of default ++ Switched n ∷ k
seeks v (l ∷ ls) default n k = Seek v l ls default n ∷ k

-- the statements from `default` on, or none
abbrev pub default_in : List Stmt → List Stmt
default_in [] = []
default_in (s ∷ rest) = if is_default s then s ∷ rest else default_in rest

-- ---- functions

-- the number of locals of a function's outermost block, parameters among them
abbrev pub outermost_of : Function → ℕ
outermost_of f = f.params + length (declared_in f.body)

-- What remains to be done of function number f once its parameters are in place. Its first point is at `{`, and its last at `}`. A function whose end is reached gives 0.
abbrev pub body_of : Program → ℕ → Function → List Item
body_of p n f =
    Stop (first_of f.points) ∷ Open (declared_in f.body) ∷ (inits_of p n (declared_in f.body)
    ++ (runs_of (statements_in f.body) ++ Push (zero_as f.result) ∷ GiveBack ∷ []))
