-- Values of the shape that their type has: a number, or an address. And runs that keep to it.
use Rattle.std.specs.Prelude.{◌≡◌, ℕ, Bool, true, false, List, Option, Some, None, Result, Ok, Err}
use Rattle.std.specs.List.{AllByRecursion}
use Rattle.ldb_words.specs.declared.kinds.Kind.{Kind}
use Rattle.ldb_words.specs.declared.kinds.Kind.TheVariants.{Byte, Word, Address}
use Rattle.c_tree.specs.declared.rows.Program.{Program}
use Rattle.runs.specs.Runs.{Why, Reason, Stale, IllTyped, Course, Going, Comes, Stopped, Exited, Failed, Moment, Outcome, Reached, Breaks, after}
use Rattle.c_store.specs.Store.{Value, Number, Null, At, World}
use Rattle.c_store.specs.Frames.{ActivationRecord, bound}
use Rattle.c_store.specs.Assigned.{Assignment, History, all_assigned}
use Rattle.c_source.specs.Control.{State}
use Rattle.c_source.specs.Source.{step}
use Rattle.c_source.specs.Begin.{begin, acted}
use Rattle.c_typing.specs.Declarations.{has}
use Rattle.c_typing.specs.Statements.{locals_at}
use Rattle.c_typing.specs.Programs.{KeepsRules}

-- the null pointer, or a pointer into an object, and no number
abbrev pub is_place : Value → Bool
is_place (Number n) = false
is_place Null = true
is_place (At o i) = true

abbrev pub is_address : Kind → Bool
is_address Byte = false
is_address Word = false
is_address Address = true

-- a leaf of this kind may hold the value
abbrev pub Fits : Kind → Value → Type 0
Fits k v = is_place v ≡ is_address k

-- the assignments of a debugger give each leaf a value that it may hold
abbrev pub AreFitting : List Assignment → Type 0
AreFitting all = AllByRecursion (λ a. Fits a.kind a.value) all

abbrev pub IsFitting : History → Type 0
IsFitting h = AllByRecursion AreFitting h

-- a run goes on, ends, or is undefined for a reason of C's: no value has the wrong shape, and none is missing
abbrev pub KeepsShapes : Outcome State → Type 0
KeepsShapes (Reached m) = Unit {0}
KeepsShapes (Breaks (Reason u)) = Unit {0}
KeepsShapes (Breaks Stale) = Unit {0}
KeepsShapes (Breaks IllTyped) = ⊥

-- a moment before the end that the run of an accepted program comes to, on this input and with assignments of a debugger that fit
abbrev pub IsMoment : Program → List ℕ → History → Moment State → Type 0
IsMoment p input h m = KeepsRules p × IsFitting h × ((n : ℕ) × (after State (step p) (acted h) n 0 (begin p input) ≡ Reached m)) × (m.exit ≡ None)

-- a run to an event: again no value has the wrong shape
abbrev pub CourseKeepsShapes : Course State → Type 0
CourseKeepsShapes (Going c s) = Unit {0}
CourseKeepsShapes (Comes c (Stopped q s)) = Unit {0}
CourseKeepsShapes (Comes c (Exited v s)) = Unit {0}
CourseKeepsShapes (Comes c (Failed (Reason u))) = Unit {0}
CourseKeepsShapes (Comes c (Failed Stale)) = Unit {0}
CourseKeepsShapes (Comes c (Failed IllTyped)) = ⊥

-- there is a result, or a reason of C's for none
abbrev pub HasMeaning : {A : Type 0} → Result A Why → Type 0
HasMeaning (Ok x) = Unit {0}
HasMeaning (Err (Reason u)) = Unit {0}
HasMeaning (Err Stale) = Unit {0}
HasMeaning (Err IllTyped) = ⊥

-- one world comes from another by assignments to leaves of values that they may hold
abbrev pub IsAssigned : World → World → Type 0
IsAssigned w w' = (all : List Assignment) × (w' ≡ all_assigned all w) × AreFitting all

-- these locals have objects in an activation
abbrev pub AreLive : List ℕ → ActivationRecord → Type 0
AreLive v a = (x : ℕ) → has v x ≡ true → (o : ℕ) × (bound x a.locals ≡ Some o)

abbrev AreLiveAt : Program → ActivationRecord → Option ℕ → Type 0
AreLiveAt p a None = ⊥
AreLiveAt p a (Some q) = AreLive (locals_at p q) a

-- an activation has passed a stopping point, and each local in scope at the one that it passed last has an object
abbrev pub HasItsLocals : Program → ActivationRecord → Type 0
HasItsLocals p a = AreLiveAt p a a.point
