-- The types with which names may stand at file scope (C90 6.5, 6.7.2).
use Rattle.std.specs.Prelude.{ℕ, zero, Bool, true, false, if◌then◌else◌, Option, Some, None}
use Rattle.c_trees.specs.Initializers.{InitialTree}
use Rattle.c_trees.specs.declared.declaration.Storage.{Storage}
use Rattle.c_trees.specs.declared.declaration.Storage.TheVariants as storage
use Rattle.c_typing.specs.Plain.{Plain, Array, Struct, is_complete}
use Rattle.c_typing.specs.Expressions as typing
use Rattle.c_typing.specs.Expressions.{Denoted}
use Rattle.c_judge.specs.Answers.{Answer, Known, Broken, ◌then◌}
use Rattle.c_judge.specs.Judgement.{limited}
use Rattle.c_scope.specs.Findings.{Finding, holds}
use Rattle.c_scope.specs.Environment.{Environment}
use Rattle.c_scope.specs.Declarators.{Shape, Object, Function, denoted}
use Rattle.c_initial.specs.Initials.{with_bound}

abbrev pub is_static : Storage → Bool
is_static storage.Static = true
is_static _ = false

abbrev pub is_extern : Storage → Bool
is_extern storage.Extern = true
is_extern _ = false

-- 1, 2, 9. An object's type is complete, but that an `extern` declaration may leave the bound to another; a function has no initializer.
abbrev pub may_stand : Environment → Bool → Plain → (at : ℕ) → Finding
may_stand v extern (Array t zero) at = holds extern 2 at
may_stand v extern t at = holds (is_complete v.defs t) 1 at

abbrev pub object_type : Plain → Option InitialTree → Plain
object_type t None = t
object_type t (Some i) = with_bound t i

-- a complete type is within its limits
abbrev pub in_limits : Environment → Plain → (at : ℕ) → Answer Plain
in_limits v t at = if is_complete v.defs t then limited v.defs at t else Known t

-- an object of this type, whose bound its initializer may have set
abbrev pub object_standing : Environment → Storage → Plain → (at : ℕ) → Answer Denoted
object_standing v s t at = in_limits v t at then λ u. may_stand v (is_extern s) t at then λ _. Known (typing.Object t false)

abbrev pub standing : Environment → Storage → Option InitialTree → (at : ℕ) → Shape → Answer Denoted
standing v s i at (Object t) = object_standing v s (object_type t i) at
standing v s None at (Function t ps) = Known (denoted false (Function t ps))
standing v s (Some i) at (Function t ps) = Broken 9 at

abbrev pub type_or : Denoted → Plain
type_or (typing.Object t r) = t
type_or d = Array (Struct 0) 0
