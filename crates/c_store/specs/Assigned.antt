-- Assignments that a debugger makes at the stops of a run.
use Rattle.std.specs.Prelude.{ℕ, suc, zero, List, [], ◌∷◌, Result, Ok, Err}
use Rattle.ldb_words.specs.declared.kinds.Kind.{Kind}
use Rattle.runs.specs.Runs.{Why}
use Rattle.c_store.specs.Store.{Value, World, store}

-- a leaf of a kind at a place, and its new value
pub record Assignment : Type 0 where
  pub kind : Kind
  pub place : Value
  pub value : Value

-- where there is no such leaf nothing changes
abbrev pub stored_or : World → Result World Why → World
stored_or w (Ok w') = w'
stored_or w (Err e) = w

abbrev pub all_assigned : List Assignment → World → World
all_assigned [] w = w
all_assigned (a ∷ rest) w = all_assigned rest (stored_or w (store w a.kind a.place a.value))

-- the assignments made at each stop, in order
abbrev pub History : Type 0
History = List (List Assignment)

abbrev pub at_stop : History → ℕ → List Assignment
at_stop [] i = []
at_stop (a ∷ rest) zero = a
at_stop (a ∷ rest) (suc i) = at_stop rest i
