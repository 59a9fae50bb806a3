-- Where the walk through the block of a function begins, and how it ends.
use Rattle.std.specs.Prelude.{◌≡◌, List, [], ◌∷◌, ◌++◌, ℕ, Option, Some, None, Result, Ok, Err}
use Rattle.ldb_words.specs.declared.text.Text.{Text}
use Rattle.c_lex.specs.declared.token.Place.{Place}
use Rattle.c_tree.specs.declared.typed.Stmt.{Stmt}
use Rattle.c_scope.specs.Environment.{Environment}
use Rattle.c_body.specs.Becoming.{Before}
use Rattle.c_body.specs.Stops.{stop}
use Rattle.c_body.specs.Walks.{Walked}

abbrev pub begins : Environment → Before → Walked
begins v c = record { here = v; first = c; stops = []; strings = []; calls = []; unknown = None }

abbrev pub reaches : Walked → Place → Walked
reaches w at = record w { stops = w.stops ++ stop w.here at ∷ [] }

-- the block, or the first name in it that is not declared
abbrev pub IsTold : Option Text → Option Stmt → Result Stmt Text → Type 0
IsTold (Some name) z r = r ≡ Err name
IsTold None (Some z) r = r ≡ Ok z
IsTold None None r = ⊥
