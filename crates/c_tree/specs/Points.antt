-- The stopping points of a function, as the tree keeps them.
use Rattle.std.specs.Prelude.{◌≡◌, ℕ, List, [], ◌∷◌, ◌++◌, Option, Some, None}
use Rattle.c_tree.specs.declared.typed.Pointed.{Pointed}
use Rattle.c_tree.specs.declared.typed.DeclaredLocal.{DeclaredLocal}
use Rattle.c_tree.specs.declared.typed.Stmt.{Stmt, Row_of-Stmt, end_of-Stmt, more_of-Stmt, Held-Stmt-If-3, None', Some'}
use Rattle.c_tree.specs.declared.typed.Stmt.TheVariants.{Value, Block', If', While', Do', For', Switch', Case', Default', Break, Continue, Return}
use Rattle.c_tree.specs.declared.rows.Function.{Function}

abbrev point_of : Option Pointed → List ℕ
point_of None = []
point_of (Some q) = q.point ∷ []

-- each initialized declarator
abbrev points_of_inits : List DeclaredLocal → List ℕ
points_of_inits [] = []
points_of_inits (d ∷ ds) = point_of d.init ++ points_of_inits ds

-- each expression statement, controlling expression, present part of a `for` and `return`, in source order
abbrev mutual
  pub points_in : Stmt → List ℕ
  points_in (Value at e) = point_of e
  points_in (Block' at ds _ row l c) = points_of_inits ds ++ points_in_row row
  points_in (If' at q _ a b) = q.point ∷ (points_in a ++ points_in_else b)
  points_in (While' at q _ s) = q.point ∷ points_in s
  points_in (Do' at _ s q) = points_in s ++ q.point ∷ []
  points_in (For' at i q t _ s) = point_of i ++ point_of q ++ point_of t ++ points_in s
  points_in (Switch' at q _ s) = q.point ∷ points_in s
  points_in (Case' at c _ s) = points_in s
  points_in (Default' at _ s) = points_in s
  points_in (Break at) = []
  points_in (Continue at) = []
  points_in (Return at q e) = q ∷ []

  pub points_in_row : {m : _} → Row_of-Stmt m → List ℕ
  points_in_row end_of-Stmt = []
  points_in_row (more_of-Stmt s rest) = points_in s ++ points_in_row rest

  pub points_in_else : Held-Stmt-If-3 → List ℕ
  points_in_else None' = []
  points_in_else (Some' _ s) = points_in s

-- a function's points: its `{`, those of its body, and its `}`
abbrev pub HasItsPoints : Function → Type 0
HasItsPoints f = (first last : ℕ) × (f.points ≡ first ∷ (points_in f.body ++ last ∷ []))

-- the first and the last point of a function, those of its `{` and its `}`
abbrev pub first_of : List ℕ → ℕ
first_of [] = 0
first_of (q ∷ qs) = q

abbrev pub last_of : List ℕ → ℕ
last_of [] = 0
last_of (q ∷ []) = q
last_of (q ∷ r ∷ qs) = last_of (r ∷ qs)
