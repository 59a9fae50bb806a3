-- Which stopping point a place of a breakpoint means.
use Rattle.std.specs.Prelude.{ℕ, suc, List, [], ◌∷◌, Bool, true, not, ◌&&◌, ◌==◌, Option, Some, None, filter, bytes_eq, if◌then◌else◌}
use Rattle.c_tree.specs.declared.rows.Program.{Program}
use Rattle.c_tree.specs.declared.rows.Function.{Function}
use Rattle.c_tree.specs.declared.rows.Point.{Point}
use Rattle.c_session.specs.declared.command.Spot.{Spot}
use Rattle.c_session.specs.declared.command.Spot.TheVariants.{Line, Func}
use Rattle.c_tree.specs.Points.{first_of}
use Rattle.c_source.specs.Names.{file_of}

abbrev first_where : (Point → Bool) → ℕ → List Point → Option ℕ
first_where test n [] = None
first_where test n (q ∷ qs) = if test q then Some n else first_where test (suc n) qs

abbrev is_column : Option ℕ → ℕ → Bool
is_column None c = true
is_column (Some d) c = c == d

-- the external function, else the static one where one file alone has it
abbrev chosen : List Function → List Function → Option ℕ
chosen (f ∷ _) statics = Some (first_of f.points)
chosen [] [] = None
chosen [] (f ∷ []) = Some (first_of f.points)
chosen [] (f ∷ g ∷ rest) = None

abbrev pub point_at : Program → Spot → Option ℕ
point_at p (Line file l c) = first_where (λ q. (q.line == l) && is_column c q.column && bytes_eq (file_of p q) file) 0 p.points
point_at p (Func name) = chosen (filter (λ f. not f.is_static && bytes_eq f.name name) p.functions) (filter (λ f. f.is_static && bytes_eq f.name name) p.functions)
