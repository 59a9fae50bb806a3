-- What the rows of names say.
use Rattle.std.specs.Prelude.{ℕ, List, [], ◌∷◌, Option}
use Rattle.c_tree.specs.declared.rows.SymbolRow.{SymbolRow}
use Rattle.c_tree.specs.declared.rows.Referent.{Referent}
use Rattle.c_typing.specs.Plain.{Plain, plain}
use Rattle.c_judge.specs.declared.symbol.Symbol.{Symbol}
use Rattle.c_scope.specs.declared.link.Link.{Link}
use Rattle.c_rows.specs.declared.places.Places.{Places}
use Rattle.c_rows.specs.Placed.{referent_by}

-- the name, its type, what it denotes, and the next name outward
abbrev pub Said : Type 0
Said = List ℕ × Plain × Referent × Option ℕ

abbrev pub symbol_said : SymbolRow → Said
symbol_said s = (s.name, plain s.ctype, s.refers, s.up)

abbrev pub symbol_by : Places → Symbol → Link → Said
symbol_by p s l = (s.name, plain s.ctype, referent_by p s l, l.up)

abbrev pub symbols_by : Places → List Symbol → List Link → List Said
symbols_by p (s ∷ ss) (l ∷ ls) = symbol_by p s l ∷ symbols_by p ss ls
symbols_by p _ _ = []
