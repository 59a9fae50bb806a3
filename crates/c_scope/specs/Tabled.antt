-- What the table's fields are.
use Rattle.std.specs.Prelude.{◌≡◌, ◌≤◌, ℕ, List, [], ◌∷◌, length}
use Rattle.c_defs.specs.Numbers.{number_in}
use Rattle.c_scope.specs.declared.table.Shadowing.{Shadowing}
use Rattle.c_scope.specs.declared.table.Table.TheInside.{Inside}
use Rattle.c_scope.specs.Environment.{Visible, number_of}
use Rattle.c_scope.specs.Table.{Names, AreBelow}

abbrev pub seen : Shadowing → Visible
seen s = record { name = s.name.now; number = s.number }

-- the names in scope, the innermost first
abbrev pub visible_from : List Visible → List Shadowing → List Visible
visible_from vs [] = vs
visible_from vs (s ∷ ss) = visible_from (seen s ∷ vs) ss

-- each tells what its name meant before
abbrev pub Hide : List Visible → List Shadowing → Type 0
Hide vs [] = Unit {0}
Hide vs (s ∷ ss) = (s.hidden ≡ number_of vs s.name.now) × Hide (seen s ∷ vs) ss

abbrev pub names_of : Inside → Names
names_of t = record { symbols = t.symbols.items; parameters = t.parameters.items; links = t.links.items; visible = visible_from [] t.shadowing.items; start = t.start }

pub record IsTable (t : Inside) : Type 0 where
  pub finds : (name : List ℕ) → number_in t.numbers name ≡ number_of (visible_from [] t.shadowing.items) name
  pub hide : Hide [] t.shadowing.items
  pub below : AreBelow (length t.symbols.items) (visible_from [] t.shadowing.items)
  pub parameters : length t.parameters.items ≡ length t.symbols.items
  pub links : length t.links.items ≡ length t.symbols.items
  pub start : t.start ≤ length t.symbols.items
