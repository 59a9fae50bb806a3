-- The table of what is declared: its names in the order of their declarations, and those in scope.
use Rattle.std.specs.Prelude.{◌≡◌, ◌<◌, ℕ, suc, nat_le, if◌then◌else◌, List, [], ◌∷◌, ◌++◌, length}
use Rattle.c_tree.specs.declared.types.CType.{CType}
use Rattle.c_judge.specs.declared.symbol.Symbol.{Symbol}
use Rattle.c_judge.specs.Judges.{denoted}
use Rattle.c_scope.specs.declared.link.Link.{Link}
use Rattle.c_scope.specs.Environment.{Row, Visible}

pub record Names : Type 0 where
  pub symbols : List Symbol
  pub parameters : List (List CType)
  pub links : List Link
  pub visible : List Visible
  -- how many names there were where the innermost block began
  pub start : ℕ

abbrev pub row : Symbol → List CType → Link → Row
row s ps l = record { name = s.name; denoted = denoted s ps; up = l.up; unit = l.unit; local = l.local }

abbrev pub rows : List Symbol → List (List CType) → List Link → List Row
rows (s ∷ ss) (p ∷ ps) (l ∷ ls) = row s p l ∷ rows ss ps ls
rows _ _ _ = []

-- the names of the innermost block
abbrev pub names_from : ℕ → List Visible → List (List ℕ)
names_from start [] = []
names_from start (v ∷ vs) = if nat_le start v.number then v.name ∷ names_from start vs else []

-- names declared later have larger numbers
abbrev pub AreBelow : ℕ → List Visible → Type 0
AreBelow n [] = Unit {0}
AreBelow n (v ∷ vs) = (v.number < n) × AreBelow v.number vs

-- as many of them as these, the outermost ones
abbrev pub outermost : ℕ → List Visible → List Visible
outermost k [] = []
outermost k (v ∷ vs) = if nat_le (suc (length vs)) k then v ∷ vs else outermost k vs

-- with one name more
abbrev pub with_name : Names → List ℕ → Symbol → List CType → Link → Names
with_name t name s ps l = record t {
  symbols = t.symbols ++ s ∷ [];
  parameters = t.parameters ++ ps ∷ [];
  links = t.links ++ l ∷ [];
  visible = record { name = name; number = length t.symbols } ∷ t.visible;
}

-- each name has its parameters and its link
pub record AreAligned (t : Names) : Type 0 where
  pub parameters : length t.parameters ≡ length t.symbols
  pub links : length t.links ≡ length t.symbols
