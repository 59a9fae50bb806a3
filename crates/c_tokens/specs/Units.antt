-- Files and the terminals with which they are written.
use Rattle.std.specs.Prelude.{ℕ, ◌+◌, List, [], ◌∷◌, length}
use Rattle.c_symbol.specs.declared.terminal.Terminal.{Terminal}
use Rattle.c_trees.specs.declared.unit.External.{External}
use Rattle.c_syntax.specs.Grammar.{IsUnit}

-- each file is the unit that its terminals spell
abbrev pub AreSpelled : List (List External) → List (List Terminal) → Type 0
AreSpelled [] [] = Unit {0}
AreSpelled (u ∷ us) (ts ∷ rest) = ((h : ℕ) × IsUnit u h ts) × AreSpelled us rest
AreSpelled _ _ = ⊥

-- how many terminals there are in all
abbrev pub terminals_in : List (List Terminal) → ℕ
terminals_in [] = 0
terminals_in (ts ∷ rest) = length ts + terminals_in rest
