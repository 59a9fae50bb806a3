-- What may become of what is closed: deferred entries are settled, and more is closed.
use Rattle.std.specs.Prelude.{◌≡◌, ◌⊎◌, IsTrue, Some, List, [], ◌∷◌, ◌++◌}
use Rattle.ps_store.specs.declared.key.Key.{Key}
use Rattle.ps_store.specs.declared.object.PsObj.{PsObj}
use Rattle.ps_store.specs.declared.object.Pair.{Pair}
use Rattle.ps_store.specs.StoreState.{Closed}
use Rattle.ps_store.specs.Store.{IsAbove, is_deferred}

-- the new list begins with the old one
pub record Begins {X : Type 0} (old new : List X) : Type 0 where
  pub rest : List X
  pub whole : new ≡ old ++ rest

-- a value is as it was, unless it was deferred
abbrev pub IsKept : PsObj → PsObj → Type 0
IsKept old new = (new ≡ old) ⊎ IsTrue (is_deferred (Some old))

-- a dictionary has its keys in their order, and its values but for deferred ones
abbrev pub ArePairsKept : List (Key × Pair) → List (Key × Pair) → Type 0
ArePairsKept [] [] = Unit {0}
ArePairsKept (x ∷ xs) (y ∷ ys) = (y.0 ≡ x.0) × (y.1.key ≡ x.1.key) × IsKept x.1.value y.1.value × ArePairsKept xs ys
ArePairsKept [] (y ∷ ys) = ⊥
ArePairsKept (x ∷ xs) [] = ⊥

-- each dictionary is kept so, and more may be behind them
abbrev pub AreDictsKept : List (List (Key × Pair)) → List (List (Key × Pair)) → Type 0
AreDictsKept [] new = Unit {0}
AreDictsKept (d ∷ ds) (e ∷ es) = ArePairsKept d e × AreDictsKept ds es
AreDictsKept (d ∷ ds) [] = ⊥

-- Arrays and strings are as they were, dictionaries but for deferred entries, and no less is closed. The part in which
-- objects are made, the base dictionaries and the top dictionary are the same.
pub record Settled (old new : Closed) : Type 0 where
  pub arrays : Begins old.arrays new.arrays
  pub dicts : AreDictsKept old.dicts new.dicts
  pub strings : Begins old.strings new.strings
  pub mark : IsAbove old.mark new.mark
  pub part : new.part ≡ old.part
  pub base : new.base ≡ old.base
  pub top : new.top ≡ old.top
