-- Where a part of a table's text leads to that makes definitions.
use Rattle.std.specs.Prelude.{◌≡◌, ℕ, ◌+◌, ◌≤◌, List, [], ◌∷◌}
use Rattle.ps_store.specs.declared.object.DictId.{DictId}
use Rattle.ps_store.specs.declared.object.StringId.{StringId}
use Rattle.ps_store.specs.StoreState.{StoreState}
use Rattle.ps_step.specs.declared.item.Item.{Item}
use Rattle.ps_step.specs.declared.item.Item.TheVariants.{Text as TextItem}
use Rattle.ps_terms.specs.Stands.{core}
use Rattle.ps_tables.specs.Taken.{Takes}
use Rattle.ps_tables.specs.Later.{StandsAt}
use Rattle.ps_tables.specs.Defined.{in_table}
use Rattle.ps_tables.specs.Senses.{Senses, Knowing}

-- what a store keeps of another one, of which it is made with so many units: its base, the part of commands, and how much is closed
pub record Owned (u : ℕ) (s s' : StoreState) : Type 0 where
  pub base : s'.base ≡ s.base
  pub command : s'.command ≡ s.command
  pub closed : s'.closed ≡ s.closed
  pub counted : s'.table.units + s'.command.units ≤ s.table.units + s.command.units + u

-- In so many steps, with at most so many units made, these words have their senses, and there are at most so many names; no operand is left.
pub record Reaches (index : ℕ) (ds : List DictId) (t : StringId) (under : List Item) (steps u n : ℕ) (ws : Senses) (s : StoreState) (at : ℕ) (rest : List ℕ) : Type 0 where
  pub store : StoreState
  pub to : ℕ
  pub knowing : Knowing store index ds n ws
  pub owned : Owned u s store
  pub stands : StandsAt store t to rest
  pub takes : Takes steps (core s (in_table index ∷ ds) [] (TextItem t at ∷ under)) (core store (in_table index ∷ ds) [] (TextItem t to ∷ under))
