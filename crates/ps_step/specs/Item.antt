-- What stands on the execution stack.
use Rattle.std.specs.Prelude.{ℕ, ◌+◌, Option, Some, None, List, [], ◌∷◌}
use Rattle.ps_step.specs.declared.item.Item.{Item}
use Rattle.ps_step.specs.declared.item.Item.TheVariants.{Object, Procedure, Text, Stopped}

-- the items under the innermost place where `stopped` began
abbrev pub under_stopped : List Item → Option (List Item)
under_stopped [] = None
under_stopped (Stopped ∷ rest) = Some rest
under_stopped (item ∷ rest) = under_stopped rest

-- how many items are above the innermost loop, with `n` more above the list, if no `stopped` began within it
abbrev pub loop_from : ℕ → List Item → Option ℕ
loop_from n [] = None
loop_from n (Stopped ∷ rest) = None
loop_from n (Object x ∷ rest) = loop_from (n + 1) rest
loop_from n (Procedure a at ∷ rest) = loop_from (n + 1) rest
loop_from n (Text t at ∷ rest) = loop_from (n + 1) rest
loop_from n (item ∷ rest) = Some n
