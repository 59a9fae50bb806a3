-- Marks on the operand stack.
use Rattle.std.specs.Prelude.{ℕ, ◌+◌, Option, Some, None, List, [], ◌∷◌}
use Rattle.ps_store.specs.declared.object.PsObj.{PsObj}
use Rattle.ps_store.specs.declared.object.PsObj.TheVariants.{Mark}

-- how many objects are above the topmost mark, with `n` more above the list
abbrev pub mark_from : ℕ → List PsObj → Option ℕ
mark_from n [] = None
mark_from n (Mark ∷ rest) = Some n
mark_from n (x ∷ rest) = mark_from (n + 1) rest
