use Rattle.std.proofs.Common.{◌≡◌, List, ℕ, drop, map}
use Rattle.obj_placed.specs.Placed.{named_at}
use Rattle.link_image.specs.Tables.{entry_in, seen}
use Rattle.link_image.proofs.names.add_names.Given as goal

abbrev pub invariant-loop-name : goal.invariant-loop-name
invariant-loop-name l = (t : List ℕ) → seen (entry_in l.addresses t) (map (named_at l.base) (drop l.name-index l.names)) t ≡ seen (entry_in l.fn.addresses t) (map (named_at l.base) l.names) t
