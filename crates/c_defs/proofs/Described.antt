-- What a row says of its struct.
use Rattle.std.proofs.Common.{◌≡◌, ℕ, List, Option, Some, subst}
use Rattle.c_tree.specs.declared.types.StructDef.{StructDef}
use Rattle.c_tree.specs.Layout.{members_of}
use Rattle.c_defs.specs.declared.rows.StructRow.{StructRow}
use Rattle.c_defs.specs.Kept.{row_at, Describes, IsKept, AreKept}

pub kept_at : (defs : List StructDef) (rows : List (Option StructRow)) (s : ℕ) → AreKept defs rows → IsKept defs rows (members_of defs s) (row_at rows s)
unfolding AreKept
kept_at defs rows s h = h s

pub described : (defs : List StructDef) (rows : List (Option StructRow)) (s : ℕ) (r : StructRow) → AreKept defs rows → row_at rows s ≡ Some r → Describes defs rows (members_of defs s) r
described defs rows s r h e = subst (IsKept defs rows (members_of defs s)) e (kept_at defs rows s h)
