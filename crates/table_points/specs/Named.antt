-- Points whose names last: the strings are of the table's closed ones.
use Rattle.std.specs.Prelude.{◌≡◌, true}
use Rattle.ps_store.specs.declared.object.StringId.{StringId}
use Rattle.ps_store.specs.StoreState.{StoreState}
use Rattle.ps_store.specs.Store.{is_closed}
use Rattle.ps_store.specs.Extends.{HoldsString}
use Rattle.table_points.specs.declared.row.Point.{Point}

-- a string of what is closed
abbrev pub IsClosedString : StoreState → StringId → Type 0
IsClosedString s t = HoldsString s t × (is_closed t.part t.index s.closed.strings ≡ true)

-- the names of a point's file and function are
abbrev pub IsNamed : StoreState → Point → Type 0
IsNamed s p = IsClosedString s p.file × IsClosedString s p.function
