-- What the code finds behind the last file, where it knows the definitions as sets of names.
use Rattle.std.specs.Prelude.{ℕ, Bool, false, not, ◌&&◌, ◌||◌, ◌==◌, nat_le, List, Option, Some, None, option_map}
use Rattle.std.specs.List.{find}
use Rattle.c_linkage.specs.declared.state.State.{State as Standing}
use Rattle.c_linkage.specs.declared.state.Called.{Called as CalledRow}
use Rattle.c_linkage.specs.declared.state.Awaited.{Awaited as AwaitedRow}
use Rattle.c_rows.specs.declared.defined.DefinedNames.{DefinedNames}
use Rattle.c_linkage.specs.Names.{FileName, is_built_in}
use Rattle.c_linkage.specs.Wanted.{Called, Awaited}
use Rattle.c_rows.specs.Sets.{defined_in}
use Rattle.c_linkage.specs.Wanted.{called, awaited}
use Rattle.c_linkage.specs.Bounds.{bound_in, greatest_bound, is_static_in, or_name}

-- a declaration's bound, and whether it is `static`
abbrev pub bound_told : Option FileName → ℕ
bound_told None = 0
bound_told (Some f) = bound_in f.denoted

abbrev pub static_told : Option FileName → Bool
static_told None = false
static_told (Some f) = f.is_static

-- a place is past the end of its object
abbrev pub is_past : List FileName → Awaited → Bool
is_past fs l = not ((greatest_bound fs l == 0) || nat_le l.place.items (greatest_bound fs l))

abbrev pub is_row_past : List FileName → AwaitedRow → Bool
is_row_past fs l = is_past fs (awaited l)

abbrev pub called_name : CalledRow → List ℕ
called_name c = c.name.now

module _ (m : DefinedNames) where
  -- a name has to be defined and is not, or was not declared where it was used
  abbrev pub is_uncalled : List FileName → Called → Bool
  is_uncalled fs c = not (c.declared && (is_built_in c.name || defined_in m c.unit (is_static_in fs c.unit c.name) c.name))

  abbrev pub is_row_uncalled : List FileName → CalledRow → Bool
  is_row_uncalled fs c = is_uncalled fs (called c)

  abbrev pub uncalled_in : List FileName → List CalledRow → Option (List ℕ)
  uncalled_in fs cs = option_map called_name (find (is_row_uncalled fs) cs)

  abbrev pub missing_in : Standing → Option (List ℕ)
  missing_in s = or_name (uncalled_in s.names s.calls.items) s.unknown
