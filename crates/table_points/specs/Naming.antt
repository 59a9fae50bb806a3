-- Functions that have a name, as they are kept while the table is read. No public contract cites them.
use Rattle.std.specs.Prelude.{ℕ, Bool, true, false, not, ◌||◌, nat_eq, if◌then◌else◌, List, [], ◌∷◌, codes, Option, Some, None, option_map, Ok}
use Rattle.ps_store.specs.declared.object.PsObj.{PsObj}
use Rattle.ps_store.specs.StoreState.{StoreState}
use Rattle.ps_step.specs.Results.{◌>>=◌}
use Rattle.table_model.specs.Reading.{Walked, dict_in, text_at, number_at, all_from}
use Rattle.table_model.specs.Rows.{PointRow, points_of, point_address}
use Rattle.table_model.specs.Places.{Named, called_in, chosen_of, point_of_named}
use Rattle.table_points.specs.declared.named.NamedFunction.{NamedFunction}
use Rattle.table_points.specs.declared.named.Meant.{Meant}

abbrev pub named_of : NamedFunction → Named
named_of f = record { number = f.number; unit = f.unit; function = f.function; is_static = f.is_static }

-- The first external function, the first static one, and whether static ones are of several units.
pub record Choice : Type 0 where
  pub external : Option Named
  pub inner : Option Named
  pub several : Bool

abbrev pub choice_of : Meant → Choice
choice_of m = record { external = option_map named_of m.external; inner = option_map named_of m.inner; several = m.several }

abbrev pub nothing_read : Choice
nothing_read = record { external = None; inner = None; several = false }

-- ---- one function more, and several

abbrev pub with_external : Choice → Named → Option Named → Choice
with_external c f None = record c { external = Some f }
with_external c f (Some g) = c

abbrev pub with_static : Choice → Named → Option Named → Choice
with_static c f None = record c { inner = Some f }
with_static c f (Some g) = record c { several = c.several || not (nat_eq f.number g.number) }

abbrev pub with_one : Choice → Named → Choice
with_one c f = elim f.is_static [ true ↦ with_static c f c.inner | false ↦ with_external c f c.external ]

abbrev pub with_all : Choice → List Named → Choice
with_all c [] = c
with_all c (f ∷ fs) = with_all (with_one c f) fs

-- ---- the function that is meant, and its first point

abbrev pub or_inner : Choice → Option Named → Option Named
or_inner c None = if c.several then None else c.inner
or_inner c (Some f) = Some f

abbrev pub chosen_by : Choice → Option Named
chosen_by c = or_inner c c.external

abbrev pub first_named : StoreState → Named → List PsObj → Walked (Option PointRow)
first_named s f [] = Ok None
first_named s f (x ∷ xs) = do
  p ← dict_in x
  line ← number_at s p (codes "line")
  column ← number_at s p (codes "column")
  at ← point_address s p
  file ← text_at s f.unit (codes "file")
  name ← text_at s f.function (codes "name")
  Ok (Some (record { file = file; function = name; line = line; column = column; at = at }))

abbrev pub named_point : StoreState → Named → Walked (Option PointRow)
named_point s f = points_of s f.function >>= first_named s f

abbrev pub point_among : StoreState → List ℕ → (units : List PsObj) → Walked (Option PointRow)
point_among s text us = all_from (called_in s text) 0 us >>= λ fs. point_of_named s text (chosen_of fs)
