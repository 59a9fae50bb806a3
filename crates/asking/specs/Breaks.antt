-- `break` and `clear`.
use Rattle.std.specs.Prelude.{ℕ, Bool, true, false, not, ◌&&◌, nat_eq, bytes_eq, List, [], ◌∷◌, ◌++◌, map, filter, codes, Option, Some, None}
use Rattle.std.specs.List.{list_any}
use Rattle.ldb_words.specs.declared.kinds.Kind.TheVariants.{Word}
use Rattle.ps_store.specs.StoreState.{StoreState}
use Rattle.frame_bytes.specs.declared.frame.Space.TheVariants.{Memory}
use Rattle.frame_bytes.specs.Bytes.{Bytes, stored}
use Rattle.table_model.specs.Reading.{Walked}
use Rattle.table_model.specs.Rows.{PointRow}
use Rattle.table_points.specs.declared.row.Point.{Point}
use Rattle.table_points.specs.Rows.{row_in}
use Rattle.table_model.specs.Places.{spot_point, function_point}
use Rattle.dialect_model.specs.TableUse.{Eval, Looks, gives, refuses, ◌>>=◌}
use Rattle.break_plant.specs.Planted.{noop_of, break_of, word_at}
use Rattle.break_plant.specs.declared.planting.PlantFault.{PlantFault}
use Rattle.break_plant.specs.declared.planting.PlantFault.TheVariants as plant
use Rattle.c_session.specs.declared.command.Spot.{Spot}
use Rattle.c_session.specs.declared.command.Spot.TheVariants.{Line, Func}
use Rattle.table_asks.specs.declared.fault.Cause.{Cause}
use Rattle.table_asks.specs.declared.fault.Cause.TheVariants.{NoPlace}
use Rattle.table_asks.specs.declared.fault.AskFault.{AskFault}
use Rattle.table_asks.specs.declared.fault.AskFault.TheVariants.{Refused}
use Rattle.table_asks.specs.Faults.{memory_fault}
use Rattle.asking.specs.Lines.{line, place_text}
use Rattle.asking.specs.Doing.{Change, or_range}

-- ---- points

abbrev pub same_point : PointRow → PointRow → Bool
same_point p q =
    nat_eq p.at q.at && (nat_eq p.line q.line && (nat_eq p.column q.column && (bytes_eq p.file q.file && bytes_eq p.function q.function)))

abbrev pub has : List PointRow → PointRow → Bool
has ps p = list_any (λ q. same_point q p) ps

abbrev pub without : PointRow → List PointRow → List PointRow
without p ps = filter (λ q. not (same_point q p)) ps

-- the rows of points, by a table
abbrev pub rows_in : StoreState → List Point → List PointRow
rows_in s ps = map (row_in s) ps

abbrev pub point_of_spot : Spot → StoreState → Walked (Option PointRow)
point_of_spot (Line file l c) s = spot_point s file l c
point_of_spot (Func name) s = function_point s name

abbrev pub or_no_place : {A : Type 0} → Option A → Eval Cause A
or_no_place None = refuses NoPlace
or_no_place (Some x) = gives x

-- why no breakpoint is planted
abbrev pub planting_fault : PlantFault → AskFault
planting_fault (plant.NotNoop at word) = Refused NoPlace
planting_fault (plant.Memory f) = memory_fault f

-- ---- on a target, with these breakpoints and bytes

module _ (target : ℕ) (breaks : List PointRow) (b : Bytes) where
  abbrev with_word : (at word : ℕ) → Eval Cause Bytes
  with_word at w = or_range (stored b Memory at Word w)

  -- the break word goes where a no-op stands
  abbrev pub planted_if : PointRow → (is_no_op : Bool) → Eval Cause Bytes
  planted_if p true = with_word p.at (break_of target)
  planted_if p false = refuses NoPlace

  abbrev pub planting : PointRow → Eval Cause Bytes
  planting p = or_range (word_at b p.at) >>= λ w. planted_if p (nat_eq w (noop_of target))

  -- a breakpoint that is set already is answered again, and changes nothing
  abbrev pub broken_at : PointRow → (is_set : Bool) → Eval Cause Change
  broken_at p true = gives (record { text = line (codes "break " ++ place_text p); breaks = breaks; bytes = b })
  broken_at p false = planting p >>= λ b'. gives (record { text = line (codes "break " ++ place_text p); breaks = breaks ++ p ∷ []; bytes = b' })

  abbrev pub breaking : Spot → Eval Cause Change
  breaking spot = do
    found ← Looks (point_of_spot spot)
    p ← or_no_place found
    broken_at p (has breaks p)

  -- the no-op is put back, whatever stands there
  abbrev pub cleared_at : PointRow → (is_set : Bool) → Eval Cause Change
  cleared_at p true = with_word p.at (noop_of target) >>= λ b'. gives (record { text = line (codes "clear " ++ place_text p); breaks = without p breaks; bytes = b' })
  cleared_at p false = refuses NoPlace

  abbrev pub clearing : Spot → Eval Cause Change
  clearing spot = do
    found ← Looks (point_of_spot spot)
    p ← or_no_place found
    cleared_at p (has breaks p)
