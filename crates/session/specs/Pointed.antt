-- All points of a side's table, which are read for a step.
use Rattle.std.specs.Prelude.{◌≡◌, List, map, Ok, Err}
use Rattle.std.specs.List.{AllByRecursion}
use Rattle.ps_store.specs.declared.object.Mark.{Mark}
use Rattle.ps_store.specs.declared.object.Part.TheVariants.{Command}
use Rattle.ps_store.specs.StoreState.{StoreState}
use Rattle.ps_store.specs.Store.{closed_part, held}
use Rattle.ps_store.specs.Cut.{mark_of}
use Rattle.ps_store.specs.Settled.{Settled}
use Rattle.table_model.specs.Places.{all_points}
use Rattle.table_points.specs.declared.row.Point.{Point}
use Rattle.table_points.specs.Rows.{row_in}
use Rattle.table_points.specs.Named.{IsNamed}
use Rattle.dialect_model.specs.TableUse.{TableUse, use_of, Looks}
use Rattle.c_session.specs.Commands.{Refusal}
use Rattle.claims.specs.Side.{Troubled, MOST_STEPS}
use Rattle.side_meaning.specs.Standing.{IsTable}

-- They last behind their command: their names are closed, and it has made nothing.
pub record Last (s : StoreState) (mark : Mark) (points : List Point) : Type 0 where
  pub names : AllByRecursion (IsNamed s) points
  pub nothing : mark_of (held s s.part) ≡ mark

module _ (old new t : StoreState) where
  -- units of the table may have been run, and the machine session's table is that of this use
  pub record HasRun (u : TableUse) : Type 0 where
    pub table : IsTable new (record u.store { command = t.command; part = t.part })
    pub settled : Settled (closed_part (record old { part = Command })) (closed_part new)

  -- these are told, and found again where none has to be run
  pub record AllTold (points : List Point) : Type 0 where
    pub use_after : TableUse
    pub told : Looks {R = Refusal} all_points (use_of t MOST_STEPS) (Ok (map (row_in new) points)) use_after
    pub found : all_points (record use_after.store { command = t.command; part = t.part }) ≡ Ok (map (row_in new) points)
    pub has_run : HasRun use_after
    pub names : AllByRecursion (IsNamed new) points

  -- none are told
  pub record NoneTold (e : Troubled) : Type 0 where
    pub use_after : TableUse
    pub fails : Looks {R = Refusal} all_points (use_of t MOST_STEPS) (Err e) use_after
    pub has_run : HasRun use_after
