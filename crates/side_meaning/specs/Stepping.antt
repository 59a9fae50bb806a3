-- What is done before a resume is what the machine session does.
use Rattle.std.specs.Prelude.{◌≡◌, ◌≢◌, ◌⊎◌, ℕ, true, List, [], ◌++◌, map, Ok, Err}
use Rattle.std.specs.List.{list_all}
use Rattle.machine_state.specs.Regions.{Regions}
use Rattle.machine_state.specs.State.{Behaviour, order_of}
use Rattle.machine_state.specs.Sound.{IsMemory}
use Rattle.frame_bytes.specs.Bytes.{Bytes, bytes_of}
use Rattle.ps_step.specs.declared.fault.PsError.TheVariants.{RangeCheck}
use Rattle.ps_store.specs.StoreState.{StoreState}
use Rattle.table_model.specs.Places.{all_points}
use Rattle.table_points.specs.declared.row.Point.{Point}
use Rattle.table_points.specs.Rows.{row_in}
use Rattle.break_plant.specs.Planted.{noop_of}
use Rattle.debug_side.specs.declared.point.MachineKind.{MachineKind}
use Rattle.debug_side.specs.Meant.{address_of, stands_in_text}
use Rattle.debug_side.specs.Wrote.{words_put}
use Rattle.debug_side.specs.Told.{with_regions}
use Rattle.debug_side.specs.Planting.{PutsWords, MeetsNone}
use Rattle.steady_machines.specs.Steady.{RunsAreSteady}
use Rattle.dialect_model.specs.TableUse.{TableUse, use_of, Kind, Looks}
use Rattle.c_session.specs.Commands.{Refusal, ByStep, ByContinue}
use Rattle.claims.specs.Side.{SideEvent, SideState, Troubled, MOST_STEPS, with_memory, with_table_of}
use Rattle.claims.specs.Breaks.{step_words_at}
use Rattle.claims.specs.Resumes.{resume_side}
use Rattle.claims.specs.Outcome.{Prepares}
use Rattle.side_meaning.specs.Standing.{Debugged, events_in, IsTable, cleared, IsPlanted, StandsFor}
use Rattle.side_meaning.specs.Resuming.{IsResumed, IsMeant, IsFit}

-- ---- words of a step

-- Words of a step that are put at some points of a table are those that the machine session puts.
abbrev pub StepsAreMeant : Type 0
StepsAreMeant =
    (s : StoreState) (target : ℕ) (ps kept : List Point) (b d : Bytes) (a : SideState) (u : TableUse) → b.order ≡ order_of a.machine → b.regions ≡ a.machine.memory → target ≡ a.machine.target → PutsWords target b ps kept d
    → step_words_at (map (row_in s) ps) a u (Ok (record (with_memory d.regions a) { step_words = a.step_words ++ map (row_in s) kept })) u

-- Where an address is outside, it isn't done there either.
abbrev pub NoStepIsMeant : Type 0
NoStepIsMeant =
    (s : StoreState) (target : ℕ) (ps : List Point) (b : Bytes) (a : SideState) (u : TableUse) → b.order ≡ order_of a.machine → b.regions ≡ a.machine.memory → target ≡ a.machine.target → MeetsNone target b ps
    → step_words_at (map (row_in s) ps) a u (Err (Kind RangeCheck)) u

-- Where the words of a step are put back at the points that were kept, the memory is as before.
abbrev pub StepsAreUndone : Type 0
StepsAreUndone =
    (target : ℕ) (ps kept : List Point) (b d : Bytes) → IsMemory b.regions → PutsWords target b ps kept d → words_put b.order (noop_of target) (map address_of kept) d.regions ≡ b.regions

-- Where they stand in the text alone, and are put back behind a run, which leaves the text, the next step puts them at the same points, and the memory is as it was behind the run.
abbrev pub StepsAreAgain : Type 0
StepsAreAgain =
    (target : ℕ) (ps kept : List Point) (b d : Bytes) (r : Regions) → IsMemory b.regions → list_all stands_in_text ps ≡ true → PutsWords target b ps kept d → r.text_bytes ≡ d.regions.text_bytes
    → PutsWords target (record b { regions = words_put b.order (noop_of target) (map address_of kept) r }) ps kept (record b { regions = r })

-- ---- before a resume

-- Before a resume these are kept: the rows of the breakpoints and of the event that is kept, and the place of the stop.
pub record IsStill (d d' : Debugged) : Type 0 where
  pub breaks : map (row_in d'.table) d'.row.breaks.items ≡ map (row_in d.table) d.row.breaks.items
  pub stands_at : d'.row.stands_at ≡ d.row.stands_at
  pub kept : events_in d'.table d'.row.kept ≡ events_in d.table d.row.kept

-- the words that a step left are taken away
pub record IsSettled (d d' : Debugged) : Type 0 where
  pub table : d'.table ≡ d.table
  pub frame : d'.frame ≡ d.frame
  pub still : IsStill d d'
  pub host : d'.host ≡ cleared d.row d.host
  pub words : d'.row.step_words.items ≡ []

-- No word of a step is there: all points of the table are read, whose store is another one then, and words are put at them. No
-- object that the command made is part of the table.
pub record IsStepped (d d' : Debugged) (t : StoreState) (u : TableUse) : Type 0 where
  pub none : d.row.step_words.items ≡ []
  pub points : List Point
  pub told : Looks {R = Refusal} all_points (use_of t MOST_STEPS) (Ok (map (row_in d'.table) points)) u
  pub found : all_points (record u.store { command = t.command; part = t.part }) ≡ Ok (map (row_in d'.table) points)
  pub table : IsTable d'.table (record u.store { command = t.command; part = t.part })
  pub frame : d'.frame ≡ d.frame
  pub still : IsStill d d'
  pub puts : PutsWords d.host.machine.target (bytes_of d.host.machine) points d'.row.step_words.items (bytes_of d'.host.machine)
  pub host : d'.host ≡ with_regions d.host d'.host.machine.memory
  pub stay : d'.row.words_stay ≡ list_all stands_in_text points

-- the words that a step left stand still
pub record FindsWords (d d' : Debugged) : Type 0 where
  pub some : d.row.step_words.items ≢ []
  pub same : d' ≡ d

-- What a side is before it is resumed: the machine session's side has been prepared too, and has the same words.
pub record IsReady (d' : Debugged) (a' : SideState) : Type 0 where
  pub stands : StandsFor d' a'
  pub planted : IsPlanted d'.table d'.row d'.host a'

-- Where no words are known to the machine session: taking away those that are left changes nothing there, so `continue` begins at a side
-- that is ready;
abbrev pub ContinuesAreMeant : Type 0
ContinuesAreMeant =
    (d d' : Debugged) (a : SideState) → StandsFor d a → a.step_words ≡ [] → IsSettled d d' → Prepares ByContinue a (Ok a) a × IsReady d' a

-- and so does `step`, whose words are put now or stand still.
abbrev pub StepsBegin : Type 0
StepsBegin =
    (d d' : Debugged) (a : SideState) (u : TableUse) → IsMemory d.host.machine.memory → StandsFor d a → a.step_words ≡ [] → IsStepped d d' a.table u ⊎ FindsWords d d'
    → (x a' : SideState) × Prepares ByStep a (Ok x) a' × IsReady d' a'

-- Where the points can't be read it isn't begun there either;
abbrev pub PointsFail : Type 0
PointsFail = (a : SideState) (e : Troubled) (u : TableUse) → Looks {R = Refusal} all_points (use_of a.table MOST_STEPS) (Err e) u → Prepares ByStep a (Err e) (with_table_of a u.store)

-- nor where the address of one is outside.
abbrev pub WordsFail : Type 0
WordsFail =
    (d : Debugged) (a : SideState) (s : StoreState) (points : List Point) (u : TableUse) → StandsFor d a → a.step_words ≡ [] → d.row.step_words.items ≡ [] → Looks {R = Refusal} all_points (use_of a.table MOST_STEPS) (Ok (map (row_in s) points)) u
    → MeetsNone d.host.machine.target (bytes_of d.host.machine) points → Prepares ByStep a (Err (Kind RangeCheck)) (with_table_of a u.store)

-- ---- whole

-- `continue` on a side: the words that are left are taken away, and it is resumed.
abbrev pub ContinuesAreWhole : Type 0
ContinuesAreWhole =
    (b : Behaviour) (kind : MachineKind) (limit : ℕ) (all : SideEvent) (d d' d'' : Debugged) (a : SideState) → RunsAreSteady b → IsFit kind d
    → StandsFor d a → a.step_words ≡ [] → IsSettled d d' → IsResumed b kind limit all d' d''
    → Prepares ByContinue a (Ok a) a × IsMeant b kind limit all d' d'' (resume_side b limit a)

-- `step` on a side: its words are put or stand still, and it is resumed.
abbrev pub StepsAreWhole : Type 0
StepsAreWhole =
    (b : Behaviour) (kind : MachineKind) (limit : ℕ) (all : SideEvent) (d d' d'' : Debugged) (a : SideState) (u : TableUse) → RunsAreSteady b → IsFit kind d
    → StandsFor d a → a.step_words ≡ [] → IsStepped d d' a.table u ⊎ FindsWords d d' → IsResumed b kind limit all d' d''
    → (x a' : SideState) × Prepares ByStep a (Ok x) a' × IsMeant b kind limit all d' d'' (resume_side b limit a')
