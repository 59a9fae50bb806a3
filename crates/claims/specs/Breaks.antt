-- `break` and `clear`; and what `step` does to the points before it resumes, and at its event.
use Rattle.std.specs.Prelude.{ℕ, Bool, true, false, nat_eq, List, [], ◌∷◌, ◌++◌, codes, if◌then◌else◌, Option, Some, None}
use Rattle.ldb_words.specs.declared.kinds.Kind.TheVariants.{Word}
use Rattle.ps_step.specs.declared.fault.PsError.TheVariants.{RangeCheck}
use Rattle.ps_store.specs.StoreState.{StoreState}
use Rattle.frame_bytes.specs.declared.frame.Space.TheVariants.{Memory}
use Rattle.frame_bytes.specs.Bytes.{Bytes, stored}
use Rattle.table_model.specs.Reading.{Walked}
use Rattle.table_model.specs.Rows.{PointRow}
use Rattle.table_model.specs.Places.{spot_point, function_point, all_points}
use Rattle.dialect_model.specs.TableUse.{Kind, Looks, gives, fails, refuses, ◌>>=◌}
use Rattle.break_plant.specs.Planted as planted
use Rattle.break_plant.specs.Planted.{noop_of, break_of}
use Rattle.c_session.specs.declared.command.Spot.{Spot}
use Rattle.c_session.specs.declared.command.Spot.TheVariants.{Line, Func}
use Rattle.c_session.specs.Commands.{NoPlace}
use Rattle.claims.specs.Side.{SideState, Change, OnSide, memory_of, with_memory, has, without}
use Rattle.claims.specs.Lines.{place_text}

-- ---- a word of a target

-- a byte that the machine doesn't hold, and an address that is no multiple of 4, are out of range
abbrev pub or_range : {A : Type 0} → Option A → OnSide A
or_range None = fails (Kind RangeCheck)
or_range (Some x) = gives x

abbrev pub word_at : SideState → (address : ℕ) → Option ℕ
word_at a at = planted.word_at (memory_of a) at

abbrev with_bytes : SideState → Option Bytes → Option SideState
with_bytes a None = None
with_bytes a (Some b) = Some (with_memory b.regions a)

-- the side with a word written to its target
abbrev pub with_word : SideState → (address word : ℕ) → Option SideState
with_word a at w = with_bytes a (stored (memory_of a) Memory at Word w)

-- ---- `break` and `clear`

abbrev pub point_of_spot : Spot → StoreState → Walked (Option PointRow)
point_of_spot (Line file l c) s = spot_point s file l c
point_of_spot (Func name) s = function_point s name

abbrev pub or_no_place : {A : Type 0} → Option A → OnSide A
or_no_place None = refuses NoPlace
or_no_place (Some x) = gives x

-- the break word goes where a no-op stands
abbrev pub planted_if : SideState → PointRow → (is_no_op : Bool) → OnSide SideState
planted_if a p true = or_range (with_word a p.at (break_of a.machine.target))
planted_if a p false = refuses NoPlace

abbrev pub planting : SideState → PointRow → OnSide SideState
planting a p = or_range (word_at a p.at) >>= λ w. planted_if a p (nat_eq w (noop_of a.machine.target))

-- a breakpoint that is set already is answered again, and changes nothing
abbrev pub broken_at : SideState → PointRow → (is_set : Bool) → OnSide SideState
broken_at a p true = gives a
broken_at a p false = planting a p >>= λ a'. gives (record a' { breaks = a'.breaks ++ p ∷ [] })

abbrev pub breaking : SideState → Spot → OnSide Change
breaking a spot = do
  found ← Looks (point_of_spot spot)
  p ← or_no_place found
  a' ← broken_at a p (has a.breaks p)
  gives (record { lines = (codes "break " ++ place_text p) ∷ []; side = a' })

-- the no-op is put back, whatever stands there
abbrev pub cleared_at : SideState → PointRow → (is_set : Bool) → OnSide SideState
cleared_at a p true = or_range (with_word a p.at (noop_of a.machine.target)) >>= λ a'. gives (record a' { breaks = without p a'.breaks })
cleared_at a p false = refuses NoPlace

abbrev pub clearing : SideState → Spot → OnSide Change
clearing a spot = do
  found ← Looks (point_of_spot spot)
  p ← or_no_place found
  a' ← cleared_at a p (has a.breaks p)
  gives (record { lines = (codes "clear " ++ place_text p) ∷ []; side = a' })

-- ---- the points of a `step`

-- a point that holds another word than the no-op is passed over
abbrev pub step_word_at : SideState → PointRow → (is_no_op : Bool) → OnSide SideState
step_word_at a p false = gives a
step_word_at a p true = or_range (with_word a p.at (break_of a.machine.target)) >>= λ a'. gives (record a' { step_words = a'.step_words ++ p ∷ [] })

abbrev pub step_words_at : List PointRow → SideState → OnSide SideState
step_words_at [] a = gives a
step_words_at (p ∷ ps) a = or_range (word_at a p.at) >>= λ w. step_word_at a p (nat_eq w (noop_of a.machine.target)) >>= step_words_at ps

-- all points are read first
abbrev pub plant_for_step : SideState → OnSide SideState
plant_for_step a = Looks all_points >>= λ ps. step_words_at ps a

-- ---- the event of a `step`: its words are put back

abbrev or_same : SideState → Option SideState → SideState
or_same a None = a
or_same a (Some a') = a'

abbrev pub words_removed : List PointRow → SideState → SideState
words_removed [] a = a
words_removed (p ∷ ps) a = words_removed ps (or_same a (with_word a p.at (noop_of a.machine.target)))

abbrev pub remove_step_words : SideState → SideState
remove_step_words a = record (words_removed a.step_words a) { step_words = [] }

-- ---- the point of a stop

abbrev pub at_address : ℕ → List PointRow → Option PointRow
at_address pc [] = None
at_address pc (p ∷ ps) = if nat_eq p.at pc then Some p else at_address pc ps

abbrev or_else : Option PointRow → Option PointRow → Option PointRow
or_else (Some p) other = Some p
or_else None other = other

-- the point that has a breakpoint there, else the one at which `step` put the word
abbrev pub stop_at : SideState → (pc : ℕ) → Option PointRow
stop_at a pc = or_else (at_address pc a.breaks) (at_address pc a.step_words)
