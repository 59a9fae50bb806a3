-- The sides as a resume would leave them.
use Rattle.std.proofs.Common.{◌≡◌, ◌⊎◌, refl, sym, inl, inr, ℕ, Bool, true, false, if◌then◌else◌, [], arith, Option, Some, None}
use Rattle.std.specs.Global.{Vec}
use Rattle.table_points.specs.declared.row.Point.{Point}
use Rattle.machine_state.specs.State.{Behaviour}
use Rattle.debug_side.specs.declared.event.Event.{Event}
use Rattle.debug_side.specs.declared.point.MachineKind.{MachineKind}
use Rattle.debug_side.specs.declared.point.SideRow.{SideRow}
use Rattle.debug_side.specs.Meant.{stood, keeps_words}
use Rattle.debug_side.specs.Told.{host_behind}
use Rattle.claims.specs.Side.{SideEvent, Stops, Pauses, Exits, Faults, OutOfTurns, OutOfStack}
use Rattle.claims.specs.Resumes.{merged, keeps, frame_after}
use Rattle.ps_store.specs.StoreState.{StoreState}
use Rattle.side_meaning.specs.Standing.{Debugged, event_in, events_in}
use Rattle.side_meaning.specs.Resuming.{event_of_it, IsResumed}
use Rattle.side_meaning.specs.Sessions.{BothSides, OnSecond, second_event, AreResumed}

-- ---- the event that a side keeps

pub kept_or : (all e : SideEvent) → (keeps all e ≡ None) ⊎ (keeps all e ≡ Some e)
kept_or all OutOfTurns = inl refl
kept_or OutOfTurns (Stops p) = inr refl
kept_or OutOfTurns (Pauses pc) = inr refl
kept_or OutOfTurns (Exits status) = inr refl
kept_or OutOfTurns (Faults fault pc) = inr refl
kept_or OutOfTurns OutOfStack = inr refl
kept_or (Stops q) (Stops p) = inl refl
kept_or (Stops q) (Pauses pc) = inl refl
kept_or (Stops q) (Exits status) = inr refl
kept_or (Stops q) (Faults fault pc) = inr refl
kept_or (Stops q) OutOfStack = inr refl
kept_or (Pauses at) (Stops p) = inl refl
kept_or (Pauses at) (Pauses pc) = inl refl
kept_or (Pauses at) (Exits status) = inr refl
kept_or (Pauses at) (Faults fault pc) = inr refl
kept_or (Pauses at) OutOfStack = inr refl
kept_or (Exits number) (Stops p) = inl refl
kept_or (Exits number) (Pauses pc) = inl refl
kept_or (Exits number) (Exits status) = inr refl
kept_or (Exits number) (Faults fault pc) = inr refl
kept_or (Exits number) OutOfStack = inr refl
kept_or (Faults kind at) (Stops p) = inl refl
kept_or (Faults kind at) (Pauses pc) = inl refl
kept_or (Faults kind at) (Exits status) = inr refl
kept_or (Faults kind at) (Faults fault pc) = inr refl
kept_or (Faults kind at) OutOfStack = inr refl
kept_or OutOfStack (Stops p) = inl refl
kept_or OutOfStack (Pauses pc) = inl refl
kept_or OutOfStack (Exits status) = inr refl
kept_or OutOfStack (Faults fault pc) = inr refl
kept_or OutOfStack OutOfStack = inr refl

pub record Kept (s : StoreState) (all : SideEvent) (e : Event) : Type 0 where
  pub kept : Option Event
  pub is : events_in s kept ≡ keeps all (event_in s e)
  pub own : (kept ≡ None) ⊎ (kept ≡ Some e)

abbrev pub kept_so : (s : StoreState) (all : SideEvent) (e : Event) → (keeps all (event_in s e) ≡ None) ⊎ (keeps all (event_in s e) ≡ Some (event_in s e)) → Kept s all e
kept_so s all e (inl h) = record { kept = None; is = sym h; own = inl refl }
kept_so s all e (inr h) = record { kept = Some e; is = sym h; own = inr refl }

abbrev pub kept_by : (s : StoreState) (all : SideEvent) (e : Event) → Kept s all e
kept_by s all e = kept_so s all e (kept_or all (event_in s e))

-- ---- the words of a step

abbrev pub all_or_none : Bool → Vec Point → Vec Point
all_or_none true v = v
all_or_none false v = record v { items = []; len = 0; ok = (refl, omega arith) }

items_left : (b : Bool) (v : Vec Point) → (all_or_none b v).items ≡ (if b then v.items else [])
items_left true v = refl
items_left false v = refl

-- ---- one side

module _ (b : Behaviour) (kind : MachineKind) (limit : ℕ) (all : SideEvent) (d : Debugged) where
  abbrev pub row_behind : SideRow
  row_behind =
      let e : Event = event_of_it b kind limit d in
      record d.row { step_words = all_or_none (keeps_words d.row.words_stay d.row.kept e) d.row.step_words; stands_at = stood d.row.kept d.row.stands_at e; kept = (kept_by d.table all e).kept }

  abbrev pub side_behind : Debugged
  side_behind = record { table = d.table; frame = frame_after d.frame all; row = row_behind; host = host_behind b kind d.row limit d.host }

  pub is_resumed : IsResumed b kind limit all d side_behind
  is_resumed = record {
    table = refl;
    frame = refl;
    host = refl;
    breaks = refl;
    stands_at = refl;
    words = items_left (keeps_words d.row.words_stay d.row.kept (event_of_it b kind limit d)) d.row.step_words;
    stay = refl;
    kept = (kept_by d.table all (event_of_it b kind limit d)).is;
    own = (kept_by d.table all (event_of_it b kind limit d)).own;
  }

-- ---- all sides

module _ (b : Behaviour) (kind other : MachineKind) (limit : ℕ) (s : BothSides) where
  abbrev pub event_of_all : SideEvent
  event_of_all = merged (event_in s.first.table (event_of_it b kind limit s.first)) (second_event b other limit s.second)

  abbrev pub second_behind : Option Debugged → Option Debugged
  second_behind None = None
  second_behind (Some d) = Some (side_behind b other limit event_of_all d)

  abbrev pub sides_behind : BothSides
  sides_behind = record { first = side_behind b kind limit event_of_all s.first; second = second_behind s.second }

  second_resumed : (o : Option Debugged) → OnSecond (IsResumed b other limit event_of_all) o (second_behind o)
  second_resumed None = tt
  second_resumed (Some d) = is_resumed b other limit event_of_all d

  pub are_resumed : AreResumed b kind other limit event_of_all s sides_behind
  are_resumed = record { merges = refl; first = is_resumed b kind limit event_of_all s.first; second = second_resumed s.second }
