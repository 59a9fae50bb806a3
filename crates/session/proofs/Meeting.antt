-- The room of a line is enough for each event that a side may meet.
use Rattle.std.proofs.Common.{◌≡◌, ℕ, suc, ◌^◌, ◌<◌, ◌≤◌, true, false, nat_eq, if◌then◌else◌, List, [], ◌∷◌, All, Option, Some, None, Result, Ok, Err, IfOk, sym, subst, arith}
use Rattle.std.specs.declared.alloc.AllocError.{AllocError}
use Rattle.nub_wire.specs.declared.message.Ending.{Ending}
use Rattle.nub_wire.specs.declared.message.Ending.TheVariants as ending
use Rattle.nub_wire.specs.declared.message.Reason.TheVariants as reason
use Rattle.ps_store.specs.StoreState.{StoreState}
use Rattle.table_points.specs.declared.row.Point.{Point}
use Rattle.debug_side.specs.declared.event.Event.{Event}
use Rattle.debug_side.specs.declared.event.Event.TheVariants as event
use Rattle.debug_side.specs.Meant.{point_at, stop_or, event_of, met, Met}
use Rattle.session.specs.declared.line.Line.{Line}
use Rattle.session.specs.declared.sides.SideRecord.{SideRecord}
use Rattle.session.specs.declared.replies.TheConstants.{EVENT_ROOM}
use Rattle.session.specs.Events.{event_in, events_in}
use Rattle.session.specs.Rooms.{text_of, room_of, event_room, held_room, RoomForKept}
use Rattle.session.specs.Resuming.{HasRoomFor}

abbrev pub Fits : StoreState → ℕ → Event → Type 0
Fits s room e = held_room (event_room (event_in s e)) ≤ room

abbrev pub AllFit : StoreState → ℕ → List Point → Type 0
AllFit s room ps = All (λ p. Fits s room (event.Stops p)) ps

pub more_fit : (s : StoreState) (a b : ℕ) (ps qs : List Point) → ps ≡ qs → a ≤ b → AllFit s a ps → AllFit s b qs
more_fit s a b ps qs e h f =
    let g : AllFit s b ps = λ k d l. (let n = f k d l in omega (arith, n, h)) in
    subst (λ xs. AllFit s b xs) e g

stop_fits : (s : StoreState) (room : ℕ) (ps : List Point) (pc : ℕ) (e : Event) → AllFit s room ps → Fits s room e → Fits s room (stop_or (point_at ps pc) e)
stop_fits s room [] pc e f h = h
stop_fits s room (p ∷ ps) pc e f h =
    elim (nat_eq p.at pc) as (λ b. Fits s room (stop_or (if b then Some p else point_at ps pc) e)) [
      | true ↦ f 0 p (omega arith)
      | false ↦ stop_fits s room ps pc e (λ k d l. f (suc k) d (omega (arith, l))) h
    ]

event_fits : (s : StoreState) (room : ℕ) (breaks words : List Point) → EVENT_ROOM ≤ room → AllFit s room breaks → AllFit s room words → (e : Ending) → Fits s room (event_of breaks words e)
event_fits s room breaks words m f g (ending.Stopped reason.Break pc) = stop_fits s room breaks pc _ f (stop_fits s room words pc _ g m)
event_fits s room breaks words m f g (ending.Stopped reason.Pause pc) = m
event_fits s room breaks words m f g (ending.Exited status) = m
event_fits s room breaks words m f g (ending.Faulted kind pc) = m
event_fits s room breaks words m f g ending.Turns = m
event_fits s room breaks words m f g ending.Stack = m

pub met_fits : (s : StoreState) (room : ℕ) (breaks words : List Point) (kept : Option Event) → EVENT_ROOM ≤ room → AllFit s room breaks → AllFit s room words
    → RoomForKept room (events_in s kept) → (e : Event) → met kept breaks words e → Fits s room e
met_fits s room breaks words (Some k) m f g r e h = subst (λ x. Fits s room x) (sym h) r
met_fits s room breaks words None m f g r e h = subst (λ x. Fits s room x) (sym h.1) (event_fits s room breaks words m f g h.0)

not_held : (n room : ℕ) → room < 2 ^ 63 → held_room n ≤ room → n ≤ room
not_held n room l h = omega (arith, l, h)

pub line_fits : (side : SideRecord) (room : ℕ) (r : Result Line AllocError) → ((e : Event) → Met side.row e → Fits side.inquiry.core.store room e)
    → IfOk r (λ line. text_of line ≡ []) → IfOk r (λ line. room_of line ≡ room) → IfOk r (λ line. HasRoomFor side line)
line_fits side room (Ok line) f empty same = (empty, λ e m. not_held _ (room_of line) line.bytes.small (subst (λ n. Fits side.inquiry.core.store n e) (sym same) (f e m)))
line_fits side room (Err why) f empty same = tt
