-- A resume's answer: the line that has room for the event of all, and a fault.
use Rattle.std.proofs.Common.{◌≡◌, ◌⊎◌, ℕ, ◌≤◌, List, Option, Some, None, inl, inr, ap, subst, sym, ◌∙◌, arith}
use Rattle.debug_side.specs.declared.event.Event.{Event}
use Rattle.claims.specs.Side.{SideEvent, Stops, Pauses, Exits, Faults, OutOfTurns, OutOfStack}
use Rattle.claims.specs.Resumes.{merged}
use Rattle.table_asks.specs.declared.fault.AskFault.{AskFault}
use Rattle.table_asks.specs.declared.fault.AskFault.TheVariants.{Refused, Raised, Spent, NoMemory, Broken}
use Rattle.table_asks.specs.declared.inquiry.Inquiry.{Inquiry}
use Rattle.session.specs.declared.answers.Answer.{Answer}
use Rattle.session.specs.declared.answers.Answer.TheVariants as answer
use Rattle.session.specs.declared.line.Line.{Line}
use Rattle.session.specs.declared.modes.Mode.{Mode}
use Rattle.session.specs.declared.modes.Mode.TheVariants.{Ended}
use Rattle.session.specs.declared.sides.SideRecord.{SideRecord}
use Rattle.asking.specs.Refusals.{refusal_of}
use Rattle.session.specs.Answered.{IsTrouble}
use Rattle.session.specs.Events.{event_in, event_line}
use Rattle.session.specs.Kept.{AnswersFault}
use Rattle.session.specs.Rooms.{IsEmptyFor, event_room, room_of}
use Rattle.session.specs.Resuming.{AllBehind, HasRoomFor, Behind, event_on}

-- the event of all is the first side's or has no point
merged_room : (x : SideEvent) (y : Option SideEvent) (n : ℕ) → event_room x ≤ n → event_room (merged x y) ≤ n
merged_room x None n h = h
merged_room (Stops p) (Some (Stops q)) n h = h
merged_room (Stops p) (Some (Pauses pc)) n h = h
merged_room (Stops p) (Some (Exits status)) n h = h
merged_room (Stops p) (Some (Faults fault pc)) n h = omega (arith, h)
merged_room (Stops p) (Some OutOfTurns) n h = omega (arith, h)
merged_room (Stops p) (Some OutOfStack) n h = omega (arith, h)
merged_room x (Some (Stops q)) n h = h
merged_room x (Some (Pauses pc)) n h = h
merged_room x (Some (Exits status)) n h = h
merged_room x (Some (Faults fault pc)) n h = h
merged_room x (Some OutOfTurns) n h = h
merged_room x (Some OutOfStack) n h = h

record First (all : SideEvent) (a a' : SideRecord) : Type 0 where
  event : Event
  other : Option SideEvent
  merges : all ≡ merged (event_on a event) other
  behind : Behind all event a a'

first_of_all : (all : SideEvent) (a a' : SideRecord) (b b' : Option SideRecord) → AllBehind all a a' b b' → First all a a'
first_of_all all a a' None None h = record { event = h.event; other = None; merges = h.merges; behind = h.first }
first_of_all all a a' None (Some b') h = absurd h
first_of_all all a a' (Some b) None h = absurd h
first_of_all all a a' (Some b) (Some b') h = record { event = h.event; other = Some (event_on b h.other); merges = h.merges; behind = h.first }

room_for_all : (all : SideEvent) (a a' : SideRecord) (b b' : Option SideRecord) (line : Line) → AllBehind all a a' b b' → HasRoomFor a line → IsEmptyFor (event_room all) line
room_for_all all a a' b b' line h room =
    let f = first_of_all all a a' b b' h in
    (room.0, subst (λ e. event_room e ≤ room_of line) (sym f.merges) (merged_room (event_on a f.event) f.other _ (room.1 f.event f.behind.met)))

same_table : (all : SideEvent) (a a' : SideRecord) (b b' : Option SideRecord) → AllBehind all a a' b b' → a'.inquiry ≡ a.inquiry
same_table all a a' b b' h = (first_of_all all a a' b b' h).behind.table

-- the line of the event of all
pub told_line : (e : Event) (a a' : SideRecord) (b b' : Option SideRecord) (line : Line) (text : List ℕ) → AllBehind (event_on a e) a a' b b' → HasRoomFor a line
    → (IsEmptyFor (event_room (event_on a' e)) line → text ≡ event_line (event_on a' e)) → text ≡ event_line (event_on a e)
told_line e a a' b b' line text behind room told =
    let same : event_on a' e ≡ event_on a e = ap (λ (i : Inquiry). event_in i.core.store e) (same_table (event_on a e) a a' b b' behind) in
    told (subst (λ (x : SideEvent). IsEmptyFor (event_room x) line) (sym same) (room_for_all (event_on a e) a a' b b' line behind room)) ∙ ap (λ (x : SideEvent). event_line x) same

-- a fault leaves the session's state, or it ends the session
pub faulted : (fault : AskFault) (broken : List ℕ) (old new : Mode) (a : Answer) → AnswersFault broken old new fault a
    → ((new ≡ old) × IsTrouble a) ⊎ ((new ≡ Ended) × (a ≡ answer.Lines broken))
faulted (Broken f) broken old new a h = inr h
faulted (Refused c) broken old new (answer.Lines text) h = inl (h.0, inl (refusal_of c, h.1))
faulted (Refused c) broken old new answer.NoMemory h = inl (h.0, tt)
faulted (Raised e) broken old new (answer.Lines text) h = inl (h.0, inr (inl (e, h.1)))
faulted (Raised e) broken old new answer.NoMemory h = inl (h.0, tt)
faulted Spent broken old new (answer.Lines text) h = inl (h.0, inr (inr h.1))
faulted Spent broken old new answer.NoMemory h = inl (h.0, tt)
faulted NoMemory broken old new (answer.Lines text) h = absurd h.1
faulted NoMemory broken old new answer.NoMemory h = inl (h.0, tt)
