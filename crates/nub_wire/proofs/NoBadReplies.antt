-- Nubs that meet their definition give no bad reply.
use Rattle.std.proofs.Common.{◌≡◌, refl, subst, ℕ, Bool, true, false, if◌then◌else◌, List, [], ◌∷◌, Option, None, Some, arith}
use Rattle.machine_state.specs.State.{MachineState, Behaviour, order_of, with_memory, given_input}
use Rattle.machine_state.specs.Regions.{write_of}
use Rattle.machine_state.proofs.SoundMemory.{read_byte}
use Rattle.nub_wire.specs.declared.message.Msg.{Msg}
use Rattle.nub_wire.specs.declared.message.Msg.TheVariants as msg
use Rattle.nub_wire.specs.Spelling.{MsgFits, size_byte}
use Rattle.nub_wire.specs.Feeding.{AllFit}
use Rattle.nub_wire.specs.Nub.{Host, Replied, host, resumed, served, handled, running, turn_of, if_open}
use Rattle.nub_wire.specs.Resumes.{Tells, tells_end, tells_more}
use Rattle.nub_wire.proofs.Pendings.{none_told}
use Rattle.nub_wire.specs.declared.message.Ending.{Ending}
use Rattle.nub_wire.specs.Delivery.{nubs_over, LinkSide}
use Rattle.nub_wire.specs.Heard.{IsWithin, AreWithin, IsShut, GivesBytes, MayAsk, IsAnswered}
use Rattle.nub_wire.specs.Rest.{IsAtRest}
use Rattle.nub_wire.specs.Exchange.{Replies, at_once, later}
use Rattle.nub_wire.specs.Fits.{TellsFitting, begins}
use Rattle.nub_wire.specs.Told.{NubsGiveNoBadReply, NubsStayFitting}
use Rattle.nub_wire.proofs.ResumesAreRuns.{Open, flags_kept, resumed_is}
use Rattle.nub_wire.proofs.ResumesEnd.{AreHeard, last_heard, told_whole}
use Rattle.nub_wire.proofs.Replies.{handle_answered}
use Rattle.nub_wire.proofs.Fitting.{Fit, TellsFit, tells_fit, handled_fit, fit_of}
use Rattle.nub_wire.proofs.Told.{none_bad}

-- the replies to a message, each of which fits and is heard
pub record Whole (b : Behaviour) (m : Msg) (g : Host) : Type 0 where
  pub messages : List Msg
  pub last : Host
  pub replies : Replies (nubs_over b) m g messages last
  pub all_fit : AllFit messages
  pub are_heard : AreHeard m 0 messages
  pub takes : last.nub.blocked ≡ false

gives_bytes : (b : Behaviour) (h : Host) → TellsFitting b h → GivesBytes h.machine
gives_bytes b h x = λ (at value : ℕ) e. read_byte (order_of h.machine) h.machine.memory at value (x.machine h.machine begins).memory e

-- ---- a nub that waits for a message goes on to

-- no bytes came that begin no frame, and no output is gathered
pub record Waits (h : Host) : Type 0 where
  pub takes : h.nub.blocked ≡ false
  pub none_left : h.nub.output ≡ []

same_waits : (h : Host) (m : MachineState) → Waits h → Waits (host h.nub m)
same_waits h m x = record { takes = x.takes; none_left = x.none_left }

resumed_waits : (b : Behaviour) (turns : ℕ) (e : Option Ending) (h : Host) → Waits h → Waits (resumed b turns e h).1
resumed_waits b turns (Some e) h x = x
resumed_waits b turns None h x = record { takes = x.takes; none_left = x.none_left }

served_waits : (b : Behaviour) (m : Msg) (h : Host) → Waits h → Waits (served b m h).1
unfolding served
served_waits b msg.Hello h x = x
served_waits b (msg.Fetch address size) h x = x
served_waits b (msg.Store address size value) h x = same_waits h (with_memory (write_of (order_of h.machine) h.machine.memory address (size_byte size) value) h.machine).1 x
served_waits b (msg.Resume turns) h x = resumed_waits b turns h.nub.ended h x
served_waits b msg.Kill h x = record { takes = x.takes; none_left = x.none_left }
served_waits b (msg.Input bytes) h x = same_waits h (given_input bytes h.machine).1 x
served_waits b (msg.Word value) h x = x
served_waits b msg.Done h x = x
served_waits b msg.Outside h x = x
served_waits b (msg.Stopped why pc) h x = x
served_waits b (msg.Output bytes) h x = x
served_waits b (msg.Exited status) h x = x
served_waits b (msg.Faulted fault pc) h x = x
served_waits b msg.Turns h x = x
served_waits b msg.Stack h x = x

chosen_waits : (blocked killed : Bool) (h : Host) (r : Replied) → Waits h → Waits r.1 → Waits (if blocked then (None, h) else if killed then (Some msg.Outside, h) else r).1
chosen_waits true killed h r x y = x
chosen_waits false true h r x y = x
chosen_waits false false h r x y = y

handled_waits : (b : Behaviour) (m : Msg) (h : Host) → Waits h → Waits (handled b m h).1
unfolding handled
handled_waits b m h x = chosen_waits h.nub.blocked h.nub.killed h (served b m h) x (served_waits b m h x)

open_of : (turns printed : ℕ) (left : Option ℕ) (output : List ℕ) → AreWithin turns printed left output → (k : ℕ) × (left ≡ Some k)
open_of turns printed None output w = absurd w
open_of turns printed (Some k) output w = (k, refl)

later_whole : (b : Behaviour) (turns : ℕ) (g t : Host) → handled b (msg.Resume turns) g ≡ (None, t) → IsWithin turns 0 t.nub → Fit b t → t.nub.blocked ≡ false → Whole b (msg.Resume turns) g
later_whole b turns g t is within fit takes =
    let x = told_whole b turns turns 0 t (open_of turns 0 t.nub.left t.nub.output within) within (omega arith) in
    record {
      messages = x.messages;
      last = x.last;
      replies = later t is x.tells;
      all_fit = (tells_fit b x.tells fit).0;
      are_heard = x.are_heard;
      takes = (flags_kept t.nub.killed false (record { killed_is = refl; blocked_is = takes }) x.tells).blocked_is;
    }

whole_by : (b : Behaviour) (m : Msg) (g : Host) (p : Replied) → handled b m g ≡ p → IsAnswered m p → TellsFit b p → p.1.nub.blocked ≡ false → Whole b m g
whole_by b m g (Some r, t) is a f takes =
    record { messages = r ∷ []; last = t; replies = at_once r is a.1.none_open; all_fit = (f.0, tt); are_heard = last_heard r a.0; takes = takes }
whole_by b (msg.Resume turns) g (None, t) is a f takes = later_whole b turns g t is a f takes
whole_by b msg.Hello g (None, t) is a f takes = absurd a
whole_by b (msg.Fetch address size) g (None, t) is a f takes = absurd a
whole_by b (msg.Store address size value) g (None, t) is a f takes = absurd a
whole_by b msg.Kill g (None, t) is a f takes = absurd a
whole_by b (msg.Input bytes) g (None, t) is a f takes = absurd a
whole_by b (msg.Word value) g (None, t) is a f takes = absurd a
whole_by b msg.Done g (None, t) is a f takes = absurd a
whole_by b msg.Outside g (None, t) is a f takes = absurd a
whole_by b (msg.Stopped why pc) g (None, t) is a f takes = absurd a
whole_by b (msg.Output bytes) g (None, t) is a f takes = absurd a
whole_by b (msg.Exited status) g (None, t) is a f takes = absurd a
whole_by b (msg.Faulted fault pc) g (None, t) is a f takes = absurd a
whole_by b msg.Turns g (None, t) is a f takes = absurd a
whole_by b msg.Stack g (None, t) is a f takes = absurd a

whole_of : (b : Behaviour) (m : Msg) (s : LinkSide) → IsAtRest s → TellsFitting b s.host → MsgFits m → MayAsk m s.host.machine → Whole b m s.host
whole_of b m s rest x fits may =
    let shut : IsShut s.host.nub = record { none_open = rest.idle.none_open; none_left = rest.none_gathered } in
    whole_by b m s.host (handled b m s.host) refl
    (handle_answered b m s.host rest.idle.takes rest.lives shut (gives_bytes b s.host x) may)
    (handled_fit b m s.host fits (fit_of b s.host x rest.none_gathered))
    (handled_waits b m s.host (record { takes = rest.idle.takes; none_left = rest.none_gathered })).takes

-- ---- what is told goes on to fit

opens : (b : Behaviour) (n : ℕ) (left : Option ℕ) (h t : Host) (m : Msg) → h.nub.left ≡ left → if_open left (None, h) (running b n h) ≡ (Some m, t) → Open h
opens b n None h t m e x = none_told b n None h t m refl x
opens b n (Some k) h t m e x = (k, e)

tells_open : {b : Behaviour} {h t : Host} {ms : List Msg} → Tells b h ms t → Open h
unfolding turn_of
tells_open {b = b} {h = h} {t = t} (tells_end n m turn shut) = opens b n h.nub.left h t m refl turn
tells_open {b = b} {h = h} (tells_more {t = t} n left m ms turn is rest) = opens b n h.nub.left h t m refl turn

fitting_of : (b : Behaviour) (h : Host) → Fit b h → TellsFitting b h
fitting_of b h x = record { machine = x.machine; ended = x.ended }

pub nubs_stay : (b : Behaviour) → NubsStayFitting b
nubs_stay b m h t ms x wait none fits (at_once r is shut) =
    let y = subst (TellsFit b) is (handled_fit b m h fits (fit_of b h x none)) in
    let v = subst (λ (p : Replied). Waits p.1) is (handled_waits b m h (record { takes = wait; none_left = none })) in
    (fitting_of b t y.1, record { none_open = shut; none_left = v.none_left })
nubs_stay b m h t ms x wait none fits (later g is tells) =
    let y = subst (TellsFit b) is (handled_fit b m h fits (fit_of b h x none)) in
    let r = resumed_is (tells_open tells) tells in
    (fitting_of b t (tells_fit b tells y).1, record { none_open = r.shut; none_left = r.none_left })

pub nubs_give_none : (b : Behaviour) → NubsGiveNoBadReply b
nubs_give_none b side m s frame w w' there rest x fits may bad =
    let y = whole_of b m s rest x fits may in
    none_bad (nubs_over b) side m y.messages y.last s w there rest.idle fits y.replies y.takes y.all_fit y.are_heard bad
