-- A nub answers each message as a debugger is owed it.
use Rattle.std.proofs.Common.{◌≡◌, refl, ℕ, ◌+◌, ◌^◌, ◌<◌, nat_le, nat_lt, Bool, true, false, if◌then◌else◌, List, length, Option, Some, None, Result, Ok, Err, arith}
use Rattle.std.proofs.lemmas.Bool.Decides.{nat_tests}
use Rattle.ldb_words.specs.declared.event.Outside.{Outside}
use Rattle.machine_state.specs.State.{MachineState, Behaviour, order_of, with_memory, with_input}
use Rattle.machine_state.specs.Regions.{read_of, write_of}
use Rattle.nub_wire.specs.declared.message.Msg.{Msg}
use Rattle.nub_wire.specs.declared.message.Msg.TheVariants as msg
use Rattle.nub_wire.specs.declared.message.Size.{Size}
use Rattle.nub_wire.specs.declared.message.Size.TheVariants as size
use Rattle.nub_wire.specs.declared.message.Ending.{Ending}
use Rattle.nub_wire.specs.declared.message.Ending.TheVariants as ending
use Rattle.nub_wire.specs.declared.reply.Heard.TheVariants.{Ends}
use Rattle.nub_wire.specs.Endings.{reply_of}
use Rattle.nub_wire.specs.Spelling.{size_byte}
use Rattle.nub_wire.specs.Replies.{heard}
use Rattle.nub_wire.specs.Nub.{NubState, Host, Replied, fetch_reply, done_or_outside, after_done, resumed, served, handled}
use Rattle.nub_wire.specs.Heard.{IsShut, GivesBytes, MayAsk, IsAnswered}
use Rattle.nub_wire.proofs.Outputs.{opens_within}

byte_heard : (address : ℕ) (r : Result ℕ Outside) → ((value : ℕ) → r ≡ Ok value → value < 256) → heard (msg.Fetch address size.Byte) 0 (fetch_reply r) ≡ Ends
byte_heard address (Err e) small = refl
byte_heard address (Ok value) small =
    let v : value < 256 = small value refl in
    let e : nat_lt value 256 ≡ true = grind (arith, nat_tests) in
    rw e refl

word_heard : (address : ℕ) (r : Result ℕ Outside) → heard (msg.Fetch address size.Word) 0 (fetch_reply r) ≡ Ends
word_heard address (Err e) = refl
word_heard address (Ok value) = refl

store_heard : (address value : ℕ) (s : Size) (done : Bool) → heard (msg.Store address s value) 0 (done_or_outside done) ≡ Ends
store_heard address value s true = refl
store_heard address value s false = refl

input_heard : (bytes : List ℕ) (m : MachineState) (nub : NubState) (fits : Bool) → fits ≡ true → IsShut nub
    → IsAnswered (msg.Input bytes) (after_done nub (if fits then (true, with_input bytes m) else (false, m)))
input_heard bytes m nub true e s = (refl, s)
input_heard bytes m nub false e s = cc

ended_heard : (turns : ℕ) (e : Ending) → heard (msg.Resume turns) 0 (reply_of e) ≡ Ends
ended_heard turns (ending.Stopped why pc) = refl
ended_heard turns (ending.Exited status) = refl
ended_heard turns (ending.Faulted fault pc) = refl
ended_heard turns ending.Turns = refl
ended_heard turns ending.Stack = refl

resumed_answered : (b : Behaviour) (turns : ℕ) (e : Option Ending) (h : Host) → IsShut h.nub → IsAnswered (msg.Resume turns) (resumed b turns e h)
resumed_answered b turns (Some e) h s = (ended_heard turns e, s)
resumed_answered b turns None h s = opens_within turns h.nub s

served_answered : (b : Behaviour) (m : Msg) (h : Host) → IsShut h.nub → GivesBytes h.machine → MayAsk m h.machine → IsAnswered m (served b m h)
unfolding served
served_answered b msg.Hello h s g a = (refl, s)
served_answered b (msg.Fetch address size.Byte) h s g a = (byte_heard address (read_of (order_of h.machine) h.machine.memory address 1) (g address), s)
served_answered b (msg.Fetch address size.Word) h s g a = (word_heard address (read_of (order_of h.machine) h.machine.memory address 4), s)
served_answered b (msg.Store address size value) h s g a =
    (store_heard address value size (with_memory (write_of (order_of h.machine) h.machine.memory address (size_byte size) value) h.machine).0, s)
served_answered b (msg.Resume turns) h s g a = resumed_answered b turns h.nub.ended h s
served_answered b msg.Kill h s g a = (refl, record { none_open = s.none_open; none_left = s.none_left })
served_answered b (msg.Input bytes) h s g a =
    let e : nat_le (h.machine.given + length bytes) (2 ^ 24) ≡ true = grind (arith, nat_tests) in
    input_heard bytes h.machine h.nub (nat_le (h.machine.given + length bytes) (2 ^ 24)) e s
served_answered b (msg.Word value) h s g a = absurd a
served_answered b msg.Done h s g a = absurd a
served_answered b msg.Outside h s g a = absurd a
served_answered b (msg.Stopped why pc) h s g a = absurd a
served_answered b (msg.Output bytes) h s g a = absurd a
served_answered b (msg.Exited status) h s g a = absurd a
served_answered b (msg.Faulted fault pc) h s g a = absurd a
served_answered b msg.Turns h s g a = absurd a
served_answered b msg.Stack h s g a = absurd a

chosen : (m : Msg) (x y : Bool) (p q r : Replied) → x ≡ false → y ≡ false → IsAnswered m r → IsAnswered m (if x then p else if y then q else r)
chosen m false false p q r e f h = h
chosen m true y p q r e f h = cc
chosen m false true p q r e f h = cc

pub handle_answered : (b : Behaviour) (m : Msg) (h : Host) → h.nub.blocked ≡ false → h.nub.killed ≡ false → IsShut h.nub → GivesBytes h.machine
    → MayAsk m h.machine → IsAnswered m (handled b m h)
unfolding handled
handle_answered b m h e f s g a = chosen m h.nub.blocked h.nub.killed (None, h) (Some msg.Outside, h) (served b m h) e f (served_answered b m h s g a)
