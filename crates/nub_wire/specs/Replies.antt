-- What a debugger is owed, and the replies that no nub gives.
use Rattle.std.specs.Prelude.{ℕ, ◌+◌, nat_le, nat_lt, Bool, true, false, if◌then◌else◌, length}
use Rattle.nub_wire.specs.declared.message.Size.TheVariants as size
use Rattle.nub_wire.specs.declared.message.Msg.{Msg}
use Rattle.nub_wire.specs.declared.message.Msg.TheVariants as msg
use Rattle.nub_wire.specs.declared.reply.Heard.{Heard}
use Rattle.nub_wire.specs.declared.reply.Heard.TheVariants.{Ends, GoesOn, Bad}

-- The second message is the whole reply of a nub that wasn't killed to the first, or ends it. Input that is Outside is
-- more than a debugger may send, so none gets this reply. A byte fetched is below 256.
abbrev pub ends_reply : Msg → Msg → Bool
ends_reply msg.Hello (msg.Word value) = true
ends_reply (msg.Fetch address size.Byte) (msg.Word value) = nat_lt value 256
ends_reply (msg.Fetch address size.Word) (msg.Word value) = true
ends_reply (msg.Fetch address s) msg.Outside = true
ends_reply (msg.Store address s value) msg.Done = true
ends_reply (msg.Store address s value) msg.Outside = true
ends_reply (msg.Resume turns) (msg.Stopped why pc) = true
ends_reply (msg.Resume turns) (msg.Exited status) = true
ends_reply (msg.Resume turns) (msg.Faulted fault pc) = true
ends_reply (msg.Resume turns) msg.Turns = true
ends_reply (msg.Resume turns) msg.Stack = true
ends_reply msg.Kill msg.Done = true
ends_reply (msg.Input bytes) msg.Done = true
ends_reply _ _ = false

abbrev pub ending : Bool → Heard
ending ends = if ends then Ends else Bad

-- one instruction puts at most one byte, so a resume has no more output than turns
abbrev pub printing : ℕ → ℕ → Heard
printing turns printed = if nat_le printed turns then GoesOn printed else Bad

-- What a frame is to a debugger that is owed the reply to a message, where so many bytes of output came before in this
-- resume.
abbrev pub heard : Msg → ℕ → Msg → Heard
heard (msg.Resume turns) printed (msg.Output bytes) = printing turns (printed + length bytes)
heard asked printed reply = ending (ends_reply asked reply)
