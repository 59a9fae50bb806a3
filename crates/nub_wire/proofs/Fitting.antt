-- What a nub tells fits its messages, and goes on to.
use Rattle.std.proofs.Common.{◌≡◌, inl, inr, refl, sym, subst, ℕ, zero, suc, ◌+◌, ◌^◌, ◌<◌, ◌≤◌, nat_eq, Bool, true, false, if◌then◌else◌, List, [], ◌∷◌, ◌++◌, length, option_to_list, Option, None, Some, Result, Ok, Err, arith, length-append}
use Rattle.std.proofs.lemmas.Bool.Decides.{nat_tests}
use Rattle.ldb_words.specs.declared.event.Event.{Event}
use Rattle.ldb_words.specs.declared.event.Event.TheVariants as event
use Rattle.ldb_words.specs.declared.event.Outside.{Outside}
use Rattle.machine_state.specs.Regions.{read_of, write_of}
use Rattle.machine_state.specs.Sound.{IsMemory, IsByteIfAny, IsWidth}
use Rattle.machine_state.specs.State.{MachineState, Behaviour, order_of, with_memory, given_input}
use Rattle.machine_state.specs.declared.target.Cause.{Cause}
use Rattle.machine_state.specs.declared.target.Cause.TheVariants as cause
use Rattle.machine_state.proofs.SoundMemory.{read_byte, read_word, below_append}
use Rattle.nub_wire.specs.declared.message.Msg.{Msg}
use Rattle.nub_wire.specs.declared.message.Msg.TheVariants as msg
use Rattle.nub_wire.specs.declared.message.Size.{Size}
use Rattle.nub_wire.specs.declared.message.Size.TheVariants as size
use Rattle.nub_wire.specs.declared.message.Ending.{Ending}
use Rattle.nub_wire.specs.Endings.{or_window, ending_of, reply_of, is_final}
use Rattle.nub_wire.specs.Spelling.{MsgFits, AllBytes, size_byte}
use Rattle.nub_wire.specs.Feeding.{AllFit}
use Rattle.nub_wire.specs.Nub.{NubState, Host, Replied, host, pc_of, PC_PLACE, word_or_zero, fetch_reply, done_or_outside, resumed, served, handled, due, due_of, settle, settled, concluded, with_output, requested, acted, advance, advanced, turned, running, or_then, if_open, turn_of, told_ending, told_output}
use Rattle.nub_wire.specs.Resumes.{Tells, tells_end, tells_more}
use Rattle.nub_wire.specs.Fits.{Reached, begins, stepped, saved, restored, taken, stored, given, AlwaysTellsWords, EndFits, TellsFitting}

-- ---- machines

reached_from : {b : Behaviour} {m k n : MachineState} → Reached b m k → Reached b k n → Reached b m n
reached_from r begins = r
reached_from r (stepped x) = stepped (reached_from r x)
reached_from r (saved x) = saved (reached_from r x)
reached_from r (restored x) = restored (reached_from r x)
reached_from r (taken x) = taken (reached_from r x)
reached_from r (stored at width value w x) = stored at width value w (reached_from r x)
reached_from r (given bytes each x) = given bytes each (reached_from r x)

always_on : {b : Behaviour} {m n : MachineState} → AlwaysTellsWords b m → Reached b m n → AlwaysTellsWords b n
always_on a r = λ k x. a k (reached_from r x)

-- ---- a nub in a resume

-- what it is to tell, and the output that it gathered, fits messages
pub record Fit (b : Behaviour) (h : Host) : Type 0 where
  pub machine : AlwaysTellsWords b h.machine
  pub ended : EndFits h.nub.ended
  pub bytes : AllBytes h.nub.output
  pub short : length h.nub.output ≤ 1024

abbrev pub TellsFit : Behaviour → Replied → Type 0
TellsFit b (None, t) = Fit b t
TellsFit b (Some m, t) = MsgFits m × Fit b t

-- ---- ends

abbrev CauseFits : Cause → Type 0
CauseFits (cause.Exit status) = status < 2 ^ 32
CauseFits (cause.Fault kind) = Unit {0}
CauseFits cause.Break = Unit {0}
CauseFits cause.Pause = Unit {0}
CauseFits cause.Turns = Unit {0}
CauseFits cause.Stack = Unit {0}

word_fits : (r : Result ℕ Outside) → ((v : ℕ) → r ≡ Ok v → v < 2 ^ 32) → word_or_zero r < 2 ^ 32
word_fits (Ok v) f = f v refl
word_fits (Err e) f = omega arith

pc_fits : (m : MachineState) → IsMemory m.memory → pc_of m < 2 ^ 32
pc_fits m h = word_fits (read_of (order_of m) m.memory PC_PLACE 4) (λ (v : ℕ) e. read_word (order_of m) m.memory PC_PLACE v h e)

window_fits : (flushed : Bool) (pc : ℕ) (e : Ending) → pc < 2 ^ 32 → MsgFits (reply_of e) → MsgFits (reply_of (or_window flushed pc e))
window_fits true pc e p f = f
window_fits false pc e p f = p

end_fits : (c : Cause) (flushed : Bool) (pc : ℕ) → CauseFits c → pc < 2 ^ 32 → MsgFits (reply_of (ending_of c flushed pc))
end_fits cause.Break flushed pc f p = window_fits flushed pc _ p p
end_fits cause.Pause flushed pc f p = window_fits flushed pc _ p p
end_fits (cause.Exit status) flushed pc f p = f
end_fits (cause.Fault kind) flushed pc f p = p
end_fits cause.Turns flushed pc f p = window_fits flushed pc _ p tt
end_fits cause.Stack flushed pc f p = tt

some_length : (xs : List ℕ) → nat_eq (length xs) 0 ≡ false → 1 ≤ length xs
some_length [] e = cc
some_length (x ∷ xs) e = omega arith

full_length : (xs : List ℕ) → nat_eq (length xs) 1024 ≡ true → 1 ≤ length xs
full_length [] e = cc
full_length (x ∷ xs) e = omega arith

kept_fits : (t : Bool) (e : Ending) → MsgFits (reply_of e) → EndFits (if t then Some e else None)
kept_fits true e f = f
kept_fits false e f = tt

module _ (b : Behaviour) where
  concluded_fit : (c : Cause) (h : Host) → CauseFits c → Fit b h → Fit b (concluded b c h)
  unfolding concluded
  concluded_fit c h f x =
      let m = (b.saved h.machine).1 in
      let always : AlwaysTellsWords b m = always_on x.machine (saved begins) in
      record { machine = always; ended = end_fits c (b.saved h.machine).0 (pc_of m) f (pc_fits m (always m begins).memory); bytes = x.bytes; short = x.short }

  settle_fit : (e : Option Ending) (left : Option ℕ) (h : Host) → Fit b h → Fit b (settle b e left h)
  settle_fit None (Some zero) h x = concluded_fit cause.Turns h tt x
  settle_fit None (Some (suc n)) h x = x
  settle_fit None None h x = x
  settle_fit (Some e) left h x = x

  output_fit : (h : Host) → 1 ≤ length h.nub.output → Fit b h → TellsFit b (told_output h)
  output_fit h some x = (record { some = some; fits = x.short; each = x.bytes }, record { machine = x.machine; ended = x.ended; bytes = tt; short = omega arith })

  -- where no message is due there is room for a byte more
  abbrev DueFit : Replied → Type 0
  DueFit (None, t) = Fit b t × (length t.nub.output < 1024)
  DueFit (Some m, t) = MsgFits m × Fit b t

  less : (n : ℕ) → n ≤ 1024 → nat_eq n 1024 ≡ false → n < 1024
  less n h e = grind (arith, nat_tests)

  full_fit : (t : Bool) (h : Host) → nat_eq (length h.nub.output) 1024 ≡ t → Fit b h → DueFit (if t then told_output h else (None, h))
  full_fit true h e x = output_fit h (full_length h.nub.output e) x
  full_fit false h e x = (x, less (length h.nub.output) x.short e)

  ending_fit : (t : Bool) (e : Ending) (h : Host) → nat_eq (length h.nub.output) 0 ≡ t → MsgFits (reply_of e) → Fit b h → DueFit (if t then told_ending e h else told_output h)
  ending_fit true e h is f x = (f, record { machine = x.machine; ended = kept_fits (is_final e) e f; bytes = x.bytes; short = x.short })
  ending_fit false e h is f x = output_fit h (some_length h.nub.output is) x

  due_any : (e : Option Ending) (h : Host) → h.nub.ended ≡ e → Fit b h → DueFit (due e h)
  due_any None h is x = full_fit (nat_eq (length h.nub.output) 1024) h refl x
  due_any (Some e) h is x = ending_fit (nat_eq (length h.nub.output) 0) e h refl (subst EndFits is x.ended) x

  due_fit : (h : Host) → Fit b h → DueFit (due_of b h)
  unfolding due_of settled
  due_fit h x = let s = settle b h.nub.ended h.nub.left h in due_any s.nub.ended s refl (settle_fit h.nub.ended h.nub.left h x)

  -- ---- one instruction

  turned_fit : (n : ℕ) (nub : NubState) (m : MachineState) → Fit b (host nub m) → Fit b (turned n nub m)
  turned_fit n nub m x = record { machine = x.machine; ended = x.ended; bytes = x.bytes; short = x.short }

  put_bytes : (o : Option ℕ) → IsByteIfAny o → AllBytes (option_to_list o)
  put_bytes None p = tt
  put_bytes (Some v) p = (p, tt)

  put_short : (o : Option ℕ) → length (option_to_list o) ≤ 1
  put_short None = omega arith
  put_short (Some v) = omega arith

  with_output_fit : (h : Host) → length h.nub.output < 1024 → Fit b h → Fit b (with_output h)
  with_output_fit h room x =
      let p = (x.machine h.machine begins).put in
      let one : length (option_to_list h.machine.put) ≤ 1 = put_short h.machine.put in
      let all : length (h.nub.output ++ option_to_list h.machine.put) ≡ length h.nub.output + length (option_to_list h.machine.put) = length-append h.nub.output (option_to_list h.machine.put) in
      record {
        machine = always_on x.machine (taken begins);
        ended = x.ended;
        bytes = below_append 256 h.nub.output (option_to_list h.machine.put) x.bytes (put_bytes h.machine.put p);
        short = omega (arith, one, all, room);
      }

  either_fit : (t : Bool) (x y : Host) → Fit b x → Fit b y → Fit b (if t then x else y)
  either_fit true x y p q = p
  either_fit false x y p q = q

  requested_fit : (n : ℕ) (h : Host) → length h.nub.output < 1024 → Fit b h → Fit b (requested b n h)
  unfolding requested
  requested_fit n h room x =
      either_fit (nat_eq n 2) _ _ (with_output_fit h room x)
      (either_fit (nat_eq n 3) _ _ (concluded_fit (cause.Exit (b.argument h.machine)) h (x.machine h.machine begins).argument x)
      (either_fit (nat_eq n 4) _ _ (concluded_fit cause.Pause h tt x)
      (either_fit (nat_eq n 5) _ h (concluded_fit cause.Stack h tt x) x)))

  acted_fit : (n : ℕ) (nub : NubState) (e : Event) (m : MachineState) → length nub.output < 1024 → Fit b (host nub m) → Fit b (acted b n nub (e, m))
  unfolding acted
  acted_fit n nub event.Went m room x = turned_fit n nub m x
  acted_fit n nub event.Break m room x = concluded_fit cause.Break (host nub m) tt x
  acted_fit n nub (event.Request number) m room x = requested_fit number (turned n nub m) room (turned_fit n nub m x)
  acted_fit n nub (event.Fault kind) m room x = concluded_fit (cause.Fault kind) (host nub m) tt x

  advance_fit : (left : Option ℕ) (h : Host) → length h.nub.output < 1024 → Fit b h → Fit b (advance b left h)
  advance_fit None h room x = x
  advance_fit (Some zero) h room x = x
  advance_fit (Some (suc n)) h room x =
      acted_fit n h.nub (b.next h.machine).0 (b.next h.machine).1 room (record { machine = always_on x.machine (stepped begins); ended = x.ended; bytes = x.bytes; short = x.short })

  advanced_fit : (h : Host) → length h.nub.output < 1024 → Fit b h → Fit b (advanced b h)
  unfolding advanced
  advanced_fit h room x = advance_fit h.nub.left h room x

  -- ---- runs

  due_tells : (p : Replied) → DueFit p → TellsFit b p
  due_tells (None, t) x = x.0
  due_tells (Some m, t) x = x

  then_fit : (p : Replied) (go : Host → Replied) → DueFit p → ((t : Host) → length t.nub.output < 1024 → Fit b t → TellsFit b (go t)) → TellsFit b (or_then p go)
  then_fit (Some m, t) go x more = x
  then_fit (None, t) go x more = more t x.1 x.0

  run_fit : (n : ℕ) (h : Host) → Fit b h → TellsFit b (running b n h)
  unfolding running
  run_fit zero h x = due_tells (due_of b h) (due_fit h x)
  run_fit (suc n) h x = then_fit (due_of b h) (λ g. running b n (advanced b g)) (due_fit h x) (λ g room y. run_fit n (advanced b g) (advanced_fit g room y))

  open_fit : (left : Option ℕ) (x y : Replied) → TellsFit b x → TellsFit b y → TellsFit b (if_open left x y)
  open_fit None x y p q = p
  open_fit (Some n) x y p q = q

  turn_fit : (n : ℕ) (h : Host) → Fit b h → TellsFit b (turn_of b n h)
  unfolding turn_of
  turn_fit n h x = open_fit h.nub.left (None, h) (running b n h) x (run_fit n h x)

  pub tells_fit : {h t : Host} {ms : List Msg} → Tells b h ms t → Fit b h → AllFit ms × Fit b t
  tells_fit {h = h} (tells_end n m turn shut) x = let y = subst (TellsFit b) turn (turn_fit n h x) in ((y.0, tt), y.1)
  tells_fit {h = h} (tells_more n left m ms turn is more) x =
      let y = subst (TellsFit b) turn (turn_fit n h x) in
      let z = tells_fit more y.1 in
      ((y.0, z.0), z.1)

  -- ---- what is told at once

  same_fit : (h : Host) (m : MachineState) → AlwaysTellsWords b m → Fit b h → Fit b (host h.nub m)
  same_fit h m a x = record { machine = a; ended = x.ended; bytes = x.bytes; short = x.short }

  width_of : (s : Size) → IsWidth (size_byte s)
  width_of size.Byte = inl refl
  width_of size.Word = inr (inr refl)

  read_fits : (r : Result ℕ Outside) → ((v : ℕ) → r ≡ Ok v → v < 2 ^ 32) → MsgFits (fetch_reply r)
  read_fits (Ok v) f = f v refl
  read_fits (Err e) f = tt

  byte_fits : (m : MachineState) (at v : ℕ) → IsMemory m.memory → read_of (order_of m) m.memory at 1 ≡ Ok v → v < 2 ^ 32
  byte_fits m at v h e = let small = read_byte (order_of m) m.memory at v h e in omega (arith, small)

  fetch_fits : (s : Size) (m : MachineState) (at : ℕ) → IsMemory m.memory → MsgFits (fetch_reply (read_of (order_of m) m.memory at (size_byte s)))
  fetch_fits size.Byte m at h = read_fits (read_of (order_of m) m.memory at 1) (λ (v : ℕ) e. byte_fits m at v h e)
  fetch_fits size.Word m at h = read_fits (read_of (order_of m) m.memory at 4) (λ (v : ℕ) e. read_word (order_of m) m.memory at v h e)

  done_fits : (t : Bool) → MsgFits (done_or_outside t)
  done_fits true = tt
  done_fits false = tt

  resumed_fit : (turns : ℕ) (e : Option Ending) (h : Host) → EndFits e → Fit b h → TellsFit b (resumed b turns e h)
  resumed_fit turns (Some e) h f x = (f, x)
  resumed_fit turns None h f x = record { machine = always_on x.machine (restored begins); ended = x.ended; bytes = x.bytes; short = x.short }

  served_fit : (m : Msg) (h : Host) → MsgFits m → Fit b h → TellsFit b (served b m h)
  unfolding served
  served_fit msg.Hello h f x = (omega arith, x)
  served_fit (msg.Fetch address s) h f x = (fetch_fits s h.machine address (x.machine h.machine begins).memory, x)
  served_fit (msg.Store address s value) h f x =
      let p = with_memory (write_of (order_of h.machine) h.machine.memory address (size_byte s) value) h.machine in
      (done_fits p.0, same_fit h p.1 (always_on x.machine (stored address (size_byte s) value (width_of s) begins)) x)
  served_fit (msg.Resume turns) h f x = resumed_fit turns h.nub.ended h x.ended x
  served_fit msg.Kill h f x = (tt, record { machine = x.machine; ended = x.ended; bytes = x.bytes; short = x.short })
  served_fit (msg.Input bytes) h f x =
      let p = given_input bytes h.machine in
      (done_fits p.0, same_fit h p.1 (always_on x.machine (given bytes f.each begins)) x)
  served_fit (msg.Word value) h f x = (tt, x)
  served_fit msg.Done h f x = (tt, x)
  served_fit msg.Outside h f x = (tt, x)
  served_fit (msg.Stopped why pc) h f x = (tt, x)
  served_fit (msg.Output bytes) h f x = (tt, x)
  served_fit (msg.Exited status) h f x = (tt, x)
  served_fit (msg.Faulted fault pc) h f x = (tt, x)
  served_fit msg.Turns h f x = (tt, x)
  served_fit msg.Stack h f x = (tt, x)

  chosen_fit : (blocked killed : Bool) (h : Host) (r : Replied) → Fit b h → TellsFit b r → TellsFit b (if blocked then (None, h) else if killed then (Some msg.Outside, h) else r)
  chosen_fit true killed h r x y = x
  chosen_fit false true h r x y = (tt, x)
  chosen_fit false false h r x y = y

  pub handled_fit : (m : Msg) (h : Host) → MsgFits m → Fit b h → TellsFit b (handled b m h)
  unfolding handled
  handled_fit m h f x = chosen_fit h.nub.blocked h.nub.killed h (served b m h) x (served_fit m h f x)

  pub fit_of : (h : Host) → TellsFitting b h → h.nub.output ≡ [] → Fit b h
  fit_of h x none = record {
    machine = x.machine;
    ended = x.ended;
    bytes = subst AllBytes (sym none) tt;
    short = subst (λ (l : List ℕ). length l ≤ 1024) (sym none) (omega arith);
  }
