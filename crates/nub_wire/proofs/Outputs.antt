-- A resume has no more output than turns.
use Rattle.std.proofs.Common.{◌≡◌, refl, sym, subst, ℕ, zero, suc, ◌+◌, ◌≤◌, nat_eq, nat_le, Bool, true, false, if◌then◌else◌, List, [], ◌∷◌, ◌++◌, length, option_to_list, Option, Some, None, arith}
use Rattle.std.proofs.lemmas.Bool.Decides.{nat_tests}
use Rattle.std.proofs.lemmas.Grind.{common_steps}
use Rattle.ldb_words.specs.declared.event.Event.{Event}
use Rattle.ldb_words.specs.declared.event.Event.TheVariants as event
use Rattle.machine_state.specs.State.{MachineState, Behaviour}
use Rattle.nub_wire.specs.declared.message.Msg.TheVariants as msg
use Rattle.nub_wire.specs.declared.message.Ending.{Ending}
use Rattle.nub_wire.specs.declared.message.Ending.TheVariants as ending
use Rattle.nub_wire.specs.declared.reply.Heard.TheVariants.{GoesOn, Bad}
use Rattle.machine_state.specs.declared.target.Cause.{Cause}
use Rattle.machine_state.specs.declared.target.Cause.TheVariants as cause
use Rattle.nub_wire.specs.Endings.{reply_of}
use Rattle.nub_wire.specs.Replies.{heard, printing}
use Rattle.nub_wire.specs.Nub.{NubState, Host, Replied, host, due, due_of, settle, settled, concluded, requested, acted, advance, advanced, turned, running, or_then, if_open, turn_of, told_ending, told_output}
use Rattle.nub_wire.specs.Heard.{AreWithin, IsWithin, IsShut, IsHeard, Resumes}

-- ---- what is told

emptied : (turns printed : ℕ) (left : Option ℕ) (output : List ℕ) → AreWithin turns printed left output → AreWithin turns (printed + length output) left []
emptied turns printed None output w = w
emptied turns printed (Some l) output w = omega (arith, w)

bounded : (turns printed : ℕ) (left : Option ℕ) (output : List ℕ) → AreWithin turns printed left output → printed + length output ≤ turns
bounded turns printed None output w = absurd w
bounded turns printed (Some l) output w = omega (arith, w)

printing_heard : (turns count : ℕ) (nub : NubState) → count ≤ turns → IsWithin turns count nub → IsHeard turns (printing turns count) nub
printing_heard turns count nub h w =
    let e : nat_le count turns ≡ true = grind (arith, nat_tests) in
    subst (λ (t : Bool). IsHeard turns (if t then GoesOn count else Bad) nub) (sym e) w

output_heard : (turns printed : ℕ) (h : Host) → IsWithin turns printed h.nub → Resumes turns printed (told_output h)
output_heard turns printed h w =
    printing_heard
    turns
    (printed + length h.nub.output)
    (record h.nub { output = [] })
    (bounded turns printed h.nub.left h.nub.output w)
    (emptied turns printed h.nub.left h.nub.output w)

reply_heard : (turns printed : ℕ) (e : Ending) (nub : NubState) → IsShut nub → IsHeard turns (heard (msg.Resume turns) printed (reply_of e)) nub
reply_heard turns printed (ending.Stopped why pc) nub s = s
reply_heard turns printed (ending.Exited status) nub s = s
reply_heard turns printed (ending.Faulted fault pc) nub s = s
reply_heard turns printed ending.Turns nub s = s
reply_heard turns printed ending.Stack nub s = s

no_length : (xs : List ℕ) → nat_eq (length xs) 0 ≡ true → xs ≡ []
no_length [] e = refl
no_length (x ∷ xs) e = let z : suc (length xs) ≡ 0 = grind (arith, nat_tests) in absurd (omega (arith, z))

ending_due : (turns printed : ℕ) (e : Ending) (h : Host) (t : Bool) → nat_eq (length h.nub.output) 0 ≡ t → IsWithin turns printed h.nub
    → Resumes turns printed (if t then told_ending e h else told_output h)
ending_due turns printed e h true x w =
    reply_heard turns printed e (told_ending e h).1.nub (record { none_open = refl; none_left = no_length h.nub.output x })
ending_due turns printed e h false x w = output_heard turns printed h w

output_due : (turns printed : ℕ) (h : Host) (t : Bool) → IsWithin turns printed h.nub → Resumes turns printed (if t then told_output h else (None, h))
output_due turns printed h true w = output_heard turns printed h w
output_due turns printed h false w = w

due_any : (turns printed : ℕ) (e : Option Ending) (h : Host) → IsWithin turns printed h.nub → Resumes turns printed (due e h)
due_any turns printed None h w = output_due turns printed h (nat_eq (length h.nub.output) 1024) w
due_any turns printed (Some e) h w = ending_due turns printed e h (nat_eq (length h.nub.output) 0) refl w

concluded_within : (b : Behaviour) (c : Cause) (turns printed : ℕ) (h : Host) → IsWithin turns printed h.nub → IsWithin turns printed (concluded b c h).nub
unfolding concluded
concluded_within b c turns printed h w = w

settle_within : (b : Behaviour) (e : Option Ending) (left : Option ℕ) (turns printed : ℕ) (h : Host) → IsWithin turns printed h.nub
    → IsWithin turns printed (settle b e left h).nub
settle_within b None (Some zero) turns printed h w = concluded_within b cause.Turns turns printed h w
settle_within b None (Some (suc n)) turns printed h w = w
settle_within b None None turns printed h w = w
settle_within b (Some e) left turns printed h w = w

due_heard : (b : Behaviour) (turns printed : ℕ) (h : Host) → IsWithin turns printed h.nub → Resumes turns printed (due_of b h)
unfolding due_of settled
due_heard b turns printed h w =
    let s = settle b h.nub.ended h.nub.left h in
    due_any turns printed s.nub.ended s (settle_within b h.nub.ended h.nub.left turns printed h w)

-- ---- one instruction

fewer_left : (turns printed l : ℕ) (output : List ℕ) → AreWithin turns printed (Some (suc l)) output → AreWithin turns printed (Some l) output
fewer_left turns printed l output w = omega (arith, w)

one_more : (turns printed l : ℕ) (output : List ℕ) (put : Option ℕ) → AreWithin turns printed (Some (suc l)) output
    → AreWithin turns printed (Some l) (output ++ option_to_list put)
one_more turns printed l output None w = grind (arith, common_steps)
one_more turns printed l output (Some byte) w = grind (arith, common_steps)

either : (turns printed : ℕ) (t : Bool) (x y : Host) → IsWithin turns printed x.nub → IsWithin turns printed y.nub
    → IsWithin turns printed (if t then x else y).nub
either turns printed true x y p q = p
either turns printed false x y p q = q

requested_within : (b : Behaviour) (number l turns printed : ℕ) (nub : NubState) (m : MachineState) → AreWithin turns printed (Some (suc l)) nub.output
    → IsWithin turns printed (requested b number (turned l nub m)).nub
unfolding requested
requested_within b number l turns printed nub m w =
    let h = turned l nub m in
    let fewer = fewer_left turns printed l nub.output w in
    either turns printed (nat_eq number 2) _ _ (one_more turns printed l nub.output m.put w)
    (either turns printed (nat_eq number 3) _ _ (concluded_within b (cause.Exit (b.argument m)) turns printed h fewer)
    (either turns printed (nat_eq number 4) _ _ (concluded_within b cause.Pause turns printed h fewer)
    (either turns printed (nat_eq number 5) _ h (concluded_within b cause.Stack turns printed h fewer) fewer)))

acted_within : (b : Behaviour) (l turns printed : ℕ) (nub : NubState) (e : Event) (m : MachineState) → nub.left ≡ Some (suc l)
    → IsWithin turns printed nub → AreWithin turns printed (Some (suc l)) nub.output → IsWithin turns printed (acted b l nub (e, m)).nub
unfolding acted
acted_within b l turns printed nub event.Went m x w v = fewer_left turns printed l nub.output v
acted_within b l turns printed nub event.Break m x w v = concluded_within b cause.Break turns printed (host nub m) w
acted_within b l turns printed nub (event.Request number) m x w v = requested_within b number l turns printed nub m v
acted_within b l turns printed nub (event.Fault kind) m x w v = concluded_within b (cause.Fault kind) turns printed (host nub m) w

advance_within : (b : Behaviour) (left : Option ℕ) (turns printed : ℕ) (h : Host) → h.nub.left ≡ left → IsWithin turns printed h.nub
    → AreWithin turns printed left h.nub.output → IsWithin turns printed (advance b left h).nub
advance_within b None turns printed h e w v = w
advance_within b (Some zero) turns printed h e w v = w
advance_within b (Some (suc l)) turns printed h e w v = acted_within b l turns printed h.nub (b.next h.machine).0 (b.next h.machine).1 e w v

advanced_within : (b : Behaviour) (turns printed : ℕ) (h : Host) → IsWithin turns printed h.nub → IsWithin turns printed (advanced b h).nub
unfolding advanced
advanced_within b turns printed h w = advance_within b h.nub.left turns printed h refl w w

-- ---- runs

then_heard : (turns printed : ℕ) (p : Replied) (go : Host → Replied) → Resumes turns printed p
    → ((h : Host) → IsWithin turns printed h.nub → Resumes turns printed (go h)) → Resumes turns printed (or_then p go)
then_heard turns printed (Some m, h) go r more = r
then_heard turns printed (None, h) go r more = more h r

run_heard : (b : Behaviour) (n turns printed : ℕ) (h : Host) → IsWithin turns printed h.nub → Resumes turns printed (running b n h)
unfolding running
run_heard b zero turns printed h w = due_heard b turns printed h w
run_heard b (suc n) turns printed h w =
    then_heard
    turns
    printed
    (due_of b h)
    (λ g. running b n (advanced b g))
    (due_heard b turns printed h w)
    (λ g v. run_heard b n turns printed (advanced b g) (advanced_within b turns printed g v))

open_heard : (turns printed : ℕ) (left : Option ℕ) (x y : Replied) → Resumes turns printed x → Resumes turns printed y
    → Resumes turns printed (if_open left x y)
open_heard turns printed None x y p q = p
open_heard turns printed (Some n) x y p q = q

pub turn_heard : (b : Behaviour) (n turns printed : ℕ) (h : Host) → IsWithin turns printed h.nub → Resumes turns printed (turn_of b n h)
unfolding turn_of
turn_heard b n turns printed h w = open_heard turns printed h.nub.left (None, h) (running b n h) w (run_heard b n turns printed h w)

-- ---- the start of a resume

pub opens_within : (turns : ℕ) (nub : NubState) → IsShut nub → AreWithin turns 0 (Some turns) nub.output
opens_within turns nub s = subst (λ (output : List ℕ). AreWithin turns 0 (Some turns) output) (sym s.none_left) (omega arith)
