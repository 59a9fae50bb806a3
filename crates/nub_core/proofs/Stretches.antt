-- Instructions one after another where no message is due.
use Rattle.std.proofs.Common.{◌≡◌, ◌∙◌, refl, sym, ap, ℕ, zero, suc, ◌+◌, ◌-◌, ◌<◌, ◌≤◌, nat_eq, Bool, true, false, if◌then◌else◌, length, Option, Some, None, arith}
use Rattle.std.proofs.lemmas.Bool.Decides.{nat_tests}
use Rattle.ldb_words.specs.declared.event.Event.{Event}
use Rattle.ldb_words.specs.declared.event.Event.TheVariants as event
use Rattle.machine_state.specs.State.{MachineState, Behaviour}
use Rattle.nub_wire.specs.declared.message.Msg.{Msg}
use Rattle.nub_wire.specs.declared.message.Ending.{Ending}
use Rattle.nub_wire.specs.Nub.{NubState, Host, Replied, host, due, due_of, settle, settled, acted, advanced, running, or_then, told_output}
use Rattle.nub_wire.proofs.Turns.{due_same}

-- a nub with so many turns left, and its machine
abbrev pub at : NubState → ℕ → MachineState → Host
at nub l m = host (record nub { left = Some l }) m

not_full : (n : ℕ) → n < 1024 → nat_eq n 1024 ≡ false
not_full n h = grind (arith, nat_tests)

no_output_due : (b : Bool) (h : Host) → b ≡ false → (if b then told_output h else (None, h)) ≡ (None, h)
no_output_due true h e = cc
no_output_due false h e = refl

due_none : (e : Option Ending) (h : Host) → e ≡ None → length h.nub.output < 1024 → due e h ≡ (None, h)
due_none None h e room = no_output_due (nat_eq (length h.nub.output) 1024) h (not_full (length h.nub.output) room)
due_none (Some x) h e room = cc

settle_same : (b : Behaviour) (e : Option Ending) (l : ℕ) (h : Host) → e ≡ None → settle b e (Some (suc l)) h ≡ h
settle_same b None l h e = refl
settle_same b (Some x) l h e = cc

none_due : (b : Behaviour) (nub : NubState) (l : ℕ) (m : MachineState) → nub.ended ≡ None → length nub.output < 1024
    → due_of b (at nub (suc l) m) ≡ (None, at nub (suc l) m)
unfolding due_of settled
none_due b nub l m e room =
    ap (λ (h : Host). due h.nub.ended h) (settle_same b nub.ended l (at nub (suc l) m) e) ∙ due_none nub.ended (at nub (suc l) m) e room

goes_one : (b : Behaviour) (k : ℕ) (nub : NubState) (l : ℕ) (m : MachineState) → nub.ended ≡ None → length nub.output < 1024
    → running b (suc k) (at nub (suc l) m) ≡ running b k (acted b l (record nub { left = Some (suc l) }) (b.next m))
unfolding running advanced
goes_one b k nub l m e room = ap (λ (p : Replied). or_then p (λ h. running b k (advanced b h))) (none_due b nub l m e room)

-- an instruction that goes on
pub stretch_goes : (b : Behaviour) (most left turn : ℕ) (nub : NubState) (m m' : MachineState) → turn < left → turn < most
    → nub.ended ≡ None → length nub.output < 1024 → b.next m ≡ (event.Went, m')
    → running b (most - turn) (at nub (left - turn) m) ≡ running b (most - (turn + 1)) (at nub (left - (turn + 1)) m')
unfolding acted
stretch_goes b most left turn nub m m' lt more e room step =
    let l : left - turn ≡ suc (left - (turn + 1)) = omega arith in
    let k : most - turn ≡ suc (most - (turn + 1)) = omega arith in
    rw (l, k) (goes_one b (most - (turn + 1)) nub (left - (turn + 1)) m e room ∙ rw step refl)

-- an instruction that does more
pub stretch_acts : (b : Behaviour) (most left turn : ℕ) (nub : NubState) (m m' : MachineState) (x : Event) (now : Host) → turn < left → turn < most
    → nub.ended ≡ None → length nub.output < 1024 → b.next m ≡ (x, m')
    → now ≡ acted b (left - turn - 1) (record nub { left = Some (left - turn) }) (x, m')
    → running b (most - turn) (at nub (left - turn) m) ≡ running b (most - (turn + 1)) now
stretch_acts b most left turn nub m m' x now lt more e room step acts =
    let l : left - turn ≡ suc (left - (turn + 1)) = omega arith in
    let k : most - turn ≡ suc (most - (turn + 1)) = omega arith in
    let same : left - turn - 1 ≡ left - (turn + 1) = omega arith in
    let after : acted b (left - (turn + 1)) (record nub { left = Some (suc (left - (turn + 1))) }) (x, m') ≡ now = sym (acts ∙ rw (same, l) refl) in
    rw (l, k) (goes_one b (most - (turn + 1)) nub (left - (turn + 1)) m e room ∙ rw step (ap (running b (most - (turn + 1))) after))

-- ---- where nothing can go on

still : (b : Behaviour) (n : ℕ) (h : Host) → due_of b h ≡ (None, h) → advanced b h ≡ h → running b n h ≡ (None, h)
unfolding running
still b zero h d a = d
still b (suc n) h d a = rw d (ap (running b n) a ∙ still b n h d a)

pub stuck : (b : Behaviour) (n : ℕ) (h g : Host) → due_of b h ≡ (None, g) → advanced b g ≡ g → running b n h ≡ (None, g)
stuck b n h g d a =
    let same : h ≡ g = due_same b h g d in
    ap (running b n) same ∙ still b n g (ap (due_of b) (sym same) ∙ d) a

pub advanced_shut : (b : Behaviour) (h : Host) → h.nub.left ≡ None → advanced b h ≡ h
unfolding advanced
advanced_shut b h e = rw e refl

pub advanced_none : (b : Behaviour) (h : Host) → h.nub.left ≡ Some zero → advanced b h ≡ h
unfolding advanced
advanced_none b h e = rw e refl

-- the rest of the instructions, after a stretch of some
pub rest_runs : (b : Behaviour) (rest count : ℕ) (h g f : Host) → due_of b h ≡ (None, g)
    → running b rest g ≡ running b (rest - count) f → running b rest h ≡ running b (rest - count) f
rest_runs b rest count h g f d e = ap (running b rest) (due_same b h g d) ∙ e

pub due_runs : (b : Behaviour) (rest : ℕ) (h g : Host) (m : Msg) → due_of b h ≡ (Some m, g) → running b rest h ≡ (Some m, g)
unfolding running
due_runs b zero h g m d = d
due_runs b (suc n) h g m d = rw d refl

pub due_at_end : (b : Behaviour) (rest : ℕ) (h : Host) (p : Replied) → rest ≤ 0 → due_of b h ≡ p → running b rest h ≡ p
unfolding running
due_at_end b zero h p e d = d
due_at_end b (suc n) h p e d = absurd (omega arith)

pub at_start : (h : Host) (l : ℕ) → h.nub.left ≡ Some l → h ≡ at h.nub l h.machine
at_start h l e = ap (λ (o : Option ℕ). host (record h.nub { left = o }) h.machine) e
