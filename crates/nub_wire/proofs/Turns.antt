-- Turns one after another.
use Rattle.std.proofs.Common.{◌≡◌, ◌∙◌, refl, sym, ap, subst, ℕ, zero, suc, ◌+◌, nat_eq, Bool, true, false, if◌then◌else◌, length, Option, Some, None, arith}
use Rattle.ldb_words.specs.declared.event.Event.{Event}
use Rattle.ldb_words.specs.declared.event.Event.TheVariants as event
use Rattle.machine_state.specs.State.{MachineState, Behaviour}
use Rattle.nub_wire.specs.declared.message.Msg.{Msg}
use Rattle.nub_wire.specs.declared.message.Ending.{Ending}
use Rattle.machine_state.specs.declared.target.Cause.{Cause}
use Rattle.machine_state.specs.declared.target.Cause.TheVariants as cause
use Rattle.nub_wire.specs.Nub.{NubState, Host, Replied, host, due, due_of, settled, concluded, requested, acted, advance, advanced, turned, running, or_then, if_open, turn_of, told_ending, told_output, pc_of, settle, ended_by}
use Rattle.nub_wire.specs.Endings.{ending_of}

-- ---- where no message is due nothing changed

apart : (m : Msg) → Some m ≡ None → ⊥
apart m e = cc

never : {A : Type 0} (m : Msg) (h h' : Host) → (let p : Replied = (Some m, h) in let q : Replied = (None, h') in p ≡ q) → A
never m h h' x = let e : Some m ≡ None = ap (λ (p : Replied). p.0) x in absurd (apart m e)

same_host : (h h' : Host) → (let p : Replied = (None, h) in let q : Replied = (None, h') in p ≡ q) → h ≡ h'
same_host h h' x = ap (λ (p : Replied). p.1) x

some_due : {A : Type 0} (t : Bool) (e : Ending) (h h' : Host) → (if t then told_ending e h else told_output h) ≡ (None, h') → A
some_due true e h h' x = never _ _ _ x
some_due false e h h' x = never _ _ _ x

none_due : (t : Bool) (h h' : Host) → (if t then told_output h else (None, h)) ≡ (None, h') → h ≡ h'
none_due true h h' x = never _ _ _ x
none_due false h h' x = same_host h h' x

due_any : (e : Option Ending) (h h' : Host) → due e h ≡ (None, h') → h ≡ h'
due_any None h h' x = none_due (nat_eq (length h.nub.output) 1024) h h' x
due_any (Some e) h h' x = some_due (nat_eq (length h.nub.output) 0) e h h' x

due_case : (b : Behaviour) (e : Option Ending) (left : Option ℕ) (h h' : Host) → due (settle b e left h).nub.ended (settle b e left h) ≡ (None, h') → h ≡ h'
unfolding concluded
due_case b (Some e) left h h' x = due_any h.nub.ended h h' x
due_case b None None h h' x = due_any h.nub.ended h h' x
due_case b None (Some (suc n)) h h' x = due_any h.nub.ended h h' x
due_case b None (Some zero) h h' x =
    some_due
    (nat_eq (length h.nub.output) 0)
    (ending_of cause.Turns (b.saved h.machine).0 (pc_of (b.saved h.machine).1))
    (ended_by b cause.Turns h.nub (b.saved h.machine))
    h'
    x

pub due_same : (b : Behaviour) (h h' : Host) → due_of b h ≡ (None, h') → h ≡ h'
unfolding due_of settled
due_same b h h' x = due_case b h.nub.ended h.nub.left h h' x

-- ---- an open resume stays open

abbrev pub IsOpen : Option ℕ → Type 0
IsOpen None = ⊥
IsOpen (Some n) = Unit {0}

either : (t : Bool) (x y : Host) → IsOpen x.nub.left → IsOpen y.nub.left → IsOpen (if t then x else y).nub.left
either true x y p q = p
either false x y p q = q

concluded_open : (b : Behaviour) (c : Cause) (h : Host) → IsOpen h.nub.left → IsOpen (concluded b c h).nub.left
unfolding concluded
concluded_open b c h p = p

requested_open : (b : Behaviour) (n : ℕ) (h : Host) → IsOpen h.nub.left → IsOpen (requested b n h).nub.left
unfolding requested
requested_open b n h p =
    either (nat_eq n 2) _ _ p
    (either (nat_eq n 3) _ _ (concluded_open b (cause.Exit (b.argument h.machine)) h p)
    (either (nat_eq n 4) _ _ (concluded_open b cause.Pause h p)
    (either (nat_eq n 5) _ h (concluded_open b cause.Stack h p) p)))

acted_open : (b : Behaviour) (n : ℕ) (nub : NubState) (e : Event) (m : MachineState) → IsOpen nub.left → IsOpen (acted b n nub (e, m)).nub.left
unfolding acted
acted_open b n nub event.Went m p = tt
acted_open b n nub event.Break m p = concluded_open b cause.Break (host nub m) p
acted_open b n nub (event.Request number) m p = requested_open b number (turned n nub m) tt
acted_open b n nub (event.Fault kind) m p = concluded_open b (cause.Fault kind) (host nub m) p

advance_open : (b : Behaviour) (left : Option ℕ) (h : Host) → h.nub.left ≡ left → IsOpen left → IsOpen (advance b left h).nub.left
advance_open b None h e p = absurd p
advance_open b (Some zero) h e p = rw e tt
advance_open b (Some (suc n)) h e p = acted_open b n h.nub (b.next h.machine).0 (b.next h.machine).1 (rw e tt)

advanced_open : (b : Behaviour) (h : Host) → IsOpen h.nub.left → IsOpen (advanced b h).nub.left
unfolding advanced
advanced_open b h p = advance_open b h.nub.left h refl p

-- ---- runs

pub record Goes (b : Behaviour) (n m : ℕ) (h h' : Host) : Type 0 where
  pub adds : running b (n + m) h ≡ running b m h'
  pub opens : IsOpen h'.nub.left

after_due : (b : Behaviour) (n : ℕ) (h h' : Host) (p : Replied) → due_of b h ≡ p → or_then p (λ g. running b n (advanced b g)) ≡ (None, h')
    → (due_of b h ≡ (None, h)) × (running b n (advanced b h) ≡ (None, h'))
after_due b n h h' (Some m, g) e x = never _ _ _ x
after_due b n h h' (None, g) e x =
    let same : h ≡ g = due_same b h g e in
    (e ∙ ap (λ (k : Host). (None, k)) (sym same), ap (λ (k : Host). running b n (advanced b k)) same ∙ x)

running-add : (b : Behaviour) (n m : ℕ) (h h' : Host) → IsOpen h.nub.left → running b n h ≡ (None, h') → Goes b n m h h'
unfolding running
running-add b zero m h h' p x =
    let same : h ≡ h' = due_same b h h' x in
    let none : 0 + m ≡ m = omega arith in
    record { adds = rw none (ap (running b m) same); opens = subst (λ (k : Host). IsOpen k.nub.left) same p }
running-add b (suc n) m h h' p x =
    let d = after_due b n h h' (due_of b h) refl x in
    let more = running-add b n m (advanced b h) h' (advanced_open b h p) d.1 in
    let one : suc n + m ≡ suc (n + m) = omega arith in
    record { adds = rw (one, d.0) more.adds; opens = more.opens }

abbrev shut : Host → Replied
shut h = (None, h)

opened : (left : Option ℕ) (x y : Replied) → IsOpen left → y ≡ if_open left x y
opened None x y p = absurd p
opened (Some n) x y p = refl

if_none : (left : Option ℕ) (h h' : Host) (b : Behaviour) (n m : ℕ) → h.nub.left ≡ left → if_open left (None, h) (running b n h) ≡ (None, h')
    → if_open left (None, h) (running b (n + m) h) ≡ turn_of b m h'
unfolding turn_of
if_none None h h' b n m e x =
    let same : h ≡ h' = same_host h h' x in
    subst (λ (k : Host). shut h ≡ if_open k.nub.left (None, k) (running b m k)) same (rw e refl)
if_none (Some k) h h' b n m e x =
    let g = running-add b n m h h' (rw e tt) x in
    g.adds ∙ opened h'.nub.left (None, h') (running b m h') g.opens

pub turn_of-add : (b : Behaviour) (n m : ℕ) (h h' : Host) → turn_of b n h ≡ (None, h') → turn_of b (n + m) h ≡ turn_of b m h'
unfolding turn_of
turn_of-add b n m h h' x = if_none h.nub.left h h' b n m refl x

-- ---- more turns than enough

told_same : (k : ℕ) (b : Behaviour) (h h' : Host) (m : Msg) → due_of b h ≡ (Some m, h') → running b k h ≡ (Some m, h')
unfolding running
told_same zero b h h' m x = x
told_same (suc k) b h h' m x = rw x refl

told_after : (b : Behaviour) (n k : ℕ) (h h' : Host) (m : Msg) (p : Replied) → due_of b h ≡ p → or_then p (λ g. running b n (advanced b g)) ≡ (Some m, h')
    → ((g : Host) → running b n g ≡ (Some m, h') → running b (n + k) g ≡ (Some m, h')) → or_then p (λ g. running b (n + k) (advanced b g)) ≡ (Some m, h')
told_after b n k h h' m (Some m', g) e x more = x
told_after b n k h h' m (None, g) e x more = more (advanced b g) x

running-more : (b : Behaviour) (n k : ℕ) (h h' : Host) (m : Msg) → running b n h ≡ (Some m, h') → running b (n + k) h ≡ (Some m, h')
unfolding running
running-more b zero k h h' m x = let none : 0 + k ≡ k = omega arith in rw none (told_same k b h h' m x)
running-more b (suc n) k h h' m x =
    let one : suc n + k ≡ suc (n + k) = omega arith in
    rw one (told_after b n k h h' m (due_of b h) refl x (λ g y. running-more b n k g h' m y))

open_more : (left : Option ℕ) (s x y p : Replied) → (x ≡ p → y ≡ p) → if_open left s x ≡ p → if_open left s y ≡ p
open_more None s x y p f e = e
open_more (Some n) s x y p f e = f e

pub turn_of-more : (b : Behaviour) (n k : ℕ) (h h' : Host) (m : Msg) → turn_of b n h ≡ (Some m, h') → turn_of b (n + k) h ≡ (Some m, h')
unfolding turn_of
turn_of-more b n k h h' m x = open_more h.nub.left (None, h) (running b n h) (running b (n + k) h) (Some m, h') (λ e. running-more b n k h h' m e) x
