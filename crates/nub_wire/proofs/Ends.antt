-- An open resume comes to a message within its turns.
use Rattle.std.proofs.Common.{◌≡◌, ◌∙◌, refl, sym, ap, subst, ℕ, zero, suc, ◌≤◌, nat_eq, Bool, true, false, if◌then◌else◌, length, Option, Some, None, IsSome, arith}
use Rattle.ldb_words.specs.declared.event.Event.{Event}
use Rattle.ldb_words.specs.declared.event.Event.TheVariants as event
use Rattle.machine_state.specs.State.{MachineState, Behaviour}
use Rattle.nub_wire.specs.declared.message.Ending.{Ending}
use Rattle.machine_state.specs.declared.target.Cause.{Cause}
use Rattle.machine_state.specs.declared.target.Cause.TheVariants as cause
use Rattle.nub_wire.specs.Endings.{ending_of}
use Rattle.nub_wire.specs.Nub.{NubState, Host, Replied, host, due, due_of, settle, settled, concluded, ended_by, requested, acted, advance, advanced, turned, running, or_then, if_open, turn_of, told_ending, told_output, pc_of}
use Rattle.nub_wire.proofs.Turns.{due_same}

-- the run has ended, or so many turns are enough for it
abbrev pub Enough : Option Ending → Option ℕ → ℕ → Type 0
Enough (Some e) left n = Unit {0}
Enough None (Some l) n = l ≤ n
Enough None None n = ⊥

abbrev pub EnoughFor : Host → ℕ → Type 0
EnoughFor h n = Enough h.nub.ended h.nub.left n

abbrev pub IsTold : Replied → Type 0
IsTold p = IsSome p.0

either_told : (t : Bool) (e : Ending) (h : Host) → IsTold (if t then told_ending e h else told_output h)
either_told true e h = refl
either_told false e h = refl

due_told : (e : Ending) (o : Option Ending) (h : Host) → o ≡ Some e → IsTold (due o h)
due_told e o h x = subst (λ (k : Option Ending). IsTold (due k h)) (sym x) (either_told (nat_eq (length h.nub.output) 0) e h)

-- ---- where an end is due it is told

told_now : (b : Behaviour) (e : Option Ending) (left : Option ℕ) (h : Host) → h.nub.ended ≡ e → Enough e left 0
    → IsTold (due (settle b e left h).nub.ended (settle b e left h))
unfolding concluded
told_now b (Some e) left h p q = due_told e h.nub.ended h p
told_now b None None h p q = absurd q
told_now b None (Some zero) h p q =
    either_told
    (nat_eq (length h.nub.output) 0)
    (ending_of cause.Turns (b.saved h.machine).0 (pc_of (b.saved h.machine).1))
    (ended_by b cause.Turns h.nub (b.saved h.machine))
told_now b None (Some (suc l)) h p q = absurd (omega arith)

due_now : (b : Behaviour) (h : Host) → EnoughFor h 0 → IsTold (due_of b h)
unfolding due_of settled
due_now b h q = told_now b h.nub.ended h.nub.left h refl q

-- ---- one instruction takes one turn, or ends the run

either_enough : (n : ℕ) (t : Bool) (x y : Host) → EnoughFor x n → EnoughFor y n → EnoughFor (if t then x else y) n
either_enough n true x y p q = p
either_enough n false x y p q = q

concluded_enough : (b : Behaviour) (c : Cause) (h : Host) (n : ℕ) → EnoughFor (concluded b c h) n
unfolding concluded
concluded_enough b c h n = tt

requested_enough : (b : Behaviour) (number : ℕ) (h : Host) (n : ℕ) → EnoughFor h n → EnoughFor (requested b number h) n
unfolding requested
requested_enough b number h n p =
    either_enough n (nat_eq number 2) _ _ p
    (either_enough n (nat_eq number 3) _ _ (concluded_enough b (cause.Exit (b.argument h.machine)) h n)
    (either_enough n (nat_eq number 4) _ _ (concluded_enough b cause.Pause h n)
    (either_enough n (nat_eq number 5) _ h (concluded_enough b cause.Stack h n) p)))

turned_enough : (l : ℕ) (nub : NubState) (m : MachineState) (n : ℕ) → nub.ended ≡ None → l ≤ n → EnoughFor (turned l nub m) n
turned_enough l nub m n e p = subst (λ (o : Option Ending). Enough o (Some l) n) (sym e) p

acted_enough : (b : Behaviour) (l : ℕ) (nub : NubState) (e : Event) (m : MachineState) (n : ℕ) → nub.ended ≡ None → l ≤ n → EnoughFor (acted b l nub (e, m)) n
unfolding acted
acted_enough b l nub event.Went m n x p = turned_enough l nub m n x p
acted_enough b l nub event.Break m n x p = concluded_enough b cause.Break (host nub m) n
acted_enough b l nub (event.Request number) m n x p = requested_enough b number (turned l nub m) n (turned_enough l nub m n x p)
acted_enough b l nub (event.Fault kind) m n x p = concluded_enough b (cause.Fault kind) (host nub m) n

not_true : false ≡ true → ⊥
not_true x = cc

untold : {A : Type 0} (b : Behaviour) (h : Host) → EnoughFor h 0 → due_of b h ≡ (None, h) → A
untold b h q d = let P : Replied → Type 0 = λ p. IsTold p in let x : false ≡ true = subst P d (due_now b h q) in absurd (not_true x)

-- what is left where nothing was due
advance_enough : (b : Behaviour) (e : Option Ending) (left : Option ℕ) (h : Host) (n : ℕ) → h.nub.ended ≡ e → h.nub.left ≡ left
    → Enough e left (suc n) → due_of b h ≡ (None, h) → EnoughFor (advance b left h) n
advance_enough b (Some e) left h n p q x d = untold b h (subst (λ (o : Option Ending). Enough o h.nub.left 0) (sym p) tt) d
advance_enough b None None h n p q x d = absurd x
advance_enough b None (Some zero) h n p q x d = untold b h (subst (λ (o : Option Ending). Enough o h.nub.left 0) (sym p) (subst (λ (o : Option ℕ). Enough None o 0) (sym q) (omega arith))) d
advance_enough b None (Some (suc l)) h n p q x d = acted_enough b l h.nub (b.next h.machine).0 (b.next h.machine).1 n p (omega arith)

on_due : (b : Behaviour) (n : ℕ) (h : Host) (p : Replied) → (due_of b h ≡ (None, h) → IsTold (running b n (advanced b h))) → due_of b h ≡ p
    → IsTold (or_then p (λ g. running b n (advanced b g)))
on_due b n h (Some m, g) more e = refl
on_due b n h (None, g) more e =
    let same : h ≡ g = due_same b h g e in
    subst (λ (k : Host). IsTold (running b n (advanced b k))) same (more (e ∙ ap (λ (k : Host). (None, k)) (sym same)))

opens : (left : Option ℕ) (x y : Replied) (l : ℕ) → left ≡ Some l → IsTold y → IsTold (if_open left x y)
opens None x y l e t = cc
opens (Some k) x y l e t = t

enough : (e : Option Ending) (left : Option ℕ) (l n : ℕ) → left ≡ Some l → l ≤ n → Enough e left n
enough (Some e) left l n x p = tt
enough None left l n x p = subst (λ (o : Option ℕ). Enough None o n) (sym x) p

pub run_told : (b : Behaviour) (n : ℕ) (h : Host) → EnoughFor h n → IsTold (running b n h)
unfolding running advanced
run_told b zero h q = due_now b h q
run_told b (suc n) h q = on_due b n h (due_of b h) (λ d. run_told b n (advanced b h) (advance_enough b h.nub.ended h.nub.left h n refl refl q d)) refl

pub turn_told : (b : Behaviour) (n l : ℕ) (h : Host) → h.nub.left ≡ Some l → l ≤ n → IsTold (turn_of b n h)
unfolding turn_of
turn_told b n l h e p = opens h.nub.left (None, h) (running b n h) l e (run_told b n h (enough h.nub.ended h.nub.left l n e p))
