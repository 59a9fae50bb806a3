-- A resume tells the run of its machine.
use Rattle.std.proofs.Common.{◌≡◌, ◌≢◌, ◌∙◌, ◌⊎◌, inl, inr, refl, sym, ap, subst, ℕ, zero, suc, nat_eq, Bool, true, false, if◌then◌else◌, List, [], ◌∷◌, ◌++◌, length, option_to_list, Option, None, Some, arith, append_assoc}
use Rattle.std.proofs.lemmas.Grind.{common_steps}
use Rattle.std.proofs.lemmas.Bool.Decides.{nat_tests}
use Rattle.ldb_words.specs.declared.event.Event.{Event}
use Rattle.ldb_words.specs.declared.event.Event.TheVariants as event
use Rattle.machine_state.specs.State.{MachineState, Behaviour}
use Rattle.machine_state.specs.declared.target.Cause.{Cause}
use Rattle.machine_state.specs.declared.target.Cause.TheVariants as cause
use Rattle.machine_state.specs.Runs.{Ran, ran, behind, met, Goes, Ends, Turn, answered, turn_by, run_of}
use Rattle.machine_state.specs.Runs as runs
use Rattle.nub_wire.specs.declared.message.Msg.{Msg}
use Rattle.nub_wire.specs.declared.message.Msg.TheVariants as msg
use Rattle.nub_wire.specs.declared.message.Ending.{Ending}
use Rattle.nub_wire.specs.declared.message.Ending.TheVariants as ending
use Rattle.nub_wire.specs.Endings.{ending_of, reply_of, is_final}
use Rattle.nub_wire.proofs.Flags.{Flags, turn_has}
use Rattle.nub_wire.specs.Nub.{NubState, Host, Replied, host, pc_of, due, due_of, settle, settled, concluded, with_output, requested, acted, advance, advanced, turned, running, or_then, if_open, turn_of, told_ending, told_output}
use Rattle.nub_wire.specs.Resumes.{Whole, whole, finish, Tells, tells_end, tells_more, AreTold, the_end, some_output, ResumesAreRuns}

append_nil : (xs : List ℕ) → xs ++ [] ≡ xs
append_nil xs = grind (arith, common_steps)

-- ---- what is still to be told

abbrev total_by : Behaviour → Option Ending → Option ℕ → List ℕ → MachineState → Whole
total_by b (Some e) left output m = whole output e m
total_by b None (Some n) output m = finish b output (run_of b n m)
total_by b None None output m = whole output ending.Turns m

abbrev pub total : Behaviour → Host → Whole
total b h = total_by b h.nub.ended h.nub.left h.nub.output h.machine

finish_end : (b : Behaviour) (output : List ℕ) (c : Cause) (m : MachineState) → whole output (ending_of c (b.saved m).0 (pc_of (b.saved m).1)) (b.saved m).1 ≡ finish b output (ran c [] m)
finish_end b output c m = ap (λ (l : List ℕ). whole l (ending_of c (b.saved m).0 (pc_of (b.saved m).1)) (b.saved m).1) (sym (append_nil output))

concluded_total : (b : Behaviour) (c : Cause) (h : Host) → total b (concluded b c h) ≡ finish b h.nub.output (ran c [] h.machine)
unfolding concluded
concluded_total b c h = finish_end b h.nub.output c h.machine

finish_behind : (b : Behaviour) (output bytes : List ℕ) (r : Ran) → finish b (output ++ bytes) r ≡ finish b output (behind bytes r)
finish_behind b output bytes r =
    ap (λ (l : List ℕ). whole l (ending_of r.cause (b.saved r.machine).0 (pc_of (b.saved r.machine).1)) (b.saved r.machine).1) (append_assoc output bytes r.output)

either_total : (b : Behaviour) (t : Bool) (x y : Host) (g : Turn → Whole) (p q : Turn) → total b x ≡ g p → total b y ≡ g q → total b (if t then x else y) ≡ g (if t then p else q)
either_total b true x y g p q h k = h
either_total b false x y g p q h k = k

module _ (b : Behaviour) (n : ℕ) (nub : NubState) (none : nub.ended ≡ None) where
  abbrev after : Turn → Whole
  after t = finish b nub.output (met (run_of b n) t)

  turned_total : (m : MachineState) → total b (turned n nub m) ≡ after (Goes None m)
  turned_total m = rw none refl

  put_total : (m : MachineState) → total b (with_output (turned n nub m)) ≡ after (Goes m.put (record m { put = None }))
  put_total m = rw none (finish_behind b nub.output (option_to_list m.put) (run_of b n (record m { put = None })))

  requested_total : (number : ℕ) (m : MachineState) → total b (requested b number (turned n nub m)) ≡ after (runs.requested b number m)
  unfolding requested
  requested_total number m =
      let h = turned n nub m in
      either_total b (nat_eq number 2) _ _ after _ _ (put_total m)
      (either_total b (nat_eq number 3) _ _ after _ _ (concluded_total b (cause.Exit (b.argument m)) h)
      (either_total b (nat_eq number 4) _ _ after _ _ (concluded_total b cause.Pause h)
      (either_total b (nat_eq number 5) _ h after _ _ (concluded_total b cause.Stack h) (turned_total m))))

  acted_total : (e : Event) (m : MachineState) → total b (acted b n nub (e, m)) ≡ after (answered b (e, m))
  unfolding acted
  acted_total event.Went m = turned_total m
  acted_total event.Break m = concluded_total b cause.Break (host nub m)
  acted_total (event.Request number) m = requested_total number m
  acted_total (event.Fault kind) m = concluded_total b (cause.Fault kind) (host nub m)

-- a resume is open, and more than its turns is to come
abbrev pub Open : Host → Type 0
Open h = (n : ℕ) × (h.nub.left ≡ Some n)

advance_total : (b : Behaviour) (left : Option ℕ) (h : Host) → h.nub.left ≡ left → h.nub.ended ≡ None → total b (advance b left h) ≡ total_by b None left h.nub.output h.machine
unfolding run_of turn_by
advance_total b None h e none = rw (e, none) refl
advance_total b (Some zero) h e none = rw (e, none) refl
advance_total b (Some (suc n)) h e none = acted_total b n h.nub none (b.next h.machine).0 (b.next h.machine).1

advanced_total : (b : Behaviour) (h : Host) → h.nub.ended ≡ None → total b (advanced b h) ≡ total b h
unfolding advanced
advanced_total b h none = advance_total b h.nub.left h refl none ∙ ap (λ (e : Option Ending). total_by b e h.nub.left h.nub.output h.machine) (sym none)

settle_total : (b : Behaviour) (e : Option Ending) (left : Option ℕ) (h : Host) → h.nub.ended ≡ e → h.nub.left ≡ left → total b (settle b e left h) ≡ total b h
unfolding run_of
settle_total b None (Some zero) h e f = concluded_total b cause.Turns h ∙ rw (e, f) refl
settle_total b None (Some (suc n)) h e f = refl
settle_total b None None h e f = refl
settle_total b (Some x) left h e f = refl

settled_total : (b : Behaviour) (h : Host) → total b (settled b h) ≡ total b h
unfolding settled
settled_total b h = settle_total b h.nub.ended h.nub.left h refl refl

-- ---- a resume stays open until it is told how it ended

concluded_open : (b : Behaviour) (c : Cause) (h : Host) → Open h → Open (concluded b c h)
unfolding concluded
concluded_open b c h o = o

settle_open : (b : Behaviour) (e : Option Ending) (left : Option ℕ) (h : Host) → Open h → Open (settle b e left h)
settle_open b None (Some zero) h o = concluded_open b cause.Turns h o
settle_open b None (Some (suc n)) h o = o
settle_open b None None h o = o
settle_open b (Some x) left h o = o

settled_open : (b : Behaviour) (h : Host) → Open h → Open (settled b h)
unfolding settled
settled_open b h o = settle_open b h.nub.ended h.nub.left h o

either_open : (t : Bool) (x y : Host) → Open x → Open y → Open (if t then x else y)
either_open true x y p q = p
either_open false x y p q = q

requested_open : (b : Behaviour) (number : ℕ) (h : Host) → Open h → Open (requested b number h)
unfolding requested
requested_open b number h o =
    either_open (nat_eq number 2) _ _ o
    (either_open (nat_eq number 3) _ _ (concluded_open b (cause.Exit (b.argument h.machine)) h o)
    (either_open (nat_eq number 4) _ _ (concluded_open b cause.Pause h o)
    (either_open (nat_eq number 5) _ h (concluded_open b cause.Stack h o) o)))

acted_open : (b : Behaviour) (n : ℕ) (nub : NubState) (e : Event) (m : MachineState) → (k : ℕ) × (nub.left ≡ Some k) → Open (acted b n nub (e, m))
unfolding acted
acted_open b n nub event.Went m o = (n, refl)
acted_open b n nub event.Break m o = concluded_open b cause.Break (host nub m) o
acted_open b n nub (event.Request number) m o = requested_open b number (turned n nub m) (n, refl)
acted_open b n nub (event.Fault kind) m o = concluded_open b (cause.Fault kind) (host nub m) o

advance_open : (b : Behaviour) (left : Option ℕ) (h : Host) → Open h → Open (advance b left h)
advance_open b None h o = o
advance_open b (Some zero) h o = o
advance_open b (Some (suc n)) h o = acted_open b n h.nub (b.next h.machine).0 (b.next h.machine).1 o

advanced_open : (b : Behaviour) (h : Host) → Open h → Open (advanced b h)
unfolding advanced
advanced_open b h o = advance_open b h.nub.left h o

-- ---- what a message tells

pub record OutputTold (b : Behaviour) (w : Whole) (m : Msg) (h : Host) : Type 0 where
  pub bytes : List ℕ
  pub is : m ≡ msg.Output bytes
  pub some : bytes ≢ []
  pub rest : w ≡ whole (bytes ++ (total b h).output) (total b h).ending (total b h).machine
  pub goes_on : Open h

pub record EndTold (w : Whole) (m : Msg) (h : Host) : Type 0 where
  pub how : Ending
  pub is : m ≡ reply_of how
  pub rest : w ≡ whole [] how h.machine
  pub shut : h.nub.left ≡ None
  pub none_left : h.nub.output ≡ []
  pub ended_is : h.nub.ended ≡ (if is_final how then Some how else None)

abbrev StepTold : Behaviour → Whole → Replied → Type 0
StepTold b w (None, h) = (total b h ≡ w) × (h.nub.ended ≡ None) × Open h
StepTold b w (Some m, h) = OutputTold b w m h ⊎ EndTold w m h

total_out : (b : Behaviour) (e : Option Ending) (left : Option ℕ) (output : List ℕ) (m : MachineState)
    → total_by b e left output m ≡ whole (output ++ (total_by b e left [] m).output) (total_by b e left [] m).ending (total_by b e left [] m).machine
total_out b (Some e) left output m = ap (λ (l : List ℕ). whole l e m) (sym (append_nil output))
total_out b None (Some n) output m = refl
total_out b None None output m = ap (λ (l : List ℕ). whole l ending.Turns m) (sym (append_nil output))

some_of_count : (xs : List ℕ) → nat_eq (length xs) 0 ≡ false → xs ≢ []
some_of_count [] x e = cc
some_of_count (y ∷ ys) x e = cc

full_some : (xs : List ℕ) → nat_eq (length xs) 1024 ≡ true → xs ≢ []
full_some [] x e = cc
full_some (y ∷ ys) x e = cc

output_told : (b : Behaviour) (s : Host) → s.nub.output ≢ [] → Open s → StepTold b (total b s) (told_output s)
output_told b s some o = inl (record { bytes = s.nub.output; is = refl; some = some; rest = total_out b s.nub.ended s.nub.left s.nub.output s.machine; goes_on = o })

no_length : (xs : List ℕ) → nat_eq (length xs) 0 ≡ true → xs ≡ []
no_length [] e = refl
no_length (x ∷ xs) e = let z : suc (length xs) ≡ 0 = grind (arith, nat_tests) in absurd (omega (arith, z))

ending_due : (b : Behaviour) (e : Ending) (s : Host) (t : Bool) → nat_eq (length s.nub.output) 0 ≡ t → s.nub.ended ≡ Some e → Open s
    → StepTold b (total b s) (if t then told_ending e s else told_output s)
ending_due b e s true x is o =
    let total_is : total b s ≡ whole s.nub.output e s.machine = ap (λ (k : Option Ending). total_by b k s.nub.left s.nub.output s.machine) is in
    inr (record { how = e; is = refl; rest = total_is ∙ ap (λ (l : List ℕ). whole l e s.machine) (no_length s.nub.output x); shut = refl; none_left = no_length s.nub.output x; ended_is = refl })
ending_due b e s false x is o = output_told b s (some_of_count s.nub.output x) o

output_due : (b : Behaviour) (s : Host) (t : Bool) → nat_eq (length s.nub.output) 1024 ≡ t → s.nub.ended ≡ None → Open s
    → StepTold b (total b s) (if t then told_output s else (None, s))
output_due b s true x is o = output_told b s (full_some s.nub.output x) o
output_due b s false x is o = (refl, is, o)

due_any : (b : Behaviour) (e : Option Ending) (s : Host) → s.nub.ended ≡ e → Open s → StepTold b (total b s) (due e s)
due_any b None s is o = output_due b s (nat_eq (length s.nub.output) 1024) refl is o
due_any b (Some e) s is o = ending_due b e s (nat_eq (length s.nub.output) 0) refl is o

due_told : (b : Behaviour) (h : Host) → Open h → StepTold b (total b h) (due_of b h)
unfolding due_of
due_told b h o =
    subst (λ (w : Whole). StepTold b w (due_of b h)) (settled_total b h) (due_any b (settled b h).nub.ended (settled b h) refl (settled_open b h o))

then_told : (b : Behaviour) (w : Whole) (p : Replied) (go : Host → Replied) → StepTold b w p
    → ((h : Host) → total b h ≡ w → h.nub.ended ≡ None → Open h → StepTold b w (go h)) → StepTold b w (or_then p go)
then_told b w (Some m, h) go s more = s
then_told b w (None, h) go s more = more h s.0 s.1 s.2

run_told : (b : Behaviour) (n : ℕ) (h : Host) → Open h → StepTold b (total b h) (running b n h)
unfolding running
run_told b zero h o = due_told b h o
run_told b (suc n) h o =
    then_told b (total b h) (due_of b h) (λ (g : Host). running b n (advanced b g)) (due_told b h o)
    (λ (g : Host) (is : total b g ≡ total b h) (none : g.nub.ended ≡ None) (k : Open g).
    subst (λ (w : Whole). StepTold b w (running b n (advanced b g))) (advanced_total b g none ∙ is) (run_told b n (advanced b g) (advanced_open b g k)))

open_told : (b : Behaviour) (w : Whole) (left : Option ℕ) (x y : Replied) → (k : ℕ) × (left ≡ Some k) → StepTold b w y → StepTold b w (if_open left x y)
open_told b w None x y o s = let e : None ≡ Some o.0 = o.1 in cc
open_told b w (Some n) x y o s = s

turn_told : (b : Behaviour) (n : ℕ) (h : Host) → Open h → StepTold b (total b h) (turn_of b n h)
unfolding turn_of
turn_told b n h o = open_told b (total b h) h.nub.left (None, h) (running b n h) o (run_told b n h o)

-- ---- a whole resume

pub record Resumed (w : Whole) (ms : List Msg) (t : Host) : Type 0 where
  pub told : AreTold ms w.output w.ending
  pub left_is : t.machine ≡ w.machine
  pub shut : t.nub.left ≡ None
  pub none_left : t.nub.output ≡ []
  pub ended_is : t.nub.ended ≡ (if is_final w.ending then Some w.ending else None)

pub step_of : (b : Behaviour) (n : ℕ) (h t : Host) (m : Msg) → Open h → turn_of b n h ≡ (Some m, t) → OutputTold b (total b h) m t ⊎ EndTold (total b h) m t
step_of b n h t m o e = subst (StepTold b (total b h)) e (turn_told b n h o)

never_both : (left : Option ℕ) → left ≡ None → (k : ℕ) × (left ≡ Some k) → ⊥
never_both left e o = let x : None ≡ Some o.0 = sym e ∙ o.1 in cc

ended_by : (w : Whole) (m : Msg) (t : Host) → EndTold w m t → Resumed w (m ∷ []) t
ended_by w m t x =
    subst (λ (v : Whole). Resumed v (m ∷ []) t) (sym x.rest)
    (record { told = subst (λ (r : Msg). AreTold (r ∷ []) [] x.how) (sym x.is) (the_end x.how); left_is = refl; shut = x.shut; none_left = x.none_left; ended_is = x.ended_is })

more_by : (b : Behaviour) (w : Whole) (m : Msg) (ms : List Msg) (t u : Host) → OutputTold b w m t → Resumed (total b t) ms u → Resumed w (m ∷ ms) u
more_by b w m ms t u x r =
    subst (λ (v : Whole). Resumed v (m ∷ ms) u) (sym x.rest)
    (record { told = subst (λ (k : Msg). AreTold (k ∷ ms) (x.bytes ++ (total b t).output) (total b t).ending) (sym x.is) (some_output x.bytes r.told); left_is = r.left_is; shut = r.shut; none_left = r.none_left; ended_is = r.ended_is })

end_step : (b : Behaviour) (w : Whole) (m : Msg) (t : Host) → t.nub.left ≡ None → OutputTold b w m t ⊎ EndTold w m t → Resumed w (m ∷ []) t
end_step b w m t shut (inl x) = absurd (never_both t.nub.left shut x.goes_on)
end_step b w m t shut (inr x) = ended_by w m t x

more_step : (b : Behaviour) (w : Whole) (m : Msg) (ms : List Msg) (t u : Host) (left : ℕ) → t.nub.left ≡ Some left → OutputTold b w m t ⊎ EndTold w m t → Resumed (total b t) ms u → Resumed w (m ∷ ms) u
more_step b w m ms t u left is (inl x) r = more_by b w m ms t u x r
more_step b w m ms t u left is (inr x) r = absurd (never_both t.nub.left x.shut (left, is))

pub resumed_is : {b : Behaviour} {h t : Host} {ms : List Msg} → Open h → Tells b h ms t → Resumed (total b h) ms t
resumed_is {b = b} {h = h} {t = t} o (tells_end n m turn shut) = end_step b (total b h) m t shut (step_of b n h t m o turn)
resumed_is {b = b} {h = h} {t = u} o (tells_more {t = t} n left m ms turn is more) =
    more_step b (total b h) m ms t u left is (step_of b n h t m o turn) (resumed_is (left, is) more)

-- a run keeps the flags of its nub
pub flags_kept : {b : Behaviour} {h t : Host} {ms : List Msg} (k l : Bool) → Flags k l h.nub → Tells b h ms t → Flags k l t.nub
flags_kept {b = b} {h = h} k l f (tells_end n m turn shut) = subst (λ (p : Replied). Flags k l p.1.nub) turn (turn_has b k l n h f)
flags_kept {b = b} {h = h} k l f (tells_more n left m ms turn is more) =
    flags_kept k l (subst (λ (p : Replied). Flags k l p.1.nub) turn (turn_has b k l n h f)) more

abbrev host_at : Bool → Bool → Option Ending → Option ℕ → List ℕ → MachineState → Host
host_at k l e left output m = host (record { killed = k; blocked = l; ended = e; left = left; output = output }) m

host_is : (t : Host) (k l : Bool) (e : Option Ending) (m : MachineState) → Flags k l t.nub → t.nub.ended ≡ e → t.nub.left ≡ None → t.nub.output ≡ [] → t.machine ≡ m
    → t ≡ host_at k l e None [] m
host_is t k l e m f is shut none same =
    ap (λ (x : Bool). host_at x t.nub.blocked t.nub.ended t.nub.left t.nub.output t.machine) f.killed_is
    ∙ ap (λ (x : Bool). host_at k x t.nub.ended t.nub.left t.nub.output t.machine) f.blocked_is
    ∙ ap (λ (x : Option Ending). host_at k l x t.nub.left t.nub.output t.machine) is
    ∙ ap (λ (x : Option ℕ). host_at k l e x t.nub.output t.machine) shut
    ∙ ap (λ (x : List ℕ). host_at k l e None x t.machine) none
    ∙ ap (λ (x : MachineState). host_at k l e None [] x) same

pub resumes_are_runs : (b : Behaviour) → ResumesAreRuns b
resumes_are_runs b turns h t ms left none tells =
    let w : Whole = finish b h.nub.output (run_of b turns h.machine) in
    let is : total b h ≡ w = rw (none, left) refl in
    let r = subst (λ (v : Whole). Resumed v ms t) is (resumed_is (turns, left) tells) in
    let f = flags_kept h.nub.killed h.nub.blocked (record { killed_is = refl; blocked_is = refl }) tells in
    (r.told, host_is t h.nub.killed h.nub.blocked (if is_final w.ending then Some w.ending else None) w.machine f r.ended_is r.shut r.none_left r.left_is)
