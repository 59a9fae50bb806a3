-- A resume tells its run whole, and each of its messages is heard as what is owed.
use Rattle.std.proofs.Common.{◌≡◌, ◌≢◌, ◌∙◌, ◌⊎◌, inl, inr, refl, sym, ap, subst, ℕ, zero, suc, ◌+◌, ◌≤◌, nat_le, Bool, true, false, if◌then◌else◌, List, [], ◌∷◌, length, Option, None, Some, arith}
use Rattle.machine_state.specs.State.{Behaviour}
use Rattle.nub_wire.specs.declared.message.Msg.{Msg}
use Rattle.nub_wire.specs.declared.message.Msg.TheVariants as msg
use Rattle.nub_wire.specs.declared.message.Ending.{Ending}
use Rattle.nub_wire.specs.declared.message.Ending.TheVariants as ending
use Rattle.nub_wire.specs.declared.reply.Heard.TheVariants.{Ends, GoesOn, Bad}
use Rattle.nub_wire.specs.Endings.{reply_of}
use Rattle.nub_wire.specs.Replies.{heard, printing}
use Rattle.nub_wire.specs.Nub.{NubState, Host, Replied, turn_of}
use Rattle.nub_wire.specs.Heard.{AreWithin, IsWithin, IsHeard, Resumes}
use Rattle.nub_wire.specs.Resumes.{Tells, tells_end, tells_more, ResumesEnd}
use Rattle.nub_wire.proofs.Ends.{IsTold, turn_told}
use Rattle.nub_wire.proofs.Outputs.{turn_heard}
use Rattle.nub_wire.proofs.ResumesAreRuns.{Open, OutputTold, EndTold, total, step_of}

-- messages one after another, each of which is heard as more of the reply, and the last one as its end
pub data AreHeard (asked : Msg) : ℕ → List Msg → Type 0 where
  last_heard : {printed : ℕ} (r : Msg) → heard asked printed r ≡ Ends → AreHeard asked printed (r ∷ [])
  more_heard : {printed : ℕ} {ms : List Msg} (more : ℕ) (r : Msg) → heard asked printed r ≡ GoesOn more → AreHeard asked more ms → AreHeard asked printed (r ∷ ms)

-- all that a resume tells
pub record ToldWhole (b : Behaviour) (turns printed : ℕ) (h : Host) : Type 0 where
  pub messages : List Msg
  pub last : Host
  pub tells : Tells b h messages last
  pub are_heard : AreHeard (msg.Resume turns) printed messages

end_heard : (turns printed : ℕ) (e : Ending) → heard (msg.Resume turns) printed (reply_of e) ≡ Ends
end_heard turns printed (ending.Stopped why pc) = refl
end_heard turns printed (ending.Exited status) = refl
end_heard turns printed (ending.Faulted fault pc) = refl
end_heard turns printed ending.Turns = refl
end_heard turns printed ending.Stack = refl

-- output that is heard goes on
pub record GoesWithin (turns count : ℕ) (nub : NubState) : Type 0 where
  pub is : printing turns count ≡ GoesOn count
  pub within : IsWithin turns count nub

goes_within : (turns count : ℕ) (nub : NubState) (t : Bool) → nat_le count turns ≡ t → IsHeard turns (if t then GoesOn count else Bad) nub → GoesWithin turns count nub
goes_within turns count nub true e h = record { is = rw e refl; within = h }
goes_within turns count nub false e h = absurd h

not_told : (t : Host) → (let p : Replied = (None, t) in IsTold p) → ⊥
not_told t e = cc

some_length : (xs : List ℕ) → xs ≢ [] → 1 ≤ length xs
some_length [] h = absurd (h refl)
some_length (x ∷ xs) h = omega arith

within_bound : (turns count : ℕ) (left : Option ℕ) (output : List ℕ) → AreWithin turns count left output → count ≤ turns
within_bound turns count None output w = absurd w
within_bound turns count (Some l) output w = omega (arith, w)

end_told : (b : Behaviour) (turns printed n : ℕ) (h t : Host) (m : Msg) → turn_of b n h ≡ (Some m, t) → EndTold (total b h) m t → ToldWhole b turns printed h
end_told b turns printed n h t m e x = record {
  messages = m ∷ [];
  last = t;
  tells = tells_end n m e x.shut;
  are_heard = last_heard m (ap (heard (msg.Resume turns) printed) x.is ∙ end_heard turns printed x.how);
}

-- whatever is open once more output was told is told whole
abbrev GoesOnFrom : Behaviour → ℕ → ℕ → Type 0
GoesOnFrom b turns printed = (more : ℕ) (t : Host) → printed + 1 ≤ more → Open t → IsWithin turns more t.nub → ToldWhole b turns more t

output_told : (b : Behaviour) (turns printed n : ℕ) (h t : Host) (m : Msg) → turn_of b n h ≡ (Some m, t) → GoesOnFrom b turns printed
    → OutputTold b (total b h) m t → Resumes turns printed (Some m, t) → ToldWhole b turns printed h
output_told b turns printed n h t m e go x r =
    let g = goes_within turns (printed + length x.bytes) t.nub (nat_le (printed + length x.bytes) turns) refl (subst (λ (y : Msg). IsHeard turns (heard (msg.Resume turns) printed y) t.nub) x.is r) in
    let some : 1 ≤ length x.bytes = some_length x.bytes x.some in
    let more = go (printed + length x.bytes) t (omega (arith, some)) x.goes_on g.within in
    record {
      messages = m ∷ more.messages;
      last = more.last;
      tells = tells_more n x.goes_on.0 m more.messages e x.goes_on.1 more.tells;
      are_heard = more_heard (printed + length x.bytes) m (ap (heard (msg.Resume turns) printed) x.is ∙ g.is) more.are_heard;
    }

next_told : (b : Behaviour) (turns printed n : ℕ) (h : Host) (p : Replied) → turn_of b n h ≡ p → Open h → IsTold p → Resumes turns printed p → GoesOnFrom b turns printed → ToldWhole b turns printed h
next_told b turns printed n h (None, t) e o told r go = absurd (not_told t told)
next_told b turns printed n h (Some m, t) e o told r go = by (step_of b n h t m o e)
  where
    by : OutputTold b (total b h) m t ⊎ EndTold (total b h) m t → ToldWhole b turns printed h
    by (inl x) = output_told b turns printed n h t m e go x r
    by (inr x) = end_told b turns printed n h t m e x

told_next : (b : Behaviour) (turns printed : ℕ) (h : Host) → Open h → IsWithin turns printed h.nub → GoesOnFrom b turns printed → ToldWhole b turns printed h
told_next b turns printed h o w go =
    next_told b turns printed o.0 h (turn_of b o.0 h) refl o (turn_told b o.0 o.0 h o.1 (omega arith)) (turn_heard b o.0 turns printed h w) go

pub told_whole : (b : Behaviour) (k turns printed : ℕ) (h : Host) → Open h → IsWithin turns printed h.nub → turns ≤ printed + k → ToldWhole b turns printed h
told_whole b zero turns printed h o w less = told_next b turns printed h o w
    (λ (more : ℕ) (t : Host) (grows : printed + 1 ≤ more) (p : Open t) (v : IsWithin turns more t.nub).
    let bound : more ≤ turns = within_bound turns more t.nub.left t.nub.output v in absurd (omega (arith, bound, grows, less)))
told_whole b (suc k) turns printed h o w less = told_next b turns printed h o w
    (λ (more : ℕ) (t : Host) (grows : printed + 1 ≤ more) (p : Open t) (v : IsWithin turns more t.nub).
    told_whole b k turns more t p v (omega (arith, grows, less)))

pub resumes_end : (b : Behaviour) → ResumesEnd b
resumes_end b turns h left =
    let w : IsWithin (length h.nub.output + turns) 0 h.nub = subst (λ (o : Option ℕ). AreWithin (length h.nub.output + turns) 0 o h.nub.output) (sym left) (omega arith) in
    let x = told_whole b (length h.nub.output + turns) (length h.nub.output + turns) 0 h (turns, left) w (omega arith) in
    (x.messages, x.last, x.tells)
