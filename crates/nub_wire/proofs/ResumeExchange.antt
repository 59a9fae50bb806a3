-- What comes after a Resume to a side at rest.
use Rattle.std.proofs.Common.{◌≡◌, ◌∙◌, refl, ap, subst, ℕ, Bool, false, if◌then◌else◌, List, Option, None, Some}
use Rattle.machine_state.specs.State.{Behaviour}
use Rattle.machine_state.specs.Runs.{run_of}
use Rattle.nub_wire.specs.declared.message.Msg.TheVariants as msg
use Rattle.nub_wire.specs.declared.message.Ending.{Ending}
use Rattle.nub_wire.specs.declared.link.Side.{Side}
use Rattle.nub_wire.specs.Nub.{Host, Replied, host, handled, served, resumed}
use Rattle.nub_wire.specs.Delivery.{Conduct, LinkSide, World}
use Rattle.nub_wire.specs.Rest.{IsAtRest, IsAtRestOn}
use Rattle.nub_wire.specs.Resumes.{Whole, finish, Tells, AreTold, shut_by, run_from, after_run}
use Rattle.nub_wire.specs.Exchange.{Exchanged, later, ResumeLaw}
use Rattle.nub_wire.proofs.ResumesAreRuns.{resumes_are_runs}
use Rattle.nub_wire.proofs.ResumesEnd.{resumes_end}
use Rattle.nub_wire.proofs.Worlds.{replies_come}

-- the nub and machine where the resume is open
abbrev opened : Behaviour → ℕ → Host → Host
opened b turns h = host (record h.nub { left = Some turns }) (b.restored h.machine)

opens : (b : Behaviour) (turns : ℕ) (e : Option Ending) (h : Host) → e ≡ None → resumed b turns e h ≡ (None, opened b turns h)
opens b turns None h e = refl
opens b turns (Some x) h e = cc

chosen : (x y : Bool) (p q r : Replied) → x ≡ false → y ≡ false → (if x then p else if y then q else r) ≡ r
chosen x y p q r e f = rw (e, f) refl

resume_handled : (b : Behaviour) (turns : ℕ) (s : LinkSide) → IsAtRest s → s.host.nub.ended ≡ None → handled b (msg.Resume turns) s.host ≡ (None, opened b turns s.host)
unfolding handled served
resume_handled b turns s rest none = chosen s.host.nub.blocked s.host.nub.killed _ _ _ rest.idle.takes rest.lives ∙ opens b turns s.host.nub.ended s.host none

rests_again : (side : Side) (w w' : World) (s : LinkSide) (v : Whole) → IsAtRest s → Exchanged side (after_run v s.host) w w' → IsAtRestOn side w'
rests_again side w w' s v rest x = (
  x.now,
  x.there,
  record { idle = x.idle; lives = ap (λ (h : Host). h.nub.killed) x.host_is ∙ rest.lives; none_gathered = ap (λ (h : Host). h.nub.output) x.host_is },
)

pub resume_law : (c : Conduct) → ResumeLaw c
resume_law c side turns s w meets fits there rest none =
    let b : Behaviour = c.behaviour in
    let g : Host = opened b turns s.host in
    let end = resumes_end b turns g refl in
    let is = resumes_are_runs b turns g end.1 end.0 refl none end.2 in
    let same : finish b g.nub.output (run_of b turns g.machine) ≡ run_from b turns s.host.machine = ap (λ (l : List ℕ). finish b l (run_of b turns (b.restored s.host.machine))) rest.none_gathered in
    let told : AreTold end.0 (run_from b turns s.host.machine).output (run_from b turns s.host.machine).ending = subst (λ (v : Whole). AreTold end.0 v.output v.ending) same is.0 in
    let last : end.1 ≡ after_run (run_from b turns s.host.machine) s.host = is.1 ∙ ap (λ (v : Whole). host (shut_by v.ending s.host.nub) v.machine) same in
    let tells : Tells b g end.0 (after_run (run_from b turns s.host.machine) s.host) = subst (Tells b g end.0) last end.2 in
    let handles : c.handles (msg.Resume turns) s.host ≡ (None, g) = meets turns s.host ∙ resume_handled b turns s rest none in
    record {
      messages = end.0;
      told = told;
      heard = λ (got : List ℕ) (w' : World) x. replies_come c side (msg.Resume turns) end.0 (after_run (run_from b turns s.host.machine) s.host) s got w w' there rest.idle fits (later g handles tells) rest.idle.takes x;
      rests = λ (w' : World) x. rests_again side w w' s (run_from b turns s.host.machine) rest x;
    }
