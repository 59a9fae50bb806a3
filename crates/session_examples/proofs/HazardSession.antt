-- Sessions over that machine, whatever their table: `continue` meets the hazard, and all but `quit` is refused behind it.
use Rattle.std.specs.Prelude.{◌≡◌, ◌↔◌, false, [], ◌∷◌, codes, Some, None}
use Rattle.std.proofs.Common.{refl, sym, ap, subst, inl, inr}
use Rattle.ldb_words.specs.declared.event.FaultKind.TheVariants.{Hazard}
use Rattle.machine_state.specs.State.{MachineState, given_input}
use Rattle.targets.specs.Targets.{machine_behaviour}
use Rattle.ps_store.specs.declared.object.Part.TheVariants as part
use Rattle.ps_store.specs.StoreState.{StoreState}
use Rattle.c_session.specs.declared.command.Command.{Command}
use Rattle.c_session.specs.declared.command.Command.TheVariants as command
use Rattle.c_session.specs.Commands.{ByContinue}
use Rattle.claims.specs.Side.{SideState, SessionState, Ended, Faults, first_side, first_session}
use Rattle.claims.specs.Lines.{Reply}
use Rattle.claims.specs.Resumes.{Resumed, resumed}
use Rattle.claims.specs.Outcome.{Answers, Says, is_quit}
use Rattle.claims.specs.Carries.{Converses}
use Rattle.session_examples.proofs.BareTable.{bare_table}
use Rattle.session_examples.proofs.Continuing.{continues}
use Rattle.session_examples.proofs.HazardMachine.{machine, first, last, is_saved, meets_the_hazard, tells_its_pc}

abbrev fault : Reply
fault = codes "fault hazard at 00400008" ∷ []

module _ (table : StoreState) where
  abbrev start : SessionState
  start = first_session (first_side machine_behaviour [] table machine) None

  abbrev side : SideState
  side = record { machine = first; table = record table { part = part.Command }; breaks = []; step_words = []; stands_at = None; kept = None; frame = 0 }

  abbrev opened : SessionState
  opened = first_session side None

  is_opened : opened ≡ start
  is_opened = sym (ap (λ (m : MachineState). first_session (record side { machine = (given_input [] m).1 }) None) is_saved)

  -- ---- `continue`

  abbrev over : SessionState
  over = record (first_session (record side { machine = last; kept = Some (Faults Hazard 0x00400008) }) None) { state = Ended }

  it_faults : resumed machine_behaviour ByContinue opened ≡ record { lines = fault; session = over }
  unfolding resumed
  it_faults = rw meets_the_hazard (rw tells_its_pc refl)

  -- this is the answer, and no other is but for want of memory
  faults : (reply : Reply) (after : SessionState) → Answers machine_behaviour start (Some command.Continue) reply after ↔ Says start fault over reply after
  faults reply after =
      subst (λ (st : SessionState). Answers machine_behaviour st (Some command.Continue) reply after ↔ Says st fault over reply after) is_opened
      (subst (λ (r : Resumed). Answers machine_behaviour opened (Some command.Continue) reply after ↔ Says opened r.lines r.session reply after) it_faults
      (continues machine_behaviour side reply after))

  -- ---- behind it

  is_over : (c : Command) → is_quit c ≡ false → (reply : Reply) (after : SessionState) → Answers machine_behaviour over (Some c) reply after ↔ Says over (codes "refused ended" ∷ []) over reply after
  is_over command.Quit e reply after = absurd cc
  is_over c e reply after = (λ says. says, λ says. says)

  -- the whole session
  converses : Converses machine_behaviour start (Some command.Continue ∷ Some command.Quit ∷ []) fault []
  converses = inr (fault, [], over, (faults fault over).1 (inl (refl, refl)), refl, inl (tt, refl, refl))

-- with a table that has no units
bare : Converses machine_behaviour (start (bare_table (codes "mips"))) (Some command.Continue ∷ Some command.Quit ∷ []) fault []
bare = converses (bare_table (codes "mips"))
