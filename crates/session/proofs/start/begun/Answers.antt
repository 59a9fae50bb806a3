use Rattle.std.proofs.Common.{◌≡◌, ◌∙◌, refl, ap, ℕ, ◌+◌, ◌≤◌, length, Option, Ok, Err, arith}
use Rattle.machine_state.specs.declared.layout.TheConstants.{CONTEXT}
use Rattle.machine_state.specs.State.{MachineState, Behaviour}
use Rattle.nub_wire.specs.Nub.{Host, first_host}
use Rattle.ps_store.specs.declared.object.Part.TheVariants.{Command}
use Rattle.ps_store.specs.StoreState.{StoreState}
use Rattle.ps_step.specs.declared.machine.PsCore.{PsCore}
use Rattle.resuming.specs.Standing.{Stands}
use Rattle.session.specs.declared.sides.SideRecord.{SideRecord}
use Rattle.session.specs.Starting.{IsBegun, begun_host}
use Rattle.session.proofs.Starting.{not_begun, side_begun}
use Rattle.session.proofs.start.begun.Goals as goal

pub returns-in-Err-clause-meant : goal.returns-in-Err-clause-meant
returns-in-Err-clause-meant g c = λ (b : Behaviour) (m : MachineState) (beside : Option Host) f room.
    let before = g.L.Link.faults c.args.link.now in
    let after = g.L.Link.faults c.context_of.new.link in
    not_begun {A = ℕ} {B = SideRecord} (λ at. (at ≡ CONTEXT) × Stands b g.L.Link.conduct c.args.side (g.L.Link.world c.context_of.new.link) (first_host b m) beside)
    (λ r. IsBegun b g.L.Link.conduct (g.L.Link.world c.context_of.new.link) r c.args.input.now m beside c.args.table) before before after c.in-Err.fault refl
    (c.in-Err.ensures.meant b (first_host b m) beside f.stands)

pub returns-in-Err-give_all-clause-meant : goal.returns-in-Err-give_all-clause-meant
returns-in-Err-give_all-clause-meant g c = λ (b : Behaviour) (m : MachineState) (beside : Option Host) f room.
    let between = g.L.Link.faults c.context_of.new.link in
    let after = g.L.Link.faults c.give_all.new.link in
    let here = c.in-Ok-context_of.ensures.meant b (first_host b m) beside f.stands in
    let fits : (b.saved m).1.given + length c.args.input.now ≤ 16777216 = omega (arith, f.none_given, room) in
    not_begun {A = Unit {0}} {B = SideRecord} (λ u. Stands b g.L.Link.conduct c.args.side (g.L.Link.world c.give_all.new.link) (begun_host b c.args.input.now m) beside)
    (λ r. IsBegun b g.L.Link.conduct (g.L.Link.world c.give_all.new.link) r c.args.input.now m beside c.args.table) (g.L.Link.faults c.args.link.now) between after c.in-Err-give_all.fault c.in-Ok-context_of.ensures.calm
    (c.in-Err-give_all.ensures.meant b (first_host b m) beside here.1 fits)

pub returns-clause-meant : goal.returns-clause-meant
returns-clause-meant g c = λ (b : Behaviour) (m : MachineState) (beside : Option Host) f room.
    let here = c.in-Ok-context_of.ensures.meant b (first_host b m) beside f.stands in
    let fits : (b.saved m).1.given + length c.args.input.now ≤ 16777216 = omega (arith, f.none_given, room) in
    side_begun b g.L.Link.conduct (g.L.Link.world c.args.link.now) (g.L.Link.world c.give_all.new.link) _ c.args.input.now m beside c.args.table f room
    (c.in-Ok-give_all.ensures.meant b (first_host b m) beside here.1 fits) here.0 c.machine_of-machine.ensures
    (c.use_part.ensures ∙ ap (λ (s : StoreState). record s { part = Command }) (ap (λ (z : PsCore). z.store) c.in-Ok.ensures)) refl c.new-2.ensures.items c.new-3.ensures.items refl refl
