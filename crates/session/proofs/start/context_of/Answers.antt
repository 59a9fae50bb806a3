use Rattle.std.proofs.Common.{◌≡◌, refl, sym, subst, ℕ, Option, Result, Ok, Err}
use Rattle.machine_state.specs.declared.layout.TheConstants.{CONTEXT}
use Rattle.machine_state.specs.State.{Behaviour}
use Rattle.nub_wire.specs.declared.message.Msg.TheVariants as msg
use Rattle.nub_wire.specs.Nub.{Host}
use Rattle.resuming.specs.Standing.{Stands}
use Rattle.session.specs.declared.answers.StartFault.{StartFault}
use Rattle.session.specs.Starting.{StartsAs}
use Rattle.session.proofs.Starting.{hello, counted}
use Rattle.session.proofs.start.context_of.Goals as goal

pub returns-in-Ok-clause-meant : goal.returns-in-Ok-clause-meant
returns-in-Ok-clause-meant g c = λ (b : Behaviour) (h : Host) (beside : Option Host) x.
    let after = g.L.Link.world c.ask.new.link in
    let k = hello b g.L.Link.conduct c.args.side (g.L.Link.world c.args.link.now) h beside x (Ok c.in-Ok.reply) after c.in-Ok.ensures.told in
    subst (λ (r : Result ℕ StartFault). StartsAs {A = ℕ} (g.L.Link.faults c.args.link.now) (g.L.Link.faults c.ask.new.link) (λ at. (at ≡ CONTEXT) × Stands b g.L.Link.conduct c.args.side after h beside) r)
    (sym (c.word_of.ensures CONTEXT k.0)) (refl, k.1)

pub returns-in-Err-clause-meant : goal.returns-in-Err-clause-meant
returns-in-Err-clause-meant g c = λ (b : Behaviour) (h : Host) (beside : Option Host) x.
    let after = g.L.Link.world c.ask.new.link in
    counted b g.L.Link.conduct c.args.side (msg.Word CONTEXT) h beside c.in-Err.field-0 after (g.L.Link.faults c.args.link.now) (g.L.Link.faults c.ask.new.link)
    (hello b g.L.Link.conduct c.args.side (g.L.Link.world c.args.link.now) h beside x (Err c.in-Err.field-0) after c.in-Err.ensures.told) c.in-Err.ensures.cause
