use Rattle.std.proofs.Common.{◌∙◌, refl, ap, subst, ℕ, ◌-◌, true}
use Rattle.ps_store.specs.declared.object.PsObj.TheVariants.{Str}
use Rattle.ps_run.specs.Runs.{RunsObject}
use Rattle.ps_bare.proofs.Units.{Op'}
use Rattle.table_run.specs.declared.run.TheConstants.{MOST_STEPS}
use Rattle.table_run.proofs.Ending.{made_runs}
use Rattle.table_run.proofs.run.run_text.Goals as goal

pub returns : goal.returns
returns c = λ other.
    let steps = c.no_steps-steps.result in
    made_runs c.args.core.now c.args.text.now c.in_ok-text.text c.make_string.new.self c.run.result (c.run.new.steps.limit - c.run.new.steps.taken) (record { cell = 0 }) c.run.new.dialect c.run.new.core refl c.in_ok-text.ensures.does
    (subst (λ (n : ℕ). RunsObject Op' n (Str c.in_ok-text.text true) (record { cell = 0 }) (record c.args.core.now { store = c.make_string.new.self }) c.run.result (c.run.new.steps.limit - c.run.new.steps.taken) c.run.new.dialect c.run.new.core)
    (ap (λ (l : ℕ). l - steps.taken) c.no_steps-steps.ensures.limit ∙ ap (λ (t : ℕ). MOST_STEPS - t) c.no_steps-steps.ensures.taken) c.run.ensures.runs)
