use Rattle.std.proofs.Common.{◌≡◌, ◌∙◌, map, length, sym, ap, refl, arith, subst}
use Rattle.std.proofs.lemmas.Grind.{common_steps}
use Rattle.c_typing.specs.Plain.{plain}
use Rattle.c_typing.specs.Expressions as typing
use Rattle.c_initial.specs.Begins.{begins_of}
use Rattle.c_scope.specs.Here.{environment_of}
use Rattle.c_initial.specs.Initials.{initial_found}
use Rattle.c_mentions.specs.Tags.{now}
use Rattle.c_file.proofs.Decided.{initial_decided}
use Rattle.c_file.proofs.Going.{fails_as}
use Rattle.c_file.proofs.Named.{given}
use Rattle.c_file.proofs.declarations.initialized.Goals as goal

pub returns-in_ok-started-in-Ok-initial : goal.returns-in_ok-started-in-Ok-initial
returns-in_ok-started-in-Ok-initial c =
    let s = c.args.state.now in
    let e = c.in-Ok-initial.ensures in
    let n : c.in-Ok.first ≡ length (map now s.strings.items) = grind (arith, common_steps) in
    given c.args.storage c.args.name.now (plain c.args.t.now) c.args.i.now s c.started.new.state _ _ _ _ e.3
    (e.1 ∙ ap (λ k. begins_of (environment_of s.here) k (plain c.args.t.now) c.args.i.now) n) e.2 refl e.0 c.in_ok-started-in-Ok-initial.ensures

pub returns-in-Err : goal.returns-in-Err
returns-in-Err c = fails_as (λ p. initial_found p.here (plain c.args.t.now) c.args.i.now) c.args.state.now c.in-Err.f (λ bs. initial_decided (environment_of c.args.state.now.here) (plain c.args.t.now) c.args.i.now) (λ bs. c.in-Err.ensures)
