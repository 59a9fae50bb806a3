use Rattle.std.proofs.Common.{◌≡◌, ◌<◌, ◌-◌, refl, sym, ap, ◌∙◌, Ok, Err, arith}
use Rattle.ps_store.specs.Store.{closed_part}
use Rattle.ps_store.proofs.Settling.{settled_same}
use Rattle.ps_step.specs.declared.fault.PsFault.TheVariants.{Link}
use Rattle.dialect_model.specs.Forcing.{FUNCTIONS, answer_of}
use Rattle.ps_bare.specs.Deferred.{deferred_unit}
use Rattle.ps_bare.proofs.Units.{takes_some, never_linked, forces_it, never_found}
use Rattle.ps_bare.proofs.unit.force_unit.Goals as goal

pub returns-in-Err-clause-closed : goal.returns-in-Err-clause-closed
returns-in-Err-clause-closed c = settled_same (closed_part c.args.core.now.store)

pub returns-in-Ok-force-clause-some : goal.returns-in-Ok-force-clause-some
returns-in-Ok-force-clause-some c =
    let before = c.args.steps.now in
    let after = c.force.new.steps in
    let is_key : c.in-Some.functions ≡ FUNCTIONS = c.in-Some.ensures.same in
    let found : deferred_unit c.args.core.now.store c.args.unit ≡ Ok c.in-Ok.d = sym c.deferred_unit.ensures ∙ c.in-Ok.is in
    let less : after.limit - after.taken < before.limit - before.taken =
    takes_some c.args.unit (before.limit - before.taken) c.args.core.now (record { cell = 0 }) refl c.in-Ok.d c.in-Some.functions is_key found c.force.result (after.limit - after.taken) c.force.new.dialect c.force.new.core
    c.force.ensures.uses c.in-Ok-force.field-0 c.in-Ok-force.is in
    omega (arith, less, c.force.ensures.limit, c.force.ensures.within, c.requires.within)

pub returns-in-Err-force-clause-unlinked : goal.returns-in-Err-force-clause-unlinked
returns-in-Err-force-clause-unlinked c = λ e.
    let before = c.args.steps.now in
    let after = c.force.new.steps in
    let is_key : c.in-Some.functions ≡ FUNCTIONS = c.in-Some.ensures.same in
    let found : deferred_unit c.args.core.now.store c.args.unit ≡ Ok c.in-Ok.d = sym c.deferred_unit.ensures ∙ c.in-Ok.is in
    let link : c.in-Err-force.fault ≡ Link = cc in
    never_linked c.args.unit (before.limit - before.taken) c.args.core.now (record { cell = 0 }) refl c.in-Ok.d c.in-Some.functions is_key found c.force.result (after.limit - after.taken) c.force.new.dialect c.force.new.core
    c.force.ensures.uses (c.in-Err-force.is ∙ ap Err link)

pub returns-in-Err-clause-forces : goal.returns-in-Err-clause-forces
returns-in-Err-clause-forces c = λ h other. absurd (never_found c.args.core.now.store c.args.unit c.in-Err.error h (sym c.deferred_unit.ensures ∙ c.in-Err.is))

pub returns-in-None-clause-forces : goal.returns-in-None-clause-forces
returns-in-None-clause-forces c = λ h other. absurd (other refl)

pub returns-in-Ok-force-clause-forces : goal.returns-in-Ok-force-clause-forces
returns-in-Ok-force-clause-forces c = λ h other.
    let before = c.args.steps.now in
    let after = c.force.new.steps in
    let is_key : c.in-Some.functions ≡ FUNCTIONS = c.in-Some.ensures.same in
    let found : deferred_unit c.args.core.now.store c.args.unit ≡ Ok c.in-Ok.d = sym c.deferred_unit.ensures ∙ c.in-Ok.is in
    forces_it c.args.unit (before.limit - before.taken) c.args.core.now (record { cell = 0 }) refl c.in-Ok.d c.in-Some.functions is_key found c.force.result (after.limit - after.taken) c.force.new.dialect c.force.new.core
    c.force.ensures.uses (Ok tt) (sym (ap answer_of c.in-Ok-force.is)) h other

pub returns-in-Err-force-clause-forces : goal.returns-in-Err-force-clause-forces
returns-in-Err-force-clause-forces c = λ h other.
    let before = c.args.steps.now in
    let after = c.force.new.steps in
    let is_key : c.in-Some.functions ≡ FUNCTIONS = c.in-Some.ensures.same in
    let found : deferred_unit c.args.core.now.store c.args.unit ≡ Ok c.in-Ok.d = sym c.deferred_unit.ensures ∙ c.in-Ok.is in
    forces_it c.args.unit (before.limit - before.taken) c.args.core.now (record { cell = 0 }) refl c.in-Ok.d c.in-Some.functions is_key found c.force.result (after.limit - after.taken) c.force.new.dialect c.force.new.core
    c.force.ensures.uses (Err c.in-Err-force.fault) (sym (ap answer_of c.in-Err-force.is)) h other
