use Rattle.std.proofs.Common.{◌≡◌, Err}
use Rattle.ps_store.proofs.Settling.{settled_on}
use Rattle.ps_step.specs.declared.fault.PsFault.TheVariants.{Error, Spent}
use Rattle.table_asks.specs.declared.inquiry.Inquiry.{Inquiry}
use Rattle.table_asks.proofs.Settled.{ran_ok, ran_error, ran_spent}
use Rattle.table_asks.proofs.inquiry.settle.Goals as goal

pub returns-in-Ok-clause-closed : goal.returns-in-Ok-clause-closed
returns-in-Ok-clause-closed c = λ p h. settled_on p _ _ h c.force_unit.ensures.closed

pub returns-in-Err-Error-clause-closed : goal.returns-in-Err-Error-clause-closed
returns-in-Err-Error-clause-closed c = λ p h. settled_on p _ _ h c.force_unit.ensures.closed

pub returns-in-Err-Spent-clause-closed : goal.returns-in-Err-Spent-clause-closed
returns-in-Err-Spent-clause-closed c = λ p h. settled_on p _ _ h c.force_unit.ensures.closed

pub returns-in-Err-Link-clause-closed : goal.returns-in-Err-Link-clause-closed
returns-in-Err-Link-clause-closed c = λ p h. settled_on p _ _ h c.force_unit.ensures.closed

pub returns-in-Ok-clause-settles : goal.returns-in-Ok-clause-settles
returns-in-Ok-clause-settles c =
    let new : Inquiry = record { core = c.force_unit.new.core; steps = c.force_unit.new.steps } in
    ran_ok c.args.lack c.in-Unforced.unit c.in-Unforced.is c.args.inquiry.now new c.force_unit.result c.force_unit.ensures.forces c.in-Ok.is

pub returns-in-Err-Error-clause-settles : goal.returns-in-Err-Error-clause-settles
returns-in-Err-Error-clause-settles c =
    let new : Inquiry = record { core = c.force_unit.new.core; steps = c.force_unit.new.steps } in
    let is : c.force_unit.result ≡ Err (Error c.in-Err-Error.error) = cc in
    ran_error c.args.lack c.in-Unforced.unit c.in-Unforced.is c.args.inquiry.now new c.force_unit.result c.force_unit.ensures.forces c.in-Err-Error.error is

pub returns-in-Err-Spent-clause-settles : goal.returns-in-Err-Spent-clause-settles
returns-in-Err-Spent-clause-settles c =
    let new : Inquiry = record { core = c.force_unit.new.core; steps = c.force_unit.new.steps } in
    let is : c.force_unit.result ≡ Err Spent = cc in
    ran_spent c.args.lack c.in-Unforced.unit c.in-Unforced.is c.args.inquiry.now new c.force_unit.result c.force_unit.ensures.forces is
