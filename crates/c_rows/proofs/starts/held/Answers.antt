use Rattle.std.proofs.Common.{◌∙◌, ap, map}
use Rattle.std.proofs.lemmas.Result.{IfOk-weaker}
use Rattle.c_typing.specs.Plain.{plain}
use Rattle.c_initial.specs.Begins.{zeros}
use Rattle.c_initial.specs.Starts.{begins_in}
use Rattle.c_rows.specs.Placed.{start_by}
use Rattle.c_rows.specs.Objects.{begins_or}
use Rattle.c_rows.proofs.Holding.{zeros_held}
use Rattle.c_rows.proofs.starts.held.Goals as goal

pub returns-in-None : goal.returns-in-None
returns-in-None c = IfOk-weaker c.zeros.result _ _ (λ l e. e ∙ (zeros_held c.args.places.now c.args.d.now.unit c.args.starts.now.defs.now (plain c.args.t.now) ∙
    ap (λ o. map (start_by c.args.places.now c.args.d.now.unit) (begins_or (zeros c.args.starts.now.defs.now (plain c.args.t.now)) o)) c.in-None.ensures)) c.zeros.ensures

pub returns-in-Some : goal.returns-in-Some
returns-in-Some c = IfOk-weaker c.given.result _ _ (λ l e. e ∙ (ap (λ b. map (start_by c.args.places.now c.args.d.now.unit) (begins_in b)) c.deref.ensures.value ∙
    ap (λ o. map (start_by c.args.places.now c.args.d.now.unit) (begins_or (zeros c.args.starts.now.defs.now (plain c.args.t.now)) o)) c.in-Some.ensures)) c.given.ensures
