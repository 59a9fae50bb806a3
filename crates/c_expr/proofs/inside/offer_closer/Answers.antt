use Rattle.std.proofs.Common.{sym, ◌∙◌, ap, subst, Option}
use Rattle.c_expr.specs.declared.inside.Offered.{Offered}
use Rattle.c_expr.specs.Inside.{offered_ended, Offers}
use Rattle.c_expr.proofs.Embedded.{closer_is}
use Rattle.c_expr.proofs.inside.offer_closer.Goals as goal

pub returns : goal.returns
returns c =
    let P : Option Offered → Type 0 = λ o. Offers c.offer_ended.result o in
    subst P (ap (offered_ended c.args.least c.args.symbol) (sym c.in_ok-g.ensures) ∙ closer_is c.args.least c.args.symbol c.requires c.args.g c.args.stack) c.offer_ended.ensures
