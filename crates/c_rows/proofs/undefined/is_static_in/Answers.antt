use Rattle.std.proofs.Common.{sym, ap, ◌∙◌}
use Rattle.c_rows.specs.Behind.{static_told}
use Rattle.c_rows.proofs.GreatestBound.{static_of_all}
use Rattle.c_rows.proofs.undefined.is_static_in.Goals as goal

pub returns-in-None : goal.returns-in-None
returns-in-None c = ap static_told c.in-None.ensures.telling ∙ sym (static_of_all c.args.names.now c.args.unit c.args.name.now c.in-None.ensures.consistent)

pub returns-in-Some : goal.returns-in-Some
returns-in-Some c = ap static_told c.in-Some.ensures.telling ∙ sym (static_of_all c.args.names.now c.args.unit c.args.name.now c.in-Some.ensures.consistent)
