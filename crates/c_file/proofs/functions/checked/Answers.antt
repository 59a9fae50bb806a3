use Rattle.std.proofs.Common.{sym, subst, refl}
use Rattle.c_file.specs.Walked.{IsChecked}
use Rattle.c_file.proofs.functions.checked.Goals as goal

pub returns-in-Ok : goal.returns-in-Ok
returns-in-Ok c = subst (λ r. IsChecked c.args.unknown.now r c.in-Ok.z c.args.unknown.now) (sym c.in-Ok.is) (refl, refl)
