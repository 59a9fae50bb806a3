use Rattle.std.proofs.Common.{sym, subst}
use Rattle.c_file.specs.Files.{Externals}
use Rattle.c_file.specs.Progress.{GoesOn}
use Rattle.c_file.proofs.externals.external.Goals as goal

pub returns-in-Definition : goal.returns-in-Definition
returns-in-Definition c = subst (λ e. GoesOn (λ p. Externals p e) c.args.state c.definition.result) (sym c.in-Definition.is) c.definition.ensures
