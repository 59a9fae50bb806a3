use Rattle.std.proofs.Common.{Err, sym, ap, subst}
use Rattle.c_typing.specs.Plain.{Int}
use Rattle.c_judge.specs.declared.fault.Fault.TheVariants as fault
use Rattle.c_file.specs.Progress.{GoesOn}
use Rattle.c_scope.specs.Shapes.{shape_of}
use Rattle.c_file.specs.Walked.{HasFunction}
use Rattle.c_file.proofs.Goes.{object_refused}
use Rattle.c_file.proofs.functions.function.Goals as goal

pub returns-in-Object : goal.returns-in-Object
returns-in-Object c =
    subst (λ a. GoesOn (HasFunction c.args.storage c.args.d.now c.args.block.now (shape_of a)) c.args.state (Err (fault.Rule 9 c.declarator_place.result.at))) (sym c.in-Object.is)
    (object_refused c.args.storage c.args.d.now c.args.block.now Int c.declarator_place.result.at c.args.state (ap (λ p. p.at) c.declarator_place.ensures))
