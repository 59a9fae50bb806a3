use Rattle.std.proofs.Common.{map, length, sym, ap, ◌∙◌}
use Rattle.c_typing.specs.Plain.{plain}
use Rattle.c_file.specs.Files.{with_parameters}
use Rattle.c_scope.specs.Shapes.{parameter_of}
use Rattle.c_body.specs.Walking.{before_in}
use Rattle.c_file.proofs.WalkedBodies.{comes, still_there, outside_there}
use Rattle.c_file.proofs.functions.walked_body.Goals as goal

pub ended-requires-clause-inside : goal.ended-requires-clause-inside
ended-requires-clause-inside c =
    let ps = map parameter_of c.args.ps.now in
    let e = c.in-Ok.ensures.declared ∙ ap (λ v. with_parameters (record v { locals = 0 }) ps) c.enter-mark.ensures.inside in
    still_there c.args.here ps c.args.block.now (length c.symbols-outside.result.now) c.declare_parameters.new.here c.in-Ok-check_body.body.here e c.in-Ok-check_body.ensures.body.1
    (outside_there (length c.symbols-outside.result.now) c.args.here c.symbols-outside.ensures.aligned (ap length c.symbols-outside.ensures.symbols))

pub ended-requires-clause-mark : goal.ended-requires-clause-mark
ended-requires-clause-mark c =
    let ps = map parameter_of c.args.ps.now in
    let e = c.in-Ok.ensures.declared ∙ ap (λ v. with_parameters (record v { locals = 0 }) ps) c.enter-mark.ensures.inside in
    still_there c.args.here ps c.args.block.now c.enter-mark.result.start c.declare_parameters.new.here c.in-Ok-check_body.body.here e c.in-Ok-check_body.ensures.body.1 c.enter-mark.ensures.bounded

pub returns-in_ok-w-in-Ok-check_body : goal.returns-in_ok-w-in-Ok-check_body
returns-in_ok-w-in-Ok-check_body c =
    let ps = map parameter_of c.args.ps.now in
    let e = c.in-Ok.ensures.declared ∙ ap (λ v. with_parameters (record v { locals = 0 }) ps) c.enter-mark.ensures.inside in
    comes c.args.here ps c.args.block.now (before_in c.args.before) (plain c.args.to.now) c.declare_parameters.new.here e (length c.symbols-outside.result.now) c.enter-mark.result c.in-Ok-check_body.body c.in_ok-w-in-Ok-check_body.w
    c.requires.named c.symbols-outside.ensures.aligned (ap length c.symbols-outside.ensures.symbols) c.enter-mark.ensures.height c.enter-mark.ensures.start c.in-Ok-check_body.ensures.body c.in_ok-w-in-Ok-check_body.ensures
