use Rattle.std.proofs.Common.{map, sym, false}
use Rattle.c_trees.specs.Declarators.{begins}
use Rattle.c_typing.specs.Plain.{plain}
use Rattle.c_judge.specs.Answers.{Known}
use Rattle.c_scope.specs.Declarators as shape
use Rattle.c_scope.specs.Declarators.{denoted}
use Rattle.c_linkage.specs.Types.{standing}
use Rattle.c_scope.specs.Here.{environment_of}
use Rattle.c_scope.specs.Shapes.{parameter_of}
use Rattle.c_file.proofs.Decided.{standing_none}
use Rattle.c_file.proofs.Named.{same_answer}
use Rattle.c_file.proofs.declarations.function.Goals as goal

pub returns-in-None : goal.returns-in-None
returns-in-None c =
    let s = c.args.state.now in
    let st = c.args.storage in
    let d = c.args.d.now in
    let ps = map parameter_of c.args.ps.now in
    same_answer st d (λ p. Known (denoted false (shape.Function (plain c.args.to) ps))) (λ p. standing p.here st d.initial (begins d.declarator).at (shape.Function (plain c.args.to) ps)) s c.function_named.new.state c.function_named.result
    (λ bs. standing_none (environment_of s.here) st d.initial (begins d.declarator).at (plain c.args.to) ps c.in-None.is) c.function_named.ensures
