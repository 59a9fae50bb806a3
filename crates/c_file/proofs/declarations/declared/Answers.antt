use Rattle.std.proofs.Common.{map, sym, ap, subst, false, ◌∙◌}
use Rattle.c_trees.specs.Declarators.{begins}
use Rattle.c_typing.specs.Plain.{plain}
use Rattle.c_judge.specs.Answers.{◌then◌}
use Rattle.c_judge.specs.Judges.{IsFault}
use Rattle.c_scope.specs.Declarators.{shape}
use Rattle.c_file.specs.Files.{what}
use Rattle.c_linkage.specs.Types.{standing}
use Rattle.c_scope.specs.Here.{environment_of}
use Rattle.c_scope.specs.Shapes.{shape_of}
use Rattle.c_file.proofs.Decided.{then_decided, shape_decided, standing_decided}
use Rattle.c_file.proofs.Named.{same_answer, refused_as}
use Rattle.c_scope.proofs.Thens.{fails}
use Rattle.c_file.proofs.declarations.declared.Goals as goal

pub returns-in-Ok : goal.returns-in-Ok
returns-in-Ok c =
    let s = c.args.state.now in
    let v = environment_of s.here in
    let st = c.args.storage in
    let d = c.args.d.now in
    same_answer st d (λ p. standing p.here st d.initial (begins d.declarator).at (shape_of c.in-Ok.s)) (λ p. what st (plain c.args.t.now) p d) s c.shaped.new.state c.shaped.result
    (λ bs. ap (λ j. ◌then◌ j (standing v st d.initial (begins d.declarator).at)) (sym c.in-Ok.ensures ∙ ap (shape v d.declarator) c.in_ok-t.ensures)) c.shaped.ensures

pub returns-in-Err : goal.returns-in-Err
returns-in-Err c =
    let s = c.args.state.now in
    let v = environment_of s.here in
    let st = c.args.storage in
    let d = c.args.d.now in
    let next = standing v st d.initial (begins d.declarator).at in
    refused_as st d (λ p. what st (plain c.args.t.now) p d) s c.in-Err.f
    (λ bs. then_decided (shape v d.declarator (plain c.args.t.now)) next (shape_decided v d.declarator (plain c.args.t.now)) (λ x. standing_decided v st d.initial (begins d.declarator).at x))
    (λ bs. fails (shape v d.declarator (plain c.args.t.now)) next c.in-Err.f (subst (λ t. IsFault (shape v d.declarator t) c.in-Err.f) c.in_ok-t.ensures c.in-Err.ensures))
