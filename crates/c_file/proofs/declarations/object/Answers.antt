use Rattle.std.proofs.Common.{map, sym, ap, subst, false, ◌∙◌}
use Rattle.c_trees.specs.Declarators.{begins}
use Rattle.c_typing.specs.Plain.{plain}
use Rattle.c_typing.specs.Expressions as typing
use Rattle.c_judge.specs.Answers.{Known}
use Rattle.c_judge.specs.Judges.{IsFault}
use Rattle.c_scope.specs.Declarators as shape
use Rattle.c_linkage.specs.Types.{standing, object_standing, object_type}
use Rattle.c_scope.specs.Here.{environment_of}
use Rattle.c_file.proofs.Decided.{object_decided}
use Rattle.c_file.proofs.Named.{same_answer, refused_as}
use Rattle.c_file.proofs.declarations.object.Goals as goal

pub returns-in-Ok : goal.returns-in-Ok
returns-in-Ok c =
    let s = c.args.state.now in
    let v = environment_of s.here in
    let st = c.args.storage in
    let d = c.args.d.now in
    let k = ap (λ p. p.at) c.declarator_place-at.ensures in
    let o = c.in_ok-t.ensures in
    same_answer st d (λ p. Known (typing.Object (plain c.in-Ok.t) false)) (λ p. standing p.here st d.initial (begins d.declarator).at (shape.Object (plain c.args.t))) s c.object_named.new.state c.object_named.result
    (λ bs. sym c.in-Ok.ensures ∙ (λ i. object_standing v st (o i) (k i))) c.object_named.ensures

pub returns-in-Err : goal.returns-in-Err
returns-in-Err c =
    let s = c.args.state.now in
    let v = environment_of s.here in
    let st = c.args.storage in
    let d = c.args.d.now in
    let k = ap (λ p. p.at) c.declarator_place-at.ensures in
    let o = c.in_ok-t.ensures in
    refused_as st d (λ p. standing p.here st d.initial (begins d.declarator).at (shape.Object (plain c.args.t))) s c.in-Err.f
    (λ bs. object_decided v st (object_type (plain c.args.t) d.initial) (begins d.declarator).at) (λ bs. subst (λ j. IsFault j c.in-Err.f) (λ i. object_standing v st (o i) (k i)) c.in-Err.ensures)
