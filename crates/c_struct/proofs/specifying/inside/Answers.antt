use Rattle.std.proofs.Common.{[], drop, ◌+◌, List, sym, subst, ◌∙◌}
use Rattle.c_trees.specs.declared.declaration.MemberPart.{MemberPart}
use Rattle.c_scope.specs.Here.{environment_of}
use Rattle.c_struct.specs.Specifies.{Inside}
use Rattle.c_struct.specs.Nested.{opens_of}
use Rattle.c_scope.proofs.Items.{item_of}
use Rattle.c_struct.proofs.Laid.{none_left}
use Rattle.c_struct.proofs.Within.{part_fails, answers_more}
use Rattle.c_struct.proofs.specifying.inside.Goals as goal

pub returns-in-Err-clause-inside : goal.returns-in-Err-clause-inside
returns-in-Err-clause-inside c =
    let i = c.loop-part.part-index in
    let e = item_of c.args.parts.now i c.part-item.result c.loop-part-test.true c.part-item.is in
    part_fails c.args.others.now (environment_of c.loop-part.here) (environment_of c.pass.new.here) (environment_of c.pass.new.here) (opens_of c.loop-part.n) c.args.parts.now i c.part-item.result c.in-Err.f
    (Inside c.args.others.now (environment_of c.args.here.now) (opens_of c.args.n) c.args.parts.now) e c.in-Err.ensures.passes c.loop-part.invariant.inside

pub loop-part-preserved : goal.loop-part-preserved
loop-part-preserved c =
    let i = c.loop-part.part-index in
    let e = item_of c.args.parts.now i c.part-item.result c.loop-part-test.true c.part-item.is in
    record {
      named = c.in-Ok.ensures.passes.0;
      inside = λ a x h. c.loop-part.invariant.inside a x
          (subst (λ (ps : List MemberPart). Inside c.args.others.now (environment_of c.loop-part.here) (opens_of c.loop-part.n) ps a x) (sym e) (c.in-Ok.ensures.passes.1 (drop (i + 1) c.args.parts.now) a x h));
      table = c.in-Ok.ensures.table ∙ c.loop-part.invariant.table;
      unit = c.in-Ok.ensures.unit ∙ c.loop-part.invariant.unit;
    }

pub returns-clause-inside : goal.returns-clause-inside
returns-clause-inside c =
    let e = none_left c.args.parts.now c.loop-part.part-index c.loop-part-test.false in
    answers_more c.args.others.now c.close.result (environment_of c.close.new.here) (Inside c.args.others.now (environment_of c.loop-part.here) (opens_of c.loop-part.n) [])
    (Inside c.args.others.now (environment_of c.args.here.now) (opens_of c.args.n) c.args.parts.now)
    (λ a x h. c.loop-part.invariant.inside a x (subst (λ (ps : List MemberPart). Inside c.args.others.now (environment_of c.loop-part.here) (opens_of c.loop-part.n) ps a x) (sym e) h))
    c.close.ensures.inside
