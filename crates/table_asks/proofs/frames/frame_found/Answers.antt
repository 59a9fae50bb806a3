use Rattle.std.proofs.Common.{◌∙◌, refl, subst, arith, Option, Ok, Err}
use Rattle.ps_store.specs.StoreState.{StoreState}
use Rattle.frame_bytes.specs.Bytes.{Bytes}
use Rattle.frame_bytes.specs.declared.frame.Frame.{Frame}
use Rattle.table_model.specs.declared.row.TargetRow.{TargetRow}
use Rattle.table_model.specs.Frames.{frame_at}
use Rattle.table_asks.proofs.Framed.{frame_fair}
use Rattle.dialect_model.specs.TableUse.{Looks}
use Rattle.table_asks.specs.Asking.{ComesOver}
use Rattle.table_asks.proofs.Looking.{far_here, walk_comes, walk_fails, walk_on, led_fails, led_on}
use Rattle.table_asks.proofs.frames.frame_found.Goals as goal

pub again-init : goal.again-init
again-init g c =
    record {
      limit = refl;
      within = c.requires.within;
      more = omega arith;
      closed = λ p h. h;
      far = far_here (λ (b : Bytes) (s : StoreState). frame_at c.row_of_target-row.result s b c.args.talk.now.view.context c.args.number) (g.W.AbsMem.seen c.args.talk.now.memory.below.below.below) c.args.inquiry.now;
      led = g.met.W.AbsMem.stays c.args.talk.now.memory.below.below.below;
    }

pub returns-in-Ok-clause-meaning : goal.returns-in-Ok-clause-meaning
returns-in-Ok-clause-meaning g c =
    let seen = g.W.AbsMem.seen in
    subst (λ (r : TargetRow). ComesOver (λ b. Looks (λ s. frame_at r s b c.args.talk.now.view.context c.args.number)) c.args.inquiry.now (seen c.args.talk.now.memory.below.below.below) (Ok (c.in-Ok.frame)) c.again.inquiry (seen c.frame_numbered.new.m)) c.row_of_target-row.ensures
    (walk_comes (λ (b : Bytes) (s : StoreState). frame_at c.row_of_target-row.result s b c.args.talk.now.view.context c.args.number) (seen c.args.talk.now.memory.below.below.below) (seen c.again.m) (seen c.frame_numbered.new.m) c.args.inquiry.now c.again.inquiry c.again.invariant.far (c.in-Ok.frame) c.in-Ok.ensures.meaning)

pub again-preserved : goal.again-preserved
again-preserved g c =
    let seen = g.W.AbsMem.seen in
    record {
      limit = c.in-Ok-settle_walk.ensures.limit ∙ c.again.invariant.limit;
      within = c.in-Ok-settle_walk.ensures.within;
      more = omega (arith, c.again.invariant.more, c.in-Ok-settle_walk.ensures.more);
      closed = λ p h. c.in-Ok-settle_walk.ensures.closed p (c.again.invariant.closed p h);
      far =
          walk_on (λ (b : Bytes) (s : StoreState). frame_at c.row_of_target-row.result s b c.args.talk.now.view.context c.args.number) (seen c.args.talk.now.memory.below.below.below) (seen c.again.m) (seen c.frame_numbered.new.m) c.args.inquiry.now c.again.inquiry c.again.invariant.far (λ b s. frame_fair c.row_of_target-row.result s b c.args.talk.now.view.context c.args.number)
          c.in-Err.fault c.settle_walk.new.inquiry c.in-Err.ensures.meaning c.in-Ok-settle_walk.ensures.settles;
      led =
          led_on (Option Frame) (Option Frame) g.W.AbsMem.leads c.args.talk.now.memory.below.below.below c.again.m c.frame_numbered.new.m (g.met.W.AbsMem.goes_on c.args.talk.now.memory.below.below.below c.again.m c.frame_numbered.new.m) c.again.invariant.led c.in-Err.fault c.again.inquiry c.settle_walk.new.inquiry c.in-Err.ensures.calls
          c.in-Ok-settle_walk.ensures.settles;
    }

pub returns-in-Err-settle_walk-clause-meaning : goal.returns-in-Err-settle_walk-clause-meaning
returns-in-Err-settle_walk-clause-meaning g c =
    let seen = g.W.AbsMem.seen in
    subst (λ (r : TargetRow). ComesOver (λ b. Looks (λ s. frame_at r s b c.args.talk.now.view.context c.args.number)) c.args.inquiry.now (seen c.args.talk.now.memory.below.below.below) (Err c.in-Err-settle_walk.fault) c.settle_walk.new.inquiry (seen c.frame_numbered.new.m)) c.row_of_target-row.ensures
    (walk_fails (λ (b : Bytes) (s : StoreState). frame_at c.row_of_target-row.result s b c.args.talk.now.view.context c.args.number) (seen c.args.talk.now.memory.below.below.below) (seen c.again.m) (seen c.frame_numbered.new.m) c.args.inquiry.now c.again.inquiry c.again.invariant.far (λ b s. frame_fair c.row_of_target-row.result s b c.args.talk.now.view.context c.args.number) c.in-Err.fault
    c.in-Err-settle_walk.fault c.settle_walk.new.inquiry c.in-Err.ensures.meaning c.in-Err-settle_walk.ensures.settles)

pub returns-in-Err-settle_walk-clause-calls : goal.returns-in-Err-settle_walk-clause-calls
returns-in-Err-settle_walk-clause-calls g c =
    led_fails (Option Frame) (Option Frame) g.W.AbsMem.leads c.args.talk.now.memory.below.below.below c.again.m c.frame_numbered.new.m (g.met.W.AbsMem.goes_on c.args.talk.now.memory.below.below.below c.again.m c.frame_numbered.new.m) c.again.invariant.led c.in-Err.fault c.in-Err-settle_walk.fault c.again.inquiry c.settle_walk.new.inquiry
    c.in-Err.ensures.calls c.in-Err-settle_walk.ensures.settles
