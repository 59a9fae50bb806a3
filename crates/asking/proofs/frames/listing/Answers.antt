use Rattle.std.proofs.Common.{◌≡◌, ◌∙◌, refl, sym, subst, arith, ℕ, List, ◌∷◌, ◌++◌, codes, decimal, append_assoc, Ok, Err}
use Rattle.ps_store.specs.StoreState.{StoreState}
use Rattle.frame_bytes.specs.Bytes.{Bytes}
use Rattle.table_model.specs.declared.row.TargetRow.{TargetRow}
use Rattle.table_asks.specs.Asking.{ComesOver}
use Rattle.table_asks.proofs.Looking.{far_here, walk_comes, walk_wants, walk_fails, walk_on, led_fails, led_on}
use Rattle.asking.specs.declared.frames.Listed.{Listed}
use Rattle.asking.specs.declared.frames.ListFault.{ListFault}
use Rattle.asking.specs.declared.frames.ListFault.TheVariants as list
use Rattle.table_asks.specs.declared.fault.AskFault.TheVariants.{NoMemory}
use Rattle.asking.specs.Frames.{listing, Lists, LedList}
use Rattle.asking.proofs.Rows.{text_of, query, query_fair, lists_text, lists_fails}
use Rattle.asking.proofs.frames.listing.Goals as goal

pub again-init : goal.again-init
again-init g c =
    record {
      limit = refl;
      within = c.requires.within;
      more = omega arith;
      closed = λ p h. h;
      far = far_here (λ (b : Bytes) (s : StoreState). query c.row_of_target-row.result c.args.talk.now.view.context b s) (g.W.AbsMem.seen c.args.talk.now.memory.below.below.below) c.args.inquiry.now;
      led = g.met.W.AbsMem.stays c.args.talk.now.memory.below.below.below;
    }

pub again-preserved : goal.again-preserved
again-preserved g c =
    let seen = g.W.AbsMem.seen in
    let m = c.args.talk.now.memory.below.below.below in
    let a = c.again in
    let row = c.row_of_target-row.result in
    let context = c.args.talk.now.view.context in
    let is : c.in-Err-Walk.field-0 ≡ list.Walk c.in-Err-Walk.fault = cc in
    let walk = subst (λ (x : ListFault). Lists (λ b. query row context b a.inquiry.core.store) (seen a.m) (Err x) (seen c.list_frames.new.m)) is c.in-Err-Walk.ensures.meaning in
    let led_so = subst (λ (x : ListFault). LedList g.W.AbsMem.leads a.m (Err x) c.list_frames.new.m) is c.in-Err-Walk.ensures.calls in
    record {
      limit = c.in-Ok-settle_walk.ensures.limit ∙ a.invariant.limit;
      within = c.in-Ok-settle_walk.ensures.within;
      more = omega (arith, a.invariant.more, c.in-Ok-settle_walk.ensures.more);
      closed = λ p h. c.in-Ok-settle_walk.ensures.closed p (a.invariant.closed p h);
      far =
          walk_on (λ (b : Bytes) (s : StoreState). query row context b s) (seen m) (seen a.m) (seen c.list_frames.new.m) c.args.inquiry.now a.inquiry a.invariant.far (λ b s. query_fair row context b s)
          c.in-Err-Walk.fault c.settle_walk.new.inquiry walk c.in-Ok-settle_walk.ensures.settles;
      led =
          led_on Listed Listed g.W.AbsMem.leads m a.m c.list_frames.new.m (g.met.W.AbsMem.goes_on m a.m c.list_frames.new.m) a.invariant.led c.in-Err-Walk.fault a.inquiry c.settle_walk.new.inquiry led_so
          c.in-Ok-settle_walk.ensures.settles;
    }

pub returns-in-Ok-frames_text-clause-meaning : goal.returns-in-Ok-frames_text-clause-meaning
returns-in-Ok-frames_text-clause-meaning g c =
    let seen = g.W.AbsMem.seen in
    let m = seen c.args.talk.now.memory.below.below.below in
    let after = seen c.list_frames.new.m in
    let a = c.again in
    let row = c.row_of_target-row.result in
    let context = c.args.talk.now.view.context in
    let text : c.in-Ok-frames_text.text ≡ text_of c.in-Ok.all = c.in-Ok-frames_text.ensures in
    subst (λ (r : TargetRow). ComesOver (listing r context) c.args.inquiry.now m (Ok c.in-Ok-frames_text.text) a.inquiry after) c.row_of_target-row.ensures
    (subst (λ (t : List ℕ). ComesOver (listing row context) c.args.inquiry.now m (Ok t) a.inquiry after) (sym text)
    (lists_text row context c.args.inquiry.now a.inquiry m after c.in-Ok.all
    (walk_comes (λ (b : Bytes) (s : StoreState). query row context b s) m (seen a.m) after c.args.inquiry.now a.inquiry a.invariant.far c.in-Ok.all c.in-Ok.ensures.meaning)))

pub returns-in-Ok-frames_text-clause-calls : goal.returns-in-Ok-frames_text-clause-calls
returns-in-Ok-frames_text-clause-calls g c = g.met.W.AbsMem.goes_on c.args.talk.now.memory.below.below.below c.again.m c.list_frames.new.m _ c.again.invariant.led c.in-Ok.ensures.calls

pub returns-in-Err-clause-meaning : goal.returns-in-Err-clause-meaning
returns-in-Err-clause-meaning g c =
    let seen = g.W.AbsMem.seen in
    let m = seen c.args.talk.now.memory.below.below.below in
    let after = seen c.list_frames.new.m in
    let a = c.again in
    let row = c.row_of_target-row.result in
    let context = c.args.talk.now.view.context in
    subst (λ (r : TargetRow). ComesOver (listing r context) c.args.inquiry.now m (Err NoMemory) a.inquiry after) c.row_of_target-row.ensures
    (lists_fails row context c.args.inquiry.now a.inquiry m after NoMemory
    (walk_wants (λ (b : Bytes) (s : StoreState). query row context b s) m (seen a.m) after c.args.inquiry.now a.inquiry a.invariant.far c.in-Ok.ensures.meaning.0))

pub returns-in-Err-clause-calls : goal.returns-in-Err-clause-calls
returns-in-Err-clause-calls g c = g.met.W.AbsMem.goes_on c.args.talk.now.memory.below.below.below c.again.m c.list_frames.new.m _ c.again.invariant.led c.in-Ok.ensures.calls

pub returns-in-Err-NoMemory-clause-meaning : goal.returns-in-Err-NoMemory-clause-meaning
returns-in-Err-NoMemory-clause-meaning g c =
    let seen = g.W.AbsMem.seen in
    let m = seen c.args.talk.now.memory.below.below.below in
    let after = seen c.list_frames.new.m in
    let a = c.again in
    let row = c.row_of_target-row.result in
    let context = c.args.talk.now.view.context in
    let is : c.in-Err-NoMemory.field-0 ≡ list.NoMemory = cc in
    let same = subst (λ (x : ListFault). Lists (λ b. query row context b a.inquiry.core.store) (seen a.m) (Err x) after) is c.in-Err-NoMemory.ensures.meaning in
    subst (λ (r : TargetRow). ComesOver (listing r context) c.args.inquiry.now m (Err NoMemory) a.inquiry after) c.row_of_target-row.ensures
    (lists_fails row context c.args.inquiry.now a.inquiry m after NoMemory
    (walk_wants (λ (b : Bytes) (s : StoreState). query row context b s) m (seen a.m) after c.args.inquiry.now a.inquiry a.invariant.far same))

pub returns-in-Err-NoMemory-clause-calls : goal.returns-in-Err-NoMemory-clause-calls
returns-in-Err-NoMemory-clause-calls g c =
    let a = c.again in
    let is : c.in-Err-NoMemory.field-0 ≡ list.NoMemory = cc in
    let led = subst (λ (x : ListFault). LedList g.W.AbsMem.leads a.m (Err x) c.list_frames.new.m) is c.in-Err-NoMemory.ensures.calls in
    g.met.W.AbsMem.goes_on c.args.talk.now.memory.below.below.below a.m c.list_frames.new.m _ a.invariant.led led

pub returns-in-Err-settle_walk-clause-meaning : goal.returns-in-Err-settle_walk-clause-meaning
returns-in-Err-settle_walk-clause-meaning g c =
    let seen = g.W.AbsMem.seen in
    let m = seen c.args.talk.now.memory.below.below.below in
    let after = seen c.list_frames.new.m in
    let a = c.again in
    let row = c.row_of_target-row.result in
    let context = c.args.talk.now.view.context in
    let new = c.settle_walk.new.inquiry in
    let is : c.in-Err-Walk.field-0 ≡ list.Walk c.in-Err-Walk.fault = cc in
    let walk = subst (λ (x : ListFault). Lists (λ b. query row context b a.inquiry.core.store) (seen a.m) (Err x) (seen c.list_frames.new.m)) is c.in-Err-Walk.ensures.meaning in
    subst (λ (r : TargetRow). ComesOver (listing r context) c.args.inquiry.now m (Err c.in-Err-settle_walk.fault) new after) c.row_of_target-row.ensures
    (lists_fails row context c.args.inquiry.now new m after c.in-Err-settle_walk.fault
    (walk_fails (λ (b : Bytes) (s : StoreState). query row context b s) m (seen a.m) after c.args.inquiry.now a.inquiry a.invariant.far (λ b s. query_fair row context b s) c.in-Err-Walk.fault c.in-Err-settle_walk.fault new walk c.in-Err-settle_walk.ensures.settles))

pub returns-in-Err-settle_walk-clause-calls : goal.returns-in-Err-settle_walk-clause-calls
returns-in-Err-settle_walk-clause-calls g c =
    let m = c.args.talk.now.memory.below.below.below in
    let a = c.again in
    let is : c.in-Err-Walk.field-0 ≡ list.Walk c.in-Err-Walk.fault = cc in
    let led_so = subst (λ (x : ListFault). LedList g.W.AbsMem.leads a.m (Err x) c.list_frames.new.m) is c.in-Err-Walk.ensures.calls in
    led_fails Listed (List ℕ) g.W.AbsMem.leads m a.m c.list_frames.new.m (g.met.W.AbsMem.goes_on m a.m c.list_frames.new.m) a.invariant.led c.in-Err-Walk.fault c.in-Err-settle_walk.fault a.inquiry c.settle_walk.new.inquiry led_so c.in-Err-settle_walk.ensures.settles

pub returns-in-Ok-frames_text-clause-word : goal.returns-in-Ok-frames_text-clause-word
returns-in-Ok-frames_text-clause-word g c =
    (decimal c.in-Ok.all.count ++ (10 ∷ c.in-Ok.all.lines), c.in-Ok-frames_text.ensures ∙ append_assoc (codes "frames ") (decimal c.in-Ok.all.count) (10 ∷ c.in-Ok.all.lines))
