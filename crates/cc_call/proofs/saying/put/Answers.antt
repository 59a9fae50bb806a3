use Rattle.std.proofs.Common.{◌<◌, take, drop, ap, ◌∙◌, arith, length-drop}
use Rattle.std.proofs.lemmas.List.{take_rest}
use Rattle.ldb_edge.specs.Known.{known_and}
use Rattle.cc_call.proofs.Fronts.{known_more}
use Rattle.cc_call.proofs.saying.put.Goals as goal

pub loop-done-preserved : goal.loop-done-preserved
loop-done-preserved g c =
    let known = g.S.Sink.taken c.args.sink.now in
    let text = c.args.text.now in
    let done = c.loop-done.done in
    let count = c.in_ok-count.count in
    let said = rw take_rest at c.in_ok-count.ensures.bytes in
    let bound = rw take_rest at c.in_ok-count.ensures.bound in
    let some : 0 < count = omega (arith, c.if-count-eq0.false) in
    record {
      front = said ∙ ap (λ k. known_and k (take count (drop done text))) c.loop-done.invariant.front ∙ known_more known done count text;
      within = omega (arith, length-drop done text, bound);
      counts = c.in_ok-count.ensures.cause.some some ∙ c.loop-done.invariant.counts;
    }
