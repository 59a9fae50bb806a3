use Rattle.std.proofs.Common.{rules, refl, ◌≡◌, ◌<◌, take, drop, sym, ap, ◌∙◌, arith, length-drop, Result, Ok, Err, OnErr}
use Rattle.std.proofs.lemmas.List.{take_rest}
use Rattle.ldb_edge.specs.Known.{known_and}
use Rattle.resuming.proofs.Taken.{known_more, known_none, taken_front}
use Rattle.resuming.proofs.writing.put.Goals as goal

on_err : {A E : Type 0} (r : Result A E) (P : Type 0) → P → OnErr r P
on_err (Ok x) P p = tt
on_err (Err e) P p = p

pub returns-in_err-count-clause-err : goal.returns-in_err-count-clause-err
returns-in_err-count-clause-err g c =
    on_err c.from_residual.result _
    (taken_front (g.S.Sink.taken c.args.sink.now) (g.S.Sink.taken c.write.new.self) c.loop-done.done c.args.bytes.now
    (c.in_err-count.ensures.bytes ∙ sym (known_none (g.S.Sink.taken c.loop-done.sink)) ∙ c.loop-done.invariant.front))

pub returns-then-count-eq0-clause-err : goal.returns-then-count-eq0-clause-err
returns-then-count-eq0-clause-err g c =
    let known = g.S.Sink.taken c.loop-done.sink in
    let said = rw take_rest at c.in_ok-count.ensures.bytes in
    taken_front (g.S.Sink.taken c.args.sink.now) (g.S.Sink.taken c.write.new.self) c.loop-done.done c.args.bytes.now
    (said ∙ ap (λ n. known_and known (take n (drop c.loop-done.done c.args.bytes.now))) c.if-count-eq0.true ∙ sym (known_none known) ∙ c.loop-done.invariant.front)

pub loop-done-preserved : goal.loop-done-preserved
loop-done-preserved g c =
    let known = g.S.Sink.taken c.args.sink.now in
    let bytes = c.args.bytes.now in
    let done = c.loop-done.done in
    let count = c.in_ok-count.count in
    let said = rw take_rest at c.in_ok-count.ensures.bytes in
    let bound = rw take_rest at c.in_ok-count.ensures.bound in
    let some : 0 < count = omega (arith, c.if-count-eq0.false) in
    record {
      front = said ∙ ap (λ k. known_and k (take count (drop done bytes))) c.loop-done.invariant.front ∙ known_more known done count bytes;
      within = omega (arith, length-drop done bytes, bound);
      counts = c.in_ok-count.ensures.cause.some some ∙ c.loop-done.invariant.counts;
      led = g.met.S.Sink.goes_on c.args.sink.now c.loop-done.sink c.write.new.self c.loop-done.invariant.led c.in_ok-count.ensures.leads;
    }

pub returns-in_err-count-clause-leads : goal.returns-in_err-count-clause-leads
returns-in_err-count-clause-leads g c = g.met.S.Sink.goes_on c.args.sink.now c.loop-done.sink c.write.new.self c.loop-done.invariant.led c.in_err-count.ensures.leads

pub returns-then-count-eq0-clause-leads : goal.returns-then-count-eq0-clause-leads
returns-then-count-eq0-clause-leads g c = g.met.S.Sink.goes_on c.args.sink.now c.loop-done.sink c.write.new.self c.loop-done.invariant.led c.in_ok-count.ensures.leads

pub loop-done-init : goal.loop-done-init
loop-done-init g c = record {
  front = search rules;
  within = search rules;
  counts = refl;
  led = g.met.S.Sink.stays c.args.sink.now;
}
