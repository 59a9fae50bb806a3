use Rattle.std.proofs.Common.{◌∙◌, ◌<◌, ◌+◌, inr, arith, length-drop}
use Rattle.std.proofs.lemmas.List.{take_rest}
use Rattle.cc_call.proofs.Written.{held_more}
use Rattle.cc_call.proofs.writing.write_file.Goals as goal

pub returns-then-count-eq0-clause-err : goal.returns-then-count-eq0-clause-err
returns-then-count-eq0-clause-err g c =
    let more = rw take_rest at c.in-Ok.ensures.ok in
    inr (c.loop-done.done + c.in-Ok.count, held_more _ _ _ c.args.name.now c.args.bytes.now c.loop-done.done c.in-Ok.count c.loop-done.invariant.held more)

pub loop-done-preserved : goal.loop-done-preserved
loop-done-preserved g c =
    let more = rw take_rest at c.in-Ok.ensures.ok in
    let bound = rw take_rest at c.in-Ok.ensures.bound in
    let some : 0 < c.in-Ok.count = omega (arith, c.if-count-eq0.false) in
    record {
      held = held_more _ _ _ c.args.name.now c.args.bytes.now c.loop-done.done c.in-Ok.count c.loop-done.invariant.held more;
      created = c.append.ensures.keeps_created c.args.name.now c.loop-done.invariant.created;
      within = omega (arith, length-drop c.loop-done.done c.args.bytes.now, bound, c.loop-done.invariant.within);
      read = c.append.ensures.read_cause ∙ c.loop-done.invariant.read;
      write = c.in-Ok.ensures.write_cause.some some ∙ c.loop-done.invariant.write;
    }
