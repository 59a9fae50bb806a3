use Rattle.std.proofs.Common.{sym, subst}
use Rattle.table_asks.specs.declared.fault.AskFault.{AskFault}
use Rattle.evaluating.specs.Told.{Fails}
use Rattle.evaluating.proofs.Keeping.{keeps_on, fails_on, fetch_keeps, fetch_fails}
use Rattle.evaluating.proofs.leaves.fetch_leaves.Goals as goal

pub returns-in-Err : goal.returns-in-Err
returns-in-Err g c =
    let seen = g.W.AbsMem.seen in
    let talk = c.loop-leaf.talk in
    let new = record talk { memory = c.fetch.new.self } in
    record { told = subst (λ (e : AskFault). Fails seen c.args.talk.now e new) (sym c.memory_fault.ensures.value) (fails_on seen c.args.talk.now talk new c.loop-leaf.invariant _ (fetch_fails seen talk new _ _ c.in-Err.fault c.in-Err.ensures.meaning)) }

pub returns-in-Err-push : goal.returns-in-Err-push
returns-in-Err-push g c =
    let talk = c.loop-leaf.talk in
    let new = record talk { memory = c.fetch.new.self } in
    record { told = keeps_on g.W.AbsMem.seen c.args.talk.now talk new c.loop-leaf.invariant (fetch_keeps g.W.AbsMem.seen talk new _ _ _ c.in-Ok.ensures.meaning) }

pub loop-leaf-preserved : goal.loop-leaf-preserved
loop-leaf-preserved g c =
    let talk = c.loop-leaf.talk in
    let new = record talk { memory = c.fetch.new.self } in
    keeps_on g.W.AbsMem.seen c.args.talk.now talk new c.loop-leaf.invariant (fetch_keeps g.W.AbsMem.seen talk new _ _ _ c.in-Ok.ensures.meaning)
