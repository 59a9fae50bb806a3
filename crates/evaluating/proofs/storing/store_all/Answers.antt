use Rattle.std.proofs.Common.{sym, subst, Err}
use Rattle.table_asks.specs.declared.fault.AskFault.{AskFault}
use Rattle.evaluating.specs.Told.{StoresAll}
use Rattle.evaluating.proofs.Keeping.{nothing_changed, stored_on, store_fails}
use Rattle.evaluating.proofs.storing.store_all.Goals as goal

pub loop-leaf-init : goal.loop-leaf-init
loop-leaf-init g c = nothing_changed g.W.AbsMem.seen c.args.talk.now _ c.set_frame.ensures.below c.set_frame.ensures.order

pub returns-in-Err : goal.returns-in-Err
returns-in-Err g c =
    let seen = g.W.AbsMem.seen in
    let talk = c.loop-leaf.talk in
    let new = record talk { memory = c.store.new.self } in
    subst (λ (e : AskFault). StoresAll seen c.args.talk.now (Err e) new) (sym c.memory_fault.ensures.value) (store_fails seen c.args.talk.now talk new _ _ _ c.in-Err.fault c.loop-leaf.invariant c.in-Err.ensures.meaning)

pub loop-leaf-preserved : goal.loop-leaf-preserved
loop-leaf-preserved g c =
    let talk = c.loop-leaf.talk in
    let new = record talk { memory = c.store.new.self } in
    stored_on g.W.AbsMem.seen c.args.talk.now talk new _ _ _ c.loop-leaf.invariant c.in-Ok.ensures.meaning
