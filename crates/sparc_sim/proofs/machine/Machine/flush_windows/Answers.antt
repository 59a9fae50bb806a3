use Rattle.std.proofs.Common.{◌∙◌, sym}
use Rattle.sparc_isa.specs.Windows.{callers}
use Rattle.sparc_sim.specs.contracts.machine.Machine.{the_view}
use Rattle.sparc_sim.proofs.Context.{flush_refused, flush_stored}
use Rattle.sparc_sim.proofs.machine.Machine.flush_windows.Goals as goal

pub returns-then-not-can_store : goal.returns-then-not-can_store
unfolding callers
returns-then-not-can_store c =
    let told = rw c.window_above-first.ensures.value at c.can_store.ensures in
    flush_refused (the_view c.self.inside) c.args.self.now c.self.view_is c.self.told (sym told ∙ c.if-not-can_store.true)

pub store_windows-requires-clause-stored : goal.store_windows-requires-clause-stored
unfolding callers
store_windows-requires-clause-stored c =
    let told = rw c.window_above-first.ensures.value at c.can_store.ensures in
    rw c.window_above-first.ensures.value
    (flush_stored (the_view c.self.inside) c.args.self.now c.self.view_is c.self.told (sym told ∙ c.if-not-can_store.false))
