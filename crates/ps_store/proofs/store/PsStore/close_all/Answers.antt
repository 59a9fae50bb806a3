use Rattle.std.proofs.Common.{subst, sym}
use Rattle.ps_store.specs.contracts.store.PsStore.{the_view}
use Rattle.ps_store.specs.declared.object.Mark.{Mark}
use Rattle.ps_store.specs.StoreState.{StoreState}
use Rattle.ps_store.specs.Store.{closed_part}
use Rattle.ps_store.specs.Settled.{Settled}
use Rattle.ps_store.proofs.Settling.{all_settled}
use Rattle.ps_store.proofs.store.PsStore.close_all.Goals as goal

pub returns-clause-settled : goal.returns-clause-settled
returns-clause-settled c =
    let v : StoreState = the_view c.self.inside in
    let marked : Mark → StoreState = λ m. record v { closed = m } in
    let i = c.self.invariant in
    let all = all_settled v (record { arrays = i.1; dicts = i.2; strings = i.3; units = i.4 }) in
    let closed = subst (λ m. Settled (closed_part v) (closed_part (marked m))) (sym c.mark-self-inside.ensures.mark) all in
    subst (λ t. Settled (closed_part t) (closed_part (marked c.mark-self-inside.result))) c.self.view_is closed
