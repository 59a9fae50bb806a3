use Rattle.std.proofs.Common.{false, sym, subst}
use Rattle.ps_places.specs.Accesses as accesses
use Rattle.ps_bare.specs.Bare.{ActsBare}
use Rattle.ps_bare.proofs.Acting.{over_bare, store_bare}
use Rattle.ps_bare.proofs.places.store_bare.Goals as goal

pub returns-clause-acts : goal.returns-clause-acts
returns-clause-acts c =
    let cell = c.args.memory.now.cell in
    let core = c.args.core.now in
    subst (λ r. ActsBare 7 cell core r c.store.new.memory.cell c.store.new.core) (sym c.quiet.ensures)
    (over_bare 7 cell c.store.new.memory.cell core c.store.new.core c.store.result (accesses.storing false) (store_bare cell core) c.store.ensures.does)
