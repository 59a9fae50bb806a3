use Rattle.std.proofs.Common.{sym, subst}
use Rattle.ps_places.specs.Accesses as accesses
use Rattle.ps_bare.specs.Bare.{ActsBare}
use Rattle.ps_bare.proofs.Acting.{over_bare, fetch_bare}
use Rattle.ps_bare.proofs.places.fetch_bare.Goals as goal

pub returns-clause-acts : goal.returns-clause-acts
returns-clause-acts c =
    let cell = c.args.memory.now.cell in
    let core = c.args.core.now in
    subst (λ r. ActsBare 6 cell core r c.fetch.new.memory.cell c.fetch.new.core) (sym c.quiet.ensures)
    (over_bare 6 cell c.fetch.new.memory.cell core c.fetch.new.core c.fetch.result accesses.fetching (fetch_bare cell core) c.fetch.ensures.does)
