use Rattle.std.proofs.Common.{sym, subst}
use Rattle.ps_places.specs.Accesses as accesses
use Rattle.ps_bare.specs.Bare.{bare, ActsBare}
use Rattle.ps_bare.proofs.Acts.{acts_4}
use Rattle.ps_bare.proofs.Acting.{over_bare}
use Rattle.ps_bare.proofs.places.place_value.Goals as goal

pub returns-clause-acts : goal.returns-clause-acts
returns-clause-acts c =
    let cell = c.args.memory.now.cell in
    let core = c.args.core.now in
    subst (λ r. ActsBare 4 cell core r c.immediate.new.memory.cell c.immediate.new.core) (sym c.quiet.ensures)
    (over_bare 4 cell c.immediate.new.memory.cell core c.immediate.new.core c.immediate.result accesses.placing_value (acts_4 (bare cell) core) c.immediate.ensures.does)
