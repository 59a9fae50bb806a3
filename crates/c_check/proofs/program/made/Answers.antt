use Rattle.c_check.proofs.FilledTables.{has_rows}
use Rattle.c_check.proofs.program.made.Goals as goal

pub returns : goal.returns
returns c = λ n q st k.
    has_rows n c.args.state q c.args.names.now c.in-Ok.rows _ st k (c.in-Ok.ensures n q st k) c.from_vec-units.ensures c.from_vec-defs.ensures c.from_vec-objects.ensures c.from_vec-strings.ensures
    c.from_vec-functions.ensures c.from_vec-points.ensures c.from_vec-symbols.ensures
