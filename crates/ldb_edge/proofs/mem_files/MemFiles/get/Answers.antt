use Rattle.std.proofs.Common.{◌≡◌, Some, None, ap, ◌∙◌, rules}
use Rattle.ldb_edge.specs.MemFiles.{Row, place_of}
use Rattle.ldb_edge.proofs.Rows.{absent_at, held_at}
use Rattle.ldb_edge.proofs.mem_files.MemFiles.get.Goals as goal

pub returns-in-Some : goal.returns-in-Some
returns-in-Some c =
    let rows = c.args.self.now.rows.items in
    let at : place_of rows c.args.name.now ≡ Some c.in-Some.i = search rules in
    let row : Row = c.index.result.now in
    let held = held_at c.args.name.now rows c.in-Some.i at row (search rules) in
    let same : row.1.items ≡ c.as_slice.result.now = search rules in
    held ∙ ap Some same

pub returns-in-None : goal.returns-in-None
returns-in-None c =
    let at : place_of c.args.self.now.rows.items c.args.name.now ≡ None = search rules in
    absent_at c.args.name.now c.args.self.now.rows.items at
