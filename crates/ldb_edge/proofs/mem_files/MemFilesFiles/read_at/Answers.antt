use Rattle.std.proofs.Common.{◌≡◌, ◌≤◌, Some, None, length, take, drop, sym, subst, rules}
use Rattle.ldb_edge.specs.Known.{HoldsPiece, EndsBy}
use Rattle.ldb_edge.specs.MemFiles.{Row, place_of}
use Rattle.ldb_edge.proofs.Pieces.{front_of}
use Rattle.ldb_edge.proofs.Rows.{absent_at, held_at}
use Rattle.ldb_edge.proofs.mem_files.MemFilesFiles.read_at.Goals as goal

pub returns-in_default-clause-absent : goal.returns-in_default-clause-absent
returns-in_default-clause-absent c = λ _.
    let at : place_of c.args.self.now.rows.items c.args.name.now ≡ None = search rules in
    absent_at c.args.name.now c.args.self.now.rows.items at

pub returns-clause-bytes : goal.returns-clause-bytes
returns-clause-bytes c =
    let rows = c.args.self.now.rows.items in
    let at : place_of rows c.args.name.now ≡ Some c.in-Some.i = search rules in
    let row : Row = c.index.result.now in
    let held = held_at c.args.name.now rows c.in-Some.i at row (search rules) in
    let n = c.fill_from.result in
    let front : take n c.fill_from.new.buf ≡ take n (drop c.args.at row.1.items) = search rules in
    subst (λ o. HoldsPiece o c.args.at (take n c.fill_from.new.buf)) (sym held) (front_of c.args.at n row.1.items c.fill_from.new.buf c.fill_from.ensures.bound front)

pub returns-clause-ended : goal.returns-clause-ended
returns-clause-ended c = λ none some.
    let rows = c.args.self.now.rows.items in
    let at : place_of rows c.args.name.now ≡ Some c.in-Some.i = search rules in
    let row : Row = c.index.result.now in
    let held = held_at c.args.name.now rows c.in-Some.i at row (search rules) in
    let ended : length row.1.items ≤ c.args.at = search rules in
    subst (λ o. EndsBy o c.args.at) (sym held) ended
