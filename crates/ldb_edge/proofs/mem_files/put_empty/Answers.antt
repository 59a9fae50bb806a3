use Rattle.std.proofs.Common.{◌≡◌, [], ◌∷◌, ◌++◌, Some, None, refl, ap, ◌∙◌, rules, string_bytes}
use Rattle.std.specs.FinMap as map
use Rattle.ldb_edge.specs.MemFiles.{Row, map_of, place_of}
use Rattle.ldb_edge.proofs.Rows.{pushed_at, stored_at}
use Rattle.ldb_edge.proofs.mem_files.put_empty.Goals as goal

pub returns-in-Some-clause-ok : goal.returns-in-Some-clause-ok
returns-in-Some-clause-ok c =
    let rows = c.args.rows.now.items in
    let name = c.args.name.now in
    let at : place_of rows name ≡ Some c.in-Some.i = search rules in
    let row : Row = (c.index_mut.result.now.0, c.new.result) in
    stored_at name rows c.in-Some.i at c.index_mut.result.now c.index_mut.ensures.value row refl ∙ ap (map.insert (map_of rows) name) c.new.ensures.items

pub returns-clause-ok : goal.returns-clause-ok
returns-clause-ok c =
    let rows = c.args.rows.now.items in
    let name = c.args.name.now in
    let at : place_of rows name ≡ None = search rules in
    let row : Row = (c.in_ok-name.name, c.new-bytes.result) in
    let spelled : string_bytes row.0 ≡ name = search rules in
    let items : c.push.new.self.items ≡ rows ++ row ∷ [] = search rules in
    ap map_of items ∙ pushed_at name rows row spelled at ∙ ap (map.insert (map_of rows) name) c.new-bytes.ensures.items
