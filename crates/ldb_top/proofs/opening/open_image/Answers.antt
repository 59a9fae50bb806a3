use Rattle.std.proofs.Common.{List, [], subst}
use Rattle.obj_file.specs.Image.{ImageFields}
use Rattle.ps_store.specs.StoreState.{StoreState}
use Rattle.ldb_top.specs.Why.{AddsSide}
use Rattle.ldb_top.proofs.Opened.{loaded_then}
use Rattle.ldb_top.proofs.opening.open_image.Goals as goal

pub returns-in-Ok-add : goal.returns-in-Ok-add
returns-in-Ok-add c =
    let image = c.in-Ok.image in
    let images = c.add.new.self.images.items in
    let tables = c.add.new.self.tables.items in
    let one : AddsSide image c.args.table.now [] images [] tables =
    subst (λ (xs : List ImageFields). AddsSide image c.args.table.now xs images [] tables) c.new-sides.ensures.images
    (subst (λ (ys : List StoreState). AddsSide image c.args.table.now c.new-sides.result.images.items images ys tables) c.new-sides.ensures.tables c.in-Ok-add.ensures.adds) in
    loaded_then c.args.image.now c.args.table.now c.args.input.now image images tables c.start.result c.in-Ok.ensures one c.start.ensures.stop (c.start.ensures.over c.requires)
