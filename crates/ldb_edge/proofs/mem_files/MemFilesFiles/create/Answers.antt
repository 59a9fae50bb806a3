use Rattle.std.proofs.Common.{◌≡◌, [], sym, subst, rules}
use Rattle.std.specs.Prelude.{IsSome}
use Rattle.std.specs.FinMap as map
use Rattle.ldb_edge.specs.MemFiles.{map_of}
use Rattle.ldb_edge.proofs.Maps.{stays_held, held_after}
use Rattle.ldb_edge.proofs.mem_files.MemFilesFiles.create.Goals as goal

pub returns-clause-made : goal.returns-clause-made
returns-clause-made c =
    let old = map_of c.args.self.now.rows.items in
    let made : map_of c.put_empty.new.rows.items ≡ map.insert old c.args.name.now [] = search rules in
    subst (λ m. IsSome (map.get m c.args.name.now)) (sym made) (held_after old c.args.name.now [])

pub returns-clause-keeps_created : goal.returns-clause-keeps_created
returns-clause-keeps_created c =
    let old = map_of c.args.self.now.rows.items in
    let made : map_of c.put_empty.new.rows.items ≡ map.insert old c.args.name.now [] = search rules in
    λ other h. subst (λ m. IsSome (map.get m other)) (sym made) (stays_held old c.args.name.now [] other h)
