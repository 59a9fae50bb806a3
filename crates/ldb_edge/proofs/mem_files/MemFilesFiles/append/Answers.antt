use Rattle.std.proofs.Common.{◌≡◌, ◌++◌, true, false, length, take, Some, None, refl, sym, ap, ◌∙◌, subst, rules}
use Rattle.std.specs.Prelude.{IsSome}
use Rattle.std.specs.FinMap as map
use Rattle.std.proofs.Math.Seq.{take-length}
use Rattle.ldb_edge.specs.MemFiles.{Row, map_of, place_of}
use Rattle.ldb_edge.proofs.Maps.{stays_held}
use Rattle.ldb_edge.proofs.Rows.{absent_at, held_at, same_at, grown_at, stored_at}
use Rattle.ldb_edge.proofs.mem_files.MemFilesFiles.append.Goals as goal

pub returns-in_default-clause-absent : goal.returns-in_default-clause-absent
returns-in_default-clause-absent c = λ _.
    let at : place_of c.args.self.now.rows.items c.args.name.now ≡ None = search rules in
    absent_at c.args.name.now c.args.self.now.rows.items at

pub returns-in_default-clause-never_absent : goal.returns-in_default-clause-never_absent
returns-in_default-clause-never_absent c = λ h e.
    let at : place_of c.args.self.now.rows.items c.args.name.now ≡ None = search rules in
    let f : false ≡ true = subst IsSome (absent_at c.args.name.now c.args.self.now.rows.items at) h in
    cc

pub returns-then-is_err-clause-err : goal.returns-then-is_err-clause-err
returns-then-is_err-clause-err c =
    let rows = c.args.self.now.rows.items in
    let at : place_of rows c.args.name.now ≡ Some c.in-Some.i = search rules in
    let row : Row = (c.index_mut.result.now.0, c.extend_from_slice.new.self) in
    let kept : row.1.items ≡ c.index_mut.result.now.1.items = search rules in
    ap Some (same_at c.args.name.now rows c.in-Some.i at c.index_mut.result.now c.index_mut.ensures.value row refl kept)

pub returns-then-is_err-clause-keeps_created : goal.returns-then-is_err-clause-keeps_created
returns-then-is_err-clause-keeps_created c =
    let rows = c.args.self.now.rows.items in
    let at : place_of rows c.args.name.now ≡ Some c.in-Some.i = search rules in
    let row : Row = (c.index_mut.result.now.0, c.extend_from_slice.new.self) in
    let stored = stored_at c.args.name.now rows c.in-Some.i at c.index_mut.result.now c.index_mut.ensures.value row refl in
    λ other h. subst (λ m. IsSome (map.get m other)) (sym stored) (stays_held (map_of rows) c.args.name.now row.1.items other h)

pub returns-clause-there : goal.returns-clause-there
returns-clause-there c =
    let rows = c.args.self.now.rows.items in
    let at : place_of rows c.args.name.now ≡ Some c.in-Some.i = search rules in
    subst IsSome (sym (held_at c.args.name.now rows c.in-Some.i at c.index_mut.result.now c.index_mut.ensures.value)) refl

pub returns-clause-ok : goal.returns-clause-ok
returns-clause-ok c =
    let rows = c.args.self.now.rows.items in
    let at : place_of rows c.args.name.now ≡ Some c.in-Some.i = search rules in
    let row : Row = (c.index_mut.result.now.0, c.extend_from_slice.new.self) in
    let piece = c.args.piece.now in
    let old = c.index_mut.result.now.1.items in
    let grown : row.1.items ≡ old ++ piece = search rules in
    let taken = grown ∙ ap (λ bs. old ++ bs) (sym (take-length piece)) in
    ap Some (grown_at c.args.name.now rows c.in-Some.i at c.index_mut.result.now c.index_mut.ensures.value row (take (length piece) piece) refl taken)

pub returns-clause-keeps_created : goal.returns-clause-keeps_created
returns-clause-keeps_created c =
    let rows = c.args.self.now.rows.items in
    let at : place_of rows c.args.name.now ≡ Some c.in-Some.i = search rules in
    let row : Row = (c.index_mut.result.now.0, c.extend_from_slice.new.self) in
    let stored = stored_at c.args.name.now rows c.in-Some.i at c.index_mut.result.now c.index_mut.ensures.value row refl in
    λ other h. subst (λ m. IsSome (map.get m other)) (sym stored) (stays_held (map_of rows) c.args.name.now row.1.items other h)
