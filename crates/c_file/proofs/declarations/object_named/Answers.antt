use Rattle.std.proofs.Common.{map, sym, ap, subst, false}
use Rattle.c_trees.specs.Declarators.{begins}
use Rattle.c_typing.specs.Plain.{plain}
use Rattle.c_typing.specs.Expressions as typing
use Rattle.c_file.specs.Files.{row_of, with_name, with_strings}
use Rattle.c_linkage.specs.Names.{name_found}
use Rattle.c_file.specs.Progress.{Gains, Fails}
use Rattle.c_file.proofs.Named.{object_both, object_stops}
use Rattle.c_file.proofs.declarations.object_named.Goals as goal

pub returns-in-Ok : goal.returns-in-Ok
returns-in-Ok c =
    let s = c.args.state.now in
    let m = c.named.new.state in
    let st = c.args.storage in
    let d = c.args.d.now in
    object_both st d (typing.Object (plain c.args.t) false) s m c.defined.new.state c.defined.result
    (subst (λ t. Gains (λ p. name_found p.names (row_of st p d (typing.Object t false)) (begins d.declarator).at) (λ p. with_strings st (with_name p (row_of st p d (typing.Object t false))) d.declarator) s m) c.in_ok-ctype.ensures c.in-Ok.ensures)
    c.defined.ensures

pub returns : goal.returns
returns c =
    let s = c.args.state.now in
    let st = c.args.storage in
    let d = c.args.d.now in
    object_stops st d (typing.Object (plain c.args.t) false) s c.in-Err.f
    (subst (λ t. Fails (λ p. name_found p.names (row_of st p d (typing.Object t false)) (begins d.declarator).at) s c.in-Err.f) c.in_ok-ctype.ensures c.in-Err.ensures)
