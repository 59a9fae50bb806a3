use Rattle.std.proofs.Common.{map, sym, subst}
use Rattle.c_trees.specs.Declarators.{begins}
use Rattle.c_typing.specs.Plain.{plain}
use Rattle.c_typing.specs.Expressions as typing
use Rattle.c_scope.specs.Declarators.{parameter_type}
use Rattle.c_file.specs.Files.{row_of, with_name, with_strings}
use Rattle.c_linkage.specs.Names.{name_found}
use Rattle.c_file.specs.Progress.{Adds}
use Rattle.c_scope.specs.Shapes.{parameter_of}
use Rattle.c_file.proofs.Named.{function_as}
use Rattle.c_file.proofs.declarations.function_named.Goals as goal

pub returns : goal.returns
returns c =
    let s = c.args.state.now in
    let st = c.args.storage in
    let d = c.args.d.now in
    let to = plain c.args.to in
    function_as st d to (map parameter_type (map parameter_of c.args.ps.now)) s c.named.new.state c.named.result c.requires
    (subst (λ qs. Adds (λ p. name_found p.names (row_of st p d (typing.Function to qs)) (begins d.declarator).at) (λ p. with_strings st (with_name p (row_of st p d (typing.Function to qs))) d.declarator) s c.named.result c.named.new.state)
    c.in_ok-parameters.ensures c.named.ensures)
