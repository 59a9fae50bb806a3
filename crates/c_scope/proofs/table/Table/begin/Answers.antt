use Rattle.std.proofs.Common.{arith, ◌≡◌, [], length, ap, subst}
use Rattle.c_scope.specs.Table.{names_from}
use Rattle.c_scope.specs.Tabled.{visible_from}
use Rattle.c_scope.proofs.Hiding.{visible_length, none_from}
use Rattle.c_scope.proofs.table.Table.begin.Goals as goal

pub returns-clause-height : goal.returns-clause-height
returns-clause-height c =
    let e = visible_length [] c.self.inside.shadowing.items in
    let f = ap (λ t. length t.visible) c.self.view_is in
    omega (arith, e, f, c.len.ensures)

pub returns-clause-nothing : goal.returns-clause-nothing
returns-clause-nothing c = subst (λ t. names_from (length t.symbols) t.visible ≡ []) c.self.view_is (none_from (length c.self.inside.symbols.items) (visible_from [] c.self.inside.shadowing.items) c.self.invariant.below)
