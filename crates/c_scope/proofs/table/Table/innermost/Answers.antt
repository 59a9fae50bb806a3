use Rattle.std.proofs.Common.{◌≡◌, ◌-◌, length, sym, ap, ◌∙◌, subst, slice_get, Some}
use Rattle.c_scope.specs.Environment.{innermost}
use Rattle.c_scope.proofs.Hiding.{last_number}
use Rattle.c_scope.proofs.table.Table.innermost.Goals as goal

pub returns-in-Some : goal.returns-in-Some
returns-in-Some c =
    sym (last_number c.self.inside.shadowing.items c.in-Some.s.now (subst (λ l. slice_get l (length l - 1) ≡ Some c.in-Some.s.now) c.deref.ensures.value (sym c.in-Some.ensures.value)))
    ∙ ap (λ t. innermost t.visible) c.self.view_is
