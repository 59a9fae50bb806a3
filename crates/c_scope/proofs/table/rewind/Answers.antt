use Rattle.std.proofs.Common.{arith, [], ◌∷◌, length, length-append, sym, ap, ◌∙◌, subst, IsSome, refl}
use Rattle.c_defs.specs.Numbers.{number_in}
use Rattle.c_scope.specs.Environment.{number_of}
use Rattle.c_scope.specs.Table.{outermost}
use Rattle.c_scope.specs.Tabled.{visible_from, seen, Hide}
use Rattle.c_scope.proofs.Hiding.{visible_push, visible_length, hide_pop, found_itself, outer_found, outermost_less, outermost_all}
use Rattle.c_scope.proofs.table.rewind.Goals as goal

pub restore-requires : goal.restore-requires
restore-requires c =
    let s = c.in-Some.s in
    let rest = c.pop.new.self.items in
    subst IsSome (sym (c.ending.invariant.finds s.name.now
    ∙ (ap (λ l. number_of (visible_from [] l) s.name.now) c.in-Some.ensures.items
    ∙ (ap (λ l. number_of l s.name.now) (visible_push [] rest s) ∙ found_itself (seen s) (visible_from [] rest))))) refl

pub ending-preserved-in-Some : goal.ending-preserved-in-Some
ending-preserved-in-Some c =
    let s = c.in-Some.s in
    let rest = c.pop.new.self.items in
    let e = c.in-Some.ensures.items in
    let h = hide_pop [] rest s (subst (Hide []) e c.ending.invariant.hide) in
    let v = ap (visible_from []) e ∙ visible_push [] rest s in
    let n = visible_length [] rest in
    let m = ap length e ∙ length-append rest (s ∷ []) in
    let t = c.ending-test.true in
    record {
      finds = outer_found (number_in c.restore.new.self) (number_in c.ending.numbers) (seen s) (visible_from [] rest) s.hidden h.1 (λ t. c.ending.invariant.finds t ∙ ap (λ l. number_of l t) v) c.restore.ensures;
      hide = h.0;
      visible = sym (outermost_less c.args.height (seen s) (visible_from [] rest) (omega (arith, n, m, t, c.len.ensures))) ∙ (sym (ap (outermost c.args.height) v) ∙ c.ending.invariant.visible);
    }

pub returns-clause-visible : goal.returns-clause-visible
returns-clause-visible c =
    let n = visible_length [] c.ending.shadowing.items in
    let t = c.ending-test.false in
    sym (outermost_all c.args.height (visible_from [] c.ending.shadowing.items) (omega (arith, n, t, c.len.ensures))) ∙ c.ending.invariant.visible
