use Rattle.std.proofs.Common.{arith, ◌≡◌, [], ◌∷◌, ◌++◌, length, length-append, sym, ap, ◌∙◌, subst}
use Rattle.c_defs.specs.Numbers.{number_in}
use Rattle.c_scope.specs.Environment.{number_of}
use Rattle.c_scope.specs.Table.{AreBelow, with_name}
use Rattle.c_scope.specs.Tabled.{visible_from, seen, Hide}
use Rattle.c_scope.specs.declared.table.Shadowing.{Shadowing}
use Rattle.c_scope.proofs.Hiding.{visible_push, hide_push, below_more, inner_found, names_same}
use Rattle.c_scope.proofs.table.Table.declare.Goals as goal

pub invariant_of-self-in-Ok-replace : goal.invariant_of-self-in-Ok-replace
invariant_of-self-in-Ok-replace c =
    let old = c.self.inside.shadowing.items in
    let s : Shadowing = record { name = c.args.name; number = c.in-Ok.number; hidden = c.in-Ok-replace.hidden } in
    let sh = c.put.ensures ∙ ap (λ l. l ++ s ∷ []) c.in_ok-reserve-4.ensures.items in
    let v = ap (visible_from []) sh ∙ visible_push [] old s in
    let sy = ap length (c.put-in-Ok-replace.ensures ∙ ap (λ l. l ++ c.args.symbol ∷ []) c.in_ok-reserve.ensures.items) ∙ length-append c.self.inside.symbols.items (c.args.symbol ∷ []) in
    let pa = ap length (c.put-in-Ok-replace-2.ensures ∙ ap (λ l. l ++ c.args.parameters ∷ []) c.in_ok-reserve-2.ensures.items) ∙ length-append c.self.inside.parameters.items (c.args.parameters ∷ []) in
    let li = ap length (c.put-in-Ok-replace-3.ensures ∙ ap (λ l. l ++ c.args.link ∷ []) c.in_ok-reserve-3.ensures.items) ∙ length-append c.self.inside.links.items (c.args.link ∷ []) in
    let n : c.in-Ok.number ≡ length c.self.inside.symbols.items = omega (arith, c.in-Ok.ensures, c.len.ensures, c.in_ok-reserve.ensures.len) in
    let p = c.self.invariant.parameters in
    let q = c.self.invariant.links in
    let r = c.self.invariant.start in
    record {
      finds = λ t. inner_found (number_in c.replace.new.self) (number_in c.self.inside.numbers) (seen s) (visible_from [] old) c.self.invariant.finds
          c.in-Ok-replace.ensures.ok t ∙ ap (λ l. number_of l t) (sym v);
      hide = subst (Hide []) (sym sh) (hide_push [] old s c.self.invariant.hide (c.in-Ok-replace.ensures.before ∙ c.self.invariant.finds c.args.name.now));
      below = subst (AreBelow (length c.put-in-Ok-replace.new.items.items)) (sym v)
          (omega (arith, n, sy), below_more (length c.self.inside.symbols.items) c.in-Ok.number (visible_from [] old) (omega (arith, n)) c.self.invariant.below);
      parameters = omega (arith, sy, pa, p);
      links = omega (arith, sy, li, q);
      start = omega (arith, sy, r);
    }

pub returns-in-Ok-replace-clause-ok : goal.returns-in-Ok-replace-clause-ok
returns-in-Ok-replace-clause-ok c =
    let old = c.self.inside.shadowing.items in
    let s : Shadowing = record { name = c.args.name; number = c.in-Ok.number; hidden = c.in-Ok-replace.hidden } in
    let sh = c.put.ensures ∙ ap (λ l. l ++ s ∷ []) c.in_ok-reserve-4.ensures.items in
    let v = ap (visible_from []) sh ∙ visible_push [] old s in
    let n : c.in-Ok.number ≡ length c.self.inside.symbols.items = omega (arith, c.in-Ok.ensures, c.len.ensures, c.in_ok-reserve.ensures.len) in
    names_same _ _ _ _ _ _ _ _ c.self.inside.start
    (c.put-in-Ok-replace.ensures ∙ ap (λ l. l ++ c.args.symbol ∷ []) c.in_ok-reserve.ensures.items)
    (c.put-in-Ok-replace-2.ensures ∙ ap (λ l. l ++ c.args.parameters ∷ []) c.in_ok-reserve-2.ensures.items)
    (c.put-in-Ok-replace-3.ensures ∙ ap (λ l. l ++ c.args.link ∷ []) c.in_ok-reserve-3.ensures.items)
    (v ∙ ap (λ k. record { name = c.args.name.now; number = k } ∷ visible_from [] old) n)
    ∙ ap (λ t. with_name t c.args.name.now c.args.symbol c.args.parameters c.args.link) c.self.view_is

pub invariant_of-self-in-Err-3 : goal.invariant_of-self-in-Err-3
invariant_of-self-in-Err-3 c =
    let i = c.self.invariant in
    let sy = ap length c.in_ok-reserve.ensures.items in
    let pa = ap length c.in_ok-reserve-2.ensures.items in
    let li = ap length c.in_ok-reserve-3.ensures.items in
    let sh = c.in_ok-reserve-4.ensures.items in
    record {
      finds = λ t. c.in-Err.ensures.err t ∙ (i.finds t ∙ ap (λ l. number_of (visible_from [] l) t) (sym sh));
      hide = subst (Hide []) (sym sh) i.hide;
      below = subst (λ l. AreBelow (length c.reserve.new.self.items) (visible_from [] l)) (sym sh) (subst (λ n. AreBelow n (visible_from [] c.self.inside.shadowing.items)) (sym sy) i.below);
      parameters = pa ∙ (i.parameters ∙ sym sy);
      links = li ∙ (i.links ∙ sym sy);
      start = omega (arith, sy, i.start);
    }
