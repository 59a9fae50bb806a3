use Rattle.std.proofs.Common.{◌≡◌, ◌∙◌, ap, sym, subst, refl, ⊎_elim, suc, ◌+◌, ◌-◌, ◌<◌, ◌∷◌, List, length, replicate, map, drop, arith}
use Rattle.std.specs.Prelude.{IfOk}
use Rattle.std.proofs.lemmas.List.{length-map, length-drop}
use Rattle.c_show.specs.Printed.{Page, put_within}
use Rattle.c_show.specs.Seen.{seen}
use Rattle.c_show.proofs.Pages.{next_item, full_item, array_within, struct_within, scalar_within}
use Rattle.c_show.proofs.page.+show.Goals as goal

pub put_items-loop-i-preserved : goal.put_items-loop-i-preserved
put_items-loop-i-preserved t c =
    let i = c.loop-i.i in
    let put : Page → Page = put_within c.args.defs.now c.args.deep c.args.item.now in
    let left : c.args.n - i ≡ suc (c.args.n - (i + 1)) = omega (arith, c.loop-i-test.true) in
    next_item i put (replicate (c.args.n - i) put) (replicate (c.args.n - (i + 1)) put) c.loop-i.page c.put_separator.new.page c.loop-i.leaves.now _ _
    (ap (λ k. replicate k put) left) c.in_ok-put_separator.ensures c.if-page-eq0.false c.in_ok-leaves.ensures c.loop-i.invariant

pub put_members-returns-then-page-eq0 : goal.put_members-returns-then-page-eq0
put_members-returns-then-page-eq0 t c =
    let i = c.loop-i.i in
    let all = c.args.members.now in
    let puts : List (Page → Page) = map (λ m. put_within c.args.defs.now c.args.deep m.ctype) (drop i all) in
    let count : length puts ≡ length all - i = length-map (drop i all) _ ∙ length-drop i all in
    full_item i puts c.loop-i.page c.put_separator.new.page c.loop-i.leaves.now _ _
    (omega (arith, count, c.loop-i-test.true)) c.in_ok-put_separator.ensures c.if-page-eq0.true c.in_ok-append.ensures.ok c.loop-i.invariant

pub put_within-returns-in-Array : goal.put_within-returns-in-Array
put_within-returns-in-Array t c =
    subst (λ q. IfOk c.put_array.result (λ more. seen c.put_array.new.page more.now ≡ q))
    (array_within c.args.defs.now c.args.deep (c.args.deep - 1) (omega (arith, c.if-deep-eq0.false)) (seen c.args.page.now c.args.leaves.now) c.in-Array.n _ c.args.t.now _ _ c.in-Array.is c.deref.ensures)
    c.put_array.ensures

pub put_within-returns-in-Struct : goal.put_within-returns-in-Struct
put_within-returns-in-Struct t c =
    subst (λ q. IfOk c.put_struct.result (λ more. seen c.put_struct.new.page more.now ≡ q))
    (struct_within c.args.defs.now c.args.deep (c.args.deep - 1) (omega (arith, c.if-deep-eq0.false)) (seen c.args.page.now c.args.leaves.now) c.in-Struct.s c.args.t.now c.in-Struct.is)
    c.put_struct.ensures

pub put_within-returns-in-Char : goal.put_within-returns-in-Char
put_within-returns-in-Char t c =
    let scalar = scalar_within c.args.defs.now c.args.deep (c.args.deep - 1) (omega (arith, c.if-deep-eq0.false)) (seen c.args.page.now c.args.leaves.now) c.args.t.now in
    subst (λ q. IfOk c.put_scalar.result (λ more. seen c.put_scalar.new.page more.now ≡ q))
    (⊎_elim (λ e. scalar _ e refl) (λ r. ⊎_elim (λ e. scalar _ e refl) (λ r. ⊎_elim (λ e. scalar _ e refl) (λ e. scalar _ e.1 refl) r) r) c.in-Char.is)
    c.put_scalar.ensures
