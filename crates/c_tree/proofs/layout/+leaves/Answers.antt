use Rattle.std.proofs.Common.{◌∙◌, ap, sym, refl, suc, ◌+◌, ◌-◌, ◌∷◌, ◌%◌, ◌^◌, drop, arith, add-one}
use Rattle.std.proofs.Math.Nat.{add-mod-mod}
use Rattle.std.proofs.Math.Seq.{drop-cons}
use Rattle.c_tree.specs.Layout.{size_of, leaves_within}
use Rattle.c_tree.proofs.Kept.{next_item, next_member}
use Rattle.c_tree.proofs.layout.+leaves.Goals as goal

pub add_items-loop-i-preserved : goal.add_items-loop-i-preserved
add_items-loop-i-preserved t c =
    let at = c.loop-i.at in
    next_item at _ (size_of c.args.defs.now c.args.item.now) (c.args.n - (c.loop-i._i + 1)) (c.args.n - c.loop-i._i) _ c.loop-i.out.items _ _
    (omega (arith, c.loop-i-test.true))
    (ap (λ size. (at + size) % 2 ^ 32) c.wrapped_size-size.ensures ∙ add-mod-mod at (size_of c.args.defs.now c.args.item.now) (2 ^ 32))
    c.in_ok-add_leaves.ensures
    c.loop-i.invariant

pub add_members-loop-member-preserved : goal.add_members-loop-member-preserved
add_members-loop-member-preserved t c =
    let i = c.loop-member.member-index in
    let all = c.args.members.now in
    let m = c.member-item.result in
    next_member c.args.at _ (leaves_within c.args.defs.now c.args.deep) m (drop (i + 1) all) (drop i all) c.loop-member.out.items _ _
    (drop-cons all i m c.loop-member-test.true ∙ ap (λ x. x ∷ drop (suc i) all) (sym c.member-item.is) ∙ ap (λ k. m ∷ drop k all) (sym (add-one i)))
    refl
    c.in_ok-add_leaves.ensures
    c.loop-member.invariant
