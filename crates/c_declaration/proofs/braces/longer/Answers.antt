use Rattle.std.proofs.Common.{◌≡◌, ℕ, suc, ◌+◌, max, nat_lt, Option, Some, sym, ◌∙◌, ap, ap₂, le-leb}
use Rattle.c_trees.specs.Initializers.{InitialTree, Braces, Item, with_items}
use Rattle.c_declaration.specs.declared.built.Built.{Built}
use Rattle.c_declaration.proofs.Pieces.{if_true}
use Rattle.c_declaration.proofs.Pushed.{one_more_item}
use Rattle.c_declaration.proofs.braces.longer.Goals as goal

pub returns-then-item-lt-MOST_HEIGHT : goal.returns-then-item-lt-MOST_HEIGHT
returns-then-item-lt-MOST_HEIGHT c =
    let made : InitialTree → ℕ → Option (Built InitialTree) = λ t h. Some (record { height = h; tree = t }) in
    let f : InitialTree = Braces c.braces.inside.place in
    let tree_of : Built InitialTree → InitialTree = λ b. b.tree in
    let height_of : Built InitialTree → ℕ = λ b. b.height in
    ap₂ made
    (ap (with_items f) c.in_ok-push.ensures.items
    ∙ one_more_item f c.braces.inside.items.items c.into_inner.result
    ∙ ap (λ t. Item t c.into_inner.result) (ap tree_of c.braces.view_is)
    ∙ ap (Item c.args.braces.tree) c.into_inner.ensures)
    (c.greater.ensures ∙ ap (λ h. max h (c.args.item.height + 1)) (ap height_of c.braces.view_is))
    ∙ sym (if_true (nat_lt c.args.item.height 64) _ _ (le-leb (suc c.args.item.height) 64 c.if-item-lt-MOST_HEIGHT.true))
