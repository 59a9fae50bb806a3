use Rattle.std.proofs.Common.{◌≡◌, ◌-◌, ◌+◌, ◌++◌, reverse, take, drop, length, sym, ap, ◌∙◌, arith, length-drop}
use Rattle.std.proofs.lemmas.List.{length-reverse, length-take-le, take_at}
use borrow.Rule.Slice.PartMut.{put_mid}
use Rattle.ps_step.proofs.Reversed.{rolled, length-turned}
use Rattle.ps_step.proofs.stack.Stack.roll.Goals as goal

pub returns : goal.returns
returns g c =
    let n = c.args.count in
    let b = c.args.by in
    let xs = c.self.inside.items.items in
    let ys = c.deref_mut.result.now in
    let a = c.len.result - n in
    let k = length ys - a in
    let all : length xs ≡ length c.args.self.now = sym (length-reverse xs) ∙ ap length c.self.view_is in
    let same : ys ≡ xs = c.deref_mut.ensures.value in
    let long : length ys ≡ length xs = ap length same in
    let split : a + n ≡ length ys = omega (arith, c.self.inside.items.ok.0) in
    let few : k ≡ n = omega (arith, c.self.inside.items.ok.0) in
    let ws = put_mid a k ys c.rotate_right.new.self in
    let mid : length (take k (drop a ys)) ≡ n = length-take-le k (drop a ys) (rw (length-drop a ys) (omega arith)) ∙ few in
    let long-ws : length ws ≡ c.self.inside.items.len = length-turned ys c.rotate_right.new.self a k n split few (c.rotate_right.ensures.len ∙ mid) ∙ omega (arith, long, c.self.inside.items.ok.0) in
    ap reverse (take_at ws (drop (length ws) xs) c.self.inside.items.len long-ws)
    ∙ rolled ys c.rotate_right.new.self a k n b split few c.requires.within c.rotate_right.ensures.after
    ∙ ap (λ l. drop b (take n (reverse l)) ++ take b (reverse l) ++ drop n (reverse l)) same
    ∙ ap (λ l. drop b (take n l) ++ take b l ++ drop n l) c.self.view_is
