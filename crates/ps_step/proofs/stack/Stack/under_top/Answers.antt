use Rattle.std.proofs.Common.{◌≡◌, ◌-◌, ◌+◌, reverse, take, drop, length, sym, ap, ◌∙◌, arith}
use Rattle.std.proofs.lemmas.List.{length-reverse}
use Rattle.ps_step.proofs.Reversed.{take-under}
use Rattle.ps_step.proofs.stack.Stack.under_top.Goals as goal

pub returns : goal.returns
returns g c =
    let n = c.args.count in
    let xs = c.self.inside.items.items in
    let ys = c.deref.result.now in
    let end = c.len-end.result - 1 in
    let k = end - n in
    let all : length xs ≡ length c.args.self.now = sym (length-reverse xs) ∙ ap length c.self.view_is in
    let same : ys ≡ xs = c.deref.ensures.value in
    let split : (k + n) + 1 ≡ length xs = omega (arith, c.self.inside.items.ok.0) in
    let few : end - k ≡ n = omega (arith, c.self.inside.items.ok.0) in
    ap (λ i. take i (drop k ys)) few ∙ ap (λ l. take n (drop k l)) same ∙ take-under xs k n split ∙ ap (λ l. reverse (take n (drop 1 l))) c.self.view_is
