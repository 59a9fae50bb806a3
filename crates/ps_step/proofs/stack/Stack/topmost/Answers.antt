use Rattle.std.proofs.Common.{◌≡◌, ◌-◌, ◌+◌, reverse, take, drop, length, sym, ap, ◌∙◌, arith}
use Rattle.std.proofs.lemmas.List.{length-reverse, take_rest}
use Rattle.ps_step.proofs.Reversed.{drop-topmost}
use Rattle.ps_step.proofs.stack.Stack.topmost.Goals as goal

pub returns : goal.returns
returns g c =
    let n = c.args.count in
    let xs = c.self.inside.items.items in
    let ys = c.deref.result.now in
    let k = c.len.result - n in
    let all : length xs ≡ length c.args.self.now = sym (length-reverse xs) ∙ ap length c.self.view_is in
    let same : ys ≡ xs = c.deref.ensures.value in
    let split : k + n ≡ length xs = omega (arith, c.self.inside.items.ok.0) in
    take_rest ys k ∙ ap (drop k) same ∙ drop-topmost xs k n split ∙ ap (λ l. reverse (take n l)) c.self.view_is
