use Rattle.std.proofs.Common.{◌≡◌, ◌+◌, reverse, drop, length, sym, ap, ◌∙◌, ◌-◌, ◌∷◌, arith}
use Rattle.std.proofs.lemmas.List.{length-reverse}
use Rattle.ps_step.proofs.Reversed.{reverse-set-last}
use Rattle.ps_step.proofs.stack.Stack.set_top.Goals as goal

pub returns : goal.returns
returns g c =
    let xs = c.self.inside.items.items in
    let k = c.len-last.result - 1 in
    let all : length xs ≡ length c.args.self.now = sym (length-reverse xs) ∙ ap length c.self.view_is in
    let split : k + 1 ≡ length xs = omega (arith, c.self.inside.items.ok.0) in
    reverse-set-last xs k c.args.item split ∙ ap (λ l. c.args.item ∷ drop 1 l) c.self.view_is
