use Rattle.std.proofs.Common.{◌≡◌, ◌≤◌, ◌<◌, reverse, drop, length, sym, ap, ◌∙◌, ◌-◌, ◌+◌, ◌∷◌, arith}
use Rattle.std.proofs.lemmas.List.{length-reverse}
use Rattle.ps_step.proofs.Reversed.{reverse-take-set}
use Rattle.ps_step.proofs.stack.Stack.replace.Goals as goal

pub returns : goal.returns
returns g c =
    let n = c.args.count in
    let xs = c.self.inside.items.items in
    let k = c.len.result - n in
    let all : length xs ≡ length c.args.self.now = sym (length-reverse xs) ∙ ap length c.self.view_is in
    let split : k + n ≡ length xs = omega (arith, c.self.inside.items.ok.0) in
    let lt : k < length xs = omega (arith, c.self.inside.items.ok.0) in
    ap reverse c.truncate.ensures.items ∙ reverse-take-set xs k n c.args.item split lt ∙ ap (λ l. c.args.item ∷ drop n l) c.self.view_is
