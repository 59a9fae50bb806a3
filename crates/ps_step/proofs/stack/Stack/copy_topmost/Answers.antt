use Rattle.std.proofs.Common.{◌≡◌, ◌-◌, ◌+◌, ◌++◌, reverse, take, drop, length, sym, ap, ◌∙◌, arith}
use Rattle.std.proofs.lemmas.List.{length-reverse}
use Rattle.ps_step.proofs.Reversed.{copied}
use Rattle.ps_step.proofs.stack.Stack.copy_topmost.Goals as goal

pub returns : goal.returns
returns g c =
    let n = c.args.count in
    let xs = c.self.inside.items.items in
    let k = c.len.result - n in
    let e = c.self.inside.items.len in
    let all : length xs ≡ length c.args.self.now = sym (length-reverse xs) ∙ ap length c.self.view_is in
    let split : k + n ≡ length xs = omega (arith, c.self.inside.items.ok.0) in
    let whole : e ≡ length xs = omega (arith, c.self.inside.items.ok.0) in
    let made : c.extend_from_within.new.self.items ≡ xs ++ take (e - k) (drop k xs) = rw c.in_ok-extend_from_within.was at c.extend_from_within.ensures.items in
    ap reverse made ∙ copied xs k n e split whole ∙ ap (λ l. take n l ++ l) c.self.view_is
