use Rattle.std.proofs.Common.{◌≡◌, ◌≤◌, ◌∙◌, ap, subst, arith, ℕ, ◌+◌, ◌-◌, List, [], ◌∷◌, ◌++◌, drop, length}
use Rattle.asking.proofs.Operands.{one_operand, no_operand, all_operands}
use Rattle.asking.proofs.raw.operands_text.Goals as goal

pub loop-number-init : goal.loop-number-init
loop-number-init c =
    let core = c.args.core.now in
    let none : length core.operands ≤ c.len-count.result - 0 = omega arith in
    no_operand core.store core.operands (c.len-count.result - 0) c.in_ok-out.out none c.in_ok-out.ensures

pub loop-number-preserved : goal.loop-number-preserved
loop-number-preserved c =
    let core = c.args.core.now in
    let l = c.loop-number in
    let less : c.len-count.result - 1 - l.number ≡ c.len-count.result - (l.number + 1) = omega arith in
    let same : c.len-count.result - 1 - l.number + 1 ≡ c.len-count.result - l.number = omega arith in
    let top : drop (c.len-count.result - (l.number + 1)) core.operands ≡ c.at-object.result ∷ drop (c.len-count.result - l.number) core.operands =
    subst (λ (n : ℕ). drop n core.operands ≡ c.at-object.result ∷ drop (c.len-count.result - l.number) core.operands) less
    (c.at-object.ensures.next ∙ ap (λ (n : ℕ). c.at-object.result ∷ drop n core.operands) same) in
    one_operand core.store core.operands (c.len-count.result - (l.number + 1)) (c.len-count.result - l.number) c.at-object.result l.out c.in_ok-text.text.items c.append-in-loop-number.new.self top l.invariant c.in_ok-text.ensures
    (c.in_ok-append-2.ensures.ok ∙ ap (λ (t : List ℕ). t ++ c.as_slice.result.now) c.in_ok-append.ensures.ok ∙ ap (λ (t : List ℕ). (l.out ++ 32 ∷ []) ++ t) c.as_slice.ensures.value)

pub returns : goal.returns
returns c =
    let core = c.args.core.now in
    let l = c.loop-number in
    let none : c.len-count.result - l.number ≡ 0 = omega arith in
    c.in_ok-append-3.ensures.ok ∙ ap (λ (t : List ℕ). t ++ 10 ∷ []) (all_operands core.store core.operands (c.len-count.result - l.number) l.out none l.invariant)
