use Rattle.std.proofs.Common.{◌≡◌, ◌+◌, ◌∷◌, [], suc, drop, length, List, sym, ap, subst, ◌∙◌, arith}
use Rattle.std.proofs.Math.Seq.{drop-cons}
use Rattle.std.proofs.lemmas.Grind.{common_steps}
use Rattle.c_file.proofs.HeldExternals.{Held, held_first, held_on, held_fails, held_all}
use Rattle.c_file.proofs.externals.externals.Goals as goal

pub loop-e-init : goal.loop-e-init
loop-e-init c = held_first c.args.es.now c.args.state

pub loop-e-preserved : goal.loop-e-preserved
loop-e-preserved c =
    let es = c.args.es.now in
    let i = c.loop-e.e-index in
    let e = c.e-item.result in
    let rest = drop (suc i) es in
    let n : suc i ≡ i + 1 = omega arith in
    let d : drop i es ≡ e ∷ rest = drop-cons es i e (omega (arith, c.loop-e-test.true)) ∙ ap (λ x. x ∷ rest) (sym c.e-item.is) in
    subst (λ k. Held es c.args.state c.in-Ok.s (drop k es)) n
    (held_on es c.args.state c.loop-e.state c.in-Ok.s e rest (subst (Held es c.args.state c.loop-e.state) d c.loop-e.invariant) c.in-Ok.ensures)

pub returns-in-Err : goal.returns-in-Err
returns-in-Err c =
    let es = c.args.es.now in
    let i = c.loop-e.e-index in
    let e = c.e-item.result in
    let rest = drop (suc i) es in
    let d : drop i es ≡ e ∷ rest = drop-cons es i e (omega (arith, c.loop-e-test.true)) ∙ ap (λ x. x ∷ rest) (sym c.e-item.is) in
    held_fails es c.args.state c.loop-e.state e rest c.in-Err.f (subst (Held es c.args.state c.loop-e.state) d c.loop-e.invariant) c.in-Err.ensures

pub returns : goal.returns
returns c =
    let es = c.args.es.now in
    let d : drop c.loop-e.e-index es ≡ [] = grind (arith, common_steps) in
    held_all es c.args.state c.loop-e.state (subst (Held es c.args.state c.loop-e.state) d c.loop-e.invariant)
