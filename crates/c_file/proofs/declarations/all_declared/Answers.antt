use Rattle.std.proofs.Common.{◌≡◌, ◌+◌, ◌∷◌, suc, drop, List, sym, ap, ◌∙◌, arith}
use Rattle.std.proofs.Math.Seq.{drop-cons}
use Rattle.c_trees.specs.declared.declaration.Declared.{Declared}
use Rattle.c_typing.specs.Plain.{plain}
use Rattle.c_file.specs.Files.{all_found, after_all, declared_found, after_name}
use Rattle.c_scope.specs.Findings.{◌beside◌}
use Rattle.c_file.specs.Progress.{so_far, found_so_far}
use Rattle.c_file.proofs.Going.{keeps_all}
use Rattle.c_file.proofs.Named.{one_more_found, one_fails}
use Rattle.c_file.proofs.declarations.all_declared.Goals as goal

pub returns-in-Err : goal.returns-in-Err
returns-in-Err c =
    let st = c.args.storage in
    let t = plain c.args.t.now in
    let d = c.d-item.result in
    let i = c.loop-d.d-index in
    let rest = drop (suc i) c.args.names.now in
    let e : drop i c.args.names.now ≡ d ∷ rest = drop-cons c.args.names.now i d (omega (arith, c.loop-d-test.true)) ∙ ap (λ x. x ∷ rest) (sym c.d-item.is) in
    one_fails (λ p. declared_found st t p d) (λ p. all_found st t p rest) (λ p. after_name st t p d) c.loop-d.state c.in-Err.f (λ p. all_found st t p c.args.names.now) c.args.state.now c.in-Err.ensures
    (λ bs. c.loop-d.invariant.found bs ∙ ap (λ ds. found_so_far c.loop-d.state.unknown beside all_found st t (so_far c.loop-d.state bs) ds) e)

pub loop-d-preserved : goal.loop-d-preserved
loop-d-preserved c =
    let st = c.args.storage in
    let t = plain c.args.t.now in
    let d = c.d-item.result in
    let i = c.loop-d.d-index in
    let s = c.loop-d.state in
    let m = c.declared.new.state in
    let rest = drop (suc i) c.args.names.now in
    let n : suc i ≡ i + 1 = omega arith in
    let e : drop i c.args.names.now ≡ d ∷ rest = drop-cons c.args.names.now i d (omega (arith, c.loop-d-test.true)) ∙ ap (λ x. x ∷ rest) (sym c.d-item.is) in
    record {
      found = λ bs. c.loop-d.invariant.found bs ∙ (ap (λ ds. found_so_far s.unknown beside all_found st t (so_far s bs) ds) e
          ∙ (sym (one_more_found (λ p. declared_found st t p d) (λ p. all_found st t p rest) (λ p. after_name st t p d) s m bs c.in-Ok.ensures)
          ∙ ap (λ k. found_so_far m.unknown beside all_found st t (so_far m bs) (drop k c.args.names.now)) n));
      after = λ bs. ap (λ k. after_all st t (so_far m bs) (drop k c.args.names.now)) (sym n) ∙ (ap (λ p. after_all st t p rest) (c.in-Ok.ensures.0 bs).1
          ∙ (ap (after_all st t (so_far s bs)) (sym e) ∙ c.loop-d.invariant.after bs));
      functions = keeps_all c.args.state.now s m c.loop-d.invariant.functions c.in-Ok.ensures.1;
    }
