use Rattle.std.proofs.Common.{◌≡◌, ◌+◌, ◌∷◌, [], suc, drop, length, map, List, sym, ap, subst, ◌∙◌, arith}
use Rattle.std.proofs.Math.Seq.{drop-cons}
use Rattle.std.proofs.lemmas.Grind.{common_steps}
use Rattle.std.proofs.lemmas.List.{length-map}
use Rattle.c_file.specs.Files.{State}
use Rattle.c_linkage.specs.FileTags.{externals_of}
use Rattle.c_mentions.specs.Tags.{now}
use Rattle.c_file.proofs.HeldExternals.{Kept, kept_first, kept_on, kept_fails, next_unit, all_looked, all_refused}
use Rattle.c_file.proofs.files.files_with.Goals as goal

pub loop-unit-init : goal.loop-unit-init
loop-unit-init c = record {
  kept = kept_first (map now c.args.tags.now) (map externals_of c.args.units.now) c.in_ok-state.state c.in_ok-state.ensures;
  unit = ap (λ (p : State). p.here.unit) c.in_ok-state.ensures.program;
}

pub loop-unit-preserved : goal.loop-unit-preserved
loop-unit-preserved c =
    let us = c.args.units.now in
    let i = c.loop-unit.unit-index in
    let u = c.unit-item.result in
    let rest = drop (suc i) us in
    let n : suc i ≡ i + 1 = omega arith in
    let d : drop i us ≡ u ∷ rest = drop-cons us i u (omega (arith, c.loop-unit-test.true)) ∙ ap (λ x. x ∷ rest) (sym c.unit-item.is) in
    let tags = map now c.args.tags.now in
    let k = subst (λ l. Kept tags (map externals_of us) c.loop-unit.state (map externals_of l)) d c.loop-unit.invariant.kept in
    let e = next_unit tags (map externals_of us) c.loop-unit.state c.in-Ok.s u.externals (map externals_of rest) k c.in-Ok.ensures in
    record {
      kept = subst (λ j. Kept tags (map externals_of us) c.in-Ok.s (map externals_of (drop j us))) n
          (kept_on tags (map externals_of us) c.loop-unit.state c.in-Ok.s u.externals (map externals_of rest) k c.in-Ok.ensures);
      unit = omega (arith, e, c.loop-unit.invariant.unit);
    }

pub returns-in-Err : goal.returns-in-Err
returns-in-Err c = λ e.
    let us = c.args.units.now in
    let i = c.loop-unit.unit-index in
    let u = c.unit-item.result in
    let rest = drop (suc i) us in
    let d : drop i us ≡ u ∷ rest = drop-cons us i u (omega (arith, c.loop-unit-test.true)) ∙ ap (λ x. x ∷ rest) (sym c.unit-item.is) in
    let tags = map now c.args.tags.now in
    let k = subst (λ l. Kept tags (map externals_of us) c.loop-unit.state (map externals_of l)) d c.loop-unit.invariant.kept in
    all_refused (map externals_of us) tags e c.in-Err.f (kept_fails tags (map externals_of us) c.loop-unit.state u.externals (map externals_of rest) c.in-Err.f k c.in-Err.ensures)

pub returns : goal.returns
returns c = λ e.
    let us = c.args.units.now in
    let tags = map now c.args.tags.now in
    let d : drop c.loop-unit.unit-index us ≡ [] = grind (arith, common_steps) in
    let n : c.loop-unit.unit-index ≡ length us = grind (arith, common_steps) in
    all_looked (map externals_of us) tags e c.loop-unit.state (subst (λ l. Kept tags (map externals_of us) c.loop-unit.state (map externals_of l)) d c.loop-unit.invariant.kept)
    (c.loop-unit.invariant.unit ∙ (n ∙ sym (length-map us externals_of)))
