use Rattle.std.proofs.Common.{arith, ◌≡◌, ◌-◌, take, sym, ap, ◌∙◌, subst}
use Rattle.c_trees.specs.Expressions.{behind_stars, with_bounds}
use Rattle.c_typing.specs.Plain.{plain}
use Rattle.c_judge.specs.Answers.{Known}
use Rattle.c_judge.specs.Judgement.{pointers}
use Rattle.c_judge.specs.Judges.{Denotes, IsFault}
use Rattle.c_scope.specs.Declarators.{bounded, unnamed, unnamed_within}
use Rattle.c_scope.specs.Gathered.{open_bound}
use Rattle.c_scope.specs.Here.{environment_of}
use Rattle.c_scope.proofs.Thens.{goes_on, fails}
use Rattle.c_scope.proofs.Unbounded.{last_within, open_last, unnamed_gives, unnamed_fails}
use Rattle.c_scope.proofs.unnamed.+unnaming.Goals as goal

pub unnamed-returns-in-Ok : goal.unnamed-returns-in-Ok
unnamed-returns-in-Ok t c =
    let v = environment_of c.args.here.now in
    let i = c.d.inside in
    subst (λ d. Denotes (unnamed v c.args.at d (plain c.args.t)) c.within.result) c.d.view_is
    (unnamed_gives v c.args.at (λ b. b.value) i.stars i.inner i.bounds.items (plain c.args.t) (plain c.in-Ok.t) c.within.result
    (subst (λ ds. pointers ds c.args.at i.stars (plain c.args.t) ≡ Known (plain c.in-Ok.t)) c.view.ensures c.in-Ok.ensures)
    (subst (λ bs. Denotes (unnamed_within v c.args.at (with_bounds (behind_stars (λ b. b.value) i.stars i.inner) bs) (plain c.in-Ok.t)) c.within.result) c.deref.ensures.value (c.within.ensures i.stars)))

pub unnamed-returns-in-Err : goal.unnamed-returns-in-Err
unnamed-returns-in-Err t c =
    let v = environment_of c.args.here.now in
    let i = c.d.inside in
    subst (λ d. IsFault (unnamed v c.args.at d (plain c.args.t)) c.in-Err.f) c.d.view_is
    (unnamed_fails v c.args.at (λ b. b.value) i.stars i.inner i.bounds.items (plain c.args.t) c.in-Err.f
    (subst (λ ds. IsFault (pointers ds c.args.at i.stars (plain c.args.t)) c.in-Err.f) c.view.ensures c.in-Err.ensures))

pub within-returns-in-Err : goal.within-returns-in-Err
within-returns-in-Err t c =
    let v = environment_of c.args.here.now in
    let h = c.bounding-test.true in
    let k = c.bounding.invariant.inside in
    λ n. let base = behind_stars (λ b. b.value) n c.args.inner.now in
    subst (λ j. IsFault j c.in-Err.f)
    (sym (last_within v c.args.at base c.args.bounds.now c.bounding.i _ _ (plain c.bounding.t) h k (sym c.index-bounds-i.is ∙ c.in-Some.is)) ∙ c.bounding.invariant.typed n)
    (fails (bounded v c.in-Some.e (plain c.bounding.t)) (unnamed_within v c.args.at (with_bounds base (take (c.bounding.i - 1) c.args.bounds.now))) c.in-Err.f c.in-Err.ensures)

pub within-returns-in-None : goal.within-returns-in-None
within-returns-in-None t c =
    let v = environment_of c.args.here.now in
    let h = c.bounding-test.true in
    let k = c.bounding.invariant.inside in
    λ n. subst (λ j. Denotes j c.open_bound.result)
    (ap (λ b. open_bound v c.args.at b (plain c.bounding.t)) c.is_outermost.ensures
    ∙ (sym (open_last v c.args.at (λ b. b.value) n c.args.inner.now c.args.bounds.now c.bounding.i _ (plain c.bounding.t) h k (sym c.index-bounds-i.is ∙ c.in-None.is)) ∙ c.bounding.invariant.typed n))
    c.open_bound.ensures

pub within-bounding-preserved : goal.within-bounding-preserved
within-bounding-preserved t c =
    let v = environment_of c.args.here.now in
    let h = c.bounding-test.true in
    let k = c.bounding.invariant.inside in
    record {
      inside = omega (arith, k);
      typed = λ n. let base = behind_stars (λ b. b.value) n c.args.inner.now in
          sym (goes_on (bounded v c.in-Some.e (plain c.bounding.t)) (plain c.in-Ok.t) (unnamed_within v c.args.at (with_bounds base (take (c.bounding.i - 1) c.args.bounds.now))) c.in-Ok.ensures)
          ∙ (sym (last_within v c.args.at base c.args.bounds.now c.bounding.i _ _ (plain c.bounding.t) h k (sym c.index-bounds-i.is ∙ c.in-Some.is)) ∙ c.bounding.invariant.typed n);
    }
