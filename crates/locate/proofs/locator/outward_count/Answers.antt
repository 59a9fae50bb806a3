use Rattle.std.proofs.Common.{rules, ◌≡◌, ◌∙◌, ap, ℕ, suc, ◌+◌, ◌-◌, arith, subst, Option, Ok}
use Rattle.std.proofs.lemmas.Result.{err_from_is_err_and}
use Rattle.frame_bytes.specs.Bytes.{Bytes}
use Rattle.frame_bytes.specs.declared.frame.Frame.{Frame}
use Rattle.table_model.specs.Frames.{next_frame}
use Rattle.table_model.specs.Reading.{Walked}
use Rattle.abs_mem.specs.Walking.{Walks}
use Rattle.locate.specs.Counting.{outward_count}
use Rattle.locate.proofs.Far.{so_far_here}
use Rattle.locate.proofs.Counts.{count_after, counts_begin, counts_fail, counts_end, counts_on, counts_all}
use Rattle.locate.proofs.locator.outward_count.Goals as goal

pub loop-count-init : goal.loop-count-init
loop-count-init g c =
    let whole : Bytes → Walked ℕ = λ b. outward_count c.args.row c.args.table.now b c.args.most c.args.frame in
    let left : ℕ → Bytes → Walked ℕ = λ n b. count_after 0 (outward_count c.args.row c.args.table.now b n c.args.frame) in
    let all : c.args.most ≡ c.args.most - 0 = omega arith in
    record {
      far = so_far_here (g.M.AbsMem.seen c.args.m.now) whole (left (c.args.most - 0)) (λ b. counts_begin (whole b) ∙ ap (λ n. left n b) all);
      led = search rules;
    }

pub loop-count-preserved : goal.loop-count-preserved
loop-count-preserved g c =
    let row = c.args.row in
    let t = c.args.table.now in
    let n = c.loop-count.count in
    let inner = c.loop-count.inner in
    let k = c.args.most - (n + 1) in
    let m : c.args.most - n ≡ suc k = omega (arith, c.loop-count-test.true) in
    let walk = subst (λ (o : Option Frame). Walks (λ b. next_frame row t b inner) (g.M.AbsMem.seen c.loop-count.m) (Ok o) (g.M.AbsMem.seen c.up.new.m)) c.in-Some.is c.in_ok-up.ensures.meaning in
    record {
      far = counts_on (g.M.AbsMem.seen c.args.m.now) (g.M.AbsMem.seen c.loop-count.m) (g.M.AbsMem.seen c.up.new.m) row t (λ b. outward_count row t b c.args.most c.args.frame) n (c.args.most - n) inner k c.in-Some.outer m c.loop-count.invariant.far walk;
      led = search rules;
    }

pub returns-in_err-up-clause-meaning : goal.returns-in_err-up-clause-meaning
returns-in_err-up-clause-meaning g c =
    let row = c.args.row in
    let t = c.args.table.now in
    let n = c.loop-count.count in
    let inner = c.loop-count.inner in
    let k = c.args.most - (n + 1) in
    let m : c.args.most - n ≡ suc k = omega (arith, c.loop-count-test.true) in
    let p = err_from_is_err_and c.from_residual.result c.from_residual.ensures.1 in
    rw (p.1, p.2)
    (counts_fail (g.M.AbsMem.seen c.args.m.now) (g.M.AbsMem.seen c.loop-count.m) (g.M.AbsMem.seen c.up.new.m) row t (λ b. outward_count row t b c.args.most c.args.frame) n (c.args.most - n) inner k c.in_err-up.field-0.0 m c.loop-count.invariant.far c.in_err-up.ensures.meaning)

pub returns-in-None-clause-meaning : goal.returns-in-None-clause-meaning
returns-in-None-clause-meaning g c =
    let row = c.args.row in
    let t = c.args.table.now in
    let n = c.loop-count.count in
    let inner = c.loop-count.inner in
    let k = c.args.most - (n + 1) in
    let m : c.args.most - n ≡ suc k = omega (arith, c.loop-count-test.true) in
    let walk = subst (λ (o : Option Frame). Walks (λ b. next_frame row t b inner) (g.M.AbsMem.seen c.loop-count.m) (Ok o) (g.M.AbsMem.seen c.up.new.m)) c.in-None.is c.in_ok-up.ensures.meaning in
    counts_end (g.M.AbsMem.seen c.args.m.now) (g.M.AbsMem.seen c.loop-count.m) (g.M.AbsMem.seen c.up.new.m) row t (λ b. outward_count row t b c.args.most c.args.frame) n (c.args.most - n) inner k m c.loop-count.invariant.far walk

pub returns-clause-meaning : goal.returns-clause-meaning
returns-clause-meaning g c =
    let row = c.args.row in
    let t = c.args.table.now in
    let n = c.loop-count.count in
    let none : c.args.most - n ≡ 0 = omega (arith, c.loop-count-test.false) in
    let all : n ≡ c.args.most = omega (arith, c.loop-count-test.false, c.loop-count.auto) in
    counts_all (g.M.AbsMem.seen c.args.m.now) (g.M.AbsMem.seen c.loop-count.m) (g.M.AbsMem.seen c.loop-count.m) row t (λ b. outward_count row t b c.args.most c.args.frame) n (c.args.most - n) c.loop-count.inner c.args.most none all c.loop-count.invariant.far
