use Rattle.std.proofs.Common.{rules, ◌≡◌, suc, ◌+◌, ◌-◌, arith, refl, subst, Option, None, Ok}
use Rattle.std.proofs.lemmas.Result.{err_from_is_err_and}
use Rattle.frame_bytes.specs.Bytes.{Bytes}
use Rattle.frame_bytes.specs.declared.frame.Frame.{Frame}
use Rattle.table_model.specs.declared.found.Found.{Found}
use Rattle.table_model.specs.Frames.{next_frame}
use Rattle.table_model.specs.Reading.{Walked}
use Rattle.table_model.specs.Objects.{found_outward}
use Rattle.abs_mem.specs.Walking.{Walks}
use Rattle.locate.specs.Counting.{found_here}
use Rattle.locate.proofs.Far.{so_far_here}
use Rattle.locate.proofs.Looks.{looks_fail, looks_found, looks_last, looks_outward, outer_fail, outer_none, outer_on}
use Rattle.locate.proofs.locator.found_outward.Goals as goal

pub loop-number-init : goal.loop-number-init
loop-number-init g c =
    let whole : Bytes → Walked (Option Found) = λ b. found_outward c.args.row c.args.table.now b c.args.address 19999 0 c.args.innermost in
    record {
      far = so_far_here (g.M.AbsMem.seen c.args.m.now) whole whole (λ b. refl);
      led = search rules;
      more = omega arith;
    }

pub returns-in_err-found-clause-meaning : goal.returns-in_err-found-clause-meaning
returns-in_err-found-clause-meaning g c =
    let row = c.args.row in
    let t = c.args.table.now in
    let p = err_from_is_err_and c.from_residual.result c.from_residual.ensures.1 in
    rw (p.1, p.2)
    (looks_fail (g.M.AbsMem.seen c.args.m.now) (g.M.AbsMem.seen c.loop-number.m) (g.M.AbsMem.seen c.found_here.new.m) row t c.args.address (λ b. found_outward row t b c.args.address 19999 0 c.args.innermost) (19999 - c.loop-number.number) c.loop-number.number c.loop-number.frame
    c.in_err-found.field-0.0 c.loop-number.invariant.far c.in_err-found.ensures.meaning)

pub returns-in-Some-clause-meaning : goal.returns-in-Some-clause-meaning
returns-in-Some-clause-meaning g c =
    let row = c.args.row in
    let t = c.args.table.now in
    let n = 19999 - c.loop-number.number in
    let walk = subst (λ (o : Option Found). Walks (λ b. found_here row t b c.args.address n c.loop-number.number c.loop-number.frame) (g.M.AbsMem.seen c.loop-number.m) (Ok o) (g.M.AbsMem.seen c.found_here.new.m)) c.in-Some.is c.in_ok-found.ensures.meaning in
    looks_found (g.M.AbsMem.seen c.args.m.now) (g.M.AbsMem.seen c.loop-number.m) (g.M.AbsMem.seen c.found_here.new.m) row t c.args.address (λ b. found_outward row t b c.args.address 19999 0 c.args.innermost) n c.loop-number.number c.loop-number.frame
    c.in-Some.found c.loop-number.invariant.far walk

pub returns-then-left-eq0-clause-meaning : goal.returns-then-left-eq0-clause-meaning
returns-then-left-eq0-clause-meaning g c =
    let row = c.args.row in
    let t = c.args.table.now in
    let n = 19999 - c.loop-number.number in
    let walk = subst (λ (o : Option Found). Walks (λ b. found_here row t b c.args.address n c.loop-number.number c.loop-number.frame) (g.M.AbsMem.seen c.loop-number.m) (Ok o) (g.M.AbsMem.seen c.found_here.new.m)) c.in-None.is c.in_ok-found.ensures.meaning in
    let none : n ≡ 0 = omega (arith, c.if-left-eq0.true) in
    looks_last (g.M.AbsMem.seen c.args.m.now) (g.M.AbsMem.seen c.loop-number.m) (g.M.AbsMem.seen c.found_here.new.m) row t c.args.address (λ b. found_outward row t b c.args.address 19999 0 c.args.innermost) n c.loop-number.number c.loop-number.frame
    none c.loop-number.invariant.far walk

pub returns-in_err-up-clause-meaning : goal.returns-in_err-up-clause-meaning
returns-in_err-up-clause-meaning g c =
    let row = c.args.row in
    let t = c.args.table.now in
    let n = 19999 - c.loop-number.number in
    let k = 19999 - (c.loop-number.number + 1) in
    let more : n ≡ suc k = omega (arith, c.if-left-eq0.false) in
    let walk = subst (λ (o : Option Found). Walks (λ b. found_here row t b c.args.address n c.loop-number.number c.loop-number.frame) (g.M.AbsMem.seen c.loop-number.m) (Ok o) (g.M.AbsMem.seen c.found_here.new.m)) c.in-None.is c.in_ok-found.ensures.meaning in
    let far = looks_outward (g.M.AbsMem.seen c.args.m.now) (g.M.AbsMem.seen c.loop-number.m) (g.M.AbsMem.seen c.found_here.new.m) row t c.args.address (λ b. found_outward row t b c.args.address 19999 0 c.args.innermost) n c.loop-number.number c.loop-number.frame
    k more c.loop-number.invariant.far walk in
    let p = err_from_is_err_and c.from_residual-in_err-up.result c.from_residual-in_err-up.ensures.1 in
    rw (p.1, p.2)
    (outer_fail (g.M.AbsMem.seen c.args.m.now) (g.M.AbsMem.seen c.found_here.new.m) (g.M.AbsMem.seen c.up.new.m) row t c.args.address (λ b. found_outward row t b c.args.address 19999 0 c.args.innermost) k c.loop-number.number c.loop-number.frame
    c.in_err-up.field-0.0 far c.in_err-up.ensures.meaning)

pub returns-in-None-2-clause-meaning : goal.returns-in-None-2-clause-meaning
returns-in-None-2-clause-meaning g c =
    let row = c.args.row in
    let t = c.args.table.now in
    let n = 19999 - c.loop-number.number in
    let k = 19999 - (c.loop-number.number + 1) in
    let more : n ≡ suc k = omega (arith, c.if-left-eq0.false) in
    let walk = subst (λ (o : Option Found). Walks (λ b. found_here row t b c.args.address n c.loop-number.number c.loop-number.frame) (g.M.AbsMem.seen c.loop-number.m) (Ok o) (g.M.AbsMem.seen c.found_here.new.m)) c.in-None.is c.in_ok-found.ensures.meaning in
    let far = looks_outward (g.M.AbsMem.seen c.args.m.now) (g.M.AbsMem.seen c.loop-number.m) (g.M.AbsMem.seen c.found_here.new.m) row t c.args.address (λ b. found_outward row t b c.args.address 19999 0 c.args.innermost) n c.loop-number.number c.loop-number.frame
    k more c.loop-number.invariant.far walk in
    let next = subst (λ (o : Option Frame). Walks (λ b. next_frame row t b c.loop-number.frame) (g.M.AbsMem.seen c.found_here.new.m) (Ok o) (g.M.AbsMem.seen c.up.new.m)) c.in-None-2.is c.in_ok-up.ensures.meaning in
    outer_none (g.M.AbsMem.seen c.args.m.now) (g.M.AbsMem.seen c.found_here.new.m) (g.M.AbsMem.seen c.up.new.m) row t c.args.address (λ b. found_outward row t b c.args.address 19999 0 c.args.innermost) k c.loop-number.number c.loop-number.frame far next

pub loop-number-preserved : goal.loop-number-preserved
loop-number-preserved g c =
    let row = c.args.row in
    let t = c.args.table.now in
    let n = 19999 - c.loop-number.number in
    let k = 19999 - (c.loop-number.number + 1) in
    let more : n ≡ suc k = omega (arith, c.if-left-eq0.false) in
    let one : c.loop-number.number + 1 ≡ suc c.loop-number.number = omega arith in
    let walk = subst (λ (o : Option Found). Walks (λ b. found_here row t b c.args.address n c.loop-number.number c.loop-number.frame) (g.M.AbsMem.seen c.loop-number.m) (Ok o) (g.M.AbsMem.seen c.found_here.new.m)) c.in-None.is c.in_ok-found.ensures.meaning in
    let far = looks_outward (g.M.AbsMem.seen c.args.m.now) (g.M.AbsMem.seen c.loop-number.m) (g.M.AbsMem.seen c.found_here.new.m) row t c.args.address (λ b. found_outward row t b c.args.address 19999 0 c.args.innermost) n c.loop-number.number c.loop-number.frame
    k more c.loop-number.invariant.far walk in
    let next = subst (λ (o : Option Frame). Walks (λ b. next_frame row t b c.loop-number.frame) (g.M.AbsMem.seen c.found_here.new.m) (Ok o) (g.M.AbsMem.seen c.up.new.m)) c.in-Some-2.is c.in_ok-up.ensures.meaning in
    let half = g.met.M.AbsMem.goes_on c.args.m.now c.loop-number.m c.found_here.new.m None c.loop-number.invariant.led c.in_ok-found.ensures.calls in
    record {
      far = outer_on (g.M.AbsMem.seen c.args.m.now) (g.M.AbsMem.seen c.found_here.new.m) (g.M.AbsMem.seen c.up.new.m) row t c.args.address (λ b. found_outward row t b c.args.address 19999 0 c.args.innermost) k c.loop-number.number c.loop-number.frame c.in-Some-2.outer (c.loop-number.number + 1) one far next;
      led = g.met.M.AbsMem.goes_on c.args.m.now c.found_here.new.m c.up.new.m None half c.in_ok-up.ensures.calls;
      more = omega (arith, more);
    }
