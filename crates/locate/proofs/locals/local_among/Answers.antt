use Rattle.std.proofs.Common.{◌≡◌, ◌∙◌, sym, ap, suc, ◌+◌, ◌-◌, arith, Some, None, Ok, Err}
use Rattle.std.proofs.lemmas.Result.{err_from_is_err_and}
use Rattle.locate.specs.Chain.{local_one}
use Rattle.locate.proofs.Chains.{behind, among_by, among_behind}
use Rattle.locate.proofs.locals.local_among.Goals as goal

pub returns-in_err-local_one : goal.returns-in_err-local_one
returns-in_err-local_one c =
    let n = 99999 - c.loop-passed.passed in
    let p = err_from_is_err_and c.from_residual.result c.from_residual.ensures.1 in
    let by = among_by n c.args.store.now c.args.base c.args.address c.loop-passed.next c.in-Some.symbol (Err c.in_err-local_one.field-0.0) c.in-Some.is (sym c.in_err-local_one.ensures) in
    rw (p.1, p.2) (sym by ∙ c.loop-passed.invariant.left)

pub returns-in-None-2 : goal.returns-in-None-2
returns-in-None-2 c =
    let n = 99999 - c.loop-passed.passed in
    let said : local_one c.args.store.now c.args.base c.args.address c.in-Some.symbol ≡ Ok None = cc (c.in_ok-local_one.ensures, c.in-None-2.is) in
    sym (among_by n c.args.store.now c.args.base c.args.address c.loop-passed.next c.in-Some.symbol (Ok None) c.in-Some.is said) ∙ c.loop-passed.invariant.left

pub returns-in-Some-Some : goal.returns-in-Some-Some
returns-in-Some-Some c =
    let n = 99999 - c.loop-passed.passed in
    let found = c.in-Some-Some.found in
    let said : local_one c.args.store.now c.args.base c.args.address c.in-Some.symbol ≡ Ok (Some (Some found)) = cc (c.in_ok-local_one.ensures, c.in-Some-Some.is, c.in-Some-Some.field-0-is) in
    sym (among_by n c.args.store.now c.args.base c.args.address c.loop-passed.next c.in-Some.symbol (Ok (Some (Some found))) c.in-Some.is said) ∙ c.loop-passed.invariant.left

pub returns-then-passed-eq-MOST_SYMBOLS : goal.returns-then-passed-eq-MOST_SYMBOLS
returns-then-passed-eq-MOST_SYMBOLS c =
    let n = 99999 - c.loop-passed.passed in
    let none : n ≡ 0 = omega (arith, c.if-passed-eq-MOST_SYMBOLS.true) in
    let said : local_one c.args.store.now c.args.base c.args.address c.in-Some.symbol ≡ Ok (Some None) = cc (c.in_ok-local_one.ensures, c.in-Some-None.is, c.in-Some-None.field-0-is) in
    let by = among_by n c.args.store.now c.args.base c.args.address c.loop-passed.next c.in-Some.symbol (Ok (Some None)) c.in-Some.is said in
    sym (by ∙ ap (λ j. behind j c.args.store.now c.args.base c.args.address c.in-Some.symbol) none) ∙ c.loop-passed.invariant.left

pub returns-in_err-next : goal.returns-in_err-next
returns-in_err-next c =
    let n = 99999 - c.loop-passed.passed in
    let k = 99999 - (c.loop-passed.passed + 1) in
    let more : n ≡ suc k = omega (arith, c.loop-passed-test.true, c.if-passed-eq-MOST_SYMBOLS.false) in
    let said : local_one c.args.store.now c.args.base c.args.address c.in-Some.symbol ≡ Ok (Some None) = cc (c.in_ok-local_one.ensures, c.in-Some-None.is, c.in-Some-None.field-0-is) in
    let p = err_from_is_err_and c.from_residual-in_err-next.result c.from_residual-in_err-next.ensures.1 in
    let by = among_behind n k c.args.store.now c.args.base c.args.address c.loop-passed.next c.in-Some.symbol (Err c.in_err-next.field-0.0) more c.in-Some.is said (sym c.in_err-next.ensures) in
    rw (p.1, p.2) (sym by ∙ c.loop-passed.invariant.left)

pub loop-passed-preserved : goal.loop-passed-preserved
loop-passed-preserved c =
    let n = 99999 - c.loop-passed.passed in
    let k = 99999 - (c.loop-passed.passed + 1) in
    let more : n ≡ suc k = omega (arith, c.loop-passed-test.true, c.if-passed-eq-MOST_SYMBOLS.false) in
    let said : local_one c.args.store.now c.args.base c.args.address c.in-Some.symbol ≡ Ok (Some None) = cc (c.in_ok-local_one.ensures, c.in-Some-None.is, c.in-Some-None.field-0-is) in
    let by = among_behind n k c.args.store.now c.args.base c.args.address c.loop-passed.next c.in-Some.symbol (Ok c.in_ok-next.next) more c.in-Some.is said (sym c.in_ok-next.ensures) in
    record {
      left = sym by ∙ c.loop-passed.invariant.left;
      more = omega (arith, c.loop-passed-test.true, c.if-passed-eq-MOST_SYMBOLS.false);
    }
