use Rattle.std.proofs.Common.{◌≡◌, arith}
use Rattle.ps_words.specs.declared.words.WordOperator.TheVariants.{SignedAdd, SignedSubtract, SignedMultiply, SignedDivide, SignedRemainder, Divide, Remainder, Add, Subtract, Multiply, ShiftLeft, SignedShiftRight, ShiftRight}
use Rattle.ps_words.specs.Operators.{on_two, negating, below}
use Rattle.ps_bare.proofs.Acts.{acts_8, acts_9, acts_10, acts_11, acts_12, acts_13, acts_14, acts_15, acts_16, acts_17, acts_18, acts_19, acts_20, acts_21, acts_22}
use Rattle.ps_bare.proofs.Acting.{did_alone, at_number_alone}
use Rattle.ps_bare.proofs.words.run_on_words.Goals as goal

pub returns-in-8-clause-acts : goal.returns-in-8-clause-acts
returns-in-8-clause-acts c =
    λ d. at_number_alone 8 c.args.op d c.args.core.now c.run_on_two.result c.run_on_two.new.core c.in-8.is (did_alone 8 d c.args.core.now c.run_on_two.new.core c.run_on_two.result (on_two SignedAdd c.args.core.now) (acts_8 d c.args.core.now) c.run_on_two.ensures.does)

pub returns-in-9-clause-acts : goal.returns-in-9-clause-acts
returns-in-9-clause-acts c =
    λ d. at_number_alone 9 c.args.op d c.args.core.now c.run_on_two-in-9.result c.run_on_two-in-9.new.core c.in-9.is (did_alone 9 d c.args.core.now c.run_on_two-in-9.new.core c.run_on_two-in-9.result (on_two SignedSubtract c.args.core.now) (acts_9 d c.args.core.now) c.run_on_two-in-9.ensures.does)

pub returns-in-10-clause-acts : goal.returns-in-10-clause-acts
returns-in-10-clause-acts c =
    λ d. at_number_alone 10 c.args.op d c.args.core.now c.run_on_two-in-10.result c.run_on_two-in-10.new.core c.in-10.is (did_alone 10 d c.args.core.now c.run_on_two-in-10.new.core c.run_on_two-in-10.result (on_two SignedMultiply c.args.core.now) (acts_10 d c.args.core.now) c.run_on_two-in-10.ensures.does)

pub returns-in-11-clause-acts : goal.returns-in-11-clause-acts
returns-in-11-clause-acts c =
    λ d. at_number_alone 11 c.args.op d c.args.core.now c.run_on_two-in-11.result c.run_on_two-in-11.new.core c.in-11.is (did_alone 11 d c.args.core.now c.run_on_two-in-11.new.core c.run_on_two-in-11.result (on_two SignedDivide c.args.core.now) (acts_11 d c.args.core.now) c.run_on_two-in-11.ensures.does)

pub returns-in-12-clause-acts : goal.returns-in-12-clause-acts
returns-in-12-clause-acts c =
    λ d. at_number_alone 12 c.args.op d c.args.core.now c.run_on_two-in-12.result c.run_on_two-in-12.new.core c.in-12.is (did_alone 12 d c.args.core.now c.run_on_two-in-12.new.core c.run_on_two-in-12.result (on_two SignedRemainder c.args.core.now) (acts_12 d c.args.core.now) c.run_on_two-in-12.ensures.does)

pub returns-in-13-clause-acts : goal.returns-in-13-clause-acts
returns-in-13-clause-acts c =
    λ d. at_number_alone 13 c.args.op d c.args.core.now c.negate.result c.negate.new.core c.in-13.is (did_alone 13 d c.args.core.now c.negate.new.core c.negate.result (negating c.args.core.now) (acts_13 d c.args.core.now) c.negate.ensures.does)

pub returns-in-14-clause-acts : goal.returns-in-14-clause-acts
returns-in-14-clause-acts c =
    λ d. at_number_alone 14 c.args.op d c.args.core.now c.run_on_two-in-14.result c.run_on_two-in-14.new.core c.in-14.is (did_alone 14 d c.args.core.now c.run_on_two-in-14.new.core c.run_on_two-in-14.result (on_two Divide c.args.core.now) (acts_14 d c.args.core.now) c.run_on_two-in-14.ensures.does)

pub returns-in-15-clause-acts : goal.returns-in-15-clause-acts
returns-in-15-clause-acts c =
    λ d. at_number_alone 15 c.args.op d c.args.core.now c.run_on_two-in-15.result c.run_on_two-in-15.new.core c.in-15.is (did_alone 15 d c.args.core.now c.run_on_two-in-15.new.core c.run_on_two-in-15.result (on_two Remainder c.args.core.now) (acts_15 d c.args.core.now) c.run_on_two-in-15.ensures.does)

pub returns-in-16-clause-acts : goal.returns-in-16-clause-acts
returns-in-16-clause-acts c =
    λ d. at_number_alone 16 c.args.op d c.args.core.now c.run_on_two-in-16.result c.run_on_two-in-16.new.core c.in-16.is (did_alone 16 d c.args.core.now c.run_on_two-in-16.new.core c.run_on_two-in-16.result (on_two Add c.args.core.now) (acts_16 d c.args.core.now) c.run_on_two-in-16.ensures.does)

pub returns-in-17-clause-acts : goal.returns-in-17-clause-acts
returns-in-17-clause-acts c =
    λ d. at_number_alone 17 c.args.op d c.args.core.now c.run_on_two-in-17.result c.run_on_two-in-17.new.core c.in-17.is (did_alone 17 d c.args.core.now c.run_on_two-in-17.new.core c.run_on_two-in-17.result (on_two Subtract c.args.core.now) (acts_17 d c.args.core.now) c.run_on_two-in-17.ensures.does)

pub returns-in-18-clause-acts : goal.returns-in-18-clause-acts
returns-in-18-clause-acts c =
    λ d. at_number_alone 18 c.args.op d c.args.core.now c.run_on_two-in-18.result c.run_on_two-in-18.new.core c.in-18.is (did_alone 18 d c.args.core.now c.run_on_two-in-18.new.core c.run_on_two-in-18.result (on_two Multiply c.args.core.now) (acts_18 d c.args.core.now) c.run_on_two-in-18.ensures.does)

pub returns-in-19-clause-acts : goal.returns-in-19-clause-acts
returns-in-19-clause-acts c =
    λ d. at_number_alone 19 c.args.op d c.args.core.now c.run_on_two-in-19.result c.run_on_two-in-19.new.core c.in-19.is (did_alone 19 d c.args.core.now c.run_on_two-in-19.new.core c.run_on_two-in-19.result (on_two ShiftLeft c.args.core.now) (acts_19 d c.args.core.now) c.run_on_two-in-19.ensures.does)

pub returns-in-20-clause-acts : goal.returns-in-20-clause-acts
returns-in-20-clause-acts c =
    λ d. at_number_alone 20 c.args.op d c.args.core.now c.run_on_two-in-20.result c.run_on_two-in-20.new.core c.in-20.is (did_alone 20 d c.args.core.now c.run_on_two-in-20.new.core c.run_on_two-in-20.result (on_two SignedShiftRight c.args.core.now) (acts_20 d c.args.core.now) c.run_on_two-in-20.ensures.does)

pub returns-in-21-clause-acts : goal.returns-in-21-clause-acts
returns-in-21-clause-acts c =
    λ d. at_number_alone 21 c.args.op d c.args.core.now c.run_on_two-in-21.result c.run_on_two-in-21.new.core c.in-21.is (did_alone 21 d c.args.core.now c.run_on_two-in-21.new.core c.run_on_two-in-21.result (on_two ShiftRight c.args.core.now) (acts_21 d c.args.core.now) c.run_on_two-in-21.ensures.does)

pub returns-in_default-clause-acts : goal.returns-in_default-clause-acts
returns-in_default-clause-acts c =
    let last : c.args.op ≡ 22 = omega arith in
    λ d. at_number_alone 22 c.args.op d c.args.core.now c.compare_unsigned.result c.compare_unsigned.new.core last (did_alone 22 d c.args.core.now c.compare_unsigned.new.core c.compare_unsigned.result (below c.args.core.now) (acts_22 d c.args.core.now) c.compare_unsigned.ensures.does)
