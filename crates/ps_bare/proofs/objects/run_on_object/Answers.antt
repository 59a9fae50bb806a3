use Rattle.std.proofs.Common.{◌≡◌, false, inl, inr, arith}
use Rattle.ps_symbols.specs.Naming as names
use Rattle.ps_bare.specs.Bare.{bare}
use Rattle.ps_bare.proofs.Acts.{acts_27}
use Rattle.ps_bare.proofs.Acting.{did, at_number}
use Rattle.ps_bare.proofs.objects.run_on_object.Goals as goal

pub returns-in-23-clause-acts : goal.returns-in-23-clause-acts
returns-in-23-clause-acts c = λ cell. at_number 23 c.args.op cell c.args.core.now c.add.result cell c.add.new.core c.in-23.is (c.add.ensures.acts cell)

pub returns-in-24-clause-acts : goal.returns-in-24-clause-acts
returns-in-24-clause-acts c = λ cell. at_number 24 c.args.op cell c.args.core.now c.subtract.result cell c.subtract.new.core c.in-24.is (c.subtract.ensures.acts cell)

pub returns-in-25-clause-acts : goal.returns-in-25-clause-acts
returns-in-25-clause-acts c = λ cell. at_number 25 c.args.op cell c.args.core.now c.compare.result cell c.compare.new.core c.in-25.is (c.compare.ensures.acts cell)

pub returns-in-26-clause-acts : goal.returns-in-26-clause-acts
returns-in-26-clause-acts c = λ cell. at_number 26 c.args.op cell c.args.core.now c.take_leaf.result cell c.take_leaf.new.core c.in-26.is (c.take_leaf.ensures.acts cell)

pub returns-in-27-clause-acts : goal.returns-in-27-clause-acts
returns-in-27-clause-acts c =
    let core = c.args.core.now in
    λ cell. at_number 27 c.args.op cell core c.find_struct.result cell c.find_struct.new.core c.in-27.is
    (did 27 cell core c.find_struct.new.core c.find_struct.result (names.giving_struct false core) (acts_27 (bare cell) core) c.find_struct.ensures.does)

pub returns-in_default-clause-acts : goal.returns-in_default-clause-acts
returns-in_default-clause-acts c =
    let last : c.args.op ≡ 32 = elim c.requires [ inl h ↦ omega (arith, h.0, h.1) | inr h ↦ h ] in
    λ cell. at_number 32 c.args.op cell c.args.core.now c.measure_run.result cell c.measure_run.new.core last (c.measure_run.ensures.acts cell)
