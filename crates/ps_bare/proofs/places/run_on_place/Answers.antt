use Rattle.std.proofs.Common.{◌≡◌, false, None, arith, refl, ◌∙◌}
use Rattle.frame_bytes.specs.declared.frame.Space.TheVariants.{Memory, Registers}
use Rattle.ps_places.specs.Places as places
use Rattle.ps_symbols.specs.Naming as names
use Rattle.ps_bare.specs.Bare.{bare}
use Rattle.ps_bare.proofs.Acts.{acts_0, acts_1, acts_3}
use Rattle.ps_bare.proofs.Acting.{did, at_number, local_bare}
use Rattle.ps_bare.proofs.places.run_on_place.Goals as goal

pub returns-in-0-clause-acts : goal.returns-in-0-clause-acts
returns-in-0-clause-acts c =
    let cell = c.args.memory.now.cell in
    let core = c.args.core.now in
    at_number 0 c.args.op cell core c.anchor.result cell c.anchor.new.core c.in-0.is (did 0 cell core c.anchor.new.core c.anchor.result (names.anchoring false core) (acts_0 (bare cell) core) c.anchor.ensures.does)

pub returns-in-1-clause-acts : goal.returns-in-1-clause-acts
returns-in-1-clause-acts c =
    let cell = c.args.memory.now.cell in
    let core = c.args.core.now in
    at_number 1 c.args.op cell core c.absolute.result cell c.absolute.new.core c.in-1.is (did 1 cell core c.absolute.new.core c.absolute.result (places.placing_at Memory core) (acts_1 (bare cell) core) c.absolute.ensures.does)

pub returns-in-2-clause-acts : goal.returns-in-2-clause-acts
returns-in-2-clause-acts c =
    let cell = c.args.memory.now.cell in
    let core = c.args.core.now in
    at_number 2 c.args.op cell core c.local.result cell c.local.new.core c.in-2.is (did 2 cell core c.local.new.core c.local.result (places.placing_local None core) (local_bare cell core) c.local.ensures.does)

pub returns-in-3-clause-acts : goal.returns-in-3-clause-acts
returns-in-3-clause-acts c =
    let cell = c.args.memory.now.cell in
    let core = c.args.core.now in
    at_number 3 c.args.op cell core c.register.result cell c.register.new.core c.in-3.is (did 3 cell core c.register.new.core c.register.result (places.placing_at Registers core) (acts_3 (bare cell) core) c.register.ensures.does)

pub returns-in-4-clause-acts : goal.returns-in-4-clause-acts
returns-in-4-clause-acts c = at_number 4 c.args.op c.args.memory.now.cell c.args.core.now c.place_value.result c.place_value.new.memory.cell c.place_value.new.core c.in-4.is c.place_value.ensures.acts

pub returns-in-5-clause-acts : goal.returns-in-5-clause-acts
returns-in-5-clause-acts c = at_number 5 c.args.op c.args.memory.now.cell c.args.core.now c.find_nowhere.result c.args.memory.now.cell c.find_nowhere.new.core c.in-5.is (c.find_nowhere.ensures.acts c.args.memory.now.cell)

pub returns-in-6-clause-acts : goal.returns-in-6-clause-acts
returns-in-6-clause-acts c = at_number 6 c.args.op c.args.memory.now.cell c.args.core.now c.fetch_bare.result c.fetch_bare.new.memory.cell c.fetch_bare.new.core c.in-6.is c.fetch_bare.ensures.acts

pub returns-in_default-clause-acts : goal.returns-in_default-clause-acts
returns-in_default-clause-acts c =
    let last : c.args.op ≡ 7 = omega arith in
    at_number 7 c.args.op c.args.memory.now.cell c.args.core.now c.store_bare.result c.store_bare.new.memory.cell c.store_bare.new.core last c.store_bare.ensures.acts
