use Rattle.std.proofs.Common.{refl, sym, ◌∙◌, ◌-◌}
use Rattle.ps_emit.proofs.Followed.{one_more, none_left}
use Rattle.ps_emit.specs.Functions.{unit_code, units_code}
use Rattle.ps_emit.proofs.functions.add_units.Goals as goal

pub loop-unit-preserved : goal.loop-unit-preserved
loop-unit-preserved c =
    one_more (units_code c.args.program.now c.args.rows.now) (units_code c.args.program.now c.args.rows.now) (unit_code c.args.program.now c.args.rows.now c.unit-item.result)
    c.args.units.now c.loop-unit.unit-index c.unit-item.result c.loop-unit-test.true c.unit-item.is refl c.in_ok-add_unit.ensures
    ∙ c.loop-unit.invariant

pub returns : goal.returns
returns c = record {
  text = sym (none_left (units_code c.args.program.now c.args.rows.now) c.args.units.now c.loop-unit.unit-index c.loop-unit.text refl c.loop-unit-test.false) ∙ c.loop-unit.invariant;
}
