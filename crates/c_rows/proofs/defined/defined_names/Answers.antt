use Rattle.std.proofs.Common.{◌<◌, ◌∙◌, sym, subst, arith}
use Rattle.c_linkage.specs.declared.definitions.Definition.{Definition}
use Rattle.c_rows.specs.Sets.{defined_in}
use Rattle.c_rows.proofs.Sets.{one_further, unit_within}
use Rattle.c_rows.proofs.defined.defined_names.Goals as goal

pub add-requires : goal.add-requires
add-requires c =
    let within : c.d-item.result.unit < c.args.units =
    subst (λ (x : Definition). x.unit < c.args.units) (sym c.d-item.is) (unit_within c.args.units c.args.definitions.now c.loop-d.d-index c.d-item.result c.requires c.loop-d-test.true) in
    omega (arith, within, c.loop-d.invariant.files)

pub loop-d-preserved : goal.loop-d-preserved
loop-d-preserved c = record {
  files = c.in_ok-add.ensures.files ∙ c.loop-d.invariant.files;
  names = λ u s t. one_further c.args.definitions.now c.loop-d.d-index u s t c.d-item.result (defined_in c.loop-d.names u s t) (defined_in c.add.new.self u s t) c.loop-d-test.true c.d-item.is (c.in_ok-add.ensures.names u s t) ∙ c.loop-d.invariant.names u s t;
}
