use Rattle.std.proofs.Common.{◌+◌, refl, sym, ap, ◌∙◌, subst}
use Rattle.slot_gen.specs.Rows.{EachFrom, IsObjectOf}
use Rattle.slot_gen.proofs.Pairs.{each_push, each_all}
use Rattle.slot_gen.proofs.rows.lower_objects.Goals as goal

pub loop-row-preserved : goal.loop-row-preserved
loop-row-preserved c = each_push (IsObjectOf c.args.program.now) c.args.objects.now _ _ _ _ _ _ c.loop-row-test.true c.row-item.is refl (c.in_ok-lower_object.ensures c.loop-row.row-index) c.in_ok-push.ensures.items c.loop-row.invariant

pub returns : goal.returns
returns c =
    subst (λ l. EachFrom (IsObjectOf c.args.program.now) 0 c.args.objects.now l) (sym c.from_vec.ensures) (each_all (IsObjectOf c.args.program.now) c.args.objects.now _ _ c.loop-row-test.false c.loop-row.invariant)
