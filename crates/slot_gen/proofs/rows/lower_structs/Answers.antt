use Rattle.std.proofs.Common.{◌+◌, refl, sym, ap, ◌∙◌, subst}
use Rattle.slot_gen.specs.Rows.{EachFrom, IsStructOf}
use Rattle.slot_gen.proofs.Pairs.{each_push, each_all}
use Rattle.slot_gen.proofs.rows.lower_structs.Goals as goal

pub loop-def-preserved : goal.loop-def-preserved
loop-def-preserved c = record { made = each_push (IsStructOf c.args.program.now) c.args.defs.now _ _ _ _ _ _ c.loop-def-test.true c.def-item.is c.loop-def.invariant.number c.in_ok-lower_struct.ensures c.in_ok-push.ensures.items c.loop-def.invariant.made; number = c.in_ok-number.ensures ∙ ap (λ k. k + 1) c.loop-def.invariant.number }

pub returns : goal.returns
returns c =
    subst (λ l. EachFrom (IsStructOf c.args.program.now) 0 c.args.defs.now l) (sym c.from_vec.ensures) (each_all (IsStructOf c.args.program.now) c.args.defs.now _ _ c.loop-def-test.false c.loop-def.invariant.made)
