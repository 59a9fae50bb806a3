use Rattle.std.proofs.Common.{◌+◌, refl, sym, ap, ◌∙◌, subst}
use Rattle.slot_gen.specs.Rows.{EachFrom, IsLocalOf}
use Rattle.slot_gen.proofs.Pairs.{each_push, each_all}
use Rattle.slot_gen.proofs.rows.lower_each.Goals as goal

pub loop-local-preserved : goal.loop-local-preserved
loop-local-preserved c = record { made = each_push (IsLocalOf c.args.program.now c.args.registers.now) c.args.locals.now _ _ _ _ _ _ c.loop-local-test.true c.local-item.is c.loop-local.invariant.number c.in_ok-lower_local.ensures c.in_ok-push.ensures.items c.loop-local.invariant.made; number = c.in_ok-x.ensures ∙ ap (λ k. k + 1) c.loop-local.invariant.number }

pub returns : goal.returns
returns c =
    subst (λ l. EachFrom (IsLocalOf c.args.program.now c.args.registers.now) 0 c.args.locals.now l) (sym c.from_vec.ensures) (each_all (IsLocalOf c.args.program.now c.args.registers.now) c.args.locals.now _ _ c.loop-local-test.false c.loop-local.invariant.made)
