use Rattle.std.proofs.Common.{◌+◌, refl, sym, ap, ◌∙◌, subst}
use Rattle.slot_gen.specs.Rows.{EachFrom, IsFunctionOf}
use Rattle.slot_gen.proofs.Pairs.{each_push, each_all}
use Rattle.slot_gen.proofs.Begun.{there_of}
use Rattle.slot_gen.proofs.rows.lower_functions.Goals as goal

pub lower_function-requires-clause-there : goal.lower_function-requires-clause-there
lower_function-requires-clause-there c = there_of c.args.functions.now c.args.program.now.functions _ _ _ c.requires.all c.loop-function.invariant.number c.loop-function-test.true c.function-item.is

pub loop-function-preserved : goal.loop-function-preserved
loop-function-preserved c = record { made = each_push (IsFunctionOf c.args.program.now) c.args.functions.now _ _ _ _ _ _ c.loop-function-test.true c.function-item.is c.loop-function.invariant.number c.in_ok-lower_function.ensures c.in_ok-push.ensures.items c.loop-function.invariant.made; number = c.in_ok-number.ensures ∙ ap (λ k. k + 1) c.loop-function.invariant.number }

pub returns : goal.returns
returns c =
    subst (λ l. EachFrom (IsFunctionOf c.args.program.now) 0 c.args.functions.now l) (sym c.from_vec.ensures) (each_all (IsFunctionOf c.args.program.now) c.args.functions.now _ _ c.loop-function-test.false c.loop-function.invariant.made)
