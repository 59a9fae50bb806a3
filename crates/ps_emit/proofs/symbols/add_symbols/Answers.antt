use Rattle.std.proofs.Common.{refl, ◌-◌}
use Rattle.ps_emit.specs.Places.{homes}
use Rattle.ps_emit.proofs.Chains.{one_before}
use Rattle.ps_emit.proofs.symbols.add_symbols.Goals as goal

pub loop-i-preserved : goal.loop-i-preserved
loop-i-preserved c =
    one_before c.args.scene.functions.now (homes c.args.scene.places.now c.args.scene.locals.now) c.args.scene.program.now.symbols c.args.chain.now c.loop-i.i _ c.args.text.now c.loop-i.text c.add_symbol_of.new.text c.loop-i-test.true refl c.loop-i.invariant
    c.in_ok-add_symbol_of.ensures
