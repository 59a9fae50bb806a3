use Rattle.slot_gen.specs.Emission.{around_of}
use Rattle.slot_gen.proofs.Forms.{whole_ok}
use Rattle.slot_gen.proofs.functions.emit_body.Goals as goal

pub returns : goal.returns
returns c =
    whole_ok c.put_return.result c.args.within.now.program.now c.args.within.now.number c.args.code.now.items c.put_zeros.new.code.items c.emit_inits.new.code.items c.emit_stmts.new.code.items c.put_zero.new.code.items c.put_return.new.code.items c.args.scope c.args.function.now c.declared-locals.result.now (around_of c.nowhere.result) c.statements.result.now
    c.declared-locals.ensures c.nowhere.ensures c.statements.ensures c.in_ok-put_zeros.ensures c.in_ok-emit_inits.ensures c.in_ok-emit_stmts.ensures c.in_ok-put_zero.ensures c.put_return.ensures
