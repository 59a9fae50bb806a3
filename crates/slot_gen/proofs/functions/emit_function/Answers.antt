use Rattle.slot_gen.proofs.Forms.{function_done, registers_there}
use Rattle.slot_gen.proofs.functions.emit_function.Goals as goal

pub invariant_of-within : goal.invariant_of-within
invariant_of-within c = record {
  in_registers = registers_there c.args.program.now c.args.number c.args.function.now c.as_slice.result.now _ c.deref.result.now c.requires c.as_slice.ensures c.in_ok-registers.ensures c.deref.ensures.value;
}

pub returns : goal.returns
returns c =
    function_done c.args.program.now c.args.number c.new-code.result.items c.put_frame.new.code.items c.emit_body.new.code.items c.in_ok-scope.scope c.args.function.now c.in_ok-scope.ensures c.new-code.ensures.items c.in_ok-put_frame.ensures c.in_ok-emit_body.ensures
