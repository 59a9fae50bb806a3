use Rattle.std.proofs.Common.{◌∙◌}
use Rattle.slot_ir.specs.declared.code.SlotStart.{SlotStart}
use Rattle.slot_ir.specs.declared.code.SlotValue.TheVariants as value
use Rattle.gen_parts.proofs.Starts.{bytes_loop, uses_loop}
use Rattle.gen_parts.proofs.statics.object_bytes.Goals as goal

pub loop-start-preserved : goal.loop-start-preserved
loop-start-preserved c =
    let none : SlotStart = record { at = 0; width = 0; value = value.Number 0 } in
    record {
      bytes = bytes_loop c.args.setting.now.order c.loop-start.bytes.items c.add_start.new.bytes.items c.as_slice-start-items.result.now c.args.object.now.start c.loop-start.start-index none c.as_slice-start-items.ensures c.loop-start-test.true c.in_ok-add_start.ensures.bytes
          ∙ c.loop-start.invariant.bytes;
      uses = uses_loop c.args.setting.now.order c.args.setting.now.objects c.args.before c.loop-start.bytes.items c.add_start.new.bytes.items c.loop-start.uses.items c.add_start.new.uses.items c.as_slice-start-items.result.now c.args.object.now.start c.loop-start.start-index none c.as_slice-start-items.ensures c.loop-start-test.true c.in_ok-add_start.ensures.bytes c.in_ok-add_start.ensures.uses
          ∙ c.loop-start.invariant.uses;
    }
