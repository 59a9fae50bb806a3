use Rattle.std.proofs.Common.{◌≡◌, ◌++◌, length, drop}
use Rattle.gen_parts.specs.Statics.{start_bytes, start_uses}
use Rattle.gen_parts.proofs.statics.object_bytes.Given as goal

abbrev pub invariant-loop-start : goal.invariant-loop-start
invariant-loop-start l = record {
  bytes : l.bytes.items ++ start_bytes l.setting.order (length l.bytes.items) (drop l.start-index l.object.start) ≡ start_bytes l.setting.order 0 l.object.start;
  uses : l.uses.items ++ start_uses l.setting.order l.setting.objects l.before (length l.bytes.items) (drop l.start-index l.object.start) ≡ l.fn.uses.items ++ start_uses l.setting.order l.setting.objects l.before 0 l.object.start;
}
