use Rattle.std.proofs.Common.{◌≡◌, ◌++◌, drop}
use Rattle.gen_parts.specs.Statics.{objects_statics, objects_uses}
use Rattle.gen_parts.proofs.statics.add_objects.Given as goal

abbrev pub invariant-loop-object : goal.invariant-loop-object
invariant-loop-object l = record {
  statics : l.statics.items ++ objects_statics l.setting.order l.number (drop l.object-index l.objects) ≡ l.fn.statics.items ++ objects_statics l.setting.order 0 l.objects;
  uses : l.uses.items ++ objects_uses l.setting.order l.setting.objects l.before (drop l.object-index l.objects) ≡ l.fn.uses.items ++ objects_uses l.setting.order l.setting.objects 0 l.objects;
}
