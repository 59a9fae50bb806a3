use Rattle.std.proofs.Common.{◌≡◌, ◌++◌, drop}
use Rattle.ps_text.specs.Code.{render}
use Rattle.ps_emit.specs.Places.{objects_from}
use Rattle.ps_emit.proofs.places.add_objects.Given as goal

abbrev pub invariant-loop-o : goal.invariant-loop-o
invariant-loop-o l = record {
  text : l.text ++ render (objects_from l.units l.k (drop l.o-index l.objects)) ≡ l.initial.text ++ render (objects_from l.units 0 l.objects);
  number : l.k ≡ l.o-index;
}
