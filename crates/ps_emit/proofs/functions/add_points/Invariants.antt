use Rattle.std.proofs.Common.{◌≡◌, ◌++◌, ◌-◌, drop}
use Rattle.ps_text.specs.Code.{render}
use Rattle.ps_emit.specs.Places.{homes}
use Rattle.ps_emit.specs.Functions.{points_code, made_by}
use Rattle.ps_emit.proofs.functions.add_points.Given as goal

abbrev pub invariant-loop-i : goal.invariant-loop-i
invariant-loop-i l = record {
  text :
      l.text ++ render (points_code l.scene.program.now l.scene.functions.now (homes l.scene.places.now l.scene.locals.now) l.made (drop l.i l.points) (drop l.i l.addresses)) ≡
      l.initial.text ++ render (points_code l.scene.program.now l.scene.functions.now (homes l.scene.places.now l.scene.locals.now) l.fn.made l.points l.addresses);
  made :
      made_by l.scene.program.now l.scene.functions.now l.made (drop l.i l.points) (drop l.i l.addresses) ≡
      made_by l.scene.program.now l.scene.functions.now l.fn.made l.points l.addresses;
}
