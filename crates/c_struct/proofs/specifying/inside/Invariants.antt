use Rattle.std.proofs.Common.{◌≡◌, drop}
use Rattle.c_typing.specs.Plain.{Plain}
use Rattle.c_judge.specs.Answers.{Answer}
use Rattle.c_scope.specs.Environment.{Environment}
use Rattle.c_struct.specs.Specifies.{Inside}
use Rattle.c_scope.specs.Here.{environment_of}
use Rattle.c_struct.specs.Nested.{opens_of, AreNamed}
use Rattle.c_struct.proofs.specifying.inside.Given as goal

abbrev pub invariant-loop-part : goal.invariant-loop-part
invariant-loop-part l = record {
  named : AreNamed l.n;
  inside : (a : Answer Plain) (x : Environment) → Inside l.others (environment_of l.here) (opens_of l.n) (drop l.part-index l.parts) a x → Inside l.others (environment_of l.fn.here) (opens_of l.fn.n) l.parts a x;
  table : l.here.table ≡ l.fn.here.table;
  unit : l.here.unit ≡ l.fn.here.unit;
}
