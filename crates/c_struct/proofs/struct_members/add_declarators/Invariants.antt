use Rattle.std.proofs.Common.{◌≡◌, drop}
use Rattle.c_typing.specs.Plain.{plain}
use Rattle.c_struct.specs.Structs.{members}
use Rattle.c_struct.specs.Opened.{members_in, HasNames}
use Rattle.c_scope.specs.Here.{environment_of}
use Rattle.c_struct.proofs.struct_members.add_declarators.Given as goal

abbrev pub invariant-loop-d : goal.invariant-loop-d
invariant-loop-d l = record {
  added : members (environment_of l.here) (members_in l.o) (plain l.t) (drop l.d-index l.ds) ≡ members (environment_of l.here) (members_in l.initial.o) (plain l.t) l.ds;
  named : HasNames l.o;
  place : l.o.at ≡ l.initial.o.at;
  tag : l.o.tag ≡ l.initial.o.tag;
}
