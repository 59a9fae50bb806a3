use Rattle.std.proofs.Common.{◌≡◌, drop, List}
use Rattle.c_typing.specs.Plain.{plain}
use Rattle.c_file.specs.Files.{Bodied, all_found, after_all}
use Rattle.c_scope.specs.Findings.{◌beside◌}
use Rattle.c_file.specs.Progress.{so_far, found_so_far, KeepsFunctions}
use Rattle.c_file.proofs.declarations.all_declared.Given as goal

abbrev pub invariant-loop-d : goal.invariant-loop-d
invariant-loop-d l =
    let t = plain l.t in record {
      found : (bs : List Bodied) → (found_so_far l.initial.state.unknown beside all_found l.storage t (so_far l.initial.state bs) l.names) ≡ (found_so_far l.state.unknown beside all_found l.storage t (so_far l.state bs) (drop l.d-index l.names));
      after : (bs : List Bodied) → after_all l.storage t (so_far l.state bs) (drop l.d-index l.names) ≡ after_all l.storage t (so_far l.initial.state bs) l.names;
      functions : KeepsFunctions l.initial.state l.state;
    }
