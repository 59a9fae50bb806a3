use Rattle.std.proofs.Common.{◌≡◌, List, Option, Result, drop}
use Rattle.std.specs.Prelude.{option_map}
use Rattle.c_judge.specs.declared.fault.Fault.{Fault}
use Rattle.c_tree.specs.declared.typed.DeclaredLocal.{DeclaredLocal}
use Rattle.c_body.specs.PassingLocals.{PassesLocals, before_rest}
use Rattle.c_body.specs.Walks.{Walked}
use Rattle.c_body.specs.Walking.{walk_of}
use Rattle.c_body.proofs.locals.at_locals.Given as goal

-- what is found in the rest, behind what was found so far, is what is found in the declaration
abbrev pub invariant-loop-name : goal.invariant-loop-name
invariant-loop-name l = record {
  found : (x : Result (Option (List DeclaredLocal)) Fault) (u : Walked) → PassesLocals l.local (walk_of l.walk) (drop l.name-index l.local.names) x u
      → PassesLocals l.local (walk_of l.initial.walk) l.local.names (before_rest x (option_map (λ v. v.items) l.made)) u;
  start : l.walk.here.table.start ≡ l.initial.walk.here.table.start;
}
