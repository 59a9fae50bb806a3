-- The program that the checker gives is accepted.
use Rattle.std.proofs.Common.{◌≡◌, ℕ, ◌+◌, List, length}
use Rattle.std.specs.Prelude.{Ok}
use Rattle.c_trees.specs.declared.unit.External.{External}
use Rattle.c_tree.specs.declared.rows.Program.{Program}
use Rattle.c_typing.specs.Programs.{KeepsRules}
use Rattle.c_linkage.specs.FileTags.{tags_of}
use Rattle.c_check.specs.Faulty.{Checks}
use Rattle.c_accepted.specs.Sources.{AreTexts}
use Rattle.c_accepted.proofs.AllTags.{tags_there}
use Rattle.c_accepted.proofs.Bodies.{bodies_behind}
use Rattle.c_accepted.proofs.Structs.{structs_written}
use Rattle.c_accepted.proofs.Kept.{all_sourced, functions_kept}
use Rattle.c_accepted.proofs.Assembly.{sound, calls, assembled}

pub accepted : (names : List (List ℕ)) (us : List (List External)) (p : Program) → Checks names us (Ok p) → length names ≡ length us → AreTexts us → KeepsRules p
accepted names us p c count texts =
    let a = c.1 in
    let (stands, (unit, inv)) = bodies_behind (tags_of us) us a.behind (tags_there us) (all_sourced (tags_of us) us c.0 texts) a.files in
    let there = calls names us p a count texts (0 + length us) inv.entries in
    let functions = functions_kept names us p a.behind a.rows count a.files c.0 texts (structs_written p.defs (sound names us p a count texts)) there in
    assembled names us p a count texts (0 + length us) inv.entries functions
