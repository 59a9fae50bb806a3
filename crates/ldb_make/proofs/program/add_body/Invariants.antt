use Rattle.std.proofs.Common.{◌≡◌, ◌+◌, ◌*◌, ◌-◌, ◌++◌}
use Rattle.std.specs.List.{flat_map, range_with_len}
use Rattle.ldb_make.specs.Program.{body_line, body_lines}
use Rattle.ldb_make.proofs.program.add_body.Given as goal

abbrev pub invariant-loop-line : goal.invariant-loop-line
invariant-loop-line l =
    (l.text ++ flat_map (λ line. body_line l.words (l.first + 1 + 2 * line)) (range_with_len l.line (20 - l.line))) ≡ (l.fn.text ++ body_lines l.words l.first)
