use Rattle.std.proofs.Common.{◌≡◌, ◌+◌, ◌*◌, ◌-◌, ◌++◌}
use Rattle.std.specs.List.{flat_map, range_with_len}
use Rattle.ldb_make.specs.Commands.{round_text, rounds_text}
use Rattle.ldb_make.proofs.commands.add_rounds.Given as goal

abbrev pub invariant-loop-round : goal.invariant-loop-round
invariant-loop-round l =
    (l.text ++ flat_map (λ n. round_text l.words (410 + 2 * n)) (range_with_len l.round (20 - l.round))) ≡ (l.fn.text ++ rounds_text l.words)
