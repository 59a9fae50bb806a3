use Rattle.std.proofs.Common.{◌+◌, ◌*◌, ◌++◌}
use Rattle.ldb_make.specs.Commands.{round_text, rounds_text}
use Rattle.ldb_make.proofs.Pieces.{pieces_more}
use Rattle.ldb_make.proofs.commands.add_rounds.Goals as goal

pub loop-round-preserved : goal.loop-round-preserved
loop-round-preserved c =
    pieces_more (λ n. round_text c.args.words.now (410 + 2 * n)) 20 c.loop-round.round c.loop-round.text c.add_round.new.text
    (c.args.text.now ++ rounds_text c.args.words.now) c.loop-round-test.true c.in_ok-add_round.ensures c.loop-round.invariant
