use Rattle.std.proofs.Common.{◌+◌, ◌*◌, ◌++◌}
use Rattle.ldb_make.specs.Program.{body_line, body_lines}
use Rattle.ldb_make.proofs.Pieces.{pieces_more}
use Rattle.ldb_make.proofs.program.add_body.Goals as goal

pub loop-line-preserved : goal.loop-line-preserved
loop-line-preserved c =
    pieces_more (λ line. body_line c.args.words.now (c.args.first + 1 + 2 * line)) 20 c.loop-line.line c.loop-line.text c.add_body_line.new.text
    (c.args.text.now ++ body_lines c.args.words.now c.args.first) c.loop-line-test.true c.in_ok-add_body_line.ensures c.loop-line.invariant
