use Rattle.std.proofs.Common.{◌++◌}
use Rattle.ldb_make.specs.Program.{function_text, functions_text}
use Rattle.ldb_make.proofs.Pieces.{pieces_more}
use Rattle.ldb_make.proofs.program.add_functions.Goals as goal

pub loop-function-preserved : goal.loop-function-preserved
loop-function-preserved c =
    pieces_more (function_text c.args.words.now) 10 c.loop-function.function c.loop-function.text c.add_function.new.text
    (c.args.text.now ++ functions_text c.args.words.now) c.loop-function-test.true c.in_ok-add_function.ensures c.loop-function.invariant
