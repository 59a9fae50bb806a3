use Rattle.std.proofs.Common.{◌≡◌, None, drop, map}
use Rattle.c_symbol.specs.Terminals.{terminal_of}
use Rattle.c_syntax.specs.Machine.{start, feed}
use Rattle.c_syntax.proofs.read.run.Given as goal

abbrev pub invariant-loop-token : goal.invariant-loop-token
invariant-loop-token l = feed (map (terminal_of l.text) (drop l.token-index l.tokens)) l.joiner.last l.parser ≡ feed (map (terminal_of l.text) l.tokens) None start
