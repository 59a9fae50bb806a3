use Rattle.std.proofs.Common.{◌≡◌, drop}
use Rattle.expr_serve.specs.Serving.{first_open, asked}
use Rattle.expr_serve.proofs.serving.Server.next_open.Given as goal

abbrev pub invariant-loop-mention : goal.invariant-loop-mention
invariant-loop-mention l = first_open (drop l.mention-index l.self.mentions.items) l.self.symbols.items l.self.defs.items ≡ asked l.self
