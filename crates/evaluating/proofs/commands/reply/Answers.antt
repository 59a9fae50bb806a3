use Rattle.std.proofs.Common.{[], ◌∷◌, ◌++◌}
use Rattle.evaluating.proofs.commands.reply.Goals as goal

pub returns-in-Ok-clause-word : goal.returns-in-Ok-clause-word
returns-in-Ok-clause-word c = (c.args.text.now ++ 10 ∷ [], c.in-Ok.ensures)
