use Rattle.std.proofs.Common.{sym, ◌∙◌}
use Rattle.c_judge.proofs.Named.{name_judges}
use Rattle.c_judge.proofs.leaf.name.Goals as goal

pub returns-in-Some : goal.returns-in-Some
returns-in-Some c = name_judges c.args.v.now c.args.at c.args.text.now c.in-Some.n c.numbered.result (sym c.number_of.ensures ∙ c.in-Some.is) (c.numbered.ensures c.args.text.now)
