use Rattle.side_meaning.proofs.Asking.{rows_stay, names_stay, words_named, names_go_on, asks, regs}
use Rattle.side_meaning.proofs.laws.asks_are_meant.Goals as goal

pub returns-clause-rows : goal.returns-clause-rows
returns-clause-rows c = rows_stay

pub returns-clause-names : goal.returns-clause-names
returns-clause-names c = names_stay

pub returns-clause-asks : goal.returns-clause-asks
returns-clause-asks c = asks

pub returns-clause-words : goal.returns-clause-words
returns-clause-words c = words_named

pub returns-clause-go_on : goal.returns-clause-go_on
returns-clause-go_on c = names_go_on

pub returns-clause-regs : goal.returns-clause-regs
returns-clause-regs c = regs
