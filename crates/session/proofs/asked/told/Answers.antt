use Rattle.std.proofs.Common.{sym, subst, ℕ, List, IfOk}
use Rattle.c_session.specs.declared.command.Command.{Command}
use Rattle.session.specs.Kept.{SaysDone}
use Rattle.session.proofs.Ending.{frames_else, value_else, code_else, silent_else}
use Rattle.session.proofs.asked.told.Goals as goal

pub returns-in-Frames-clause-word : goal.returns-in-Frames-clause-word
returns-in-Frames-clause-word g c = subst (λ (d : Command). IfOk c.listing.result (λ text. SaysDone d text)) (sym c.in-Frames.is) (frames_else c.listing.result c.listing.ensures.word)

pub returns-in-Print-clause-word : goal.returns-in-Print-clause-word
returns-in-Print-clause-word g c = subst (λ (d : Command). IfOk c.printing.result (λ text. SaysDone d text)) (sym c.in-Print.is) (value_else c.printing.result c.printing.ensures.word)

pub returns-in-Eval-clause-word : goal.returns-in-Eval-clause-word
returns-in-Eval-clause-word g c = subst (λ (d : Command). IfOk c.evaluating.result (λ text. SaysDone d text)) (sym c.in-Eval.is) (value_else c.evaluating.result c.evaluating.ensures.word)

pub returns-in-Code-clause-word : goal.returns-in-Code-clause-word
returns-in-Code-clause-word g c = subst (λ (d : Command). IfOk c.coding.result (λ text. SaysDone d text)) (sym c.in-Code.is) (code_else c.coding.result c.coding.ensures.word)

pub returns-in_default-clause-word : goal.returns-in_default-clause-word
returns-in_default-clause-word g c =
    subst (λ (t : List ℕ). SaysDone c.args.command.now t) (sym c.new.ensures) (silent_else c.args.command.now (λ spot. c.in_default.not-Break spot) (λ spot. c.in_default.not-Clear spot) (λ n. c.in_default.not-Frame n))
