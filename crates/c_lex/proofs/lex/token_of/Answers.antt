use Rattle.std.proofs.Common.{sym, ◌∙◌, ap}
use Rattle.c_lex.specs.Grammar.{fits}
use Rattle.c_lex.proofs.Lexing.{begins_none, begins_large, begins_some}
use Rattle.c_lex.proofs.lex.token_of.Goals as goal

pub returns-in-None : goal.returns-in-None
returns-in-None c = begins_none c.args.text.now c.requires.some c.requires.gap c.in-None.ensures

pub returns-then-fits : goal.returns-then-fits
returns-then-fits c = begins_some c.args.text.now c.in-Some.token c.in-Some.ensures (sym (c.fits.ensures ∙ ap (fits c.in-Some.token.0) c.front.ensures) ∙ c.if-fits.true)

pub returns-else-fits : goal.returns-else-fits
returns-else-fits c =
    begins_large c.args.text.now c.in-Some.token c.requires.gap c.in-Some.ensures (sym (c.fits.ensures ∙ ap (fits c.in-Some.token.0) c.front.ensures) ∙ c.if-fits.false)
