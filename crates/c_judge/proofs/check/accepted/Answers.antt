use Rattle.std.proofs.Common.{sym, ◌∙◌, subst}
use Rattle.c_judge.specs.Elaboration.{Elaborates}
use Rattle.c_judge.proofs.Wholes.{known_whole, broken_whole}
use Rattle.c_judge.proofs.check.accepted.Goals as goal

pub returns-then-not-stands : goal.returns-then-not-stands
returns-then-not-stands c = λ v u h. (u, broken_whole v c.args.mode c.args.e.now c.args.part h.0 (sym c.stands.ensures ∙ c.if-not-stands.true))

pub returns-in-Some : goal.returns-in-Some
returns-in-Some c = λ v u h. (u, known_whole v c.args.mode c.args.e.now c.args.part h.0 (sym c.stands.ensures ∙ c.if-not-stands.false), sym c.forbidden_in.ensures ∙ c.in-Some.is)

pub returns-in-None : goal.returns-in-None
returns-in-None c = λ v u h. (u, known_whole v c.args.mode c.args.e.now c.args.part h.0 (sym c.stands.ensures ∙ c.if-not-stands.false), sym c.forbidden_in.ensures ∙ c.in-None.is, subst (Elaborates v c.args.e.now) (sym c.into_inner.ensures) h.1)
