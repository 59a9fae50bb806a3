use Rattle.std.proofs.Common.{◌∙◌, ap, sym, subst, refl, inl, inr}
use Rattle.c_session.specs.declared.command.Command.{Command}
use Rattle.c_session.specs.declared.command.Command.TheVariants.{Ps}
use Rattle.session.specs.Meant.{RanOne}
use Rattle.session.proofs.Looked.{same_fault}
use Rattle.session.proofs.AskingText.{run_failed}
use Rattle.session.proofs.Wanting.{text_is}
use Rattle.session.proofs.both.undone.Goals as goal

pub returns-then-is_failure-clause-meant : goal.returns-then-is_failure-clause-meant
returns-then-is_failure-clause-meant g c = λ text b h beside a is n x ready none. absurd (n (c.is_failure.ensures.yes c.if-is_failure.true))

pub returns-in-Ok-clause-meant : goal.returns-in-Ok-clause-meant
returns-in-Ok-clause-meant g c = λ text b h beside a is n x ready none.
    inl (
      refl,
      subst (λ (d : Command). RanOne b g.L.Link.conduct (g.L.Link.world c.ran.new.talk.memory.below.below.below.link) c.args.second.now c.ran.new.side h beside d a) (sym (c.in-Ps.is ∙ ap Ps (sym c.as_bytes.ensures)) ∙ is)
          (c.in-Ok.ensures.meant b h beside a x ready none),
    )

pub returns-in-Err-clause-meant : goal.returns-in-Err-clause-meant
returns-in-Err-clause-meant g c = λ text b h beside a is n x ready none.
    inr (run_failed (g.L.Link.faults c.args.talk.now.memory.below.below.below.link) (g.L.Link.faults c.ran.new.talk.memory.below.below.below.link) (λ u. RanOne b g.L.Link.conduct (g.L.Link.world c.ran.new.talk.memory.below.below.below.link) c.args.second.now c.ran.new.side h beside (Ps c.as_bytes.result.now) a) c.in-Err.why c.in-Err.ensures.failure (c.in-Err.ensures.meant b h beside a x ready none))

pub returns-in_default-clause-meant : goal.returns-in_default-clause-meant
returns-in_default-clause-meant g c = λ text b h beside a is n x ready none. absurd (c.in_default.not-Ps text is)

pub returns-then-is_failure-clause-count : goal.returns-then-is_failure-clause-count
returns-then-is_failure-clause-count g c = λ n. absurd (n (c.is_failure.ensures.yes c.if-is_failure.true))

pub returns-in-Ok-clause-count : goal.returns-in-Ok-clause-count
returns-in-Ok-clause-count g c = λ n. same_fault (g.L.Link.faults c.args.talk.now.memory.below.below.below.link) (g.L.Link.faults c.ran.new.talk.memory.below.below.below.link) c.args.fault c.in-Ok.ensures.count n

pub returns-in-Err-clause-count : goal.returns-in-Err-clause-count
returns-in-Err-clause-count g c = λ n. c.in-Err.ensures.count

pub returns-in_default-clause-count : goal.returns-in_default-clause-count
returns-in_default-clause-count g c = λ n. same_fault (g.L.Link.faults c.args.talk.now.memory.below.below.below.link) (g.L.Link.faults c.args.talk.now.memory.below.below.below.link) c.args.fault refl n

pub returns-then-is_failure-clause-stores : goal.returns-then-is_failure-clause-stores
returns-then-is_failure-clause-stores g c = λ b h beside a n there ready none is unbroken. absurd (n (c.is_failure.ensures.yes c.if-is_failure.true))

pub returns-in-Ok-clause-stores : goal.returns-in-Ok-clause-stores
returns-in-Ok-clause-stores g c = λ b h beside a n there ready none is unbroken. c.in-Ok.ensures.stores b h beside a there ready none tt

pub returns-in-Err-clause-stores : goal.returns-in-Err-clause-stores
returns-in-Err-clause-stores g c = λ b h beside a n there ready none is unbroken. c.in-Err.ensures.stores b h beside a there ready none unbroken

pub returns-in_default-clause-stores : goal.returns-in_default-clause-stores
returns-in_default-clause-stores g c = λ b h beside a n there ready none is unbroken. absurd (text_is c.args.command.now is (λ text. c.in_default.not-Ps text))
