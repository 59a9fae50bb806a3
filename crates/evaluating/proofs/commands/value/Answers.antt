use Rattle.evaluating.proofs.Keeping.{keeps_on, runs_on, fails_on}
use Rattle.evaluating.proofs.commands.value.Goals as goal

pub returns-in-Err-run_text-clause-told : goal.returns-in-Err-run_text-clause-told
returns-in-Err-run_text-clause-told g c = fails_on g.W.AbsMem.seen c.args.talk.now c.read_text.new.talk c.run_text.new.talk c.in-Ok.ensures.told c.in-Err-run_text.fault c.in-Err-run_text.ensures.told

pub returns-clause-told : goal.returns-clause-told
returns-clause-told g c =
    let seen = g.W.AbsMem.seen in
    let old = c.args.talk.now in
    runs_on seen old c.run_text.new.talk c.show.new.talk (keeps_on seen old c.read_text.new.talk c.run_text.new.talk c.in-Ok.ensures.told c.in-Ok-run_text.ensures.told) c.show.result c.show.ensures.told
