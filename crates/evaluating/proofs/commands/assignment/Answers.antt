use Rattle.evaluating.proofs.Keeping.{keeps_on, fails_on, reasoned_told}
use Rattle.evaluating.proofs.commands.assignment.Goals as goal

pub returns-in-Err-run_text-clause-told : goal.returns-in-Err-run_text-clause-told
returns-in-Err-run_text-clause-told g c =
    let seen = g.W.AbsMem.seen in
    let old = c.args.talk.now in
    let failed = fails_on seen old c.read_text.new.talk c.run_text.new.talk c.in-Ok.ensures.told c.in-Err-run_text.fault c.in-Err-run_text.ensures.told in
    reasoned_told seen old c.run_text.new.talk c.in-Err-run_text.fault c.reasoned-in-Err-run_text.result c.reasoned-in-Err-run_text.ensures failed

pub returns-in-Ok-fetch_changes-clause-told : goal.returns-in-Ok-fetch_changes-clause-told
returns-in-Ok-fetch_changes-clause-told g c =
    let seen = g.W.AbsMem.seen in
    let old = c.args.talk.now in
    keeps_on seen old c.run_text.new.talk c.fetch_changes.new.talk (keeps_on seen old c.read_text.new.talk c.run_text.new.talk c.in-Ok.ensures.told c.in-Ok-run_text.ensures.told) c.in-Ok-fetch_changes.ensures.told

pub returns-clause-told : goal.returns-clause-told
returns-clause-told g c =
    let seen = g.W.AbsMem.seen in
    let old = c.args.talk.now in
    let ran = keeps_on seen old c.read_text.new.talk c.run_text.new.talk c.in-Ok.ensures.told c.in-Ok-run_text.ensures.told in
    let failed = fails_on seen old c.run_text.new.talk c.fetch_changes.new.talk ran c.in-Err-fetch_changes.fault c.in-Err-fetch_changes.ensures.told in
    reasoned_told seen old c.fetch_changes.new.talk c.in-Err-fetch_changes.fault c.reasoned-in-Err-fetch_changes.result c.reasoned-in-Err-fetch_changes.ensures failed
