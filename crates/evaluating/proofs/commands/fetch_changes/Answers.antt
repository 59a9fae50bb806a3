use Rattle.evaluating.proofs.Keeping.{keeps_on, fails_on}
use Rattle.evaluating.proofs.commands.fetch_changes.Goals as goal

pub returns-in-Err-right_side-clause-told : goal.returns-in-Err-right_side-clause-told
returns-in-Err-right_side-clause-told g c = fails_on g.W.AbsMem.seen c.args.talk.now c.check_writable.new.talk c.right_side.new.talk c.in-Ok-check_writable.ensures.told c.in-Err-right_side.fault c.in-Err-right_side.ensures.told

pub returns-in-Err-fetch_leaves-clause-told : goal.returns-in-Err-fetch_leaves-clause-told
returns-in-Err-fetch_leaves-clause-told g c =
    let seen = g.W.AbsMem.seen in
    let old = c.args.talk.now in
    fails_on seen old c.right_side.new.talk c.fetch_leaves.new.talk (keeps_on seen old c.check_writable.new.talk c.right_side.new.talk c.in-Ok-check_writable.ensures.told c.in-Ok-right_side.ensures.told) c.in-Err-fetch_leaves.fault c.in-Err-fetch_leaves.ensures.told

pub returns-in-Ok-leavings-clause-told : goal.returns-in-Ok-leavings-clause-told
returns-in-Ok-leavings-clause-told g c =
    let seen = g.W.AbsMem.seen in
    let old = c.args.talk.now in
    keeps_on seen old c.right_side.new.talk c.fetch_leaves.new.talk (keeps_on seen old c.check_writable.new.talk c.right_side.new.talk c.in-Ok-check_writable.ensures.told c.in-Ok-right_side.ensures.told) c.in-Ok-fetch_leaves.ensures.told

pub returns-clause-told : goal.returns-clause-told
returns-clause-told g c =
    let seen = g.W.AbsMem.seen in
    let old = c.args.talk.now in
    keeps_on seen old c.right_side.new.talk c.fetch_leaves.new.talk (keeps_on seen old c.check_writable.new.talk c.right_side.new.talk c.in-Ok-check_writable.ensures.told c.in-Ok-right_side.ensures.told) c.in-Ok-fetch_leaves.ensures.told
