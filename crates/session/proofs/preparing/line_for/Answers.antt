use Rattle.std.proofs.Common.{◌≤◌, arith}
use Rattle.session.specs.declared.replies.TheConstants.{EVENT_ROOM}
use Rattle.session.proofs.Meeting.{more_fit, met_fits, line_fits}
use Rattle.session.proofs.preparing.line_for.Goals as goal

pub returns : goal.returns
returns c =
    let side = c.args.side.now in
    let s = side.inquiry.core.store in
    let breaks = c.room_for-breaks in
    let steps = c.room_for-steps in
    let all = c.room_for_kept-room in
    let least : EVENT_ROOM ≤ all.result = omega (arith, steps.ensures.other, all.ensures.least) in
    let stops = more_fit s breaks.result all.result _ _ c.as_slice.ensures.value (omega (arith, steps.ensures.least, all.ensures.least)) breaks.ensures.each in
    let words = more_fit s steps.result all.result _ _ c.as_slice-2.ensures.value all.ensures.least steps.ensures.each in
    let fits = met_fits s all.result side.row.breaks.items side.row.step_words.items side.row.kept least stops words (all.ensures.kept steps.ensures.other) in
    line_fits side all.result c.with_room.result fits c.with_room.ensures.empty c.with_room.ensures.room
