use Rattle.std.proofs.Common.{◌∙◌}
use Rattle.session.proofs.Rooms.{adds_both, adds_same}
use Rattle.session.proofs.replies.add_event.Goals as goal

pub returns-in-Pauses-clause-adds : goal.returns-in-Pauses-clause-adds
returns-in-Pauses-clause-adds c = rw c.in-Pauses.is (adds_both c.add.ensures c.add_word.ensures)

pub returns-in-Faults-clause-adds : goal.returns-in-Faults-clause-adds
returns-in-Faults-clause-adds c =
    let fault = adds_same c.add-in-Faults-2.ensures (c.as_bytes.ensures.value ∙ c.fault_text.ensures) in
    rw c.in-Faults.is (adds_both c.add-in-Faults.ensures (adds_both fault (adds_both c.add-in-Faults-3.ensures c.add_word-in-Faults.ensures)))
