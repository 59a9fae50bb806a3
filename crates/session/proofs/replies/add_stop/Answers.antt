use Rattle.session.proofs.Rooms.{adds_both, adds_same}
use Rattle.session.proofs.replies.add_stop.Goals as goal

pub returns-clause-adds : goal.returns-clause-adds
returns-clause-adds c =
    let file = adds_same c.add-2.ensures c.string_get.ensures in
    let function = adds_same c.add-6.ensures c.string_get-2.ensures in
    let numbers = adds_both c.add-3.ensures (adds_both c.add_number.ensures.adds (adds_both c.add-4.ensures c.add_number-2.ensures.adds)) in
    adds_both c.add.ensures (adds_both (adds_both file numbers) (adds_both c.add-5.ensures function))
