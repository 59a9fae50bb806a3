use Rattle.std.proofs.lemmas.Result.{on_ok_weaker}
use Rattle.ps_emit.proofs.Followed.{labelled}
use Rattle.ps_emit.specs.Places.{label_front}
use Rattle.ps_emit.proofs.places.add_label.Goals as goal

pub returns : goal.returns
returns c =
    rw (← c.as_bytes.ensures)
    (on_ok_weaker c.append.result
    (labelled c.args.text.now c.push.new.self c.add_label_front.new.text c.add_bytes.new.text c.append.new.self (label_front c.args.units.now c.args.o.now) c.as_bytes.result.now
    c.in_ok-push.ensures.ok c.in_ok-add_label_front.ensures c.in_ok-add_bytes.ensures)
    c.append.ensures.ok)
