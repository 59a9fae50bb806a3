use Rattle.std.proofs.Common.{◌-◌, ◌∙◌, ap, length, take, drop}
use Rattle.std.proofs.lemmas.List.{take_rest}
use Rattle.session.specs.Turned.{byte_of}
use Rattle.session.proofs.Looked.{put_counts}
use Rattle.session.proofs.PuttingBack.{break_back, clear_back}
use Rattle.session.proofs.undoing.put_back.Goals as goal

pub returns-then-count-breaks-clause-meant : goal.returns-then-count-breaks-clause-meant
returns-then-count-breaks-clause-meant g c = λ b h beside x same.
    let side = c.args.side.now in
    break_back g.L.Link.conduct g.L.Link.world g.L.Link.faults b side c.args.talk.now c.turn.new.talk c.unplant_all.new.m c.turn.ensures h beside x same c.unplant_all.result (byte_of side.machine) (drop c.args.count side.row.breaks.items) c.args.words.now c.args.command.now _ c.in-Break.is c.byte-target.result (take (length c.as_slice-breaks.result.now - c.args.count) (drop c.args.count c.as_slice-breaks.result.now)) c.byte-target.ensures.value
    (take_rest c.as_slice-breaks.result.now c.args.count ∙ ap (drop c.args.count) c.as_slice-breaks.ensures.value)
    c.unplant_all.ensures.meaning

pub returns-in-Clear-clause-meant : goal.returns-in-Clear-clause-meant
returns-in-Clear-clause-meant g c = λ b h beside x same.
    let side = c.args.side.now in
    clear_back g.L.Link.conduct g.L.Link.world g.L.Link.faults b side c.args.talk.now c.turn-in-Clear.new.talk c.put_words.new.m c.turn-in-Clear.ensures h beside x same c.put_words.result (byte_of side.machine) (drop c.args.count side.row.breaks.items) c.args.words.now c.args.command.now _ c.in-Clear.is c.put_words.ensures

pub returns-then-count-breaks-clause-count : goal.returns-then-count-breaks-clause-count
returns-then-count-breaks-clause-count g c = put_counts g.L.Link.conduct g.L.Link.world g.L.Link.faults c.args.side.now c.args.talk.now c.turn.new.talk c.unplant_all.new.m c.turn.ensures _ c.unplant_all.result c.unplant_all.ensures.meaning

pub returns-else-count-breaks-clause-count : goal.returns-else-count-breaks-clause-count
returns-else-count-breaks-clause-count g c = ap (λ o. g.L.Link.faults o.memory.below.below.below.link) c.turn.ensures

pub returns-in-Clear-clause-count : goal.returns-in-Clear-clause-count
returns-in-Clear-clause-count g c = put_counts g.L.Link.conduct g.L.Link.world g.L.Link.faults c.args.side.now c.args.talk.now c.turn-in-Clear.new.talk c.put_words.new.m c.turn-in-Clear.ensures _ c.put_words.result c.put_words.ensures
