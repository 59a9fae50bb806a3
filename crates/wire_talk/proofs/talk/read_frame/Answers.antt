use Rattle.std.proofs.Common.{◌≡◌, ◌∙◌, sym, ap, subst, refl, ℕ, List, [], ◌++◌, length, ◌<◌, ◌≤◌, arith, length-append}
use Rattle.nub_wire.specs.Delivery.{World}
use Rattle.nub_wire.specs.Feeding.{IsPartial}
use Rattle.nub_wire.specs.Calls.{took_on, gave_on}
use Rattle.nub_wire.specs.Exchange.{got_on}
use Rattle.nub_wire.specs.Told.{took_by}
use Rattle.wire_talk.specs.Talk.{HeardOn}
use Rattle.wire_talk.proofs.Reading.{partial_nil, partial_short, heard_nothing, heard_more, heard_silent, heard_no_frame, told_more, told_silent, not_yet, whole, none, nothing_in, joined_is}
use Rattle.wire_talk.proofs.talk.read_frame.Goals as goal

pub pieces-init : goal.pieces-init
pieces-init g c =
    let e : c.new-frame.result.items ≡ [] = c.new-frame.ensures in
    record {
      calls = heard_nothing (took_on g.L.Link.took c.args.side) (gave_on g.L.Link.gave c.args.side) c.args.link.now c.new-frame.result.items e;
      told = λ (w : World) is. (w, is, heard_nothing (took_by c.args.side) (got_on g.L.Link.conduct c.args.side) w c.new-frame.result.items e);
      faults = refl;
      held = ap (λ x. x.held) c.new-feeder.ensures ∙ sym e;
      good = ap (λ x. x.is_bad) c.new-feeder.ensures;
      partial = subst IsPartial (sym e) partial_nil;
    }

pub returns-then-is_empty-clause-calls : goal.returns-then-is_empty-clause-calls
returns-then-is_empty-clause-calls g c =
    let i = c.pieces.invariant in
    let short : length c.pieces.frame.items < 1027 = partial_short c.pieces.frame.items i.partial in
    let some : 1 ≤ c.min-most.result = omega (arith, short, c.to_come.ensures.some, c.min-most.ensures, c.len.ensures.value) in
    heard_silent (took_on g.L.Link.took c.args.side) (gave_on g.L.Link.gave c.args.side) c.args.link.now c.pieces.link c.next_piece.new.link c.pieces.frame.items c.in-Ok.piece.items c.new.result.items c.min-most.result
    i.calls i.partial some c.in-Ok.ensures.call (nothing_in c.in-Ok.piece.items (sym c.is_empty.ensures ∙ c.if-is_empty.true)) c.new.ensures

pub returns-then-is_empty-clause-told : goal.returns-then-is_empty-clause-told
returns-then-is_empty-clause-told g c = λ (w : World) is.
    let i = c.pieces.invariant in
    let short : length c.pieces.frame.items < 1027 = partial_short c.pieces.frame.items i.partial in
    let some : 1 ≤ c.min-most.result = omega (arith, short, c.to_come.ensures.some, c.min-most.ensures, c.len.ensures.value) in
    told_silent g.L.Link.conduct c.args.side w c.pieces.frame.items c.in-Ok.piece.items c.new.result.items c.min-most.result (g.L.Link.world c.pieces.link) (g.L.Link.world c.next_piece.new.link)
    (i.told w is) i.partial some c.in-Ok.ensures.world (nothing_in c.in-Ok.piece.items (sym c.is_empty.ensures ∙ c.if-is_empty.true)) c.new.ensures

pub append-requires : goal.append-requires
append-requires g c =
    let short : length c.pieces.frame.items < 1027 = partial_short c.pieces.frame.items c.pieces.invariant.partial in
    omega (arith, short, c.in-Ok.ensures.bound, c.min-most.ensures, c.len.ensures.value, ap length c.as_slice-bytes.ensures.value)

pub pieces-preserved : goal.pieces-preserved
pieces-preserved g c =
    let i = c.pieces.invariant in
    let short : length c.pieces.frame.items < 1027 = partial_short c.pieces.frame.items i.partial in
    let some : 1 ≤ c.min-most.result = omega (arith, short, c.to_come.ensures.some, c.min-most.ensures, c.len.ensures.value) in
    let piece : c.append.new.frame.items ≡ c.pieces.frame.items ++ c.in-Ok.piece.items = c.append.ensures ∙ joined_is c.pieces.frame.items _ _ c.as_slice-bytes.ensures.value in
    let p = not_yet c.pieces.feeder c.feed.new.self c.as_slice-bytes.result.now c.pieces.frame.items c.append.new.frame.items i.good i.held c.append.ensures c.in-NotYet.ensures in
    record {
      calls = heard_more (took_on g.L.Link.took c.args.side) (gave_on g.L.Link.gave c.args.side) c.args.link.now c.pieces.link c.next_piece.new.link c.pieces.frame.items c.in-Ok.piece.items c.append.new.frame.items c.min-most.result i.calls i.partial some c.in-Ok.ensures.call piece;
      told = λ (w : World) is.
          told_more g.L.Link.conduct c.args.side w c.pieces.frame.items c.in-Ok.piece.items c.append.new.frame.items c.min-most.result (g.L.Link.world c.pieces.link) (g.L.Link.world c.next_piece.new.link)
          (i.told w is) i.partial some c.in-Ok.ensures.world piece;
      faults = c.in-Ok.ensures.cause ∙ i.faults;
      held = p.held;
      good = p.good;
      partial = p.partial;
    }

pub returns-in-BadFrame-clause-calls : goal.returns-in-BadFrame-clause-calls
returns-in-BadFrame-clause-calls g c =
    let i = c.pieces.invariant in
    let short : length c.pieces.frame.items < 1027 = partial_short c.pieces.frame.items i.partial in
    let some : 1 ≤ c.min-most.result = omega (arith, short, c.to_come.ensures.some, c.min-most.ensures, c.len.ensures.value) in
    let piece : c.append.new.frame.items ≡ c.pieces.frame.items ++ c.in-Ok.piece.items = c.append.ensures ∙ joined_is c.pieces.frame.items _ _ c.as_slice-bytes.ensures.value in
    let fits : length c.append.new.frame.items ≤ 1027 = omega (arith, short, ap length piece, length-append c.pieces.frame.items c.in-Ok.piece.items, c.in-Ok.ensures.bound, c.min-most.ensures, c.len.ensures.value) in
    let n = none c.pieces.feeder c.feed.new.self c.as_slice-bytes.result.now c.in-BadFrame.at c.pieces.frame.items c.append.new.frame.items i.good i.held c.append.ensures c.in-BadFrame.ensures in
    heard_no_frame (took_on g.L.Link.took c.args.side) (gave_on g.L.Link.gave c.args.side) c.args.link.now c.next_piece.new.link c.append.new.frame.items
    (heard_more (took_on g.L.Link.took c.args.side) (gave_on g.L.Link.gave c.args.side) c.args.link.now c.pieces.link c.next_piece.new.link c.pieces.frame.items c.in-Ok.piece.items c.append.new.frame.items c.min-most.result i.calls i.partial some c.in-Ok.ensures.call piece)
    fits n

pub returns-in-BadFrame-clause-told : goal.returns-in-BadFrame-clause-told
returns-in-BadFrame-clause-told g c = λ (w : World) is.
    let i = c.pieces.invariant in
    let short : length c.pieces.frame.items < 1027 = partial_short c.pieces.frame.items i.partial in
    let some : 1 ≤ c.min-most.result = omega (arith, short, c.to_come.ensures.some, c.min-most.ensures, c.len.ensures.value) in
    let piece : c.append.new.frame.items ≡ c.pieces.frame.items ++ c.in-Ok.piece.items = c.append.ensures ∙ joined_is c.pieces.frame.items _ _ c.as_slice-bytes.ensures.value in
    let fits : length c.append.new.frame.items ≤ 1027 = omega (arith, short, ap length piece, length-append c.pieces.frame.items c.in-Ok.piece.items, c.in-Ok.ensures.bound, c.min-most.ensures, c.len.ensures.value) in
    let n = none c.pieces.feeder c.feed.new.self c.as_slice-bytes.result.now c.in-BadFrame.at c.pieces.frame.items c.append.new.frame.items i.good i.held c.append.ensures c.in-BadFrame.ensures in
    let t = told_more g.L.Link.conduct c.args.side w c.pieces.frame.items c.in-Ok.piece.items c.append.new.frame.items c.min-most.result (g.L.Link.world c.pieces.link) (g.L.Link.world c.next_piece.new.link)
    (i.told w is) i.partial some c.in-Ok.ensures.world piece in
    (t.0, t.1, heard_no_frame (took_by c.args.side) (got_on g.L.Link.conduct c.args.side) w t.0 c.append.new.frame.items t.2 fits n)

pub returns-in-Msg-clause-calls : goal.returns-in-Msg-clause-calls
returns-in-Msg-clause-calls g c =
    let i = c.pieces.invariant in
    let short : length c.pieces.frame.items < 1027 = partial_short c.pieces.frame.items i.partial in
    let some : 1 ≤ c.min-most.result = omega (arith, short, c.to_come.ensures.some, c.min-most.ensures, c.len.ensures.value) in
    let piece : c.append.new.frame.items ≡ c.pieces.frame.items ++ c.in-Ok.piece.items = c.append.ensures ∙ joined_is c.pieces.frame.items _ _ c.as_slice-bytes.ensures.value in
    let short_piece : length c.as_slice-bytes.result.now ≤ c.to_come.result = omega (arith, c.in-Ok.ensures.bound, c.min-most.ensures, ap length c.as_slice-bytes.ensures.value) in
    let x = whole c.pieces.feeder c.feed.new.self c.as_slice-bytes.result.now c.in-Msg.used c.to_come.result c.in-Msg.msg c.pieces.frame.items c.append.new.frame.items i.good i.held c.append.ensures c.to_come.ensures.sooner short_piece c.in-Msg.ensures in
    subst (λ (l : List ℕ). HeardOn (took_on g.L.Link.took c.args.side) (gave_on g.L.Link.gave c.args.side) c.args.link.now l c.next_piece.new.link) x.is
    (heard_more (took_on g.L.Link.took c.args.side) (gave_on g.L.Link.gave c.args.side) c.args.link.now c.pieces.link c.next_piece.new.link c.pieces.frame.items c.in-Ok.piece.items c.append.new.frame.items c.min-most.result i.calls i.partial some c.in-Ok.ensures.call piece)

pub returns-in-Msg-clause-told : goal.returns-in-Msg-clause-told
returns-in-Msg-clause-told g c = λ (w : World) is.
    let i = c.pieces.invariant in
    let short : length c.pieces.frame.items < 1027 = partial_short c.pieces.frame.items i.partial in
    let some : 1 ≤ c.min-most.result = omega (arith, short, c.to_come.ensures.some, c.min-most.ensures, c.len.ensures.value) in
    let piece : c.append.new.frame.items ≡ c.pieces.frame.items ++ c.in-Ok.piece.items = c.append.ensures ∙ joined_is c.pieces.frame.items _ _ c.as_slice-bytes.ensures.value in
    let short_piece : length c.as_slice-bytes.result.now ≤ c.to_come.result = omega (arith, c.in-Ok.ensures.bound, c.min-most.ensures, ap length c.as_slice-bytes.ensures.value) in
    let x = whole c.pieces.feeder c.feed.new.self c.as_slice-bytes.result.now c.in-Msg.used c.to_come.result c.in-Msg.msg c.pieces.frame.items c.append.new.frame.items i.good i.held c.append.ensures c.to_come.ensures.sooner short_piece c.in-Msg.ensures in
    let t = told_more g.L.Link.conduct c.args.side w c.pieces.frame.items c.in-Ok.piece.items c.append.new.frame.items c.min-most.result (g.L.Link.world c.pieces.link) (g.L.Link.world c.next_piece.new.link)
    (i.told w is) i.partial some c.in-Ok.ensures.world piece in
    (t.0, t.1, subst (λ (l : List ℕ). HeardOn (took_by c.args.side) (got_on g.L.Link.conduct c.args.side) w l t.0) x.is t.2)

pub returns-in-Msg-clause-fits : goal.returns-in-Msg-clause-fits
returns-in-Msg-clause-fits g c =
    let i = c.pieces.invariant in
    let short_piece : length c.as_slice-bytes.result.now ≤ c.to_come.result = omega (arith, c.in-Ok.ensures.bound, c.min-most.ensures, ap length c.as_slice-bytes.ensures.value) in
    (whole c.pieces.feeder c.feed.new.self c.as_slice-bytes.result.now c.in-Msg.used c.to_come.result c.in-Msg.msg c.pieces.frame.items c.append.new.frame.items i.good i.held c.append.ensures c.to_come.ensures.sooner short_piece c.in-Msg.ensures).fits
