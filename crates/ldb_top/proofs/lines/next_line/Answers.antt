use Rattle.std.proofs.Common.{rules, ◌≡◌, ◌==◌, ap, Some}
use Rattle.ldb_top.specs.Bytes.{with_byte}
use Rattle.ldb_top.proofs.Behinds.{behind_line, behind_on}
use Rattle.ldb_top.proofs.lines.next_line.Goals as goal

pub returns-then-byte-eq10-clause-left : goal.returns-then-byte-eq10-clause-left
returns-then-byte-eq10-clause-left g c =
    let read : g.C.Source.left c.loop-byte.commands ≡ with_byte (Some c.in-Some.byte) (g.C.Source.left c.read_byte.new.commands) = search rules in
    behind_line c.loop-byte.line.items c.cut_return.new.line.items c.in-Some.byte _ _ _ c.loop-byte.invariant.left read (ap (λ b. b == 10) c.if-byte-eq10.true) c.cut_return.ensures

pub returns-in_err-byte-clause-behind : goal.returns-in_err-byte-clause-behind
returns-in_err-byte-clause-behind g c = behind_on (g.C.Source.left c.args.commands.now) (g.C.Source.left c.loop-byte.commands) (g.C.Source.left c.read_byte.new.commands) c.loop-byte.invariant.behind c.read_byte.ensures.behind

pub returns-then-room-eq0-clause-behind : goal.returns-then-room-eq0-clause-behind
returns-then-room-eq0-clause-behind g c = behind_on (g.C.Source.left c.args.commands.now) (g.C.Source.left c.loop-byte.commands) (g.C.Source.left c.read_byte.new.commands) c.loop-byte.invariant.behind c.read_byte.ensures.behind

pub returns-then-byte-eq10-clause-behind : goal.returns-then-byte-eq10-clause-behind
returns-then-byte-eq10-clause-behind g c = behind_on (g.C.Source.left c.args.commands.now) (g.C.Source.left c.loop-byte.commands) (g.C.Source.left c.read_byte.new.commands) c.loop-byte.invariant.behind c.read_byte.ensures.behind

pub returns-in_err-push-clause-behind : goal.returns-in_err-push-clause-behind
returns-in_err-push-clause-behind g c = behind_on (g.C.Source.left c.args.commands.now) (g.C.Source.left c.loop-byte.commands) (g.C.Source.left c.read_byte.new.commands) c.loop-byte.invariant.behind c.read_byte.ensures.behind

pub loop-byte-preserved : goal.loop-byte-preserved
loop-byte-preserved g c = record {
  lines = search rules;
  left = search rules;
  behind = behind_on (g.C.Source.left c.args.commands.now) (g.C.Source.left c.loop-byte.commands) (g.C.Source.left c.read_byte.new.commands) c.loop-byte.invariant.behind c.read_byte.ensures.behind;
  no_more = search rules;
  counts = search rules;
}
