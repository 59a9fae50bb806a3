use Rattle.std.proofs.Common.{◌≡◌, false, [], refl, subst, rules}
use Rattle.ldb_top.specs.declared.lines.LineEnd.{LineEnd}
use Rattle.ldb_top.specs.Ahead.{ahead, lines_if, before_line}
use Rattle.ldb_top.specs.Output.{held_under}
use Rattle.ldb_top.proofs.Conversations.{whole_so, ended_last}
use Rattle.ldb_top.proofs.Broken.{here_part, whole_part, last_part}
use Rattle.ldb_top.proofs.serving.serve_next.Goals as goal

pub returns-in-Ok-clause-causes : goal.returns-in-Ok-clause-causes
returns-in-Ok-clause-causes g c =
    let served = c.in-Ok.ensures.causes 0 in
    record { reading = served.reading; writing = served.writing; commands = c.in-Ok-Last.ensures.cause; transcript = served.transcript }

pub returns-in-Ok-Whole-clause-so : goal.returns-in-Ok-Whole-clause-so
returns-in-Ok-Whole-clause-so g c = λ raw st over put.
    let left = g.C.Source.left c.next_line.new.commands in
    let after = ahead c.next_line.new.room [] left in
    whole_so raw st _ c.next_line.new.line.items _ _ after _ _ _ _ (c.serve_line.ensures.so raw st after over put)
    (subst (λ (k : LineEnd). ahead c.args.room.now [] (g.C.Source.left c.args.commands.now) ≡ before_line k c.next_line.new.line.items c.next_line.new.room left) c.in-Ok-Whole.field-0-is c.in-Ok-Whole.ensures.line) (search rules)

pub returns-in-Ok-clause-so : goal.returns-in-Ok-clause-so
returns-in-Ok-clause-so g c = λ raw st over put.
    let left = g.C.Source.left c.next_line.new.commands in
    ended_last raw st _ c.next_line.new.line.items _ _ left _ _ _ _ _ (c.in-Ok.ensures.so raw st (lines_if left ([], false)) over put)
    (subst (λ (k : LineEnd). ahead c.args.room.now [] (g.C.Source.left c.args.commands.now) ≡ before_line k c.next_line.new.line.items c.next_line.new.room left) c.in-Ok-Last.field-0-is c.in-Ok-Last.ensures.line) (search rules)

pub returns-in-Err-clause-part : goal.returns-in-Err-clause-part
returns-in-Err-clause-part g c = λ raw st over put.
    let taken = g.S.Sink.taken c.args.transcript.now in
    let out = held_under (g.F.Files.held c.args.files.now) c.args.output.now in
    here_part c.in-Err.fault raw st (ahead c.args.room.now [] (g.C.Source.left c.args.commands.now)) taken out taken out refl put

pub returns-in-Ok-Whole-clause-part : goal.returns-in-Ok-Whole-clause-part
returns-in-Ok-Whole-clause-part g c = λ raw st over put.
    let left = g.C.Source.left c.next_line.new.commands in
    let before = ahead c.args.room.now [] (g.C.Source.left c.args.commands.now) in
    let after = ahead c.next_line.new.room [] left in
    let taken = g.S.Sink.taken c.args.transcript.now in
    let out = held_under (g.F.Files.held c.args.files.now) c.args.output.now in
    let line = c.next_line.new.line.items in
    whole_part raw st line c.deref.result.now before after taken out (g.S.Sink.taken c.serve_line.new.transcript) (held_under (g.F.Files.held c.serve_line.new.files) c.args.output.now) c.serve_line.result (c.serve_line.ensures.part raw st after over put)
    (subst (λ (k : LineEnd). before ≡ before_line k line c.next_line.new.room left) c.in-Ok-Whole.field-0-is c.in-Ok-Whole.ensures.line) (search rules)

pub returns-clause-part : goal.returns-clause-part
returns-clause-part g c = λ raw st over put.
    let left = g.C.Source.left c.next_line.new.commands in
    let before = ahead c.args.room.now [] (g.C.Source.left c.args.commands.now) in
    let taken = g.S.Sink.taken c.args.transcript.now in
    let out = held_under (g.F.Files.held c.args.files.now) c.args.output.now in
    let line = c.next_line.new.line.items in
    last_part c.in-Err-serve_line.fault raw st line c.deref-in-Ok-Last.result.now before left taken out (g.S.Sink.taken c.serve_line-in-Ok-Last.new.transcript) (held_under (g.F.Files.held c.serve_line-in-Ok-Last.new.files) c.args.output.now) (c.in-Err-serve_line.ensures.part raw st (lines_if left ([], false)) over put)
    (subst (λ (k : LineEnd). before ≡ before_line k line c.next_line.new.room left) c.in-Ok-Last.field-0-is c.in-Ok-Last.ensures.line) (search rules)
