use Rattle.std.proofs.Common.{◌≡◌, ◌∙◌, ap, sym, subst, refl, Ok, Err, take}
use Rattle.ldb_edge.specs.Known.{known_and}
use Rattle.session.specs.declared.answers.Answer.{Answer}
use Rattle.session.specs.declared.answers.End.TheVariants as end
use Rattle.ldb_top.specs.Ahead.{line_and}
use Rattle.ldb_top.specs.Conversing.{here, IsAnswer, IsPart}
use Rattle.ldb_top.specs.Output.{held_under}
use Rattle.ldb_top.proofs.Conversations.{answered_so, quit_so, if_line}
use Rattle.ldb_top.proofs.Broken.{reply_part, fault_part, if_front}
use Rattle.ldb_top.proofs.Lates.{follows_reply}
use Rattle.ldb_top.proofs.serving.serve_line.Goals as goal

pub returns-in-Ok-clause-follows : goal.returns-in-Ok-clause-follows
returns-in-Ok-clause-follows g c = follows_reply c.args.line.now c.reply.result (λ q. (let e : c.answered.result ≡ Err end.Quit = c.answered.ensures.quits.1 q in let is = c.in-Ok.is in cc)) c.reply.ensures.next

pub returns-in-Ok-clause-so : goal.returns-in-Ok-clause-so
returns-in-Ok-clause-so g c = λ raw st lines over put.
    let taken = g.S.Sink.taken c.args.transcript.now in
    let taken' = g.S.Sink.taken c.reply.new.transcript in
    let out = held_under (g.F.Files.held c.args.files.now) c.args.output.now in
    let out' = held_under (g.F.Files.held c.answered.new.files) c.args.output.now in
    let is = subst (IsAnswer raw st c.args.line.now c.answered.new.session out') c.in-Ok.is (c.answered.ensures.answer raw st over put) in
    if_line raw st (here (line_and c.args.line.now lines) taken out) c.answered.new.session (here lines taken' out') c.bytes_of.result.now taken taken' c.reply.result c.reply.ensures.next c.reply.ensures.told (λ told.
    answered_so raw st c.answered.new.session c.args.line.now lines taken taken' out out' c.in-Ok.answer is (told ∙ ap (known_and taken) c.bytes_of.ensures))

pub returns-in-Ok-clause-part : goal.returns-in-Ok-clause-part
returns-in-Ok-clause-part g c = λ raw st lines over put.
    let taken = g.S.Sink.taken c.args.transcript.now in
    let taken' = g.S.Sink.taken c.reply.new.transcript in
    let out = held_under (g.F.Files.held c.args.files.now) c.args.output.now in
    let out' = held_under (g.F.Files.held c.answered.new.files) c.args.output.now in
    let is = subst (IsAnswer raw st c.args.line.now c.answered.new.session out') c.in-Ok.is (c.answered.ensures.answer raw st over put) in
    if_front c.reply.result c.bytes_of.result.now taken taken' (λ fault. IsPart fault raw st (here (line_and c.args.line.now lines) taken out) taken' out') c.reply.ensures.fault c.reply.ensures.front (λ n told.
    reply_part raw st c.answered.new.session c.args.line.now lines taken taken' out out' n c.in-Ok.answer is (told ∙ ap (λ t. known_and taken (take n t)) c.bytes_of.ensures))

pub returns-in-Err-Quit-clause-so : goal.returns-in-Err-Quit-clause-so
returns-in-Err-Quit-clause-so g c = λ raw st lines over put.
    let taken = g.S.Sink.taken c.args.transcript.now in
    let out = held_under (g.F.Files.held c.args.files.now) c.args.output.now in
    let out' = held_under (g.F.Files.held c.answered.new.files) c.args.output.now in
    let is = subst (IsAnswer raw st c.args.line.now c.answered.new.session out') (c.in-Err-Quit.is ∙ ap Err c.in-Err-Quit.field-0-is) (c.answered.ensures.answer raw st over put) in
    quit_so raw st c.args.line.now lines taken out out' is

pub returns-in-Err-OutFault-clause-part : goal.returns-in-Err-OutFault-clause-part
returns-in-Err-OutFault-clause-part g c = λ raw st lines over put.
    let taken = g.S.Sink.taken c.args.transcript.now in
    let out = held_under (g.F.Files.held c.args.files.now) c.args.output.now in
    let out' = held_under (g.F.Files.held c.answered.new.files) c.args.output.now in
    let is = subst (IsAnswer raw st c.args.line.now c.answered.new.session out') (c.in-Err-OutFault.is ∙ ap Err c.in-Err-OutFault.field-0-is) (c.answered.ensures.answer raw st over put) in
    fault_part raw st c.answered.new.session c.args.line.now lines taken taken out out' is refl
