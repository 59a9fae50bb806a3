use Rattle.std.proofs.Common.{◌≡◌, true, subst, inl, inr}
use Rattle.ldb_top.specs.Ahead.{lines_of}
use Rattle.ldb_top.specs.Behind.{LeftByAll}
use Rattle.ldb_top.specs.Comes.{outside}
use Rattle.ldb_top.specs.Late.{EndsAs}
use Rattle.ldb_top.specs.Output.{is_there}
use Rattle.ldb_top.proofs.Come.{served_late, late_so, on_ok}
use Rattle.ldb_top.proofs.Growing.{takes_begins}
use Rattle.ldb_top.proofs.program.run.Goals as goal

pub returns-in-Ok-Late-clause-served : goal.returns-in-Ok-Late-clause-served
returns-in-Ok-Late-clause-served g c =
    served_late (outside (g.F.Files.held c.args.files.now) (g.C.Source.left c.args.commands.now) (g.S.Sink.taken c.args.transcript.now))
    (outside (g.F.Files.held c.serve.new.files) (g.C.Source.left c.serve.new.commands) (g.S.Sink.taken c.say.new.transcript)) (g.S.Sink.taken c.serve.new.transcript) c.say.result
    (subst (EndsAs (lines_of (g.C.Source.left c.args.commands.now))) c.in-Ok-Late.field-0-is c.in-Ok-Late.ensures.ends) (takes_begins _ _ c.serve.ensures.grows) c.say.ensures.outcome c.say.ensures.said

pub returns-in-Ok-Read-clause-served : goal.returns-in-Ok-Read-clause-served
returns-in-Ok-Read-clause-served g c = record {
  short = subst (EndsAs (lines_of (g.C.Source.left c.args.commands.now))) c.in-Ok-Read.field-0-is c.in-Ok-Read.ensures.ends;
  left = subst (LeftByAll (g.C.Source.left c.args.commands.now) (g.C.Source.left c.serve.new.commands)) c.in-Ok-Read.field-0-is c.in-Ok-Read.ensures.left;
}

pub returns-in-Ok-Late-clause-made : goal.returns-in-Ok-Late-clause-made
returns-in-Ok-Late-clause-made g c = on_ok c.say.result (is_there c.args.output.now (g.F.Files.held c.serve.new.files) ≡ true) c.in-Ok-Late.ensures.made

pub returns-in-Ok-Read-clause-so : goal.returns-in-Ok-Read-clause-so
returns-in-Ok-Read-clause-so g c = λ raw st known over w h. c.in-Ok-Read.ensures.so raw st known over w h

pub returns-in-Ok-Late-clause-so : goal.returns-in-Ok-Late-clause-so
returns-in-Ok-Late-clause-so g c = λ raw st known over w h.
    late_so c.args.output.now raw st (outside (g.F.Files.held c.args.files.now) (g.C.Source.left c.args.commands.now) (g.S.Sink.taken c.args.transcript.now))
    (outside (g.F.Files.held c.serve.new.files) (g.C.Source.left c.serve.new.commands) (g.S.Sink.taken c.say.new.transcript)) (g.S.Sink.taken c.serve.new.transcript) c.say.result
    (subst (EndsAs (lines_of (g.C.Source.left c.args.commands.now))) c.in-Ok-Late.field-0-is c.in-Ok-Late.ensures.ends) (c.in-Ok-Late.ensures.so raw st known over w h) c.say.ensures.outcome c.say.ensures.said c.say.ensures.front

pub returns-in-Err-clause-so : goal.returns-in-Err-clause-so
returns-in-Err-clause-so g c = λ raw st known over w h. elim (c.in-Err.ensures.stopped raw st known over w h) [
  | inl none ↦ inl none
  | inr part ↦ inr (inl part)
]

pub returns-in-Ok-Read-clause-grows : goal.returns-in-Ok-Read-clause-grows
returns-in-Ok-Read-clause-grows g c = takes_begins _ _ c.serve.ensures.grows

pub returns-in-Ok-Late-clause-grows : goal.returns-in-Ok-Late-clause-grows
returns-in-Ok-Late-clause-grows g c = λ front b. c.say.ensures.grows front (takes_begins _ _ c.serve.ensures.grows front b)

pub returns-in-Err-clause-grows : goal.returns-in-Err-clause-grows
returns-in-Err-clause-grows g c = takes_begins _ _ c.serve.ensures.grows
