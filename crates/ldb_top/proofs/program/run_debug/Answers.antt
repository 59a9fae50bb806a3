use Rattle.std.proofs.Common.{◌∙◌, refl, sym, subst}
use Rattle.ldb_top.specs.Output.{OthersKept}
use Rattle.ldb_top.specs.Stops.{IsDebugStop}
use Rattle.ldb_top.proofs.Causing.{stop_causes}
use Rattle.ldb_top.proofs.Stopped.{debug_told, told_missed, debug_no_missing}
use Rattle.ldb_top.specs.Comes.{outside, Served, ServedSo}
use Rattle.ldb_top.specs.Names.{names_in_debug}
use Rattle.ldb_top.specs.Words.{Debug}
use Rattle.ldb_top.proofs.Come.{told_comes, served_comes}
use Rattle.ldb_top.proofs.program.run_debug.Goals as goal

pub returns-in-Err-clause-missed : goal.returns-in-Err-clause-missed
returns-in-Err-clause-missed g c =
    told_missed IsDebugStop (g.F.Files.missed c.open_debug.new.files) (names_in_debug c.args.request.now).input _ _ _ _ c.in-Err.stop c.tell.result debug_no_missing c.in-Err.ensures.cause c.tell.ensures.outcome c.tell.ensures.said

pub returns-in-Err-clause-comes : goal.returns-in-Err-clause-comes
returns-in-Err-clause-comes g c =
    let n = names_in_debug c.args.request.now in
    told_comes Debug n (outside (g.F.Files.held c.args.files.now) (g.C.Source.left c.args.commands.now) (g.S.Sink.taken c.args.transcript.now))
    (outside (g.F.Files.held c.open_debug.new.files) (g.C.Source.left c.args.commands.now) (g.S.Sink.taken c.tell.new.transcript)) c.in-Err.stop c.tell.result c.tell.ensures.outcome c.in-Err.ensures.opens
    (debug_told n _ _ _ c.in-Err.stop c.in-Err.ensures.cause) c.tell.ensures.said c.tell.ensures.front c.in-Err.ensures.same refl

pub returns-in-Ok-clause-comes : goal.returns-in-Ok-clause-comes
returns-in-Ok-clause-comes g c =
    let new = outside (g.F.Files.held c.run.new.files) (g.C.Source.left c.run.new.commands) (g.S.Sink.taken c.run.new.transcript) in
    let served = subst (λ h. Served (outside h (g.C.Source.left c.args.commands.now) (g.S.Sink.taken c.args.transcript.now)) new c.run.result) c.in-Ok.ensures.same c.run.ensures.served in
    served_comes Debug (names_in_debug c.args.request.now) (outside (g.F.Files.held c.args.files.now) (g.C.Source.left c.args.commands.now) (g.S.Sink.taken c.args.transcript.now)) new c.in-Ok.session c.run.result
    c.in-Ok.ensures.opens served c.run.ensures.made
    (λ raw st known over w h. subst (λ held. ServedSo c.args.request.now.output.now raw st (outside held (g.C.Source.left c.args.commands.now) (g.S.Sink.taken c.args.transcript.now)) new c.run.result) c.in-Ok.ensures.same (c.run.ensures.so raw st known over w (c.in-Ok.ensures.same ∙ h))) c.run.ensures.behind

pub returns-in-Ok-clause-kept : goal.returns-in-Ok-clause-kept
returns-in-Ok-clause-kept g c = λ start k. c.run.ensures.kept start (subst (λ h. OthersKept c.args.request.now.output.now start h) (sym c.in-Ok.ensures.same) k)

pub returns-in-Err-clause-causes : goal.returns-in-Err-clause-causes
returns-in-Err-clause-causes g c =
    let n = names_in_debug c.args.request.now in
    stop_causes _ _ _ _ _ _ _ c.in-Err.ensures.write_faults IsDebugStop (g.F.Files.missed c.open_debug.new.files) n.input c.in-Err.stop c.tell.result (λ x. x) c.in-Err.ensures.cause c.tell.ensures.outcome c.tell.ensures.cause
