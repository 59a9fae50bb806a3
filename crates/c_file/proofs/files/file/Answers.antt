use Rattle.std.proofs.Common.{Ok, Err, map, sym, subst}
use Rattle.c_file.specs.Files.{AllExternals}
use Rattle.c_file.specs.Looked.{Looks}
use Rattle.c_file.specs.Progress.{GoesOn}
use Rattle.c_mentions.specs.Tags.{now}
use Rattle.c_file.proofs.HeldExternals.{file_looked, file_refused}
use Rattle.c_file.proofs.files.file.Goals as goal

pub returns-in_ok-next-in-Ok : goal.returns-in_ok-next-in-Ok
returns-in_ok-next-in-Ok c =
    file_looked (map now c.args.tags.now) c.args.unit.now.externals c.args.state c.in-Ok.s c.in_ok-next-in-Ok.next
    (subst (λ l. GoesOn (λ p. AllExternals p l) c.args.state (Ok c.in-Ok.s)) c.as_slice.ensures c.in-Ok.ensures) c.in_ok-next-in-Ok.ensures

pub returns-in-Err : goal.returns-in-Err
returns-in-Err c =
    subst (λ f. Looks (map now c.args.tags.now) c.args.unit.now.externals c.args.state (Err f)) (sym c.in_file.ensures)
    (file_refused (map now c.args.tags.now) c.args.unit.now.externals c.args.state c.in-Err.f
    (subst (λ l. GoesOn (λ p. AllExternals p l) c.args.state (Err c.in-Err.f)) c.as_slice.ensures c.in-Err.ensures))
