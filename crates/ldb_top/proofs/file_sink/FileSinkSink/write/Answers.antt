use Rattle.std.proofs.Common.{◌≡◌, ◌∙◌, take, Err, ap, refl}
use Rattle.std.proofs.Math.Logic.{∥∥₁_elim, ∥∥₁_map}
use Rattle.ldb_edge.specs.declared.outside.FileErr.TheVariants.{Absent}
use Rattle.ldb_top.proofs.Kept.{others_appended, taken_appended, rose_at}
use Rattle.ldb_top.proofs.file_sink.FileSinkSink.write.Goals as goal

pub invariant_of-self : goal.invariant_of-self
invariant_of-self g c = record { created = ∥∥₁_map c.args.self.now.created (λ made. c.append.ensures.keeps_created c.args.self.now.name.now made) }

pub returns-in-Ok-clause-bytes : goal.returns-in-Ok-clause-bytes
returns-in-Ok-clause-bytes g c = taken_appended c.args.self.now.name.now (take c.in-Ok.count c.args.piece.now) (g.F.Files.held c.args.self.now.files.now) (g.F.Files.held c.append.new.self) c.in-Ok.ensures.there c.in-Ok.ensures.ok

pub returns-in-Ok-clause-leads : goal.returns-in-Ok-clause-leads
returns-in-Ok-clause-leads g c = (refl, refl, λ start k. others_appended c.args.self.now.name.now c.args.piece.now start (g.F.Files.held c.args.self.now.files.now) (g.F.Files.held c.append.new.self) c.append.result k c.append.ensures.ok c.append.ensures.err, c.append.ensures.keeps_created, c.append.ensures.read_cause)

pub returns-in-Err-clause-failed : goal.returns-in-Err-clause-failed
returns-in-Err-clause-failed g c =
    let there : c.in-Err.field-0 ≡ Absent → ⊥ = λ e. ∥∥₁_elim c.args.self.now.created (λ p q. absurd p) (λ made. c.append.ensures.never_absent made (c.in-Err.is ∙ ap Err e)) in
    rose_at _ _ c.in-Err.field-0 there c.in-Err.ensures.write_cause
