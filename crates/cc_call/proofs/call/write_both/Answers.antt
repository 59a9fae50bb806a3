use Rattle.std.proofs.Common.{◌∙◌, List, ℕ, inl, refl, ap, subst}
use Rattle.obj_file.specs.Image.{image_bytes}
use Rattle.cc_call.specs.Words.{seen}
use Rattle.cc_call.specs.Outcome.{with_file, IsWrittenPart}
use Rattle.cc_call.proofs.Outcomes.{stage_first, stage_second}
use Rattle.cc_call.proofs.call.write_both.Goals as goal

pub returns-in-Err-clause-writes : goal.returns-in-Err-clause-writes
returns-in-Err-clause-writes g c = λ known h. inl (refl, (known, h, inl refl))

pub returns-in-Err-write_file-clause-writes : goal.returns-in-Err-write_file-clause-writes
returns-in-Err-write_file-clause-writes g c = λ known h.
    let part = subst (λ (b : List ℕ). IsWrittenPart c.args.request.now.image.now b (g.F.Files.held c.args.files.now) (g.F.Files.held c.write_file.new.files)) (c.deref.ensures.value ∙ c.in-Ok.ensures) c.in-Err-write_file.ensures.err in
    inl (refl, stage_first (seen c.args.request.now) (image_bytes c.args.built.now.image) c.args.built.now.table known _ _ h part)

pub returns-in-Err-write_file-2-clause-writes : goal.returns-in-Err-write_file-2-clause-writes
returns-in-Err-write_file-2-clause-writes g c = λ known h.
    let r = seen c.args.request.now in
    let first = c.in-Ok-write_file.ensures.ok ∙ (ap (λ b. with_file r.image b (g.F.Files.held c.args.files.now)) (c.deref.ensures.value ∙ c.in-Ok.ensures) ∙ ap (with_file r.image (image_bytes c.args.built.now.image)) h) in
    let part = subst (λ (b : List ℕ). IsWrittenPart c.args.request.now.table.now b (g.F.Files.held c.write_file.new.files) (g.F.Files.held c.write_file-2.new.files)) c.as_bytes.ensures c.in-Err-write_file-2.ensures.err in
    inl (refl, stage_second r (image_bytes c.args.built.now.image) c.args.built.now.table known _ _ first part)
