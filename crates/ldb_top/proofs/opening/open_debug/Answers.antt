use Rattle.std.proofs.Common.{ℕ, List, [], ◌∷◌, ◌∙◌, Some, inr, sym, ap, subst}
use Rattle.std.specs.FinMap as files
use Rattle.ldb_top.specs.Files.{IsRead}
use Rattle.ldb_top.proofs.Fronted.{all_on}
use Rattle.ldb_top.proofs.Opened.{debug_opens}
use Rattle.ldb_top.proofs.Stopped.{read_on, debug_ends}
use Rattle.ldb_top.proofs.opening.open_debug.Goals as goal

pub returns-in-Err-clause-cause : goal.returns-in-Err-clause-cause
returns-in-Err-clause-cause g c = inr (c.in-Err.ensures.cause c.args.request.now.input.now)

pub returns-in-Err-read_file-clause-cause : goal.returns-in-Err-read_file-clause-cause
returns-in-Err-read_file-clause-cause g c =
    inr (read_on _ c.args.request.now.input.now _ _ _ c.in-Err-read_file.stop c.in-Ok.ensures.cause (c.in-Err-read_file.ensures.cause c.args.request.now.input.now))

pub returns-in-Ok-read_input-clause-cause : goal.returns-in-Ok-read_input-clause-cause
returns-in-Ok-read_input-clause-cause g c =
    debug_ends _ c.args.request.now.input.now _ _ _ _ _ c.open_image.result c.open_image.ensures (c.in-Ok-read_input.ensures.cause ∙ (c.in-Ok-read_file.ensures.cause ∙ c.in-Ok.ensures.cause))

pub returns-in-Ok-read_input-clause-opens : goal.returns-in-Ok-read_input-clause-opens
returns-in-Ok-read_input-clause-opens g c = λ known h.
    let request = c.args.request.now in
    let image = c.in-Ok.ensures.finds known h in
    let table = c.in-Ok-read_file.ensures.finds known (c.in-Ok.ensures.same ∙ h) in
    let input = c.in-Ok-read_input.ensures.finds known (c.in-Ok-read_file.ensures.same ∙ (c.in-Ok.ensures.same ∙ h)) in
    debug_opens request.image.now request.table.now request.input.now request.output.now known c.deref.result.now c.deref-in-Ok-read_input.result.now c.deref-in-Ok-read_input-2.result.now c.open_image.result
    (all_on known (request.image.now ∷ []) (request.table.now ∷ []) image.0 ∙ table.0) (subst (λ (xs : List ℕ). IsRead 17825812 (files.get known request.image.now) xs) (sym c.deref.ensures.value) image.1)
    (subst (λ (xs : List ℕ). IsRead 16777216 (files.get known request.table.now) xs) (sym c.deref-in-Ok-read_input.ensures.value) table.1) input.0 input.1 (input.2 ∙ ap Some (sym c.deref-in-Ok-read_input-2.ensures.value)) c.open_image.ensures
