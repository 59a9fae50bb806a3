use Rattle.std.proofs.Common.{ℕ, ◌≤◌, List, [], ◌∷◌, ◌∙◌, Some, inr, length, map, string_bytes, refl, sym, ap, subst}
use Rattle.std.specs.Global.{Vec}
use Rattle.ldb_cc.specs.Scanning.{items_of}
use Rattle.cc_call.specs.Found.{AreRead}
use Rattle.ldb_top.specs.Names.{names_in_go}
use Rattle.ldb_top.specs.Words.{Go}
use Rattle.ldb_top.proofs.Opened.{file_why, input_why, go_opens}
use Rattle.ldb_top.proofs.Stopped.{read_on, go_ends}
use Rattle.ldb_top.proofs.opening.open_go.Goals as goal

pub returns-in-Err-clause-opens : goal.returns-in-Err-clause-opens
returns-in-Err-clause-opens g c = λ known h.
    let names = names_in_go c.args.request.now in
    file_why Go names known [] names.about (names.input ∷ []) c.in-Err.stop refl refl (c.in-Err.ensures.finds known h)

pub returns-in-Ok-read_input-clause-opens : goal.returns-in-Ok-read_input-clause-opens
returns-in-Ok-read_input-clause-opens g c = λ known h.
    let sources = c.in-Ok.ensures.finds known h in
    let input = c.in-Ok-read_input.ensures.finds known (c.in-Ok.ensures.same ∙ h) in
    let read = subst (λ (texts : List (Vec ℕ)). AreRead known (map string_bytes c.args.request.now.sources.now) (map items_of texts)) (sym c.deref.ensures.value) sources.1 in
    let same = c.deref-in-Ok-read_input.ensures.value in
    go_opens (names_in_go c.args.request.now) known c.deref-in-Ok-read_input.result.now (map items_of c.deref.result.now) c.open_texts.result sources.0 read input.0 input.1 (input.2 ∙ ap Some (sym same)) c.open_texts.ensures.builds
    (c.open_texts.ensures.over (subst (λ (xs : List ℕ). length xs ≤ 16777216) (sym same) c.in-Ok-read_input.ensures.short))

pub returns-clause-opens : goal.returns-clause-opens
returns-clause-opens g c = λ known h.
    let sources = c.in-Ok.ensures.finds known h in
    input_why Go (names_in_go c.args.request.now) known c.in-Err-read_input.stop sources.0 (c.in-Err-read_input.ensures.finds known (c.in-Ok.ensures.same ∙ h))

pub returns-in-Err-clause-cause : goal.returns-in-Err-clause-cause
returns-in-Err-clause-cause g c = inr (c.in-Err.ensures.cause c.args.request.now.input.now)

pub returns-in-Ok-read_input-clause-cause : goal.returns-in-Ok-read_input-clause-cause
returns-in-Ok-read_input-clause-cause g c =
    go_ends (g.F.Files.missed c.read_input.new.files) c.args.request.now.input.now _ _ (names_in_go c.args.request.now).about (map items_of c.deref.result.now) c.open_texts.result c.open_texts.ensures.builds
    (c.in-Ok-read_input.ensures.cause ∙ c.in-Ok.ensures.cause)

pub returns-clause-cause : goal.returns-clause-cause
returns-clause-cause g c = inr (read_on (g.F.Files.missed c.read_input.new.files) c.args.request.now.input.now _ _ _ c.in-Err-read_input.stop c.in-Ok.ensures.cause c.in-Err-read_input.ensures.cause)
