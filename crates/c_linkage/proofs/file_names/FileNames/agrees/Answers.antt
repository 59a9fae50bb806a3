use Rattle.std.proofs.Common.{◌&&◌, ◌||◌, sym, ap, ◌∙◌}
use Rattle.c_linkage.specs.Names.{is_external}
use Rattle.c_linkage.specs.FileNames.{file_name}
use Rattle.c_linkage.specs.Telling.{telling, agrees_with}
use Rattle.c_linkage.proofs.Telling.{type_told}
use Rattle.c_linkage.proofs.file_names.FileNames.agrees.Goals as goal

pub returns-then-not-agrees_with : goal.returns-then-not-agrees_with
returns-then-not-agrees_with c =
    let f = file_name c.args.f.now in
    let fs = c.args.self.now in
    let a = c.agrees_with.ensures ∙ ap (agrees_with f.denoted) c.requires.telling in
    sym (type_told f fs c.requires.consistent ∙ ap (λ b. b && (f.is_static || agrees_with f.denoted (telling (is_external f.name) fs))) (sym a ∙ c.if-not-agrees_with.true))

pub returns-then-f : goal.returns-then-f
returns-then-f c =
    let f = file_name c.args.f.now in
    let fs = c.args.self.now in
    let a = c.agrees_with.ensures ∙ ap (agrees_with f.denoted) c.requires.telling in
    c.if-f.true ∙
    sym (type_told f fs c.requires.consistent ∙
    (ap (λ b. b && (f.is_static || agrees_with f.denoted (telling (is_external f.name) fs))) (sym a ∙ c.if-not-agrees_with.false) ∙
    ap (λ b. b || agrees_with f.denoted (telling (is_external f.name) fs)) c.if-f.true))

pub returns-else-f : goal.returns-else-f
returns-else-f c =
    let f = file_name c.args.f.now in
    let fs = c.args.self.now in
    let a = c.agrees_with.ensures ∙ ap (agrees_with f.denoted) c.requires.telling in
    c.agrees_with-else-f.ensures ∙
    (ap (agrees_with f.denoted) c.external.ensures.telling ∙
    (ap (λ t. agrees_with f.denoted (telling (is_external t) fs)) c.as_bytes.ensures ∙
    sym (type_told f fs c.requires.consistent ∙
    (ap (λ b. b && (f.is_static || agrees_with f.denoted (telling (is_external f.name) fs))) (sym a ∙ c.if-not-agrees_with.false) ∙
    ap (λ b. b || agrees_with f.denoted (telling (is_external f.name) fs)) c.if-f.false))))
