use Rattle.std.proofs.Common.{true, false, sym, ap, ◌∙◌, refl}
use Rattle.c_linkage.specs.Names.{is_here, declared_as_built_in, declared_as_main, as_built_in, as_main, one_linkage, one_type}
use Rattle.c_linkage.specs.FileNames.{file_name}
use Rattle.c_linkage.specs.Telling.{telling, linked_with}
use Rattle.c_linkage.proofs.Telling.{linkage_told, found_four}
use Rattle.c_linkage.proofs.file_names.FileNames.broken.Goals as goal

pub returns-then-not-is_linked_with : goal.returns-then-not-is_linked_with
returns-then-not-is_linked_with c at =
    let f = file_name c.args.f.now in
    let fs = c.args.self.now in
    let n = c.as_bytes-name.ensures in
    let built = sym (c.as_built_in.ensures ∙ ap (λ t. declared_as_built_in f.is_static t f.denoted) n) ∙ c.if-not-as_built_in.false in
    let main = sym (c.as_main.ensures ∙ ap (λ t. declared_as_main t f.denoted) n) ∙ c.if-not-as_main.false in
    let link = linkage_told f fs c.requires.consistent ∙
    (sym (c.is_linked_with.ensures ∙ ap (linked_with f) c.requires.telling) ∙ c.if-not-is_linked_with.true) in
    sym (found_four (as_built_in f) (as_main f) (one_linkage f fs) (one_type f fs) true true false (one_type f fs) at built main link refl)

pub returns-then-agrees : goal.returns-then-agrees
returns-then-agrees c at =
    let f = file_name c.args.f.now in
    let fs = c.args.self.now in
    let n = c.as_bytes-name.ensures in
    let built = sym (c.as_built_in.ensures ∙ ap (λ t. declared_as_built_in f.is_static t f.denoted) n) ∙ c.if-not-as_built_in.false in
    let main = sym (c.as_main.ensures ∙ ap (λ t. declared_as_main t f.denoted) n) ∙ c.if-not-as_main.false in
    let link = linkage_told f fs c.requires.consistent ∙
    (sym (c.is_linked_with.ensures ∙ ap (linked_with f) c.requires.telling) ∙ c.if-not-is_linked_with.false) in
    sym (found_four (as_built_in f) (as_main f) (one_linkage f fs) (one_type f fs) true true true true at built main link (sym c.agrees.ensures ∙ c.if-agrees.true))

pub returns-else-agrees : goal.returns-else-agrees
returns-else-agrees c at =
    let f = file_name c.args.f.now in
    let fs = c.args.self.now in
    let n = c.as_bytes-name.ensures in
    let built = sym (c.as_built_in.ensures ∙ ap (λ t. declared_as_built_in f.is_static t f.denoted) n) ∙ c.if-not-as_built_in.false in
    let main = sym (c.as_main.ensures ∙ ap (λ t. declared_as_main t f.denoted) n) ∙ c.if-not-as_main.false in
    let link = linkage_told f fs c.requires.consistent ∙
    (sym (c.is_linked_with.ensures ∙ ap (linked_with f) c.requires.telling) ∙ c.if-not-is_linked_with.false) in
    sym (found_four (as_built_in f) (as_main f) (one_linkage f fs) (one_type f fs) true true true false at built main link (sym c.agrees.ensures ∙ c.if-agrees.false))
