use Rattle.std.proofs.Common.{sym, ap, ◌∙◌}
use Rattle.c_linkage.specs.Names.{is_here, as_built_in, as_main, one_linkage, one_type}
use Rattle.c_linkage.specs.FileNames.{file_name}
use Rattle.c_linkage.specs.Telling.{telling, told_with}
use Rattle.c_linkage.proofs.Telling.{unbroken, told_here}
use Rattle.c_linkage.proofs.file_names.FileNames.declare.Goals as goal

pub broken-requires-clause-telling : goal.broken-requires-clause-telling
broken-requires-clause-telling c =
    c.here-here.ensures.telling ∙ ap (λ t. telling (is_here (file_name c.args.name).unit t) c.args.self.now) c.as_bytes.ensures

pub add-requires-clause-linkage : goal.add-requires-clause-linkage
add-requires-clause-linkage c =
    let f = file_name c.args.name in
    let fs = c.args.self.now in
    (unbroken (as_built_in f) (as_main f) (one_linkage f fs) (one_type f fs) c.args.at (sym (c.in-None.ensures c.args.at))).2

pub add-requires-clause-types : goal.add-requires-clause-types
add-requires-clause-types c =
    let f = file_name c.args.name in
    let fs = c.args.self.now in
    (unbroken (as_built_in f) (as_main f) (one_linkage f fs) (one_type f fs) c.args.at (sym (c.in-None.ensures c.args.at))).3

pub returns-in-Ok-add : goal.returns-in-Ok-add
returns-in-Ok-add c =
    let f = file_name c.args.name in
    let fs = c.args.self.now in
    let types = (unbroken (as_built_in f) (as_main f) (one_linkage f fs) (one_type f fs) c.args.at (sym (c.in-None.ensures c.args.at))).3 in (
      sym (c.in-None.ensures c.args.at),
      c.in-Ok.ensures ∙ (ap (told_with f.denoted) c.here-here.ensures.telling ∙
          (ap (λ t. told_with f.denoted (telling (is_here f.unit t) fs)) c.as_bytes.ensures ∙ sym (told_here f fs c.here-here.ensures.consistent types))),
      c.in-Ok-add.ensures.ok,
    )
