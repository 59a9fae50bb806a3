use Rattle.std.proofs.Common.{◌∙◌, ap, sym, ◌%◌, ◌^◌}
use Rattle.c_tree.specs.Layout.{size_of}
use Rattle.c_tree.proofs.Kept.{times_kept}
use Rattle.c_tree.proofs.layout.+wrapped_size.Goals as goal

pub returns-in-Array : goal.returns-in-Array
returns-in-Array t c =
    times_kept c.in-Array.n _ _ (c.wrapped_size.ensures ∙ ap (λ item. size_of c.args.defs.now item % 2 ^ 32) c.deref.ensures)
    ∙ ap (λ whole. size_of c.args.defs.now whole % 2 ^ 32) (sym c.in-Array.is)
