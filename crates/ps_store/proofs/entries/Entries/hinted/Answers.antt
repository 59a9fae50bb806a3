use Rattle.std.proofs.Common.{ap, sym, ◌∙◌, List}
use Rattle.ps_store.specs.declared.object.Pair.{Pair}
use Rattle.ps_store.specs.declared.key.Key.{Key}
use Rattle.ps_store.specs.declared.key.Key.TheVariants.{Name}
use Rattle.ps_store.specs.Entries.{place_of}
use Rattle.ps_store.proofs.Hinting.{place_of_same}
use Rattle.ps_store.proofs.entries.Entries.hinted.Goals as goal

pub returns-then-is_name : goal.returns-then-is_name
returns-then-is_name c =
    let name = c.args.name.text.now in
    ap (λ (es : List (Key × Pair)). place_of es (Name name)) (sym c.self.view_is)
    ∙ place_of_same c.self.inside.pairs.entries name c.in-Some-get_index.key.now c.in-Some-get_index._pair.now _
    c.len.ensures.unique (sym c.if-is_name.ensures) (sym c.in-Some-get_index.ensures.entry)
