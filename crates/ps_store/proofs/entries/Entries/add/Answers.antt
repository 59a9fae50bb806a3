use Rattle.std.proofs.Common.{◌≡◌, None, subst, sym, ◌∙◌}
use Rattle.ps_store.specs.Entries.{value_at}
use Rattle.ps_store.specs.Hints.{Hinted, with_hint}
use Rattle.ps_store.proofs.Pairs.{added_last}
use Rattle.ps_store.proofs.Hinting.{hinted_added}
use Rattle.ps_store.proofs.entries.Entries.add.Goals as goal

pub invariant_of-self-2 : goal.invariant_of-self-2
invariant_of-self-2 c =
    let es = c.self.inside.pairs.entries in
    let hinted = hinted_added c.self.inside.hints es c.args.key c.args.pair c.hint_of-hint.result c.hint_of-hint.ensures c.self.invariant in
    let absent = subst (λ l. value_at l c.args.key ≡ None) (sym c.self.view_is) c.requires in
    let after = c.in_ok-insert.ensures.entries ∙ added_last es c.args.key c.args.pair absent in
    subst (λ hints. Hinted hints c.insert.new.self.entries) (sym c.put_hint.ensures)
    (subst (Hinted (with_hint c.self.inside.hints c.args.key c.hint_of-hint.result)) (sym after) hinted)
