use Rattle.std.proofs.Common.{ap, subst, sym, ◌∙◌}
use Rattle.ps_store.specs.Store.{closed_part, with_entries, entries_of}
use Rattle.ps_store.specs.Settled.{Settled}
use Rattle.ps_store.proofs.Pairs.{replaced_there}
use Rattle.ps_store.proofs.Settling.{entry_settled}
use Rattle.ps_store.proofs.store.PsStore.settle.Goals as goal

pub returns-in-Some-clause-settled : goal.returns-in-Some-clause-settled
returns-in-Some-clause-settled c =
    let s = c.args.self.now in
    let d = c.args.d in
    let put = replaced_there (entries_of s d) c.args.key.now c.args.value c.in-Some.place (sym c.in-Some.ensures) in
    let e = sym (ap (with_entries s d) put) ∙ sym c.replace_value.ensures in
    subst (λ t. Settled (closed_part s) (closed_part t)) e (entry_settled s d c.args.key.now c.args.value c.requires)
