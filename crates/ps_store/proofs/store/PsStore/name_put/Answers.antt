use Rattle.std.proofs.Common.{◌≡◌, ◌≤◌, Ok, false, length, ap, sym, ◌∙◌, arith}
use Rattle.ps_store.specs.StoreState.{StoreState}
use Rattle.ps_store.specs.Store.{bytes_of, is_closed}
use Rattle.ps_store.proofs.Putting.{name_put_there}
use Rattle.ps_store.proofs.store.PsStore.name_put.Goals as goal

pub returns-in-Some-clause-does : goal.returns-in-Some-clause-does
returns-in-Some-clause-does c =
    let s = c.args.self.now in
    let d = c.args.d in
    let t = c.args.name in
    let same = ap (λ bytes. length bytes) c.string_get.ensures in
    let fits : length (bytes_of s t) ≤ 127 = omega arith in
    let unclosed : is_closed d.part d.index s.closed.dicts ≡ false =
    ap (λ (v : StoreState). is_closed d.part d.index v.closed.dicts) (sym c.self.view_is) ∙ sym c.is_closed.ensures ∙ c.if-is_closed.false in
    name_put_there s d t c.args.value c.in-Some.place fits unclosed (sym c.in-Some.ensures) ∙ ap (λ (v : StoreState). Ok (tt, v)) (sym c.replace_value.ensures)
