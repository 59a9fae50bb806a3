use Rattle.std.proofs.Common.{◌≡◌, sym, subst, codes, Ok, Err}
use Rattle.table_model.specs.Reading.{dict_at}
use Rattle.table_asks.specs.declared.fault.AskFault.{AskFault}
use Rattle.table_asks.specs.Asking.{Comes}
use Rattle.asking.specs.Printing.{type_of}
use Rattle.asking.proofs.Typing.{no_type, type_unwalked, type_walked, type_is, type_lacks}
use Rattle.asking.proofs.shown.printed_type.Goals as goal

pub returns-in-Err-clause-meaning : goal.returns-in-Err-clause-meaning
returns-in-Err-clause-meaning c =
    let i = c.args.inquiry.now in
    let lacks : dict_at i.core.store c.args.symbol (codes "type") ≡ Err c.in-Err.lack = sym c.in-Err.ensures in
    subst (λ (f : AskFault). Comes (type_of c.args.symbol) i (Err f) i) (sym c.raised.ensures.value) (no_type i c.args.symbol c.in-Err.lack lacks)

pub returns-in-Ok-eq0-clause-meaning : goal.returns-in-Ok-eq0-clause-meaning
returns-in-Ok-eq0-clause-meaning c = type_unwalked c.args.inquiry.now c.args.symbol

pub returns-in-Ok-parts_left-clause-meaning : goal.returns-in-Ok-parts_left-clause-meaning
returns-in-Ok-parts_left-clause-meaning c =
    let i = c.args.inquiry.now in
    let is : dict_at i.core.store c.args.symbol (codes "type") ≡ Ok c.in-Ok.ctype = sym c.in-Ok.ensures in
    type_walked i c.args.symbol c.in-Ok.ctype is c.in-Ok-parts_left.field-0 c.in-Ok-parts_left.field-0-test.1 c.in-Ok-parts_left.ensures

pub returns-in-Ok-unless_too_deep-clause-meaning : goal.returns-in-Ok-unless_too_deep-clause-meaning
returns-in-Ok-unless_too_deep-clause-meaning c =
    let i = c.args.inquiry.now in
    let is : dict_at i.core.store c.args.symbol (codes "type") ≡ Ok c.in-Ok.ctype = sym c.in-Ok.ensures in
    type_is i c.args.symbol c.in-Ok.ctype is c.in-Err-parts_left.lack c.in-Ok-unless_too_deep.ctype c.in-Err-parts_left.ensures (sym c.in-Ok-unless_too_deep.ensures)

pub returns-in-Err-unless_too_deep-clause-meaning : goal.returns-in-Err-unless_too_deep-clause-meaning
returns-in-Err-unless_too_deep-clause-meaning c =
    let i = c.args.inquiry.now in
    let is : dict_at i.core.store c.args.symbol (codes "type") ≡ Ok c.in-Ok.ctype = sym c.in-Ok.ensures in
    subst (λ (f : AskFault). Comes (type_of c.args.symbol) i (Err f) i) (sym c.raised-in-Err-unless_too_deep.ensures.value)
    (type_lacks i c.args.symbol c.in-Ok.ctype is c.in-Err-parts_left.lack c.in-Err-unless_too_deep.lack c.in-Err-parts_left.ensures (sym c.in-Err-unless_too_deep.ensures))
