use Rattle.std.proofs.Common.{◌≡◌, sym, subst, true, false, Ok, Err}
use Rattle.table_model.specs.Symbols.{is_function}
use Rattle.table_asks.specs.declared.fault.AskFault.{AskFault}
use Rattle.table_asks.specs.Asking.{Comes}
use Rattle.asking.specs.Printing.{variable_type}
use Rattle.asking.proofs.Typing.{no_kind, is_of_function, of_variable}
use Rattle.asking.proofs.shown.variable_type.Goals as goal

pub returns-in-Err-clause-meaning : goal.returns-in-Err-clause-meaning
returns-in-Err-clause-meaning c =
    let i = c.args.inquiry.now in
    let lacks : is_function i.core.store c.args.symbol ≡ Err c.in-Err.lack = sym c.in-Err.ensures in
    subst (λ (f : AskFault). Comes (variable_type c.args.symbol) i (Err f) i) (sym c.raised.ensures.value) (no_kind i c.args.symbol c.in-Err.lack lacks)

pub returns-in-Ok-true-clause-meaning : goal.returns-in-Ok-true-clause-meaning
returns-in-Ok-true-clause-meaning c =
    let i = c.args.inquiry.now in
    let is : is_function i.core.store c.args.symbol ≡ Ok true = (let a = c.in-Ok-true.ensures in let b = c.in-Ok-true.field-0-test in cc) in
    is_of_function i c.args.symbol is

pub returns-in-Ok-false-clause-meaning : goal.returns-in-Ok-false-clause-meaning
returns-in-Ok-false-clause-meaning c =
    let i = c.args.inquiry.now in
    let is : is_function i.core.store c.args.symbol ≡ Ok false = (let a = c.in-Ok-false.ensures in let b = c.in-Ok-false.field-0-test in cc) in
    of_variable i c.args.symbol is c.printed_type.result c.printed_type.ensures.meaning
