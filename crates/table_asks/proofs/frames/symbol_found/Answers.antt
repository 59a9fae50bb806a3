use Rattle.std.proofs.Common.{sym, subst, Err}
use Rattle.ps_store.specs.StoreState.{StoreState}
use Rattle.ps_step.specs.declared.fault.PsError.{PsError}
use Rattle.ps_places.specs.Lacks.{error_of}
use Rattle.table_model.specs.Symbols.{symbol_named}
use Rattle.dialect_model.specs.TableUse.{Looks}
use Rattle.table_asks.specs.Asking.{Comes}
use Rattle.table_asks.specs.declared.fault.AskFault.TheVariants.{Raised}
use Rattle.table_asks.proofs.Looking.{onward_here, table_comes, table_lacks}
use Rattle.table_asks.proofs.Named.{symbol_told}
use Rattle.table_asks.proofs.frames.symbol_found.Goals as goal

pub returns-in-Ok-clause-meaning : goal.returns-in-Ok-clause-meaning
returns-in-Ok-clause-meaning c =
    let i = c.args.inquiry.now in
    table_comes (λ (s : StoreState). symbol_named s c.args.scope c.args.name.now) i i (onward_here (λ (s : StoreState). symbol_named s c.args.scope c.args.name.now) i) c.in-Ok.symbol (sym c.in-Ok.ensures)

pub returns-in-Err-clause-meaning : goal.returns-in-Err-clause-meaning
returns-in-Err-clause-meaning c =
    let i = c.args.inquiry.now in
    subst (λ (e : PsError). Comes (Looks (λ (s : StoreState). symbol_named s c.args.scope c.args.name.now)) i (Err (Raised e)) i) (sym c.error_of.ensures)
    (table_lacks (λ (s : StoreState). symbol_named s c.args.scope c.args.name.now) i i (onward_here (λ (s : StoreState). symbol_named s c.args.scope c.args.name.now) i) c.in-Err.lack (error_of c.in-Err.lack) (sym c.in-Err.ensures)
    ((symbol_told i.core.store c.args.scope c.args.name.now).lacks c.in-Err.lack (sym c.in-Err.ensures)))
