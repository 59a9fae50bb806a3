use Rattle.std.proofs.Common.{◌∙◌, sym, ap, subst, Err}
use Rattle.table_run.specs.declared.run.TableFault.{TableFault}
use Rattle.ps_store.specs.StoreState.{StoreState}
use Rattle.table_run.specs.Shape.{is_table}
use Rattle.table_run.specs.Tables.{IsTableOf}
use Rattle.table_run.proofs.Ending.{failed, none_left, closed_so, table_left, other_shape, shape_of}
use Rattle.table_run.proofs.run.run_table.Goals as goal

pub returns-in-Err-clause-comes : goal.returns-in-Err-clause-comes
returns-in-Err-clause-comes c =
    subst (λ (f : TableFault). IsTableOf c.args.text.now c.args.target (Err f)) (sym c.fault_of.ensures)
    (failed c.in_ok-core.core c.run_text.new.core c.args.text.now c.args.target c.in-Err.fault c.in_ok-core.ensures.ok c.in-Err.ensures)

pub returns-in_default-left_by-clause-comes : goal.returns-in_default-left_by-clause-comes
returns-in_default-left_by-clause-comes c =
    none_left c.in_ok-core.core c.run_text.new.core c.args.text.now c.args.target c.in_ok-core.ensures.ok (c.in_default.ensures (λ q. cc)) (sym c.in_default-left_by.ensures)

pub returns-then-is_table-clause-comes : goal.returns-then-is_table-clause-comes
returns-then-is_table-clause-comes c =
    table_left c.in_ok-core.core c.run_text.new.core c.args.text.now c.args.target c.in-Some.top c.is_table.new.store c.in_ok-core.ensures.ok (c.in_default.ensures (λ q. cc)) (sym c.in-Some.ensures)
    (c.is_table.ensures.same ∙ closed_so c.run_text.new.core c.in-Some.top c.into_store-store.result c.close_all.new.self c.set_top.new.self c.into_store-store.ensures c.close_all.ensures.all c.set_top.ensures)
    (ap (λ (x : StoreState). is_table x c.args.target c.in-Some.top) c.is_table.ensures.same ∙ sym c.is_table.ensures.value ∙ c.if-is_table.true)

pub returns-then-is_table-clause-shape : goal.returns-then-is_table-clause-shape
returns-then-is_table-clause-shape c =
    shape_of c.run_text.new.core c.args.target c.in-Some.top c.is_table.new.store
    (c.is_table.ensures.same ∙ closed_so c.run_text.new.core c.in-Some.top c.into_store-store.result c.close_all.new.self c.set_top.new.self c.into_store-store.ensures c.close_all.ensures.all c.set_top.ensures)
    (ap (λ (x : StoreState). is_table x c.args.target c.in-Some.top) c.is_table.ensures.same ∙ sym c.is_table.ensures.value ∙ c.if-is_table.true)

pub returns-else-is_table-clause-comes : goal.returns-else-is_table-clause-comes
returns-else-is_table-clause-comes c =
    other_shape c.in_ok-core.core c.run_text.new.core c.args.text.now c.args.target c.in-Some.top c.is_table.new.store c.in_ok-core.ensures.ok (c.in_default.ensures (λ q. cc)) (sym c.in-Some.ensures)
    (c.is_table.ensures.same ∙ closed_so c.run_text.new.core c.in-Some.top c.into_store-store.result c.close_all.new.self c.set_top.new.self c.into_store-store.ensures c.close_all.ensures.all c.set_top.ensures)
    (ap (λ (x : StoreState). is_table x c.args.target c.in-Some.top) c.is_table.ensures.same ∙ sym c.is_table.ensures.value ∙ c.if-is_table.false)
