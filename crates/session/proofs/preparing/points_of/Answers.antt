use Rattle.std.proofs.Common.{sym, subst}
use Rattle.table_asks.specs.declared.inquiry.Inquiry.{Inquiry}
use Rattle.session.specs.Wanting.{TableStays}
use Rattle.session.proofs.Wanting.{same_table, table_stays, points_unbroken}
use Rattle.ps_store.specs.StoreState.{StoreState}
use Rattle.session.proofs.Pointing.{answered}
use Rattle.session.proofs.preparing.points_of.Goals as goal

pub returns-clause-meant : goal.returns-clause-meant
returns-clause-meant c = λ (t : StoreState) is.
    answered c.args.inquiry.now.core.store t c.begin_command.new.inquiry c.every_point-told.new.inquiry c.end_command.new.inquiry c.in-Ok.mark c.every_point-told.result is c.in-Ok.ensures.store c.in-Ok.ensures.steps c.in-Ok.ensures.there c.every_point-told.ensures.closed
    c.every_point-told.ensures.own c.every_point-told.ensures.meaning c.end_command.ensures.store c.lasting-points.result c.lasting-points.ensures.ok c.lasting-points.ensures.err

pub returns-clause-table : goal.returns-clause-table
returns-clause-table c =
    table_stays c.args.inquiry.now.core.store c.begin_command.new.inquiry.core.store c.every_point-told.new.inquiry.core.store c.end_command.new.inquiry.core.store c.in-Ok.mark c.in-Ok.ensures.store c.in-Ok.ensures.there c.every_point-told.ensures.closed c.end_command.ensures.store

pub returns-clause-unbroken : goal.returns-clause-unbroken
returns-clause-unbroken c = points_unbroken c.every_point-told.result c.lasting-points.result c.every_point-told.ensures.own c.lasting-points.ensures.err

pub returns-in-Err-clause-table : goal.returns-in-Err-clause-table
returns-in-Err-clause-table c = subst (λ (i : Inquiry). TableStays c.args.inquiry.now.core.store i.core.store) (sym c.in-Err.ensures.kept) (same_table c.args.inquiry.now.core.store)
