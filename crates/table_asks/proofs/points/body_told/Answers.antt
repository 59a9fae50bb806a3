use Rattle.std.proofs.Common.{◌∙◌, sym, arith, option_map}
use Rattle.ps_store.specs.StoreState.{StoreState}
use Rattle.table_model.specs.Places.{function_point}
use Rattle.table_points.specs.Rows.{row_in}
use Rattle.table_asks.proofs.Spots.{named_fair}
use Rattle.table_asks.proofs.Looking.{table_comes, settled_on, settled_fails}
use Rattle.table_asks.proofs.points.body_told.Goals as goal

pub returns-in-Ok-clause-meaning : goal.returns-in-Ok-clause-meaning
returns-in-Ok-clause-meaning c = table_comes (λ (s : StoreState). function_point s c.args.name.now) c.args.inquiry.now c.again.inquiry c.again.invariant.far (option_map (row_in c.again.inquiry.core.store) c.in-Ok.found) (sym c.in-Ok.ensures)

pub again-preserved : goal.again-preserved
again-preserved c = record {
  limit = c.in-Ok-settle.ensures.limit ∙ c.again.invariant.limit;
  within = c.in-Ok-settle.ensures.within;
  more = omega (arith, c.again.invariant.more, c.in-Ok-settle.ensures.more);
  closed = λ p h. c.in-Ok-settle.ensures.closed p (c.again.invariant.closed p h);
  far = settled_on (λ (s : StoreState). function_point s c.args.name.now) c.args.inquiry.now c.again.inquiry c.again.invariant.far (named_fair c.again.inquiry.core.store c.args.name.now) c.in-Err.lack c.settle.new.inquiry (sym c.in-Err.ensures) c.in-Ok-settle.ensures.settles;
}

pub returns-in-Err-settle-clause-meaning : goal.returns-in-Err-settle-clause-meaning
returns-in-Err-settle-clause-meaning c =
    settled_fails (λ (s : StoreState). function_point s c.args.name.now) c.args.inquiry.now c.again.inquiry c.again.invariant.far (named_fair c.again.inquiry.core.store c.args.name.now) c.in-Err.lack c.in-Err-settle.fault c.settle.new.inquiry (sym c.in-Err.ensures) c.in-Err-settle.ensures.settles
