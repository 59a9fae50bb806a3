use Rattle.std.proofs.Common.{◌∙◌, sym, arith}
use Rattle.ps_store.specs.StoreState.{StoreState}
use Rattle.table_model.specs.Symbols.{scope_of}
use Rattle.table_asks.proofs.Framed.{scope_fair}
use Rattle.table_asks.proofs.Looking.{table_comes, settled_on, settled_fails}
use Rattle.table_asks.proofs.frames.scope_found.Goals as goal

pub returns-in-Ok-clause-meaning : goal.returns-in-Ok-clause-meaning
returns-in-Ok-clause-meaning c = table_comes (λ (s : StoreState). scope_of s c.args.number c.args.frame.now) c.args.inquiry.now c.again.inquiry c.again.invariant.far (c.in-Ok.scope) (sym c.in-Ok.ensures)

pub again-preserved : goal.again-preserved
again-preserved c = record {
  limit = c.in-Ok-settle.ensures.limit ∙ c.again.invariant.limit;
  within = c.in-Ok-settle.ensures.within;
  more = omega (arith, c.again.invariant.more, c.in-Ok-settle.ensures.more);
  closed = λ p h. c.in-Ok-settle.ensures.closed p (c.again.invariant.closed p h);
  far = settled_on (λ (s : StoreState). scope_of s c.args.number c.args.frame.now) c.args.inquiry.now c.again.inquiry c.again.invariant.far (scope_fair c.again.inquiry.core.store c.args.number c.args.frame.now) c.in-Err.lack c.settle.new.inquiry (sym c.in-Err.ensures) c.in-Ok-settle.ensures.settles;
}

pub returns-in-Err-settle-clause-meaning : goal.returns-in-Err-settle-clause-meaning
returns-in-Err-settle-clause-meaning c =
    settled_fails (λ (s : StoreState). scope_of s c.args.number c.args.frame.now) c.args.inquiry.now c.again.inquiry c.again.invariant.far (scope_fair c.again.inquiry.core.store c.args.number c.args.frame.now) c.in-Err.lack c.in-Err-settle.fault c.settle.new.inquiry (sym c.in-Err.ensures) c.in-Err-settle.ensures.settles
