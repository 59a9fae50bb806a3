use Rattle.ps_store.specs.Store.{entries_of}
use Rattle.ps_step.proofs.Apart.{pair_put, pair_stops, pair_leaves}
use Rattle.ps_step.proofs.composites.put_pair.Goals as goal

pub returns-in-Some : goal.returns-in-Some
returns-in-Some c =
    let s = c.args.store.now in
    let t = c.put_under.new.store in
    let xs = entries_of s c.args.from in
    let r = c.put_under.result in
    let stores = c.put_under.ensures.stores in
    record {
      ok = pair_put r s t c.args.to xs c.args.at c.in-Some.pair c.in-Some.ensures stores;
      err = pair_stops r s t c.args.to xs c.args.at c.in-Some.pair c.in-Some.ensures stores;
      same = pair_leaves r s t c.args.to c.args.from c.in-Some.pair c.requires stores;
      closed = c.put_under.ensures.closed;
    }
