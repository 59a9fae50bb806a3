use Rattle.std.proofs.Common.{◌≡◌, ◌∙◌, arith, refl, subst, map, Err}
use Rattle.ps_store.specs.StoreState.{StoreState}
use Rattle.table_model.specs.Places.{all_points}
use Rattle.table_points.specs.declared.every.PointsFault.{PointsFault}
use Rattle.table_points.specs.declared.every.PointsFault.TheVariants.{Lacks}
use Rattle.table_points.specs.Rows.{row_in}
use Rattle.table_points.specs.Every.{Tells}
use Rattle.table_asks.proofs.Spots.{points_fair}
use Rattle.table_asks.proofs.Looking.{table_comes, table_wants, settled_on, settled_fails}
use Rattle.table_asks.proofs.every.every_point.Goals as goal

pub returns-in-Ok-clause-meaning : goal.returns-in-Ok-clause-meaning
returns-in-Ok-clause-meaning c = table_comes (λ (s : StoreState). all_points s) c.args.inquiry.now c.again.inquiry c.again.invariant.far (map (row_in c.again.inquiry.core.store) c.in-Ok.points.items) c.in-Ok.ensures

pub again-preserved : goal.again-preserved
again-preserved c =
    let store = c.again.inquiry.core.store in
    let is : c.in-Err-Lacks.field-0 ≡ Lacks c.in-Err-Lacks.lack = cc in
    let lacks : all_points store ≡ Err c.in-Err-Lacks.lack = subst (λ (f : PointsFault). Tells (all_points store) (Err f)) is c.in-Err-Lacks.ensures in
    record {
      limit = c.in-Ok-settle.ensures.limit ∙ c.again.invariant.limit;
      within = c.in-Ok-settle.ensures.within;
      more = omega (arith, c.again.invariant.more, c.in-Ok-settle.ensures.more);
      closed = λ p h. c.in-Ok-settle.ensures.closed p (c.again.invariant.closed p h);
      far = settled_on (λ (s : StoreState). all_points s) c.args.inquiry.now c.again.inquiry c.again.invariant.far (points_fair c.again.inquiry.core.store) c.in-Err-Lacks.lack c.settle.new.inquiry lacks c.in-Ok-settle.ensures.settles;
    }

pub returns-in-Err-NoMemory-clause-meaning : goal.returns-in-Err-NoMemory-clause-meaning
returns-in-Err-NoMemory-clause-meaning c = table_wants (λ (s : StoreState). all_points s) c.args.inquiry.now c.again.inquiry c.again.invariant.far c.again.inquiry refl

pub returns-in-Err-clause-meaning : goal.returns-in-Err-clause-meaning
returns-in-Err-clause-meaning c =
    let store = c.again.inquiry.core.store in
    let is : c.in-Err-Lacks.field-0 ≡ Lacks c.in-Err-Lacks.lack = cc in
    let lacks : all_points store ≡ Err c.in-Err-Lacks.lack = subst (λ (f : PointsFault). Tells (all_points store) (Err f)) is c.in-Err-Lacks.ensures in
    settled_fails (λ (s : StoreState). all_points s) c.args.inquiry.now c.again.inquiry c.again.invariant.far (points_fair store) c.in-Err-Lacks.lack c.in-Err.fault c.settle.new.inquiry lacks c.in-Err.ensures.settles
