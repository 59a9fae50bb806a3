use Rattle.std.proofs.Common.{◌≡◌, refl, subst, ℕ, List, Option, Some, None, option_map, Ok}
use Rattle.table_points.specs.declared.row.Point.{Point}
use Rattle.table_points.specs.Rows.{row_in}
use Rattle.dialect_model.specs.TableUse.{Looks}
use Rattle.table_asks.specs.Asking.{Comes}
use Rattle.asking.specs.Breaks.{has, rows_in, point_of_spot, broken_at}
use Rattle.asking.proofs.Changed.{at_place, at_no_place, at_fault, led_own}
use Rattle.asking.proofs.breaks.breaking.Goals as goal

pub returns-in-Err-clause-meaning : goal.returns-in-Err-clause-meaning
returns-in-Err-clause-meaning g c =
    let m = g.W.AbsMem.seen c.args.talk.now.memory.below.below.below in
    let new = c.spot_told.new.inquiry in
    let rows = rows_in new.core.store c.args.breaks.now.items in
    at_fault (point_of_spot c.args.spot.now) (λ b p. broken_at c.args.talk.now.view.target rows b p (has rows p)) c.args.inquiry.now new m m c.in-Err.fault rows c.in-Err.ensures.own c.in-Err.ensures.meaning

pub returns-in-Err-clause-calls : goal.returns-in-Err-clause-calls
returns-in-Err-clause-calls g c =
    let m = c.args.talk.now.memory.below.below.below in
    led_own (List ℕ) g.W.AbsMem.leads m c.in-Err.fault c.in-Err.ensures.own (g.met.W.AbsMem.stays m)

pub returns-in-Err-clause-target : goal.returns-in-Err-clause-target
returns-in-Err-clause-target g c = refl

pub returns-in-Ok-None-clause-meaning : goal.returns-in-Ok-None-clause-meaning
returns-in-Ok-None-clause-meaning g c =
    let m = g.W.AbsMem.seen c.args.talk.now.memory.below.below.below in
    let new = c.spot_told.new.inquiry in
    let rows = rows_in new.core.store c.args.breaks.now.items in
    let is : c.in-Ok-None.field-0 ≡ None = cc in
    let comes = subst (λ (o : Option Point). Comes (Looks (point_of_spot c.args.spot.now)) c.args.inquiry.now (Ok (option_map (row_in new.core.store) o)) new) is c.in-Ok-None.ensures.meaning in
    at_no_place (point_of_spot c.args.spot.now) (λ b p. broken_at c.args.talk.now.view.target rows b p (has rows p)) c.args.inquiry.now new m m rows comes

pub returns-in-Ok-None-clause-calls : goal.returns-in-Ok-None-clause-calls
returns-in-Ok-None-clause-calls g c = g.met.W.AbsMem.stays c.args.talk.now.memory.below.below.below

pub returns-in-Ok-None-clause-target : goal.returns-in-Ok-None-clause-target
returns-in-Ok-None-clause-target g c = refl

pub returns-in-Ok-Some-clause-meaning : goal.returns-in-Ok-Some-clause-meaning
returns-in-Ok-Some-clause-meaning g c =
    let m = g.W.AbsMem.seen c.args.talk.now.memory.below.below.below in
    let after = g.W.AbsMem.seen c.set.new.talk.memory.below.below.below in
    let new = c.spot_told.new.inquiry in
    let rows = rows_in new.core.store c.args.breaks.now.items in
    let is : c.in-Ok-Some.field-0 ≡ Some c.in-Ok-Some.place = cc in
    let comes = subst (λ (o : Option Point). Comes (Looks (point_of_spot c.args.spot.now)) c.args.inquiry.now (Ok (option_map (row_in new.core.store) o)) new) is c.in-Ok-Some.ensures.meaning in
    at_place (point_of_spot c.args.spot.now) (λ b p. broken_at c.args.talk.now.view.target rows b p (has rows p)) c.args.inquiry.now new m after (row_in new.core.store c.in-Ok-Some.place) c.set.result (rows_in new.core.store c.set.new.breaks.items) comes c.set.ensures.meaning

pub returns-in-Ok-Some-clause-calls : goal.returns-in-Ok-Some-clause-calls
returns-in-Ok-Some-clause-calls g c = c.set.ensures.calls

pub returns-in-Ok-Some-clause-target : goal.returns-in-Ok-Some-clause-target
returns-in-Ok-Some-clause-target g c = c.set.ensures.target
