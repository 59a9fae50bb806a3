use Rattle.std.proofs.Common.{ℕ, List, [], ◌∷◌, ◌++◌, Err}
use Rattle.asking.proofs.Ran.{ran_as, ran_unbroken, led_further, ran_then}
use Rattle.asking.proofs.Printed.{type_fails, unplaced, unshown, unworded, shown_done}
use Rattle.asking.proofs.shown.print_symbol.Goals as goal

pub returns-in-Err-clause-calls : goal.returns-in-Err-clause-calls
returns-in-Err-clause-calls g c =
    let m = c.args.talk.now.memory.below.below.below in
    ran_unbroken g.W.AbsMem.seen g.W.AbsMem.leads m (List ℕ) c.in-Err.fault c.in-Err.ensures.unbroken (g.met.W.AbsMem.stays m)

pub returns-in-Err-place-clause-calls : goal.returns-in-Err-place-clause-calls
returns-in-Err-place-clause-calls g c =
    ran_as g.W.AbsMem.seen g.W.AbsMem.leads c.args.talk.now.memory.below.below.below (Unit {0}) (List ℕ) c.in-Err-place.fault c.place.new.talk.memory.below.below.below c.in-Err-place.ensures.calls

pub returns-in-Ok-value_text-clause-calls : goal.returns-in-Ok-value_text-clause-calls
returns-in-Ok-value_text-clause-calls g c =
    let m = c.args.talk.now.memory.below.below.below in
    let between = c.place.new.talk.memory.below.below.below in
    let after = c.show.new.talk.memory.below.below.below in
    led_further g.W.AbsMem.seen g.W.AbsMem.leads m between after (g.met.W.AbsMem.goes_on m between after) _ c.in-Ok-place.ensures.calls c.in-Ok-show.ensures.calls

pub returns-in-Err-value_text-clause-calls : goal.returns-in-Err-value_text-clause-calls
returns-in-Err-value_text-clause-calls g c =
    let m = c.args.talk.now.memory.below.below.below in
    let between = c.place.new.talk.memory.below.below.below in
    let after = c.show.new.talk.memory.below.below.below in
    led_further g.W.AbsMem.seen g.W.AbsMem.leads m between after (g.met.W.AbsMem.goes_on m between after) _ c.in-Ok-place.ensures.calls c.in-Ok-show.ensures.calls

pub returns-in-Err-show-clause-calls : goal.returns-in-Err-show-clause-calls
returns-in-Err-show-clause-calls g c =
    let m = c.args.talk.now.memory.below.below.below in
    let between = c.place.new.talk.memory.below.below.below in
    let after = c.show.new.talk.memory.below.below.below in
    ran_as g.W.AbsMem.seen g.W.AbsMem.leads m (Unit {0}) (List ℕ) c.in-Err-show.fault after
    (ran_then g.W.AbsMem.seen g.W.AbsMem.leads m between after (g.met.W.AbsMem.goes_on m between after) {A = Unit {0}} (Err c.in-Err-show.fault) c.in-Ok-place.ensures.calls c.in-Err-show.ensures.calls)

pub returns-in-Err-clause-meaning : goal.returns-in-Err-clause-meaning
returns-in-Err-clause-meaning g c = type_fails g.W.AbsMem.seen c.args.symbol c.args.frame c.args.scope c.args.inquiry.now c.args.talk.now c.in-Err.fault c.in-Err.ensures.meaning

pub returns-in-Err-place-clause-meaning : goal.returns-in-Err-place-clause-meaning
returns-in-Err-place-clause-meaning g c = unplaced g.W.AbsMem.seen c.args.symbol c.args.frame c.args.scope c.args.inquiry.now c.args.talk.now c.in-Ok.ctype c.in-Ok.ensures.meaning c.in-Err-place.fault c.place.new.inquiry c.place.new.talk c.in-Err-place.ensures.meaning

pub returns-in-Ok-value_text-clause-meaning : goal.returns-in-Ok-value_text-clause-meaning
returns-in-Ok-value_text-clause-meaning g c =
    shown_done g.W.AbsMem.seen c.args.symbol c.args.frame c.args.scope c.args.inquiry.now c.args.talk.now c.in-Ok.ctype c.in-Ok.ensures.meaning c.place.new.inquiry c.show.new.inquiry c.place.new.talk c.show.new.talk c.in-Ok-place.ensures.meaning c.in-Ok-show.ensures.meaning c.in-Ok-value_text.text c.in-Ok-value_text.ensures

pub returns-in-Err-value_text-clause-meaning : goal.returns-in-Err-value_text-clause-meaning
returns-in-Err-value_text-clause-meaning g c =
    unworded g.W.AbsMem.seen c.args.symbol c.args.frame c.args.scope c.args.inquiry.now c.args.talk.now c.in-Ok.ctype c.in-Ok.ensures.meaning c.place.new.inquiry c.show.new.inquiry c.place.new.talk c.show.new.talk c.in-Ok-place.ensures.meaning c.in-Ok-show.ensures.meaning

pub returns-in-Err-show-clause-meaning : goal.returns-in-Err-show-clause-meaning
returns-in-Err-show-clause-meaning g c =
    unshown g.W.AbsMem.seen c.args.symbol c.args.frame c.args.scope c.args.inquiry.now c.args.talk.now c.in-Ok.ctype c.in-Ok.ensures.meaning c.place.new.inquiry c.show.new.inquiry c.place.new.talk c.show.new.talk c.in-Ok-place.ensures.meaning c.in-Err-show.fault c.in-Err-show.ensures.meaning

pub returns-in-Ok-value_text-clause-word : goal.returns-in-Ok-value_text-clause-word
returns-in-Ok-value_text-clause-word g c = (c.show.new.talk.out ++ (10 ∷ []), c.in-Ok-value_text.ensures)
