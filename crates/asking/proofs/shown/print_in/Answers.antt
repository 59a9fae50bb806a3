use Rattle.std.proofs.Common.{◌≡◌, refl, ℕ, List, true, false, Some, None}
use Rattle.c_reading.specs.Readings.{is_identifier}
use Rattle.asking.proofs.Ran.{ran_own}
use Rattle.asking.specs.Printing.{target_with}
use Rattle.asking.proofs.Scoped.{no_name, no_scope, no_symbol, unfound, found_then}
use Rattle.asking.proofs.shown.print_in.Goals as goal

pub returns-then-not-is_identifier-clause-calls : goal.returns-then-not-is_identifier-clause-calls
returns-then-not-is_identifier-clause-calls g c = (refl, g.met.W.AbsMem.stays c.args.talk.now.memory.below.below.below)

pub returns-in-Err-clause-calls : goal.returns-in-Err-clause-calls
returns-in-Err-clause-calls g c =
    let m = c.args.talk.now.memory.below.below.below in
    ran_own g.W.AbsMem.seen g.W.AbsMem.leads m (List ℕ) c.in-Err.fault c.in-Err.ensures.own (g.met.W.AbsMem.stays m)

pub returns-in-Err-symbol_found-clause-calls : goal.returns-in-Err-symbol_found-clause-calls
returns-in-Err-symbol_found-clause-calls g c =
    let m = c.args.talk.now.memory.below.below.below in
    ran_own g.W.AbsMem.seen g.W.AbsMem.leads m (List ℕ) c.in-Err-symbol_found.fault c.in-Err-symbol_found.ensures.own (g.met.W.AbsMem.stays m)

pub returns-in-Ok-None-clause-calls : goal.returns-in-Ok-None-clause-calls
returns-in-Ok-None-clause-calls g c = (refl, g.met.W.AbsMem.stays c.args.talk.now.memory.below.below.below)

pub returns-then-not-is_identifier-clause-meaning : goal.returns-then-not-is_identifier-clause-meaning
returns-then-not-is_identifier-clause-meaning g c =
    let no : is_identifier c.args.name.now ≡ false = cc in
    no_name (target_with c.args.talk.now) c.args.number c.args.frame c.args.name.now c.args.inquiry.now (g.W.AbsMem.seen c.args.talk.now.memory.below.below.below) no

pub returns-in-Err-clause-meaning : goal.returns-in-Err-clause-meaning
returns-in-Err-clause-meaning g c =
    let one : is_identifier c.args.name.now ≡ true = cc in
    no_scope (target_with c.args.talk.now) c.args.number c.args.frame c.args.name.now c.args.inquiry.now (g.W.AbsMem.seen c.args.talk.now.memory.below.below.below) one c.in-Err.fault c.scope_found.new.inquiry c.in-Err.ensures.meaning

pub returns-in-Err-symbol_found-clause-meaning : goal.returns-in-Err-symbol_found-clause-meaning
returns-in-Err-symbol_found-clause-meaning g c =
    let one : is_identifier c.args.name.now ≡ true = cc in
    no_symbol (target_with c.args.talk.now) c.args.number c.args.frame c.args.name.now c.args.inquiry.now (g.W.AbsMem.seen c.args.talk.now.memory.below.below.below) one c.scope_found.new.inquiry c.in-Ok.scope c.in-Ok.ensures.meaning c.in-Err-symbol_found.fault c.in-Err-symbol_found.ensures.meaning

pub returns-in-Ok-None-clause-meaning : goal.returns-in-Ok-None-clause-meaning
returns-in-Ok-None-clause-meaning g c =
    let one : is_identifier c.args.name.now ≡ true = cc in
    let none : c.in-Ok-None.field-0 ≡ None = cc in
    unfound (target_with c.args.talk.now) c.args.number c.args.frame c.args.name.now c.args.inquiry.now (g.W.AbsMem.seen c.args.talk.now.memory.below.below.below) one c.scope_found.new.inquiry c.in-Ok.scope c.in-Ok.ensures.meaning c.in-Ok-None.field-0 c.in-Ok-None.ensures.meaning none

pub returns-in-Ok-Some-clause-meaning : goal.returns-in-Ok-Some-clause-meaning
returns-in-Ok-Some-clause-meaning g c =
    let one : is_identifier c.args.name.now ≡ true = cc in
    let some : c.in-Ok-Some.field-0 ≡ Some c.in-Ok-Some.symbol = cc in
    found_then (target_with c.args.talk.now) c.args.number c.args.frame c.args.name.now c.args.inquiry.now (g.W.AbsMem.seen c.args.talk.now.memory.below.below.below) one c.scope_found.new.inquiry c.in-Ok.scope c.in-Ok.ensures.meaning c.in-Ok-Some.field-0 c.in-Ok-Some.ensures.meaning c.in-Ok-Some.symbol some c.scope_found.ensures.closed
    c.print_symbol.result c.print_symbol.new.inquiry (g.W.AbsMem.seen c.print_symbol.new.talk.memory.below.below.below) c.print_symbol.ensures.meaning
