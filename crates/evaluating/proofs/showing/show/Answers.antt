use Rattle.std.proofs.Common.{refl, subst}
use Rattle.evaluating.specs.Told.{StoresNone}
use Rattle.evaluating.proofs.Keeping.{through, kept_as}
use Rattle.evaluating.proofs.showing.show.Goals as goal

pub returns-in-Err-run_printer-clause-told : goal.returns-in-Err-run_printer-clause-told
returns-in-Err-run_printer-clause-told g c =
    let seen = g.W.AbsMem.seen in
    let old = c.args.talk.now in
    let new = c.run_printer.new.talk in
    subst (λ r. StoresNone seen old r new) c.in-Err-run_printer.is (through seen old c.shown_place.new.talk (record c.shown_place.new.talk { out = _ }) new refl refl c.in-Ok.ensures.told c.run_printer.result c.run_printer.ensures.told)

pub returns-in-Ok-run_printer-clause-told : goal.returns-in-Ok-run_printer-clause-told
returns-in-Ok-run_printer-clause-told g c =
    let seen = g.W.AbsMem.seen in
    let old = c.args.talk.now in
    let new = c.run_printer.new.talk in
    kept_as seen old new _ refl (subst (λ r. StoresNone seen old r new) c.in-Ok-run_printer.is (through seen old c.shown_place.new.talk (record c.shown_place.new.talk { out = _ }) new refl refl c.in-Ok.ensures.told c.run_printer.result c.run_printer.ensures.told))
