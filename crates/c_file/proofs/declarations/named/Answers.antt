use Rattle.std.proofs.Common.{refl, ap, ◌∙◌, sym}
use Rattle.c_scope.specs.Here.{meaning_of}
use Rattle.c_file.specs.Progress.{so_far}
use Rattle.c_file.proofs.Named.{named_behind, named_stops}
use Rattle.c_file.proofs.declarations.named.Goals as goal

pub returns-in_ok-add_declarator_calls-in-Ok : goal.returns-in_ok-add_declarator_calls-in-Ok
returns-in_ok-add_declarator_calls-in-Ok c =
    let s = c.args.state.now in
    let m = c.declare_name.new.state in
    named_behind c.args.storage c.args.d.now (meaning_of c.args.meaning) c.name_in.result.now c.is_static.result c.declarator_place.result.at s c.name_in.ensures c.is_static.ensures
    (ap (λ p. p.at) c.declarator_place.ensures) m (record m { strings = c.strings_in_declarator.new.strings; calls = c.add_declarator_calls.new.calls }) c.in-Ok.ensures
    (λ bs. λ i. record (so_far m bs) { strings = c.in_ok-strings_in_declarator-in-Ok.ensures i; calls = c.in_ok-add_declarator_calls-in-Ok.ensures i }, refl, record { functions = refl; points = refl })

pub returns-in-Err : goal.returns-in-Err
returns-in-Err c =
    let s = c.args.state.now in
    named_stops c.args.storage c.args.d.now (meaning_of c.args.meaning) c.name_in.result.now c.is_static.result c.declarator_place.result.at s c.name_in.ensures c.is_static.ensures
    (ap (λ p. p.at) c.declarator_place.ensures) c.in-Err.f c.in-Err.ensures
