use Rattle.std.proofs.Common.{map, refl, ap, ◌∙◌}
use Rattle.c_typing.specs.Plain.{plain}
use Rattle.c_file.specs.Progress.{so_far}
use Rattle.c_scope.specs.Shapes.{parameter_of}
use Rattle.c_file.proofs.Named.{head_behind, head_stops}
use Rattle.c_file.proofs.functions.headed.Goals as goal

pub returns-in_ok-add_declarator_calls-in-Ok : goal.returns-in_ok-add_declarator_calls-in-Ok
returns-in_ok-add_declarator_calls-in-Ok c =
    let s = c.args.state.now in
    let m = c.declare_name.new.state in
    head_behind c.args.storage c.args.d.now (plain c.args.to.now) (map parameter_of c.args.ps.now) c.name_in.result.now c.is_static.result c.declarator_place.result.at (plain c.in_ok-result.result) (map plain c.in_ok-parameters.parameters) s
    c.name_in.ensures c.is_static.ensures (ap (λ p. p.at) c.declarator_place.ensures) c.in_ok-result.ensures c.in_ok-parameters.ensures
    m (record m { strings = c.strings_in_declarator.new.strings; calls = c.add_declarator_calls.new.calls }) c.in-Ok.ensures
    (λ bs. λ i. record (so_far m bs) { strings = c.in_ok-strings_in_declarator-in-Ok.ensures i; calls = c.in_ok-add_declarator_calls-in-Ok.ensures i }, refl, record { functions = refl; points = refl })

pub returns-in-Err : goal.returns-in-Err
returns-in-Err c =
    head_stops c.args.storage c.args.d.now (plain c.args.to.now) (map parameter_of c.args.ps.now) c.name_in.result.now c.is_static.result c.declarator_place.result.at (plain c.in_ok-result.result) (map plain c.in_ok-parameters.parameters) c.args.state.now
    c.name_in.ensures c.is_static.ensures (ap (λ p. p.at) c.declarator_place.ensures) c.in_ok-result.ensures c.in_ok-parameters.ensures c.in-Err.f c.in-Err.ensures
