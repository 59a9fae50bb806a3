use Rattle.std.proofs.Common.{◌≡◌, Some, None, Ok, sym, ap, map, subst, ◌∙◌}
use Rattle.c_typing.specs.Plain.{plain}
use Rattle.c_typing.specs.Declarations.{is_named}
use Rattle.c_scope.specs.Here.{environment_of}
use Rattle.c_mentions.specs.Tags.{now}
use Rattle.c_body.specs.Walks.{Walked}
use Rattle.c_body.specs.Walking.{walk_of}
use Rattle.c_body.proofs.PassedLocals.{InitialPasses, local_passes, as_declared}
use Rattle.c_body.proofs.locals.at_local.Goals as goal

pub returns-in-Ok-Some-clause-found : goal.returns-in-Ok-Some-clause-found
returns-in-Ok-Some-clause-found c =
    let w = walk_of c.args.walk.now in
    let d = c.args.d.now in
    let t = plain c.in-Ok.t in
    let u = walk_of c.at_initial_or_none.new.walk in
    let w1 : Walked = record w { here = environment_of c.declare.new.here; strings = map now c.at_declarator.new.strings.items; calls = map now c.called_in_declarator.new.found.items } in
    let q : c.in-Ok-Some.field-0 ≡ Some c.in-Ok-Some.init = cc in
    local_passes c.args.register c.args.spec.now w d t w1 u (Ok (Some c.in-Ok-Some.init)) c.in-Ok.ensures (ap (λ n. is_named w.here.block n) (sym c.name_in-name.ensures) ∙ c.in-Ok-declare.ensures.here.0)
    (as_declared c.args.register c.args.spec.now w d t c.name_in-name.result.now (environment_of c.declare.new.here) (map now c.at_declarator.new.strings.items) (map now c.called_in_declarator.new.found.items) c.name_in-name.ensures c.in-Ok-declare.ensures.here.1 c.in_ok-at_declarator.ensures c.in_ok-called_in_declarator.ensures)
    (subst (λ x. InitialPasses w1 t d (Ok x) u) q c.in-Ok-Some.ensures.found)

pub returns-in-Ok-None-clause-found : goal.returns-in-Ok-None-clause-found
returns-in-Ok-None-clause-found c =
    let w = walk_of c.args.walk.now in
    let d = c.args.d.now in
    let t = plain c.in-Ok.t in
    let u = walk_of c.at_initial_or_none.new.walk in
    let w1 : Walked = record w { here = environment_of c.declare.new.here; strings = map now c.at_declarator.new.strings.items; calls = map now c.called_in_declarator.new.found.items } in
    let q : c.in-Ok-None.field-0 ≡ None = cc in
    local_passes c.args.register c.args.spec.now w d t w1 u (Ok None) c.in-Ok.ensures (ap (λ n. is_named w.here.block n) (sym c.name_in-name.ensures) ∙ c.in-Ok-declare.ensures.here.0)
    (as_declared c.args.register c.args.spec.now w d t c.name_in-name.result.now (environment_of c.declare.new.here) (map now c.at_declarator.new.strings.items) (map now c.called_in_declarator.new.found.items) c.name_in-name.ensures c.in-Ok-declare.ensures.here.1 c.in_ok-at_declarator.ensures c.in_ok-called_in_declarator.ensures)
    (subst (λ x. InitialPasses w1 t d (Ok x) u) q c.in-Ok-None.ensures.found)
