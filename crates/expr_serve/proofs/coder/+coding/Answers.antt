use Rattle.std.proofs.Common.{◌∙◌, ap}
use Rattle.std.proofs.lemmas.Result.{on_ok_weaker}
use Rattle.c_tree.specs.Types.{type_of}
use Rattle.expr_serve.specs.Codes.{standing_of}
use Rattle.expr_serve.proofs.Arms.{comma_arm, choice_arm, or_arm, and_arm, binary_arm, cast_arm, address_arm, unary_arm, at_place, name_arm, follow_arm, index_arm, dot_arm, arrow_arm, index_place, dot_place, arrow_place}
use Rattle.expr_serve.proofs.coder.+coding.Goals as goal

pub add_location-returns-in_ok-add_value-in-Index-2 : goal.add_location-returns-in_ok-add_value-in-Index-2
add_location-returns-in_ok-add_value-in-Index-2 t c =
    on_ok_weaker _
    (λ q. index_place c.args.names.now c.args.defs.now _ _ _ _ _ _ _ _ _ _ c.in-Index.is c.deref-in-Index.ensures c.deref-in-Index-2.ensures (c.type_of.ensures ∙ ap type_of c.deref-in-Index-3.ensures)
    (c.type_of-in-Index.ensures ∙ ap type_of c.deref-in-Index-4.ensures) c.in_ok-add_value-in-Index.ensures c.in_ok-add_value-in-Index-2.ensures q)
    c.add_operator.ensures

pub add_location-returns-in_ok-add_location-in-Dot : goal.add_location-returns-in_ok-add_location-in-Dot
add_location-returns-in_ok-add_location-in-Dot t c =
    on_ok_weaker _
    (λ q. dot_place c.args.names.now c.args.defs.now _ _ _ _ _ _ _ _ _ c.in-Dot.is c.deref-in-Dot.ensures (c.standing_of.ensures ∙ ap standing_of c.deref-in-Dot-2.ensures) (c.type_of-in-Dot.ensures ∙ ap type_of c.deref-in-Dot-3.ensures)
    c.offset_of.ensures c.in_ok-add_location-in-Dot.ensures q)
    c.add_member.ensures

pub add_location-returns-in_ok-add_value-in-Arrow : goal.add_location-returns-in_ok-add_value-in-Arrow
add_location-returns-in_ok-add_value-in-Arrow t c =
    on_ok_weaker _
    (λ q. arrow_place c.args.names.now c.args.defs.now _ _ _ _ _ _ _ _ c.in-Arrow.is c.deref-in-Arrow.ensures (c.type_of-in-Arrow.ensures ∙ ap type_of c.deref-in-Arrow-2.ensures) c.offset_behind.ensures
    c.in_ok-add_value-in-Arrow.ensures q)
    c.add_further.ensures

pub add_value-returns-in_ok-add_word-in-Comma : goal.add_value-returns-in_ok-add_word-in-Comma
add_value-returns-in_ok-add_word-in-Comma t c =
    on_ok_weaker _
    (λ q. comma_arm c.args.names.now c.args.defs.now _ _ _ _ _ _ _ _ c.in-Comma.is c.deref.ensures c.deref-in-Comma.ensures c.in_ok-add_value-in-Comma.ensures c.in_ok-add_word-in-Comma.ensures q)
    c.add_value-in-Comma.ensures

pub add_value-returns-in_ok-append-in-Choice-4 : goal.add_value-returns-in_ok-append-in-Choice-4
add_value-returns-in_ok-append-in-Choice-4 t c =
    on_ok_weaker _
    (λ q. choice_arm c.args.names.now c.args.defs.now _ _ _ _ _ _ _ _ _ _ _ _ _ c.in-Choice.is c.deref-in-Choice.ensures c.deref-in-Choice-3.ensures c.deref-in-Choice-2.ensures c.conversion.ensures c.conversion-in-Choice.ensures
    c.in_ok-add_value-in-Choice.ensures c.in_ok-append-in-Choice.ensures.ok c.in_ok-add_value-in-Choice-2.ensures c.in_ok-append-in-Choice-2.ensures.ok c.in_ok-append-in-Choice-3.ensures.ok c.in_ok-add_value-in-Choice-3.ensures
    c.in_ok-append-in-Choice-4.ensures.ok q)
    c.append-in-Choice-4.ensures.ok

pub add_value-returns-in_ok-add_value-in-Or-2 : goal.add_value-returns-in_ok-add_value-in-Or-2
add_value-returns-in_ok-add_value-in-Or-2 t c =
    on_ok_weaker _
    (λ q. or_arm c.args.names.now c.args.defs.now _ _ _ _ _ _ _ _ c.in-Or.is c.deref-in-Or.ensures c.deref-in-Or-2.ensures c.in_ok-add_value-in-Or.ensures c.in_ok-append-in-Or.ensures.ok c.in_ok-add_value-in-Or-2.ensures q)
    c.append-in-Or-2.ensures.ok

pub add_value-returns-in_ok-add_value-in-And-2 : goal.add_value-returns-in_ok-add_value-in-And-2
add_value-returns-in_ok-add_value-in-And-2 t c =
    on_ok_weaker _
    (λ q. and_arm c.args.names.now c.args.defs.now _ _ _ _ _ _ _ _ c.in-And.is c.deref-in-And.ensures c.deref-in-And-2.ensures c.in_ok-add_value-in-And.ensures c.in_ok-append-in-And.ensures.ok c.in_ok-add_value-in-And-2.ensures q)
    c.append-in-And-2.ensures.ok

pub add_value-returns-in_ok-add_value-in-Binary-2 : goal.add_value-returns-in_ok-add_value-in-Binary-2
add_value-returns-in_ok-add_value-in-Binary-2 t c =
    on_ok_weaker _
    (λ q. binary_arm c.args.names.now c.args.defs.now _ _ _ _ _ _ _ _ _ _ _ c.in-Binary.is c.deref-in-Binary.ensures c.deref-in-Binary-2.ensures (c.type_of.ensures ∙ ap type_of c.deref-in-Binary-3.ensures)
    (c.type_of-in-Binary.ensures ∙ ap type_of c.deref-in-Binary-4.ensures) c.in_ok-add_value-in-Binary.ensures c.in_ok-add_value-in-Binary-2.ensures q)
    c.add_operator.ensures

pub add_value-returns-in_ok-add_value-in-Cast : goal.add_value-returns-in_ok-add_value-in-Cast
add_value-returns-in_ok-add_value-in-Cast t c =
    on_ok_weaker _ (λ q. cast_arm c.args.names.now c.args.defs.now _ _ _ _ _ _ c.in-Cast.is c.deref-in-Cast.ensures c.conversion-in-Cast.ensures c.in_ok-add_value-in-Cast.ensures q) c.append-in-Cast.ensures.ok

pub add_value-returns-in_ok-add_location-in-Address : goal.add_value-returns-in_ok-add_location-in-Address
add_value-returns-in_ok-add_location-in-Address t c =
    on_ok_weaker _
    (λ q. address_arm c.args.names.now c.args.defs.now _ _ _ _ _ _ _ c.in-Address.is c.deref-in-Address.ensures (c.standing_of.ensures ∙ ap standing_of c.deref-in-Address-2.ensures) c.address.ensures c.in_ok-add_location-in-Address.ensures q)
    c.append-in-Address.ensures.ok

pub add_value-returns-in_ok-add_value-in-Unary : goal.add_value-returns-in_ok-add_value-in-Unary
add_value-returns-in_ok-add_value-in-Unary t c =
    on_ok_weaker _
    (λ q. unary_arm c.args.names.now c.args.defs.now _ _ _ _ _ _ _ _ c.in-Unary.is c.deref-in-Unary.ensures (c.type_of-in-Unary.ensures ∙ ap type_of c.deref-in-Unary-2.ensures) c.on_one.ensures c.in_ok-add_value-in-Unary.ensures q)
    c.append-in-Unary.ensures.ok

pub add_at_place-returns : goal.add_at_place-returns
add_at_place-returns t c =
    on_ok_weaker c.append.result (λ q. at_place c.args.names.now c.args.defs.now c.args.e.now _ _ _ {c = c.append.new.self} c.standing_of.ensures c.type_of.ensures c.value.ensures c.in_ok-add_location.ensures q) c.append.ensures.ok

pub add_value-returns-in-Name : goal.add_value-returns-in-Name
add_value-returns-in-Name t c = on_ok_weaker _ (λ q. name_arm c.args.names.now c.args.defs.now _ _ _ c.in-Name.is q) c.add_at_place.ensures

pub add_value-returns-in-Follow : goal.add_value-returns-in-Follow
add_value-returns-in-Follow t c = on_ok_weaker _ (λ q. follow_arm c.args.names.now c.args.defs.now _ _ _ _ c.in-Follow.is q) c.add_at_place-in-Follow.ensures

pub add_value-returns-in-Index : goal.add_value-returns-in-Index
add_value-returns-in-Index t c = on_ok_weaker _ (λ q. index_arm c.args.names.now c.args.defs.now _ _ _ _ _ _ c.in-Index.is q) c.add_at_place-in-Index.ensures

pub add_value-returns-in-Dot : goal.add_value-returns-in-Dot
add_value-returns-in-Dot t c = on_ok_weaker _ (λ q. dot_arm c.args.names.now c.args.defs.now _ _ _ _ _ c.in-Dot.is q) c.add_at_place-in-Dot.ensures

pub add_value-returns-in-Arrow : goal.add_value-returns-in-Arrow
add_value-returns-in-Arrow t c = on_ok_weaker _ (λ q. arrow_arm c.args.names.now c.args.defs.now _ _ _ _ _ c.in-Arrow.is q) c.add_at_place-in-Arrow.ensures
