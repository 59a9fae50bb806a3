use Rattle.std.proofs.Common.{◌+◌, ◌++◌, length, refl, sym, ap, ◌∙◌}
use Rattle.c_trees.specs.Initializers.{Braces, with_items}
use Rattle.c_typing.specs.Plain.{plain}
use Rattle.c_judge.specs.Answers.{Broken}
use Rattle.c_scope.specs.Here.{environment_of}
use Rattle.c_initial.specs.Initials.{late_in}
use Rattle.c_initial.specs.Begins.{items_begin, behind_items, strings_of, rest}
use Rattle.c_initial.specs.Starts.{given_of, begins_in}
use Rattle.c_scope.proofs.Items.{item_of}
use Rattle.c_initial.proofs.Braced.{no_aggregate, none_added, item_refused, one_added, rest_added, behind_braces}
use Rattle.c_initial.proofs.starting.+starting.Goals as goal

pub add_items-returns-then-not-is_aggregate : goal.add_items-returns-then-not-is_aggregate
add_items-returns-then-not-is_aggregate m c =
    no_aggregate (environment_of c.args.here.now) (plain c.args.t.now) c.args.at c.args.items.now (sym c.is_aggregate.ensures ∙ c.if-not-is_aggregate.true) ∙
    ap (λ r. Broken r c.args.at.at) (sym c.rule_of.ensures)

pub add_items-loop-k-init : goal.add_items-loop-k-init
add_items-loop-k-init m c =
    none_added (environment_of c.args.here.now) (plain c.args.t.now) c.args.at c.args.items.now c.args.first (given_of c.args.out.now) (sym c.is_aggregate.ensures ∙ c.if-not-is_aggregate.false)

pub add_items-returns-in-Err : goal.add_items-returns-in-Err
add_items-returns-in-Err m c =
    let i = c.loop-k.invariant in
    let j = c.index-items-k.result in
    item_refused (environment_of c.args.here.now) (plain c.args.t.now) i.0 j c.args.at c.args.items.now c.loop-k.k c.in-Err.why i.1 i.2 i.3
    (item_of c.args.items.now c.loop-k.k j c.loop-k-test.true c.index-items-k.is) c.in-Err.ensures

pub add_items-loop-k-preserved : goal.add_items-loop-k-preserved
add_items-loop-k-preserved m c =
    let j = c.index-items-k.result in
    one_added (environment_of c.args.here.now) (plain c.args.t.now) c.args.at c.args.items.now j c.loop-k.k c.args.first (given_of c.args.out.now) (given_of c.loop-k.out) (given_of c.add_item.new.out) c.loop-k.invariant
    (item_of c.args.items.now c.loop-k.k j c.loop-k-test.true c.index-items-k.is) c.in-Ok.ensures.0 c.in-Ok.ensures.1

pub add_list-returns-in_ok-add_rest-in-Ok : goal.add_list-returns-in_ok-add_rest-in-Ok
add_list-returns-in_ok-add_rest-in-Ok m c =
    let v = environment_of c.args.here.now in
    let t = plain c.args.t.now in
    let g = given_of c.args.out.now in
    let h = given_of c.add_items.new.out in
    let i = with_items (Braces c.args.at) c.args.items.now in (
      c.in-Ok.ensures.0,
      rest_added g h (record h { begins = begins_in c.add_rest.new.begins.items }) (items_begin v (c.args.first + length g.strings) t i) (behind_items v.defs t i) (strings_of v t i) (late_in v i) c.in-Ok.ensures.1
          (c.in_ok-add_rest-in-Ok.ensures ∙ (ap (λ ds. h.begins ++ rest ds t (length c.args.items.now)) c.view.ensures ∙ ap (λ zs. h.begins ++ zs) (sym (behind_braces v.defs t c.args.at c.args.items.now)))) refl refl,
    )
