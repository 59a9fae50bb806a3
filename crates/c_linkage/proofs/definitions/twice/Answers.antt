use Rattle.std.proofs.Common.{◌≡◌, ◌∙◌, sym, ap, map, bytes_eq, Some, true, false}
use Rattle.std.specs.Map.{update}
use Rattle.c_linkage.specs.Names.{defining}
use Rattle.c_linkage.specs.Known.{known_in, behind, is_again}
use Rattle.c_linkage.proofs.Again.{first_is_twice, none_left, found_again, not_again}
use Rattle.c_linkage.proofs.definitions.twice.Goals as goal

pub returns-then-is_again : goal.returns-then-is_again
returns-then-is_again c =
    let again : is_again (known_in c.loop-d.names c.d-item.result.name.now) (defining c.d-item.result) ≡ true =
    ap (λ o. is_again o (defining c.d-item.result)) (sym (c.find-known.ensures ∙ ap (known_in c.loop-d.names) c.as_bytes-name.ensures)) ∙ (sym c.is_again.ensures ∙ c.if-is_again.true) in
    sym (found_again (known_in c.loop-d.names) c.args.definitions.now c.loop-d.d-index c.d-item.result c.loop-d-test.true c.d-item.is again) ∙
    (c.loop-d.invariant ∙ first_is_twice (map defining c.args.definitions.now) c.requires)

pub loop-d-preserved : goal.loop-d-preserved
loop-d-preserved c =
    let again : is_again (known_in c.loop-d.names c.d-item.result.name.now) (defining c.d-item.result) ≡ false =
    ap (λ o. is_again o (defining c.d-item.result)) (sym (c.find-known.ensures ∙ ap (known_in c.loop-d.names) c.as_bytes-name.ensures)) ∙ (sym c.is_again.ensures ∙ c.if-is_again.false) in
    not_again (known_in c.loop-d.names) (known_in c.set.new.self) c.args.definitions.now c.loop-d.d-index c.d-item.result c.loop-d-test.true c.d-item.is again
    (λ t. c.in_ok-set.ensures t ∙
    (ap (λ x. update bytes_eq (known_in c.loop-d.names) x (Some c.behind.result) t) c.as_bytes-name.ensures ∙
    ap (λ k. update bytes_eq (known_in c.loop-d.names) c.d-item.result.name.now (Some k) t)
    (c.behind.ensures ∙ ap (λ o. behind o (defining c.d-item.result)) (c.find-known.ensures ∙ ap (known_in c.loop-d.names) c.as_bytes-name.ensures)))) ∙
    c.loop-d.invariant

pub returns : goal.returns
returns c =
    sym (none_left (known_in c.loop-d.names) c.args.definitions.now c.loop-d.d-index c.loop-d-test.false) ∙
    (c.loop-d.invariant ∙ first_is_twice (map defining c.args.definitions.now) c.requires)
