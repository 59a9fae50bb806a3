use Rattle.std.proofs.Common.{rules, ◌≡◌, ◌<◌, ◌+◌, ◌-◌, ◌∙◌, ap, sym, subst, suc, take, drop, length, [], ◌∷◌, ◌++◌, None, arith}
use Rattle.std.proofs.lemmas.List.{take_more, take_all, length-take-le}
use Rattle.c_trees.specs.Expressions.{Call, Member, behind_stars, with_arguments}
use Rattle.c_trees.specs.ExpressionView.{tree_of}
use Rattle.c_typing.specs.Plain.{plain}
use Rattle.c_judge.specs.Bounds.{one_bound, all_bounds}
use Rattle.c_judge.specs.Calls.{Calls, Gathers}
use Rattle.c_judge.specs.Judges.{Gives, Judges, scope_of}
use Rattle.c_lex.specs.declared.token.Place.{Place}
use Rattle.c_judge.proofs.Bounds.{unbounded_denotes, bounds_more, declared_without, declared_with}
use Rattle.c_judge.proofs.Depths.{depth_view, depth_call, depth_item, bound_item}
use Rattle.c_judge.proofs.Called.{named_calls, dropped_calls, argument_is}
use Rattle.c_judge.proofs.Gathered.{one_more}
use Rattle.c_judge.proofs.expr.+judging.Goals as goal

pub callee-returns-in-Some : goal.callee-returns-in-Some
callee-returns-in-Some t c = named_calls (scope_of c.args.v.now) c.args.f.now c.in-Some.name.now c.named.result c.in-Some.ensures c.named.ensures

pub callee-returns-in-None : goal.callee-returns-in-None
callee-returns-in-None t c = subst (Calls (scope_of c.args.v.now) c.args.f.now) (sym c.unnamed.ensures) (dropped_calls (scope_of c.args.v.now) c.args.f.now c.judge.result c.in-None.ensures c.judge.ensures)

pub one_bound-returns-in-None : goal.one_bound-returns-in-None
one_bound-returns-in-None t c = λ j h.
    let v = scope_of c.args.v.now in
    subst (λ b. Gives plain (one_bound v c.args.at b j) c.unbounded.result) (sym c.in-None.is)
    (subst (Gives plain (one_bound v c.args.at None j)) (sym c.unbounded.ensures) (unbounded_denotes v c.args.at j c.args.t h))

pub one_bound-returns-in-Some : goal.one_bound-returns-in-Some
one_bound-returns-in-Some t c = λ j h.
    let v = scope_of c.args.v.now in
    subst (λ b. Gives plain (one_bound v c.args.at b j) c.at_bound.result) (sym c.in-Some.is) (c.at_bound.ensures j c.in-Some.e (ap (λ (q : Place). q.at) c.place_of.ensures) h c.judge.ensures)

pub gathered-gathering-init : goal.gathered-gathering-init
gathered-gathering-init t c = record {
  inside = omega arith;
  gathers = c.begun-calling.ensures c.args.f.now c.callee.ensures;
}

pub gathered-gathering-preserved : goal.gathered-gathering-preserved
gathered-gathering-preserved t c =
    let v = scope_of c.args.v.now in
    let i = c.gathering.i in
    let es = c.args.arguments.now in
    let e = c.index-arguments-i.result in
    let at = c.args.at in
    let f = c.args.f.now in
    let before = take i es in
    let inside : i < length es = c.gathering-test.true in
    let more : take (i + 1) es ≡ before ++ e ∷ [] = take_more es i e inside ∙ ap (λ x. before ++ x ∷ []) (sym c.index-arguments-i.is) in
    let count : i ≡ length before = sym (length-take-le i es (omega (arith, inside))) in
    let argument = argument_is v at f before e c.number_called-n.result i c.place_of.result.at c.judge.result c.passed-x.result c.number_called-n.ensures count (ap (λ (q : Place). q.at) c.place_of.ensures) c.judge.ensures c.passed-x.ensures in
    record {
      inside = omega (arith, inside);
      gathers = subst (λ s. Gathers v (length es) s c.extended-calling.result) (sym (ap (with_arguments (Call at f)) more ∙ one_more (Call at f) before e))
          (c.extended-calling.ensures v (length es) (with_arguments (Call at f) before) e c.gathering.invariant.gathers argument);
    }

pub gathered-returns : goal.gathered-returns
gathered-returns t c =
    let es = c.args.arguments.now in
    subst (λ xs. Gathers (scope_of c.args.v.now) (length es) (with_arguments (Call c.args.at c.args.f.now) xs) c.gathering.calling) (take_all c.gathering.i es (omega (arith, c.gathering-test.false))) c.gathering.invariant.gathers

pub within_bounds-bounding-preserved : goal.within_bounds-bounding-preserved
within_bounds-bounding-preserved t c =
    let v = scope_of c.args.v.now in
    let bs = c.args.bounds.now in
    let n = c.bounding.i - 1 in
    let item = c.index-bounds-i.result in
    let e : c.bounding.i ≡ suc n = omega (arith, c.bounding-test.true) in
    let inside : n < length bs = omega (arith, c.bounding-test.true, c.bounding.invariant.inside) in
    record {
      inside = omega (arith, c.bounding.invariant.inside);
      typed = λ j h.
          let before = subst (λ k. Gives plain (all_bounds v c.args.at (drop k bs) j) c.bounding.t) e (c.bounding.invariant.typed j h) in
          subst (λ w. Gives plain w c.one_bound-t.result) (sym (bounds_more v c.args.at bs n item j inside ∙ ap (λ b. one_bound v c.args.at b (all_bounds v c.args.at (drop (suc n) bs) j)) (sym c.index-bounds-i.is)))
          (c.one_bound-t.ensures (all_bounds v c.args.at (drop (suc n) bs) j) before);
    }

pub within_bounds-returns : goal.within_bounds-returns
within_bounds-returns t c = λ j h.
    let e : c.bounding.i ≡ 0 = omega (arith, c.bounding-test.false) in
    subst (λ k. Gives plain (all_bounds (scope_of c.args.v.now) c.args.at (drop k c.args.bounds.now) j) c.bounding.t) e (c.bounding.invariant.typed j h)

pub declared-returns-in-None : goal.declared-returns-in-None
declared-returns-in-None t c = λ j h.
    declared_without (scope_of c.args.v.now) c.args.at (λ b. b.value) c.d.inside.stars c.d.inside.inner c.d.inside.bounds.items c.deref.result.now c.args.d.now j c.within_bounds-t.result c.d.view_is c.in-None.is c.deref.ensures.value
    (c.within_bounds-t.ensures _ (c.starred-t.ensures j h))

pub declared-returns-in-Some : goal.declared-returns-in-Some
declared-returns-in-Some t c = λ j h.
    declared_with (scope_of c.args.v.now) c.args.at (λ b. b.value) c.d.inside.stars c.d.inside.inner c.in-Some.inner c.d.inside.bounds.items c.deref.result.now c.args.d.now c.deref-in-Some.result.now j c.declared.result c.d.view_is c.in-Some.is c.deref-in-Some.ensures c.deref.ensures.value
    (c.declared.ensures _ (c.within_bounds-t.ensures _ (c.starred-t.ensures j h)))

pub declared-within_bounds-t-requires : goal.declared-within_bounds-t-requires
declared-within_bounds-t-requires t c =
    let less = depth_view (behind_stars (λ b. b.value) c.d.inside.stars c.d.inside.inner) c.args.d.now c.d.inside.bounds.items c.deref.result.now c.d.view_is c.deref.ensures.value in
    (first_of (omega (arith, less, c.decreases), search (rules, less), grind (arith, less, c.decreases)), tt)

pub gathered-judge-requires : goal.gathered-judge-requires
gathered-judge-requires t c =
    let less = depth_item c.args.arguments.now c.gathering.i c.index-arguments-i.result c.gathering-test.true c.index-arguments-i.is in
    (first_of (omega (arith, less, c.decreases), search (rules, less), grind (arith, less, c.decreases)), tt)

pub judge-gathered-requires : goal.judge-gathered-requires
judge-gathered-requires t c =
    let more = depth_call c.in-Call.at c.in-Call.f.value c.deref-in-Call.result.now c.args.e.now c.in-Call.arguments.items c.deref-in-Call-2.result.now (ap tree_of (sym c.in-Call.is) ∙ c.e.view_is) c.deref-in-Call.ensures c.deref-in-Call-2.ensures.value in
    (first_of (omega (arith, more, c.decreases), search (rules, more), grind (arith, more, c.decreases)), tt)

pub within_bounds-one_bound-t-requires : goal.within_bounds-one_bound-t-requires
within_bounds-one_bound-t-requires t c =
    let inside : c.bounding.i - 1 < length c.args.bounds.now = omega (arith, c.bounding-test.true, c.bounding.invariant.inside) in
    let less = bound_item c.args.bounds.now (c.bounding.i - 1) c.index-bounds-i.result inside c.index-bounds-i.is in
    first_of (search (rules, less), grind (arith, less, c.decreases))

pub judge-returns-in-Paren : goal.judge-returns-in-Paren
judge-returns-in-Paren t c =
    let v = scope_of c.args.v.now in
    let view = ap tree_of (sym c.in-Paren.is) ∙ c.e.view_is in
    subst (λ e. Judges v e c.at_paren.result) view (c.at_paren.ensures v c.in-Paren.a.value (subst (λ x. Judges v x c.judge.result) c.deref.ensures c.judge.ensures))

pub judge-returns-in-Index : goal.judge-returns-in-Index
judge-returns-in-Index t c =
    let v = scope_of c.args.v.now in
    let view = ap tree_of (sym c.in-Index.is) ∙ c.e.view_is in
    subst (λ e. Judges v e c.at_index.result) view (c.at_index.ensures c.in-Index.a.value c.in-Index.b.value (subst (λ x. Judges v x c.judge-in-Index.result) c.deref-in-Index.ensures c.judge-in-Index.ensures) (subst (λ x. Judges v x c.judge-in-Index-2.result) c.deref-in-Index-2.ensures c.judge-in-Index-2.ensures))

pub judge-returns-in-Binary : goal.judge-returns-in-Binary
judge-returns-in-Binary t c =
    let v = scope_of c.args.v.now in
    let view = ap tree_of (sym c.in-Binary.is) ∙ c.e.view_is in
    subst (λ e. Judges v e c.at_binary.result) view (c.at_binary.ensures c.in-Binary.a.value c.in-Binary.b.value (subst (λ x. Judges v x c.judge-in-Binary.result) c.deref-in-Binary.ensures c.judge-in-Binary.ensures) (subst (λ x. Judges v x c.judge-in-Binary-2.result) c.deref-in-Binary-2.ensures c.judge-in-Binary-2.ensures))

pub judge-returns-in-Call : goal.judge-returns-in-Call
judge-returns-in-Call t c =
    let v = scope_of c.args.v.now in
    let view = ap tree_of (sym c.in-Call.is) ∙ c.e.view_is in
    let f = c.in-Call.f.value in
    let at = c.in-Call.at in
    let gathers = subst (λ g. Gathers v (length c.deref-in-Call-2.result.now) (with_arguments (Call at g) c.deref-in-Call-2.result.now) c.gathered.result) c.deref-in-Call.ensures c.gathered.ensures in
    let all = subst (λ es. Gathers v (length es) (with_arguments (Call at f) es) c.gathered.result) c.deref-in-Call-2.ensures.value gathers in
    subst (λ e. Judges v e c.at_call.result) view (c.at_call.ensures f c.in-Call.arguments.items all)

pub judge-returns-in-Member : goal.judge-returns-in-Member
judge-returns-in-Member t c =
    let v = scope_of c.args.v.now in
    let view = ap tree_of (sym c.in-Member.is) ∙ c.e.view_is in
    let access = c.in-Member.access in
    let made = c.at_member.ensures c.in-Member.a.value c.in-Member.field-3 (subst (λ x. Judges v x c.judge-in-Member.result) c.deref-in-Member.ensures c.judge-in-Member.ensures) in
    subst (λ e. Judges v e c.at_member.result) view (subst (λ n. Judges v (Member c.in-Member.at c.in-Member.a.value access c.in-Member.field-3 n) c.at_member.result) c.as_bytes.ensures made)

pub judge-returns-in-After : goal.judge-returns-in-After
judge-returns-in-After t c =
    let v = scope_of c.args.v.now in
    let view = ap tree_of (sym c.in-After.is) ∙ c.e.view_is in
    subst (λ e. Judges v e c.at_after.result) view (c.at_after.ensures c.in-After.a.value (subst (λ x. Judges v x c.judge-in-After.result) c.deref-in-After.ensures c.judge-in-After.ensures))

pub judge-returns-in-Prefix : goal.judge-returns-in-Prefix
judge-returns-in-Prefix t c =
    let v = scope_of c.args.v.now in
    let view = ap tree_of (sym c.in-Prefix.is) ∙ c.e.view_is in
    subst (λ e. Judges v e c.at_prefix.result) view (c.at_prefix.ensures c.in-Prefix.a.value (subst (λ x. Judges v x c.judge-in-Prefix.result) c.deref-in-Prefix.ensures c.judge-in-Prefix.ensures))

pub judge-returns-in-SizeofType : goal.judge-returns-in-SizeofType
judge-returns-in-SizeofType t c =
    let v = scope_of c.args.v.now in
    let view = ap tree_of (sym c.in-SizeofType.is) ∙ c.e.view_is in
    subst (λ e. Judges v e c.at_size.result) view (c.at_size.ensures c.in-SizeofType.name.spec c.in-SizeofType.name.declarator c.written_type.ensures)

pub judge-returns-in-Cast : goal.judge-returns-in-Cast
judge-returns-in-Cast t c =
    let v = scope_of c.args.v.now in
    let view = ap tree_of (sym c.in-Cast.is) ∙ c.e.view_is in
    subst (λ e. Judges v e c.at_cast.result) view (c.at_cast.ensures v c.in-Cast.name.spec c.in-Cast.name.declarator c.in-Cast.a.value c.written_type-in-Cast.ensures (subst (λ x. Judges v x c.judge-in-Cast.result) c.deref-in-Cast.ensures c.judge-in-Cast.ensures))

pub judge-returns-in-Choice : goal.judge-returns-in-Choice
judge-returns-in-Choice t c =
    let v = scope_of c.args.v.now in
    let view = ap tree_of (sym c.in-Choice.is) ∙ c.e.view_is in
    subst (λ e. Judges v e c.at_choice.result) view (c.at_choice.ensures v c.in-Choice.c.value c.in-Choice.a.value c.in-Choice.b.value (subst (λ x. Judges v x c.judge-in-Choice.result) c.deref-in-Choice.ensures c.judge-in-Choice.ensures) (subst (λ x. Judges v x c.judge-in-Choice-2.result) c.deref-in-Choice-2.ensures c.judge-in-Choice-2.ensures) (subst (λ x. Judges v x c.judge-in-Choice-3.result) c.deref-in-Choice-3.ensures c.judge-in-Choice-3.ensures))
