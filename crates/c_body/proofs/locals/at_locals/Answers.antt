use Rattle.std.proofs.Common.{◌≡◌, ◌+◌, [], ◌∷◌, drop, Some, Ok, Err, sym, ap, subst, ◌∙◌}
use Rattle.std.specs.Prelude.{option_map}
use Rattle.std.proofs.lemmas.List.{drop_more, drop_all}
use Rattle.c_body.specs.PassingLocals.{PassesLocals, before_rest, in_front}
use Rattle.c_body.specs.Walking.{walk_of}
use Rattle.c_body.proofs.PassedLocals.{locals_pass, locals_break, none_pass, moved, all_passed, all_failed}
use Rattle.c_body.proofs.locals.at_locals.Goals as goal

pub returns-in-Err-clause-passes : goal.returns-in-Err-clause-passes
returns-in-Err-clause-passes c =
    let l = c.args.local.now in
    let i = c.loop-name.name-index in
    let d = c.name-item.result in
    let ds = c.as_slice-name-items.result.now in
    let w = walk_of c.loop-name.walk in
    let u = walk_of c.at_local.new.walk in
    let rest : drop i ds ≡ d ∷ drop (i + 1) ds = drop_more ds i d c.loop-name-test.true ∙ ap (λ x. x ∷ drop (i + 1) ds) (sym c.name-item.is) in
    let more : drop i l.names ≡ d ∷ drop (i + 1) l.names = subst (λ xs. drop i xs ≡ d ∷ drop (i + 1) xs) c.as_slice-name-items.ensures rest in
    all_failed l (walk_of c.args.walk.now) u l.names c.in-Err.f
    (c.loop-name.invariant.found (Err c.in-Err.f) u (subst (λ xs. PassesLocals l w xs (Err c.in-Err.f) u) (sym more) (locals_break l w u u d (drop (i + 1) l.names) c.in-Err.f c.in-Err.ensures.found)))

pub loop-name-preserved : goal.loop-name-preserved
loop-name-preserved c =
    let l = c.args.local.now in
    let i = c.loop-name.name-index in
    let d = c.name-item.result in
    let ds = c.as_slice-name-items.result.now in
    let w = walk_of c.loop-name.walk in
    let one = c.in-Ok.one in
    let made = option_map (λ v. v.items) c.loop-name.made in
    let rest : drop i ds ≡ d ∷ drop (i + 1) ds = drop_more ds i d c.loop-name-test.true ∙ ap (λ x. x ∷ drop (i + 1) ds) (sym c.name-item.is) in
    let more : drop i l.names ≡ d ∷ drop (i + 1) l.names = subst (λ xs. drop i xs ≡ d ∷ drop (i + 1) xs) c.as_slice-name-items.ensures rest in
    record {
      found = λ x u h.
          let g = locals_pass l w (walk_of c.at_local.new.walk) u d (drop (i + 1) l.names) one x c.in-Ok.ensures.found h in
          subst (λ y. PassesLocals l (walk_of c.args.walk.now) l.names y u) (moved x one made ∙ ap (before_rest x) (sym c.in_ok-made.ensures))
          (c.loop-name.invariant.found (in_front x one) u (subst (λ xs. PassesLocals l w xs (in_front x one) u) (sym more) g));
      start = c.in-Ok.ensures.start ∙ c.loop-name.invariant.start;
    }

pub returns-clause-passes : goal.returns-clause-passes
returns-clause-passes c =
    let l = c.args.local.now in
    let i = c.loop-name.name-index in
    let w = walk_of c.loop-name.walk in
    let none : drop i l.names ≡ [] = subst (λ xs. drop i xs ≡ []) c.as_slice-name-items.ensures (drop_all i c.as_slice-name-items.result.now c.loop-name-test.false) in
    all_passed l (walk_of c.args.walk.now) w l.names c.loop-name.made (c.loop-name.invariant.found (Ok (Some [])) w (subst (λ xs. PassesLocals l w xs (Ok (Some [])) w) (sym none) (none_pass l w)))
