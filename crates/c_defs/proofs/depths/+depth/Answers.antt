use Rattle.std.proofs.Common.{◌≡◌, ◌≤◌, ◌<◌, ◌+◌, min, max, ◌&&◌, nat_le, drop, sym, ap, ◌∙◌, arith}
use Rattle.c_typing.specs.Plain.{plain}
use Rattle.c_defs.specs.Depths.{is_within, are_within}
use Rattle.c_defs.proofs.Comparing.{le_min, most_of}
use Rattle.c_defs.proofs.Deep.{struct_deep, member_beyond, member_deep}
use Rattle.c_defs.proofs.Described.{described}
use Rattle.c_defs.proofs.depths.+depth.Goals as goal

pub depth-returns-in-Struct-clause-within : goal.depth-returns-in-Struct-clause-within
depth-returns-in-Struct-clause-within t c =
    struct_deep c.args.defs.now (plain c.args.t.now) c.in-Struct.s c.args.deep c.struct_depth.result (ap plain c.in-Struct.is) c.if-deep-eq0.false c.struct_depth.ensures.within

pub struct_depth-returns-in-Some-clause-within : goal.struct_depth-returns-in-Some-clause-within
struct_depth-returns-in-Some-clause-within t c n h =
    let r = c.in-Some.row.now in
    let deep : n ≤ 63 = omega (arith, h, c.requires.deep) in
    let short : n < c.args.deep + 1 = omega (arith, h) in
    let e : c.min.result ≡ min r.deepest (c.args.deep + 1) = c.min.ensures in
    (described c.args.defs.now c.args.rows.now c.args.s r c.requires.kept (sym c.in-Some.ensures)).depth n deep ∙ (sym (le_min r.deepest (c.args.deep + 1) n short) ∙ ap (λ d. nat_le d n) (sym e))

pub deepest-returns-then-d-deep-clause-within : goal.deepest-returns-then-d-deep-clause-within
deepest-returns-then-d-deep-clause-within t c =
    member_beyond c.args.defs.now c.args.members.now c.loop-member.member-index c.member-item.result c.loop-member.deepest c.depth-d.result c.args.deep c.loop-member-test.true c.member-item.is
    c.depth-d.ensures.within c.if-d-deep.true c.loop-member.invariant.within

pub deepest-loop-member-preserved : goal.deepest-loop-member-preserved
deepest-loop-member-preserved t c =
    let e : c.max-deepest.result ≡ max c.loop-member.deepest c.depth-d.result = c.max-deepest.ensures ∙ most_of c.loop-member.deepest c.depth-d.result in
    record {
      most = omega (arith, e, c.if-d-deep.false, c.loop-member.invariant.most);
      within = λ n h. member_deep c.args.defs.now c.args.members.now c.loop-member.member-index c.member-item.result c.loop-member.deepest c.depth-d.result c.args.deep c.loop-member-test.true c.member-item.is
          c.depth-d.ensures.within c.loop-member.invariant.within n h ∙ ap (λ d. nat_le d n && are_within (is_within c.args.defs.now n) (drop (c.loop-member.member-index + 1) c.args.members.now)) (sym e);
    }
