use Rattle.std.proofs.Common.{◌+◌, ◌++◌, List, map, drop, sym, ap, subst, ◌∙◌}
use Rattle.c_tree.specs.declared.types.Member.{Member}
use Rattle.c_tree.specs.Layout.{AreLaid}
use Rattle.c_struct.specs.Structs.{written}
use Rattle.c_struct.specs.Opened.{written_member}
use Rattle.c_scope.proofs.Items.{item_of}
use Rattle.c_struct.proofs.Laid.{too_large, member_laid, member_written}
use Rattle.c_struct.proofs.laying.lay.Goals as goal

pub returns-in-None : goal.returns-in-None
returns-in-None c =
    let ms = drop (c.loop-m.m-index + 1) c.args.written.now in
    let e = item_of c.args.written.now c.loop-m.m-index c.m-item.result c.loop-m-test.true c.m-item.is in
    too_large c.args.defs.now c.loop-m.laid c.loop-m.end c.m-item.result ms c.args.written.now c.loop-m.invariant.laid
    (ap (λ ws. map written c.loop-m.laid ++ map written_member ws) (sym e) ∙ c.loop-m.invariant.members) c.in-None.ensures

pub loop-m-preserved : goal.loop-m-preserved
loop-m-preserved c =
    let ms = drop (c.loop-m.m-index + 1) c.args.written.now in
    let e = item_of c.args.written.now c.loop-m.m-index c.m-item.result c.loop-m-test.true c.m-item.is in
    let p = c.in-Some.p in
    let r = c.in_ok-member.field-0 in
    record {
      laid = subst (λ (ds : List Member). AreLaid c.args.defs.now 0 ds p.1) (sym c.in_ok-push.ensures.ok)
          (member_laid c.args.defs.now c.loop-m.laid c.m-item.result r c.loop-m.end p.0 p.1 c.loop-m.invariant.laid c.in-Some.ensures.0 c.in-Some.ensures.1 c.in_ok-member.ensures);
      members = ap (λ ds. map written ds ++ map written_member ms) c.in_ok-push.ensures.ok ∙
          member_written c.loop-m.laid c.m-item.result r p.0 ms c.args.written.now c.in_ok-member.ensures (ap (λ ws. map written c.loop-m.laid ++ map written_member ws) (sym e) ∙ c.loop-m.invariant.members);
      within = c.in-Some.ensures.2;
    }
