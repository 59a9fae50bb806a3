use Rattle.std.proofs.Common.{◌∙◌, sym, [], map}
use Rattle.c_linkage.specs.Names.{defining}
use Rattle.c_rows.specs.Fresh.{sees}
use Rattle.c_rows.proofs.Listed.{object_more, objects_left, fresh_objects}
use Rattle.c_rows.proofs.numbering.objects.Goals as goal

pub loop-d-preserved : goal.loop-d-preserved
loop-d-preserved c =
    object_more c.args.definitions.now c.loop-d.d-index c.d-item.result (map defining c.loop-d.objects.items) (map defining c.add_object.new.objects.items) (sees c.loop-d.seen) (sees c.add_object.new.seen) c.loop-d-test.true c.d-item.is
    c.in_ok-add_object.ensures.objects c.in_ok-add_object.ensures.seen ∙ c.loop-d.invariant

pub returns : goal.returns
returns c =
    sym (objects_left (map defining c.loop-d.objects.items) c.args.definitions.now c.loop-d.d-index (sees c.loop-d.seen) c.loop-d-test.false) ∙
    (c.loop-d.invariant ∙ fresh_objects [] (map defining c.args.definitions.now))
