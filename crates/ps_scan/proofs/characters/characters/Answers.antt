use Rattle.ps_scan.proofs.Parts.{one_more}
use Rattle.ps_scan.proofs.characters.characters.Goals as goal

pub loop-i-preserved : goal.loop-i-preserved
loop-i-preserved c =
    one_more c.args.body.now c.loop-i.all.items c.add.new.all.items c.loop-i.i c.part_at-len.result
    c.part_at-len.ensures.part c.part_at-len.ensures.some c.in_ok-add.ensures c.loop-i.invariant
