use Rattle.std.proofs.Common.{None}
use Rattle.ps_leaves.specs.Forms.{pointer_text_of}
use Rattle.ps_bare.proofs.Acting.{dropped_text, pointer_bare}
use Rattle.ps_bare.proofs.texts.put_address.Goals as goal

pub returns-clause-acts : goal.returns-clause-acts
returns-clause-acts c =
    let core = c.args.core.now in
    λ cell. dropped_text 30 cell core c.put_pointer.new.core c.put_pointer.result 1 (pointer_text_of None core) c.new-out.result c.put_pointer.new.out (pointer_bare cell core) c.new-out.ensures c.put_pointer.ensures.does
