use Rattle.std.proofs.Common.{length}
use Rattle.link_image.specs.Tables.{entry_in}
use Rattle.link_image.proofs.Uses.{name_fault}
use Rattle.link_image.proofs.patch.patch_here.Goals as goal

pub returns-in-Err-clause-fault : goal.returns-in-Err-clause-fault
returns-in-Err-clause-fault c = name_fault (entry_in c.args.addresses.now) c.args.in_text (length c.args.bytes.now) c.args.place.now c.as_bytes.result.now c.in-Err.fault c.as_bytes.ensures c.in-Err.ensures.fault
