use Rattle.std.proofs.Common.{map}
use Rattle.c_judge.specs.Judgement.{function_numbered}
use Rattle.c_judge.specs.Calls.{typed_in}
use Rattle.c_judge.specs.Judges.{scope_of}
use Rattle.c_judge.proofs.Listing.{call_makes}
use Rattle.c_judge.proofs.calls.called.Goals as goal

pub returns : goal.returns
returns c =
    call_makes c.args.at (function_numbered (scope_of c.args.v.now) c.args.calling.callee) (map typed_in c.args.calling.arguments.items)
    c.args.calling.callee c.unwrap_or-n.result c.in_ok-t.t c.head.result c.in_ok-typed.typed c.part_of.result c.part_of.ensures
    c.in_ok-t.ensures c.head.ensures.site c.head.ensures.ctype c.unwrap_or-n.ensures c.in_ok-typed.ensures
