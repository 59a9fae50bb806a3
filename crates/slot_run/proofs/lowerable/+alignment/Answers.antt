use Rattle.std.proofs.Common.{arith}
use Rattle.c_tree.specs.Layout.{alignment_within}
use Rattle.slot_run.proofs.Steps.{largest_begin}
use Rattle.slot_run.proofs.lowerable.+alignment.Goals as goal

pub largest-loop-member-init : goal.largest-loop-member-init
largest-loop-member-init t c = record { positive = omega arith; so_far = largest_begin (alignment_within c.args.defs.now c.args.deep) c.args.members.now }
