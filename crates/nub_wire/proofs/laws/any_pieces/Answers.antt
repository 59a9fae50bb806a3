use Rattle.nub_wire.proofs.LawsOfStreams.{split_pieces, breaks, only_pieces}
use Rattle.nub_wire.proofs.laws.any_pieces.Goals as goal

pub returns : goal.returns
returns c = record { split = split_pieces; bad = breaks; only = only_pieces }
