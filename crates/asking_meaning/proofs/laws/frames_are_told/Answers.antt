use Rattle.machine_state.specs.declared.layout.TheConstants.{CONTEXT}
use Rattle.asking.specs.Frames as asked_frames
use Rattle.claims.specs.Side.{row_of}
use Rattle.claims.specs.Frames as side_frames
use Rattle.asking_meaning.proofs.Commands.{listing_covers, choosing_covers}
use Rattle.asking_meaning.proofs.Telling.{asks_meant}
use Rattle.asking_meaning.proofs.laws.frames_are_told.Goals as goal

pub returns-clause-all : goal.returns-clause-all
returns-clause-all g c = λ m m' a. asks_meant (g.M.AbsMem.seen m) (g.M.AbsMem.seen m') (asked_frames.listing (row_of a) CONTEXT) (side_frames.listing a) a a.frame (listing_covers a)

pub returns-clause-one : goal.returns-clause-one
returns-clause-one g c = λ m m' a n. asks_meant (g.M.AbsMem.seen m) (g.M.AbsMem.seen m') (asked_frames.choosing (row_of a) CONTEXT n) (side_frames.choosing a n) a n (choosing_covers a n)
