use Rattle.machine_state.specs.declared.layout.TheConstants.{CONTEXT}
use Rattle.asking.specs.Frames as asked_frames
use Rattle.claims.specs.Side.{row_of, memory_of}
use Rattle.claims.specs.Frames as side_frames
use Rattle.asking_meaning.specs.Meant.{Says}
use Rattle.asking_meaning.proofs.Commands.{listing_covers, choosing_covers}
use Rattle.asking_meaning.proofs.Wholes.{meant}
use Rattle.asking_meaning.proofs.laws.frames_are_meant.Goals as goal

pub returns-clause-all : goal.returns-clause-all
returns-clause-all c = λ a. meant (Says a) (asked_frames.listing (row_of a) CONTEXT (memory_of a)) (side_frames.listing a) a (listing_covers a)

pub returns-clause-one : goal.returns-clause-one
returns-clause-one c = λ a n. meant (Says (record a { frame = n })) (asked_frames.choosing (row_of a) CONTEXT n (memory_of a)) (side_frames.choosing a n) a (choosing_covers a n)
