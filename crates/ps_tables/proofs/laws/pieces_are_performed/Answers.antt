use Rattle.ps_tables.proofs.Pieces.{performs}
use Rattle.ps_tables.proofs.laws.pieces_are_performed.Goals as goal

pub returns : goal.returns
returns c₀ = λ post s ds p k vs xs o t at under is knows room units fits shows here. performs ds t under fits post p k vs s xs o at is knows room units shows here
