use Rattle.ps_tables.proofs.TablePieces.{top_is, top_performs}
use Rattle.ps_tables.proofs.laws.tops_are_left.Goals as goal

pub returns : goal.returns
returns c₀ = record {
  text = top_is;
  left = λ p place objects structs k post s ds o t at under same few is knows room enough fits. top_performs ds t under fits post p place objects structs k s o at same few is knows room enough;
}
