use Rattle.ps_tables.proofs.TablePieces.{saved_are, point_are, saved_cost, point_cost}
use Rattle.ps_tables.proofs.laws.items_are_pieces.Goals as goal

pub returns : goal.returns
returns c = record { saved = saved_are; point = point_are; saved_cost = saved_cost; point_cost = point_cost }
