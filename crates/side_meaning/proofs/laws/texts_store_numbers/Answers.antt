use Rattle.side_meaning.proofs.Storing.{reached, runs_kept, reaches_keep}
use Rattle.side_meaning.proofs.laws.texts_store_numbers.Goals as goal

pub returns : goal.returns
returns c = record { runs = runs_kept; reaches = reaches_keep; machines = reached }
