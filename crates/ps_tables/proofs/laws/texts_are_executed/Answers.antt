use Rattle.ps_tables.proofs.Texts.{executes}
use Rattle.ps_tables.proofs.laws.texts_are_executed.Goals as goal

pub returns : goal.returns
returns c₀ = λ post text g c t at under k. executes c t at under post text g k
