use Rattle.unit_ends.proofs.Ending.{forced}
use Rattle.unit_ends.proofs.laws.units_are_forced.Goals as goal

pub returns : goal.returns
returns c₀ = λ p fs u c c' k index left left' t units answer runs followed few furnished unit listed here room forces. forced p fs u c c' k index left left' t units answer runs followed few furnished unit listed here room forces
