use Rattle.unit_tables.proofs.Forced.{forced_gives}
use Rattle.unit_tables.proofs.laws.functions_are_forced.Goals as goal

pub returns : goal.returns
returns g c₀ = λ p fs u c c' index left m t d d' result runs followed few furnished unit room forces other.
    forced_gives g.D.Dialect.operates p fs runs u c c' index left m t d d' result followed few furnished unit room forces other
