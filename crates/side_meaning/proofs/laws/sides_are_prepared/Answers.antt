use Rattle.debug_side.proofs.Undoing.{all_undone}
use Rattle.side_meaning.proofs.Beginning.{continues, steps_begin, points_fail, words_fail}
use Rattle.side_meaning.proofs.laws.sides_are_prepared.Goals as goal

pub returns-clause-continues : goal.returns-clause-continues
returns-clause-continues c = continues

pub returns-clause-steps : goal.returns-clause-steps
returns-clause-steps c = steps_begin (λ (target : _) (ps kept : _) (b d : _) m h. all_undone target b d ps kept m h)

pub returns-clause-points : goal.returns-clause-points
returns-clause-points c = points_fail

pub returns-clause-words : goal.returns-clause-words
returns-clause-words c = words_fail
