use Rattle.debug_side.proofs.Undoing.{all_undone}
use Rattle.debug_side.proofs.Replanted.{replanted}
use Rattle.side_meaning.proofs.Stepping.{puts, fails}
use Rattle.side_meaning.proofs.laws.steps_are_meant.Goals as goal

pub returns-clause-put : goal.returns-clause-put
returns-clause-put c = puts

pub returns-clause-outside : goal.returns-clause-outside
returns-clause-outside c = fails

pub returns-clause-undone : goal.returns-clause-undone
returns-clause-undone c = λ (target : _) (ps kept : _) (b d : _) m h. all_undone target b d ps kept m h

pub returns-clause-again : goal.returns-clause-again
returns-clause-again c = λ (target : _) (ps kept : _) (b d : _) (r : _) m e h t. replanted target b d ps kept r m e h t
