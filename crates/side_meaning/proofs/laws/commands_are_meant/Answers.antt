use Rattle.debug_side.proofs.Undoing.{all_undone}
use Rattle.debug_side.proofs.Replanted.{replanted}
use Rattle.side_meaning.proofs.Beginning.{whole_continue, whole_step}
use Rattle.side_meaning.proofs.laws.commands_are_meant.Goals as goal

pub returns-clause-continues : goal.returns-clause-continues
returns-clause-continues c = whole_continue (λ (target : _) (ps kept : _) (b d : _) (r : _) m e h t. replanted target b d ps kept r m e h t)

pub returns-clause-steps : goal.returns-clause-steps
returns-clause-steps c =
    whole_step (λ (target : _) (ps kept : _) (b d : _) m h. all_undone target b d ps kept m h) (λ (target : _) (ps kept : _) (b d : _) (r : _) m e h t. replanted target b d ps kept r m e h t)
