use Rattle.debug_side.proofs.Undoing.{all_undone}
use Rattle.debug_side.proofs.Replanted.{replanted}
use Rattle.side_meaning.proofs.Sessions.{resumes_answered}
use Rattle.side_meaning.proofs.laws.resumes_are_answered.Goals as goal

pub returns : goal.returns
returns c =
    resumes_answered (λ (target : _) (ps kept : _) (b d : _) m h. all_undone target b d ps kept m h) (λ (target : _) (ps kept : _) (b d : _) (r : _) m e h t. replanted target b d ps kept r m e h t)
