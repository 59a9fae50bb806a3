use Rattle.ldb_top.proofs.Joined.{conversations}
use Rattle.ldb_top.proofs.laws.conversations_are_joined.Goals as goal

pub returns : goal.returns
returns c = conversations
