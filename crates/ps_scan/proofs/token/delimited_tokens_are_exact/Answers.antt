use Rattle.ps_scan.proofs.Exact.{token_exact}
use Rattle.ps_scan.proofs.token.delimited_tokens_are_exact.Goals as goal

pub returns : goal.returns
returns c = token_exact
