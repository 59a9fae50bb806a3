use Rattle.ps_scan.proofs.Sound.{token_read}
use Rattle.ps_scan.proofs.token.each_is_a_token.Goals as goal

pub returns : goal.returns
returns c = token_read
