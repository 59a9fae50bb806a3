use Rattle.ps_scan.proofs.Escaped.{escaped_body, escaped_characters, string_of_escaped}
use Rattle.ps_scan.proofs.token.escaped_strings_are_exact.Goals as goal

pub returns : goal.returns
returns c = record { body = escaped_body; characters = escaped_characters; value = string_of_escaped }
