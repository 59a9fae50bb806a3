use Rattle.std.proofs.Common.{◌≡◌, ◌<◌, ◌++◌, drop, IfSome}
use Rattle.std.specs.Option.{option_to_list}
use Rattle.ps_scan.specs.Characters.{paired, hexadecimal_digits}
use Rattle.ps_scan.proofs.characters.hexadecimal_characters.Given as goal

-- what was made, then what is left to make
abbrev pub invariant-loop-byte : goal.invariant-loop-byte
invariant-loop-byte l = record {
  small : IfSome l.high (λ d. d < 16);
  rest : l.all.items ++ paired (option_to_list l.high ++ hexadecimal_digits (drop l.byte-index l.body)) ≡ paired (hexadecimal_digits l.body);
}
