use Rattle.std.proofs.Common.{◌≡◌, ◌<◌, ◌*◌, ◌+◌, ◌-◌, ◌%◌, fold, drop}
use Rattle.ps_scan.proofs.characters.octal_value.Given as goal

-- what is left decides
abbrev pub invariant-loop-byte : goal.invariant-loop-byte
invariant-loop-byte l = record {
  small : l.value < 256;
  rest : fold (λ n b. (n * 8 + (b - 48)) % 256) l.value (drop l.byte-index l.digits) ≡ fold (λ n b. (n * 8 + (b - 48)) % 256) 0 l.digits;
}
