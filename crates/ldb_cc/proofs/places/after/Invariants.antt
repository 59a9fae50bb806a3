use Rattle.std.proofs.Common.{◌≡◌, ◌≤◌, ◌+◌, drop}
use Rattle.c_lex.specs.Grammar.{after}
use Rattle.ldb_cc.proofs.places.after.Given as goal

abbrev pub invariant-loop-byte : goal.invariant-loop-byte
invariant-loop-byte l = record {
  same : after l.place (drop l.byte-index l.bytes) ≡ after l.initial.place l.bytes;
  at : l.place.at ≡ l.initial.place.at + l.byte-index;
  line : l.place.line ≤ l.place.at + 1;
  column : l.place.column ≤ l.place.at + 1;
}
