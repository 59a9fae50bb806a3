use Rattle.std.proofs.Common.{◌≡◌, take, fold}
use Rattle.c_defs.specs.Digests.{more_digest}
use Rattle.c_defs.proofs.digests.digest.Given as goal

abbrev pub invariant-loop-byte : goal.invariant-loop-byte
invariant-loop-byte l = l.digest ≡ fold more_digest 0 (take l.byte-index l.name)
