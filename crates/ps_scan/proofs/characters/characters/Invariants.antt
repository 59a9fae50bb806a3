use Rattle.std.proofs.Common.{◌≡◌, ◌++◌, ◌-◌, drop, length}
use Rattle.ps_scan.specs.Characters.{characters}
use Rattle.ps_scan.proofs.characters.characters.Given as goal

-- what was made, then what is left to make
abbrev pub invariant-loop-i : goal.invariant-loop-i
invariant-loop-i l = l.all.items ++ characters (drop l.i l.body) ≡ characters l.body

abbrev pub decreases-loop-i : goal.decreases-loop-i
decreases-loop-i l = length l.body - l.i
