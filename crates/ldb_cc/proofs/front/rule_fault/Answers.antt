use Rattle.std.proofs.Common.{List, ℕ, ◌≤◌, length, map, subst, sym}
use Rattle.ldb_cc.specs.Scanning.{items_of}
use Rattle.ldb_cc.proofs.Refused.{text_short}
use Rattle.ldb_cc.proofs.front.rule_fault.Goals as goal

pub spot_of-spot-requires : goal.spot_of-spot-requires
spot_of-spot-requires c = subst (λ (t : List ℕ). length t ≤ 1048576) (sym c.text_of.ensures) (text_short (map items_of c.args.texts.now) c.args.unit c.requires)
