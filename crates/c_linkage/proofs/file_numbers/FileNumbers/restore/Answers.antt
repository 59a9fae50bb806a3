use Rattle.std.proofs.Common.{◌≡◌, ℕ, List, subst, sym, Option}
use Rattle.c_linkage.specs.FileNumbers.{number_at, with_number}
use Rattle.c_linkage.proofs.Pairs.{pairs_update}
use Rattle.c_linkage.proofs.file_numbers.FileNumbers.restore.Goals as goal

pub returns-in-Ok : goal.returns-in-Ok
returns-in-Ok c = subst (λ (w : Option ℕ). (v : ℕ) (t : List ℕ) → number_at (record { of = c.insert.new.self }) v t ≡ with_number (number_at c.args.self.now) c.args.unit c.args.name.now w v t) (sym c.in-Some.is)
    (pairs_update c.args.unit c.args.name.now c.digest.result c.args.self.now.of c.insert.new.self _ c.digest.ensures c.in-Ok.ensures.updates)

pub returns-in-None : goal.returns-in-None
returns-in-None c = subst (λ (w : Option ℕ). (v : ℕ) (t : List ℕ) → number_at (record { of = c.remove.new.self }) v t ≡ with_number (number_at c.args.self.now) c.args.unit c.args.name.now w v t) (sym c.in-None.is)
    (pairs_update c.args.unit c.args.name.now c.digest.result c.args.self.now.of c.remove.new.self _ c.digest.ensures c.remove.ensures.updates)
