use Rattle.std.proofs.Common.{◌≡◌, ℕ, List, subst, sym, Option, bytes_eq}
use Rattle.std.specs.Map.{update}
use Rattle.c_defs.specs.Numbers.{number_in}
use Rattle.c_defs.proofs.Digested.{digested_update}
use Rattle.c_defs.proofs.numbers.Numbers.restore.Goals as goal

pub returns-in-Ok : goal.returns-in-Ok
returns-in-Ok c = subst (λ (w : Option ℕ). (t : List ℕ) → number_in (record { of = c.insert.new.self }) t ≡ update bytes_eq (number_in c.args.self.now) c.args.name.now w t) (sym c.in-Some.is)
    (digested_update c.args.name.now c.digest.result c.args.self.now.of c.insert.new.self _ c.digest.ensures c.in-Ok.ensures.updates)

pub returns-in-None : goal.returns-in-None
returns-in-None c = subst (λ (w : Option ℕ). (t : List ℕ) → number_in (record { of = c.remove.new.self }) t ≡ update bytes_eq (number_in c.args.self.now) c.args.name.now w t) (sym c.in-None.is)
    (digested_update c.args.name.now c.digest.result c.args.self.now.of c.remove.new.self _ c.digest.ensures c.remove.ensures.updates)
