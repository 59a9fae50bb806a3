use Rattle.std.proofs.Common.{◌≡◌, ◌++◌, ◌-◌, suc, ℕ, sym, subst, OnOk, arith}
use Rattle.ldb_make.specs.Program.{call_line}
use Rattle.ldb_make.proofs.program.add_call_line.Goals as goal

pub returns : goal.returns
unfolding call_line
returns c =
    let one : c.args.function ≡ suc (c.args.function - 1) = omega arith in
    subst (λ (f : ℕ). OnOk c.add_with.result (c.add_with.new.text ≡ c.args.text.now ++ call_line f)) (sym one) c.add_with.ensures
