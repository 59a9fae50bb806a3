use Rattle.std.proofs.Common.{◌≡◌, ℕ, sym, subst, IfOk}
use Rattle.c_typing.specs.Plain.{plain}
use Rattle.c_initial.proofs.Braced.{bound_braces}
use Rattle.c_initial.proofs.starts.list_bound.Goals as goal

pub returns : goal.returns
returns c = subst (λ (k : ℕ). IfOk c.as_bound.result (λ n. n ≡ k)) (sym (bound_braces (plain c.args.item.now) c.args.at c.args.items.now)) c.as_bound.ensures
