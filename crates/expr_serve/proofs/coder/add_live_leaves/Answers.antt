use Rattle.std.proofs.lemmas.Result.{on_ok_weaker}
use Rattle.ps_emit.proofs.Followed.{◌and◌}
use Rattle.expr_serve.proofs.Growing.{appended}
use Rattle.expr_serve.proofs.coder.add_live_leaves.Goals as goal

pub returns : goal.returns
returns c =
    on_ok_weaker _ (λ e. appended c.in_ok-append.ensures.ok c.brought.ensures and c.in_ok-add_leaves.ensures and c.in_ok-add_word.ensures and e) c.add_word-2.ensures
