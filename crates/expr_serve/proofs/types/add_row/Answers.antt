use Rattle.std.proofs.lemmas.Result.{on_ok_weaker}
use Rattle.expr_serve.proofs.Making.{row_grown}
use Rattle.expr_serve.proofs.types.add_row.Goals as goal

pub returns : goal.returns
returns c =
    on_ok_weaker c.add_word.result (λ e. row_grown c.args.defs.now c.args.member.now {e = c.add_word.new.text} c.in_ok-append.ensures.ok c.in_ok-add_number.ensures c.in_ok-add_type.ensures e) c.add_word.ensures
