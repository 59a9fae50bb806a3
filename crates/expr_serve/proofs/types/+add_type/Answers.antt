use Rattle.std.proofs.lemmas.Result.{on_ok_weaker}
use Rattle.expr_serve.proofs.Making.{array_arm}
use Rattle.expr_serve.proofs.types.+add_type.Goals as goal

pub returns-in_ok-add_type-in-Array : goal.returns-in_ok-add_type-in-Array
returns-in_ok-add_type-in-Array t c =
    on_ok_weaker c.add_word-in-Array.result
    (λ e. array_arm c.args.defs.now _ _ _ _ _ {h = c.add_word-in-Array.new.text} c.in-Array.is c.deref.ensures c.in_ok-append-in-Array.ensures.ok c.in_ok-add_size-in-Array.ensures c.in_ok-append-in-Array-2.ensures.ok c.in_ok-add_number-in-Array.ensures
    c.in_ok-append-in-Array-3.ensures.ok c.in_ok-add_type-in-Array.ensures e)
    c.add_word-in-Array.ensures
