use Rattle.std.proofs.lemmas.Result.{on_ok_weaker}
use Rattle.ps_emit.proofs.Followed.{◌and◌}
use Rattle.ps_emit.proofs.types.+add_type.Goals as goal

pub returns-in_ok-add_type-in-Pointer : goal.returns-in_ok-add_type-in-Pointer
returns-in_ok-add_type-in-Pointer t c =
    rw (c.in-Pointer.is, ← c.deref.ensures) (on_ok_weaker _ (λ e. c.in_ok-add_type-in-Pointer.ensures and e) c.add_word-in-Pointer.ensures)

pub returns-in_ok-add_number-in-Array : goal.returns-in_ok-add_number-in-Array
returns-in_ok-add_number-in-Array t c =
    rw (c.in-Array.is, ← c.deref-in-Array.ensures) (on_ok_weaker _ (λ e. c.in_ok-add_type-in-Array.ensures and c.in_ok-add_number-in-Array.ensures and e) c.add_word-in-Array.ensures)
