use Rattle.std.proofs.Common.{rules, ◌-◌, w32}
use Rattle.std.proofs.lemmas.Result.{on_ok_weaker}
use Rattle.ps_emit.proofs.Followed.{◌and◌}
use Rattle.std.proofs.Math.Facts.{to_z-of_z}
use Rattle.ps_emit.proofs.functions.add_saved_register.Goals as goal

pub returns : goal.returns
returns c =
    let pair = rw (to_z-of_z {w = w32} {z = c.args.offset} (search rules)) at c.in_ok-add_register_offset.ensures in
    on_ok_weaker _ (λ e. c.in_ok-add_word.ensures and pair and e) c.add_word-2.ensures
