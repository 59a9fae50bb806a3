use Rattle.std.proofs.Common.{refl, sym, ◌∙◌, rules, ◌-◌, get_or, w32, pos}
use Rattle.ps_emit.proofs.Followed.{one_more_at, none_left}
use Rattle.ps_emit.specs.Functions.{saved_register, saved_code}
use Rattle.std.proofs.Math.Facts.{to_z-of_z}
use Rattle.ps_emit.proofs.functions.add_saved.Goals as goal

pub loop-i-preserved : goal.loop-i-preserved
loop-i-preserved c =
    let saved = get_or c.args.saved.now c.loop-i.i (0, pos 0) in
    let added = rw (to_z-of_z {w = w32} {z = saved.1} (search rules)) at c.in_ok-add_saved_register.ensures in
    one_more_at saved_code saved_code (saved_register saved.0 saved.1) c.args.saved.now c.loop-i.i (0, pos 0) c.loop-i-test.true refl added ∙ c.loop-i.invariant

pub returns : goal.returns
returns c = record { text = sym (none_left saved_code c.args.saved.now c.loop-i.i c.loop-i.text refl c.loop-i-test.false) ∙ c.loop-i.invariant }
