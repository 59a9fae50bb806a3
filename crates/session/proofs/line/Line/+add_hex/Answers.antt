use Rattle.std.proofs.Common.{◌≡◌, ◌-◌, ◌/◌, [], ◌∷◌, ◌++◌, sym, arith}
use Rattle.ps_leaves.specs.Forms.{hex_text}
use Rattle.session.proofs.Rooms.{adds_both, adds_same, hex_text-step}
use Rattle.session.proofs.line.Line.+add_hex.Goals as goal

pub returns : goal.returns
returns t c =
    let step = hex_text-step c.args.digits c.args.word (omega (arith, c.if-digits-eq0.false)) in
    let same : hex_text (c.args.digits - 1) (c.args.word / 16) ++ c.hex_digit.result ∷ [] ≡ hex_text c.args.digits c.args.word = rw c.hex_digit.ensures (sym step) in
    adds_same (adds_both c.add_hex.ensures c.add.ensures) same
