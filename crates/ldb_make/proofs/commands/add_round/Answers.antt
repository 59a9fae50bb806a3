use Rattle.std.proofs.Common.{◌≡◌, ◌∙◌, ◌++◌, List, ℕ, ap, subst, OnOk, codes, decimal}
use Rattle.ldb_make.specs.Words.{pick}
use Rattle.ldb_make.specs.Commands.{round_lines}
use Rattle.ldb_make.proofs.Pieces.{three_pieces}
use Rattle.ldb_make.proofs.commands.add_round.Goals as goal

pub returns : goal.returns
unfolding round_lines
returns c =
    let old = c.args.text.now in
    let words = c.args.words.now in
    let item = decimal c.pick-item.result in
    let is = three_pieces old (codes "continue\nframes\nprint a\nframe 10\nprint t\neval t + g[" ++ (item ++ codes "]\n"))
    (codes "assign g[" ++ (item ++ codes "] = ")) (decimal c.pick-value.result ++ codes "u\n") c.add_with.new.text c.add_with-2.new.text c.in_ok-add_with.ensures c.in_ok-add_with-2.ensures
    ∙ (ap (λ (k : ℕ). old ++ round_lines k c.pick-value.result) c.pick-item.ensures.value
    ∙ ap (λ (k : ℕ). old ++ round_lines (pick words c.args.number 16) k) c.pick-value.ensures.value) in
    subst (λ (whole : List ℕ). OnOk c.add_with-3.result (c.add_with-3.new.text ≡ whole)) is c.add_with-3.ensures
