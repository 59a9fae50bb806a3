use Rattle.std.proofs.Common.{◌≡◌, ◌*◌, List, ℕ, subst, OnOk}
use Rattle.ldb_make.specs.Program.{head_lines, body_lines, call_line, end_lines}
use Rattle.ldb_make.proofs.Pieces.{four_pieces}
use Rattle.ldb_make.proofs.program.add_function.Goals as goal

pub returns : goal.returns
returns c =
    let words = c.args.words.now in
    let f = c.args.function in
    let is = four_pieces c.args.text.now (head_lines words f (41 * f)) (body_lines words (41 * f)) (call_line f) end_lines c.add_head.new.text c.add_body.new.text c.add_call_line.new.text
    c.in_ok-add_head.ensures c.in_ok-add_body.ensures c.in_ok-add_call_line.ensures in
    subst (λ (whole : List ℕ). OnOk c.append.result (c.append.new.self ≡ whole)) is c.append.ensures.ok
