use Rattle.std.proofs.Common.{◌≡◌, ◌∙◌, ◌++◌, List, ℕ, ap, subst, OnOk, codes, decimal}
use Rattle.ldb_make.specs.Program.{head_lines}
use Rattle.ldb_make.proofs.Pieces.{two_pieces}
use Rattle.ldb_make.proofs.program.add_head.Goals as goal

pub returns : goal.returns
unfolding head_lines
returns c =
    let before = codes "unsigned f" ++ (decimal c.args.function ++ codes "(unsigned a, unsigned b) {\n  unsigned t;\n") in
    let line : ℕ → List ℕ = λ (k : ℕ). codes "  t = a ^ " ++ (decimal k ++ codes "u;\n") in
    let is = two_pieces c.args.text.now before (line c.pick-constant.result) c.add_with.new.text c.in_ok-add_with.ensures
    ∙ ap (λ (k : ℕ). c.args.text.now ++ (before ++ line k)) c.pick-constant.ensures.value in
    subst (λ (whole : List ℕ). OnOk c.add_with-2.result (c.add_with-2.new.text ≡ whole)) is c.add_with-2.ensures
