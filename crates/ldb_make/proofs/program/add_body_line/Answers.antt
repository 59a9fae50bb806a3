use Rattle.std.proofs.Common.{◌≡◌, ◌++◌, List, ℕ, subst, OnOk}
use Rattle.ldb_make.proofs.Pieces.{third_form}
use Rattle.ldb_make.proofs.program.add_body_line.Goals as goal

pub returns-in-2 : goal.returns-in-2
returns-in-2 c =
    let is = third_form c.args.words.now c.args.number c.pick-form.result c.pick-constant.result c.in-2.is c.pick-form.ensures.value c.pick-constant.ensures.value in
    subst (λ (line : List ℕ). OnOk c.add_with-in-2.result (c.add_with-in-2.new.text ≡ c.args.text.now ++ line)) is c.add_with-in-2.ensures
