use Rattle.std.proofs.Common.{sym, ap, ◌∙◌}
use Rattle.c_typing.specs.Plain.{plain}
use Rattle.c_defs.specs.Members.{in_word, member_number}
use Rattle.c_defs.proofs.Described.{described}
use Rattle.c_defs.proofs.view.StructsView.member_number.Goals as goal

pub returns-in-Some : goal.returns-in-Some
returns-in-Some c =
    let ds = c.self.inside.defs.now in
    let name = c.args.name.now in
    let d = described ds c.self.inside.rows.now c.in-Struct.s c.in-Some.row.now c.self.invariant (sym c.in-Some.ensures) in
    c.number.ensures ∙ (ap in_word (d.numbers name) ∙ (ap (λ t. member_number ds t name) (sym (ap plain c.in-Struct.is)) ∙ ap (λ l. member_number l (plain c.args.t.now) name) c.self.view_is))
