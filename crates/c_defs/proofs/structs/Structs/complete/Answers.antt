use Rattle.std.proofs.Common.{◌≡◌, ◌<◌, List, Option, [], length, sym, ap, subst, ◌∙◌}
use Rattle.c_tree.specs.declared.types.StructDef.{StructDef}
use Rattle.c_tree.specs.Layout.{members_of}
use Rattle.c_tree.specs.declared.types.Member.{Member}
use Rattle.c_defs.specs.declared.rows.StructRow.{StructRow}
use Rattle.c_defs.specs.Kept.{IsKept}
use Rattle.c_defs.proofs.Completed.{completed}
use Rattle.c_defs.proofs.Setting.{set_length}
use Rattle.c_defs.proofs.structs.Structs.complete.Goals as goal

pub invariant_of-self : goal.invariant_of-self
invariant_of-self c =
    let ds = c.self.inside.defs.items in
    let rows = c.self.inside.rows.items in
    let here : c.args.s < length ds = subst (λ (l : List StructDef). c.args.s < length l) (sym c.self.view_is) c.requires.number in
    let none : members_of ds c.args.s ≡ [] = ap (λ l. members_of l c.args.s) c.self.view_is ∙ c.requires.incomplete in
    let made : IsKept ds rows c.args.def.members c.row_of.result =
    subst (λ (ms : List Member). IsKept ds rows ms c.row_of.result) c.as_slice.ensures
    (subst (λ (l : List (Option StructRow)). IsKept ds l c.as_slice.result.now c.row_of.result) c.deref-2.ensures.value
    (subst (λ (l : List StructDef). IsKept l c.deref-2.result.now c.as_slice.result.now c.row_of.result) c.deref.ensures.value c.row_of.ensures)) in
    (completed ds rows c.args.s c.args.def c.row_of.result c.self.invariant.0 here c.self.invariant.1 none made, set_length rows c.args.s c.row_of.result ∙ (c.self.invariant.1 ∙ sym (set_length ds c.args.s c.args.def)))
