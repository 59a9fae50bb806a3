use Rattle.std.proofs.Common.{◌≡◌, ◌∙◌, ap, length, bytes_eq, Some, true, false, arith}
use Rattle.std.proofs.lemmas.Grind.{common_steps}
use Rattle.std.specs.Map.{update}
use Rattle.c_typing.specs.Plain.{plain, is_complete}
use Rattle.c_typing.specs.Declarations.{is_named}
use Rattle.c_defs.specs.Numbers.{number_in}
use Rattle.c_struct.specs.declared.members.WrittenMember.{WrittenMember}
use Rattle.c_struct.specs.Structs.{written_names}
use Rattle.c_struct.specs.Opened.{members_in}
use Rattle.c_struct.proofs.Opening.{object_added}
use Rattle.c_struct.proofs.NamesAdded.{names_added}
use Rattle.c_struct.proofs.members.add_member.Goals as goal

pub returns-clause-added : goal.returns-clause-added
returns-clause-added c =
    let m : WrittenMember = record { name = c.args.name; ctype = c.args.ctype } in
    let ms = c.args.o.now.members.items in
    let complete : is_complete c.args.defs.now (plain c.args.ctype) ≡ true = grind (arith, common_steps) in
    let new : is_named (written_names (members_in c.args.o.now)) c.args.name.now ≡ false = grind (arith, common_steps) in
    let n : c.in-Ok.number ≡ length ms = first_of (omega (arith, c.in-Ok.ensures, c.len.ensures), grind (arith, common_steps)) in (
      object_added c.args.defs.now ms c.push.new.members.items m c.args.at complete new c.in_ok-push.ensures,
      names_added ms c.push.new.members.items m c.args.o.now.names c.set.new.self c.in-Ok.number c.in_ok-push.ensures n new c.requires
          (λ t. c.in_ok-set.ensures.ok t ∙ ap (λ x. update bytes_eq (number_in c.args.o.now.names) x (Some c.in-Ok.number) t) c.as_bytes.ensures),
    )
