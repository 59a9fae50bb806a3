use Rattle.std.proofs.Common.{◌∙◌, ap}
use Rattle.std.specs.Option.{is_some}
use Rattle.c_defs.specs.Numbers.{number_in}
use Rattle.c_struct.specs.Structs.{written_names}
use Rattle.c_struct.specs.Opened.{members_in}
use Rattle.c_struct.proofs.NamesAdded.{named_found}
use Rattle.c_struct.proofs.members.has_member.Goals as goal

pub returns : goal.returns
returns c =
    c.is_some.ensures ∙ (ap is_some c.find.ensures ∙ (ap (λ t. is_some (number_in c.args.o.now.names t)) c.as_bytes.ensures ∙
    named_found c.args.o.now.names (written_names (members_in c.args.o.now)) c.args.name.now c.requires))
