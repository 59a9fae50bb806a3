use Rattle.std.proofs.Common.{map, sym, ◌∙◌}
use Rattle.std.proofs.lemmas.List.{length-map}
use Rattle.c_scope.specs.Shapes.{parameter_of}
use Rattle.c_mentions.specs.Tags.{now}
use Rattle.c_body.specs.Walking.{before_in}
use Rattle.c_file.proofs.AddedBodies.{body_added}
use Rattle.c_file.proofs.functions.with_body.Goals as goal

pub returns-in-Ok-closed : goal.returns-in-Ok-closed
returns-in-Ok-closed c =
    body_added c.args.heading (map parameter_of c.args.ps.now) c.args.block.now (before_in c.in-Ok.before) c.args.state c.closed.new.state c.in-Ok-walked_body.w
    c.in-Ok.ensures.0 (c.in-Ok.ensures.1 ∙ sym (length-map c.args.state.strings.items now)) (c.requires.params ∙ sym (length-map c.args.ps.now parameter_of))
    c.in-Ok-walked_body.ensures c.in-Ok-closed.ensures
