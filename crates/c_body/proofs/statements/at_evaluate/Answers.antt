use Rattle.std.proofs.Common.{Some, option_map, ap, ◌∙◌}
use Rattle.c_lex.specs.declared.token.Place.{Place}
use Rattle.c_tree.specs.declared.typed.Stmt.TheVariants as typed
use Rattle.c_judge.specs.Elaboration.{site_of}
use Rattle.c_body.specs.Walking.{walk_of}
use Rattle.c_body.proofs.Forms.{evaluate_passes}
use Rattle.c_body.proofs.statements.at_evaluate.Goals as goal

pub returns-in-Ok-clause-passes : goal.returns-in-Ok-clause-passes
returns-in-Ok-clause-passes c = λ t a. evaluate_passes t a (walk_of c.args.walk.now) (walk_of c.at_stop.new.walk) c.args.e.now c.in-Ok.q c.evaluated.result (c.evaluated.ensures ∙ ap (λ (at : Place). option_map (λ q. typed.Value (site_of at) (Some q)) c.in-Ok.q) c.place_of.ensures) c.in-Ok.ensures.passes
