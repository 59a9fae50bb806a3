use Rattle.std.proofs.Common.{refl, false, None}
use Rattle.ps_ops.specs.declared.view.Standing.TheVariants.{InFrame}
use Rattle.evaluating.proofs.Keeping.{keeps_here, runs_on, ran_told}
use Rattle.evaluating.proofs.running.run_text.Goals as goal

pub returns-in-Ok-make_string-clause-told : goal.returns-in-Ok-make_string-clause-told
returns-in-Ok-make_string-clause-told g c =
    let seen = g.W.AbsMem.seen in
    let old = c.args.talk.now in
    let read = c.args.read.now in
    let start = record old {
      memory = record old.memory { below = record old.memory.below { cell = 0 } };
      view = record old.view { standing = InFrame read.frame read.scope; raw = false };
      out = c.new.result;
      fault = None;
    } in
    let begun = c.begin_run.new.inquiry in
    runs_on seen old start c.run_object.new.talk (keeps_here seen old start refl refl) c.run_object.result
    (ran_told seen g.W.AbsMem.leads _ (record begun { core = record begun.core { store = c.make_string.new.self } }) c.run_object.new.inquiry start c.run_object.new.talk refl c.run_object.result c.run_object.ensures.calls c.run_object.ensures.meaning)
