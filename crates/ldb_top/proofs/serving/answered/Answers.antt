use Rattle.std.proofs.Common.{◌≡◌, ap, inl, inr, rules}
use Rattle.targets.specs.Targets.{machine_behaviour}
use Rattle.session.specs.Meant.{AreSteady}
use Rattle.steady_machines.proofs.Runs.{order_kept, runs_steady}
use Rattle.ldb_top.specs.Output.{held_under}
use Rattle.ldb_top.proofs.Answering.{line_answer}
use Rattle.ldb_top.proofs.Lates.{quits, quit_read}
use Rattle.ldb_top.proofs.serving.answered.Goals as goal

steady : AreSteady machine_behaviour
steady = record { orders = order_kept; runs = runs_steady }

pub returns-clause-quits : goal.returns-clause-quits
returns-clause-quits g c = (λ e. quits c.args.session.now.raw c.args.line.now (c.command.ensures.quits e), λ e. c.command.ensures.quit (quit_read c.args.session.now.raw c.args.line.now e))

pub returns-clause-answer : goal.returns-clause-answer
returns-clause-answer g c = λ raw st over held.
    line_answer raw st c.args.session.now c.command.new.self c.args.line.now (held_under (g.F.Files.held c.args.files.now) c.args.output.now) (held_under (g.F.Files.held c.command.new.out.files.now) c.command.new.out.name.now) _ c.command.result (search rules) over held (record {
      blank = c.command.ensures.blank;
      quits = c.command.ensures.quits;
      quit = c.command.ensures.quit;
      malformed = λ none. (let h = c.command.ensures.line none in (h.1, ap (λ x. held_under (g.F.Files.held x.files.now) x.name.now) h.2));
      turned = λ n e why is. elim (c.command.ensures.turns n e why) [
        | inl said ↦ absurd (let t = said.0 in cc)
        | inr stays ↦ stays.1
      ];
      refused = λ k u e why. (let h = c.command.ensures.refused k u e why in (h.0, h.1, ap (λ x. held_under (g.F.Files.held x.files.now) x.name.now) h.2));
      wanting = λ is. (let h = c.command.ensures.no_memory is in (h.0, ap (λ x. held_under (g.F.Files.held x.files.now) x.name.now) h.4));
      asked = λ k e n m. (let h = c.command.ensures.asked k e n m in (ap (λ x. held_under (g.F.Files.held x.files.now) x.name.now) h.0, h.1));
      failed = c.command.ensures.out_fault;
      meant = λ hs stands full said. c.command.ensures.meant machine_behaviour hs st steady stands full said;
      stays = λ hs stands leaves same. c.command.ensures.stays machine_behaviour hs st stands leaves same;
      target = λ hs k stands e n m. c.command.ensures.target machine_behaviour hs st k stands e n m;
      raw = c.command.ensures.raw;
    })
