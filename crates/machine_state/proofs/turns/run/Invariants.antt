use Rattle.std.proofs.Common.{◌≡◌, ◌-◌}
use Rattle.machine_state.specs.Runs.{run_of, behind}
use Rattle.machine_state.proofs.turns.run.Given as goal

abbrev pub invariant-loop-turn : goal.invariant-loop-turn
invariant-loop-turn g l =
    behind l.initial.output.items (run_of g.T.Target.behaviour l.turns (g.T.Target.state l.initial.machine))
    ≡ behind l.output.items (run_of g.T.Target.behaviour (l.turns - l._turn) (g.T.Target.state l.machine))
