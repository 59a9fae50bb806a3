use Rattle.std.proofs.Common.{◌≡◌, ◌∙◌, sym, ap}
use Rattle.frame_bytes.specs.Bytes.{Bytes}
use Rattle.table_model.specs.Frames.{frame_in, window_frame}
use Rattle.abs_mem.proofs.Walks.{walks_as}
use Rattle.stack_walk.proofs.walker.frame_in.Goals as goal

pub returns-in-Windows-clause-meaning : goal.returns-in-Windows-clause-meaning
returns-in-Windows-clause-meaning g c =
    walks_as (g.M.AbsMem.seen c.args.m.now) (g.M.AbsMem.seen c.window_frame.new.m) (λ b. window_frame b c.args.pc c.words_from.result) (λ b. frame_in c.args.row c.args.table.now b c.args.context c.args.pc c.args.function)
    c.window_frame.result
    (λ b. ap (λ x. frame_in x c.args.table.now b c.args.context c.args.pc c.args.function) c.in-Windows.is ∙ ap (λ p. window_frame b c.args.pc p) (sym c.words_from.ensures)) c.window_frame.ensures.meaning
