use Rattle.std.proofs.Common.{sym, subst, Err, Option}
use Rattle.frame_bytes.specs.declared.frame.Frame.{Frame}
use Rattle.table_model.specs.declared.row.TargetRow.{TargetRow}
use Rattle.table_model.specs.Frames.{frame_at}
use Rattle.abs_mem.specs.Walking.{Walks}
use Rattle.ps_ops.specs.declared.halt.Halt.{Halt}
use Rattle.ps_ops.specs.Asking.{LooksUp, frame_by}
use Rattle.ps_ops.proofs.Looking.{numbered_halts}
use Rattle.ps_ops.proofs.Calls.{led_halted}
use Rattle.ps_ops.proofs.asking.frame_of.Goals as goal

pub returns-in-Err-clause-looks : goal.returns-in-Err-clause-looks
returns-in-Err-clause-looks g c =
    let v = c.args.view.now in
    let t = c.args.table.now in
    let n = c.in-Numbered.number in
    let s = g.M.AbsMem.seen c.args.m.now in
    let s' = g.M.AbsMem.seen c.frame_numbered.new.m in
    let walk = subst (λ (row : TargetRow). Walks (λ b. frame_at row t b v.context n) s (Err c.in-Err.fault) s') c.row_of_target.ensures c.in-Err.ensures.meaning in
    subst (λ (h : Halt). LooksUp t (λ b. frame_by v t b) s (Err h) s') (sym c.halted.ensures) (numbered_halts v t s s' n c.in-Err.fault c.in-Numbered.is walk)

pub returns-in-Err-clause-calls : goal.returns-in-Err-clause-calls
returns-in-Err-clause-calls g c = rw c.halted.ensures (led_halted g.M.AbsMem.leads (Option Frame) c.args.m.now c.frame_numbered.new.m c.in-Err.fault c.in-Err.ensures.calls)
