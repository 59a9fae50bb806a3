use Rattle.std.proofs.Common.{sym, ap, subst, ◌∙◌, Option, Result, Ok, Err}
use Rattle.frame_bytes.specs.declared.frame.Frame.{Frame}
use Rattle.ps_ops.specs.declared.halt.Halt.{Halt}
use Rattle.ps_ops.specs.Asking.{LooksUp, frame_by}
use Rattle.ps_ops.proofs.Looking.{scope_unforced}
use Rattle.ps_ops.proofs.asking.scope_in.Goals as goal

pub returns-in-Err-Unforced-clause-looks : goal.returns-in-Err-Unforced-clause-looks
returns-in-Err-Unforced-clause-looks g c =
    let v = c.args.view.now in
    let t = c.args.table.now in
    let s = g.M.AbsMem.seen c.args.m.now in
    let s' = g.M.AbsMem.seen c.frame_of.new.m in
    let framed = subst (λ (r : Result (Option Frame) Halt). LooksUp t (λ b. frame_by v t b) s r s') (c.in-Ok-Some.is ∙ ap Ok c.in-Ok-Some.field-0-is) c.frame_of.ensures.looks in
    scope_unforced v t s s' c.in-Numbered.number c.in-Numbered.is c.in-Ok-Some.frame framed c.in-Err-Unforced.unit (sym c.scope_of.ensures ∙ c.in-Err-Unforced.is ∙ ap Err c.in-Err-Unforced.field-0-is)
