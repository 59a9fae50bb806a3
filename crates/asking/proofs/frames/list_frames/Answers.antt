use Rattle.std.proofs.Common.{◌≡◌, sym, subst, ℕ, List, Option, None, Some, Ok}
use Rattle.frame_bytes.specs.declared.frame.Frame.{Frame}
use Rattle.abs_mem.specs.Walking.{Walks}
use Rattle.abs_mem.proofs.Walks.{led_fail}
use Rattle.table_read.specs.Reads.{in_ok}
use Rattle.table_model.specs.Frames.{first_frame, told_frames}
use Rattle.asking.specs.declared.frames.Listed.{Listed}
use Rattle.asking.specs.Frames.{listed, Lists}
use Rattle.asking.proofs.Listed.{all_fails, all_none, all_outward, led_list}
use Rattle.asking.proofs.frames.list_frames.Goals as goal

pub returns-in-Err-clause-meaning : goal.returns-in-Err-clause-meaning
returns-in-Err-clause-meaning g c =
    let seen = g.M.AbsMem.seen in
    all_fails (seen c.args.m.now) (seen c.first.new.m) (seen c.first.new.m) c.args.row c.args.table.now c.args.context c.in-Err.fault c.in-Err.ensures.meaning

pub returns-in-Err-clause-calls : goal.returns-in-Err-clause-calls
returns-in-Err-clause-calls g c = led_fail (Option Frame) Listed g.M.AbsMem.leads c.args.m.now c.first.new.m c.in-Err.fault c.in-Err.ensures.calls

pub returns-in-Ok-None-clause-meaning : goal.returns-in-Ok-None-clause-meaning
returns-in-Ok-None-clause-meaning g c =
    let seen = g.M.AbsMem.seen in
    let none : c.in-Ok-None.field-0 ≡ None = cc in
    let walk = subst (λ (o : Option Frame). Walks (λ b. first_frame c.args.row c.args.table.now b c.args.context) (seen c.args.m.now) (Ok o) (seen c.first.new.m)) none c.in-Ok-None.ensures.meaning in
    subst (λ (xs : List ℕ). Lists (λ b. in_ok listed (told_frames c.args.row c.args.table.now b c.args.context)) (seen c.args.m.now) (Ok (record { count = 0; lines = xs })) (seen c.first.new.m)) (sym c.new.ensures)
    (all_none (seen c.args.m.now) (seen c.first.new.m) (seen c.first.new.m) c.args.row c.args.table.now c.args.context walk)

pub returns-in-Ok-Some-clause-meaning : goal.returns-in-Ok-Some-clause-meaning
returns-in-Ok-Some-clause-meaning g c =
    let seen = g.M.AbsMem.seen in
    let some : c.in-Ok-Some.field-0 ≡ Some c.in-Ok-Some.frame = cc in
    let walk = subst (λ (o : Option Frame). Walks (λ b. first_frame c.args.row c.args.table.now b c.args.context) (seen c.args.m.now) (Ok o) (seen c.first.new.m)) some c.in-Ok-Some.ensures.meaning in
    all_outward (seen c.args.m.now) (seen c.first.new.m) (seen c.list_outward.new.m) c.args.row c.args.table.now c.args.context c.in-Ok-Some.frame c.list_outward.result walk c.list_outward.ensures.meaning

pub returns-in-Ok-Some-clause-calls : goal.returns-in-Ok-Some-clause-calls
returns-in-Ok-Some-clause-calls g c =
    led_list g.M.AbsMem.leads c.args.m.now c.first.new.m c.list_outward.new.m c.list_outward.result (g.met.M.AbsMem.goes_on c.args.m.now c.first.new.m c.list_outward.new.m) c.in-Ok-Some.ensures.calls c.list_outward.ensures.calls
