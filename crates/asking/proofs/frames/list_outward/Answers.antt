use Rattle.std.proofs.Common.{◌≡◌, ◌-◌, ◌+◌, sym, subst, arith, ℕ, suc, List, Option, Some, None, Ok, Err}
use Rattle.frame_bytes.specs.declared.frame.Frame.{Frame}
use Rattle.abs_mem.specs.Walking.{Walks, told as told_by}
use Rattle.abs_mem.specs.declared.walk.WalkFault.{WalkFault}
use Rattle.abs_mem.proofs.Walks.{led_table, led_fail}
use Rattle.table_model.specs.Frames.{next_frame, told_frame}
use Rattle.table_points.specs.Rows.{row_in}
use Rattle.asking.specs.declared.frames.Listed.{Listed}
use Rattle.asking.specs.declared.frames.ListFault.TheVariants.{Walk}
use Rattle.asking.specs.Frames.{listed_outward, Lists, LedList}
use Rattle.asking.proofs.Listed.{SoFar, from_frame, with_line, none_so_far, list_lacks, list_last, list_fails, list_ends, list_goes_on, led_list}
use Rattle.asking.proofs.frames.list_outward.Goals as goal

pub loop-number-init : goal.loop-number-init
loop-number-init g c =
    let seen = g.M.AbsMem.seen in
    record {
      far = subst (λ (xs : List ℕ). SoFar (seen c.args.m.now) (seen c.args.m.now) (λ b. listed_outward c.args.row c.args.table.now b c.args.innermost) (λ b. from_frame c.args.row c.args.table.now b 19999 0 xs c.args.innermost)) (sym c.new-lines.ensures) (none_so_far (seen c.args.m.now) c.args.row c.args.table.now c.args.innermost);
      led = g.met.M.AbsMem.stays c.args.m.now;
      more = omega arith;
    }

pub returns-in-Err-clause-meaning : goal.returns-in-Err-clause-meaning
returns-in-Err-clause-meaning g c =
    let seen = g.M.AbsMem.seen in
    let l = c.loop-number in
    subst (λ (w : WalkFault). Lists (λ b. listed_outward c.args.row c.args.table.now b c.args.innermost) (seen c.args.m.now) (Err (Walk w)) (seen l.m)) (sym c.told.ensures)
    (list_lacks (seen c.args.m.now) (seen l.m) (seen l.m) c.args.row c.args.table.now (λ b. listed_outward c.args.row c.args.table.now b c.args.innermost) (19999 - l.number) l.number l.lines l.frame l.invariant.far c.in-Err.lack (sym c.in-Err.ensures))

pub returns-in-Err-clause-calls : goal.returns-in-Err-clause-calls
returns-in-Err-clause-calls g c =
    let leads = g.M.AbsMem.leads in
    let l = c.loop-number in
    subst (λ (w : WalkFault). LedList leads c.args.m.now (Err (Walk w)) l.m) (sym c.told.ensures)
    (led_list leads c.args.m.now l.m l.m (Err (Walk (told_by c.in-Err.lack))) (g.met.M.AbsMem.goes_on c.args.m.now l.m l.m) l.invariant.led (led_table {A = Listed} leads l.m (Err c.in-Err.lack) (g.met.M.AbsMem.stays l.m)))

pub returns-in-Err-append_frame-clause-meaning : goal.returns-in-Err-append_frame-clause-meaning
returns-in-Err-append_frame-clause-meaning g c = c.loop-number.invariant.far.same

pub returns-in-Err-append_frame-clause-calls : goal.returns-in-Err-append_frame-clause-calls
returns-in-Err-append_frame-clause-calls g c = c.loop-number.invariant.led

pub returns-then-count-eq-MOST_FRAMES-clause-meaning : goal.returns-then-count-eq-MOST_FRAMES-clause-meaning
returns-then-count-eq-MOST_FRAMES-clause-meaning g c =
    let seen = g.M.AbsMem.seen in
    let l = c.loop-number in
    let p = row_in c.args.table.now c.in-Ok.place in
    let told : told_frame c.args.table.now l.number l.frame ≡ Ok p = sym c.in-Ok.ensures in
    let last : 19999 - l.number ≡ 0 = omega arith in
    let text : c.append_frame.new.out ≡ with_line l.number l.lines p = c.in-Ok-append_frame.ensures in
    subst (λ (xs : List ℕ). Lists (λ b. listed_outward c.args.row c.args.table.now b c.args.innermost) (seen c.args.m.now) (Ok (record { count = l.number + 1; lines = xs })) (seen l.m)) (sym text)
    (list_last (seen c.args.m.now) (seen l.m) (seen l.m) c.args.row c.args.table.now (λ b. listed_outward c.args.row c.args.table.now b c.args.innermost) (19999 - l.number) l.number l.lines l.frame l.invariant.far p told last)

pub returns-then-count-eq-MOST_FRAMES-clause-calls : goal.returns-then-count-eq-MOST_FRAMES-clause-calls
returns-then-count-eq-MOST_FRAMES-clause-calls g c = c.loop-number.invariant.led

pub returns-in-Err-up-clause-meaning : goal.returns-in-Err-up-clause-meaning
returns-in-Err-up-clause-meaning g c =
    let seen = g.M.AbsMem.seen in
    let l = c.loop-number in
    let told : told_frame c.args.table.now l.number l.frame ≡ Ok (row_in c.args.table.now c.in-Ok.place) = sym c.in-Ok.ensures in
    let more : 19999 - l.number ≡ suc (19999 - (l.number + 1)) = omega arith in
    list_fails (seen c.args.m.now) (seen l.m) (seen c.up.new.m) c.args.row c.args.table.now (λ b. listed_outward c.args.row c.args.table.now b c.args.innermost) (19999 - l.number) l.number l.lines l.frame l.invariant.far (row_in c.args.table.now c.in-Ok.place) told (19999 - (l.number + 1)) more c.in-Err-up.fault
    c.in-Err-up.ensures.meaning

pub returns-in-Err-up-clause-calls : goal.returns-in-Err-up-clause-calls
returns-in-Err-up-clause-calls g c =
    let leads = g.M.AbsMem.leads in
    let l = c.loop-number in
    led_list leads c.args.m.now l.m c.up.new.m (Err (Walk c.in-Err-up.fault)) (g.met.M.AbsMem.goes_on c.args.m.now l.m c.up.new.m) l.invariant.led (led_fail (Option Frame) Listed leads l.m c.up.new.m c.in-Err-up.fault c.in-Err-up.ensures.calls)

pub returns-in-Ok-None-clause-meaning : goal.returns-in-Ok-None-clause-meaning
returns-in-Ok-None-clause-meaning g c =
    let seen = g.M.AbsMem.seen in
    let l = c.loop-number in
    let p = row_in c.args.table.now c.in-Ok.place in
    let told : told_frame c.args.table.now l.number l.frame ≡ Ok p = sym c.in-Ok.ensures in
    let more : 19999 - l.number ≡ suc (19999 - (l.number + 1)) = omega arith in
    let text : c.append_frame.new.out ≡ with_line l.number l.lines p = c.in-Ok-append_frame.ensures in
    let none : c.in-Ok-None.field-0 ≡ None = cc in
    let walk = subst (λ (o : Option Frame). Walks (λ b. next_frame c.args.row c.args.table.now b l.frame) (seen l.m) (Ok o) (seen c.up.new.m)) none c.in-Ok-None.ensures.meaning in
    subst (λ (xs : List ℕ). Lists (λ b. listed_outward c.args.row c.args.table.now b c.args.innermost) (seen c.args.m.now) (Ok (record { count = l.number + 1; lines = xs })) (seen c.up.new.m)) (sym text)
    (list_ends (seen c.args.m.now) (seen l.m) (seen c.up.new.m) c.args.row c.args.table.now (λ b. listed_outward c.args.row c.args.table.now b c.args.innermost) (19999 - l.number) l.number l.lines l.frame l.invariant.far p told (19999 - (l.number + 1)) more walk)

pub returns-in-Ok-None-clause-calls : goal.returns-in-Ok-None-clause-calls
returns-in-Ok-None-clause-calls g c =
    let l = c.loop-number in
    g.met.M.AbsMem.goes_on c.args.m.now l.m c.up.new.m None l.invariant.led c.in-Ok-None.ensures.calls

pub loop-number-preserved : goal.loop-number-preserved
loop-number-preserved g c =
    let seen = g.M.AbsMem.seen in
    let l = c.loop-number in
    let p = row_in c.args.table.now c.in-Ok.place in
    let told : told_frame c.args.table.now l.number l.frame ≡ Ok p = sym c.in-Ok.ensures in
    let more : 19999 - l.number ≡ suc (19999 - (l.number + 1)) = omega arith in
    let text : c.append_frame.new.out ≡ with_line l.number l.lines p = c.in-Ok-append_frame.ensures in
    let some : c.in-Ok-Some.field-0 ≡ Some c.in-Ok-Some.outer = cc in
    let walk = subst (λ (o : Option Frame). Walks (λ b. next_frame c.args.row c.args.table.now b l.frame) (seen l.m) (Ok o) (seen c.up.new.m)) some c.in-Ok-Some.ensures.meaning in
    record {
      far =
          subst (λ (xs : List ℕ). SoFar (seen c.args.m.now) (seen c.up.new.m) (λ b. listed_outward c.args.row c.args.table.now b c.args.innermost) (λ b. from_frame c.args.row c.args.table.now b (19999 - (l.number + 1)) (l.number + 1) xs c.in-Ok-Some.outer)) (sym text)
          (list_goes_on (seen c.args.m.now) (seen l.m) (seen c.up.new.m) c.args.row c.args.table.now (λ b. listed_outward c.args.row c.args.table.now b c.args.innermost) (19999 - l.number) l.number l.lines l.frame l.invariant.far p told (19999 - (l.number + 1)) more c.in-Ok-Some.outer walk);
      led = g.met.M.AbsMem.goes_on c.args.m.now l.m c.up.new.m None l.invariant.led c.in-Ok-Some.ensures.calls;
      more = omega arith;
    }

pub returns-clause-meaning : goal.returns-clause-meaning
returns-clause-meaning g c = absurd (omega arith)

pub returns-clause-calls : goal.returns-clause-calls
returns-clause-calls g c = absurd (omega arith)
