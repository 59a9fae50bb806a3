use Rattle.std.proofs.Common.{◌≡◌, ◌∙◌, refl, sym, ap, subst, ℕ, true, false, not, List, ◌++◌, codes, Ok, Err, rules, tests}
use Rattle.std.proofs.lemmas.Fn.{filter_same}
use Rattle.abs_mem.proofs.Walks.{same_here}
use Rattle.table_model.specs.Rows.{PointRow}
use Rattle.table_points.specs.declared.row.Point.{Point}
use Rattle.table_points.specs.Rows.{row_in}
use Rattle.table_asks.specs.declared.fault.AskFault.{AskFault}
use Rattle.table_asks.specs.Faults.{memory_fault}
use Rattle.table_asks.specs.Asking.{LedAsk}
use Rattle.asking.specs.Lines.{line, place_text}
use Rattle.asking.specs.Doing.{Changes}
use Rattle.asking.specs.Breaks.{same_point, has, without, rows_in, cleared_at}
use Rattle.asking.proofs.Begun.{line_begins}
use Rattle.asking.proofs.Changed.{kept_rows, cleared, clear_fails, nothing_cleared, cleared_there}
use Rattle.asking.proofs.Asked.{led_fault}
use Rattle.std.specs.List.{AllByRecursion}
use Rattle.table_points.specs.Named.{IsNamed}
use Rattle.asking.proofs.Named.{left}
use Rattle.asking.proofs.breaks.unset.Goals as goal

pub returns-then-not-is_set-clause-meaning : goal.returns-then-not-is_set-clause-meaning
returns-then-not-is_set-clause-meaning g c =
    let m = g.W.AbsMem.seen c.args.talk.now.memory.below.below.below in
    let store = c.args.inquiry.now.core.store in
    let p = row_in store c.args.place in
    let rows = rows_in store c.args.breaks.now.items in
    let is : has rows p ≡ false = cc in
    nothing_cleared c.args.talk.now.view.target rows p m m rows (has rows p) is

pub returns-then-not-is_set-clause-calls : goal.returns-then-not-is_set-clause-calls
returns-then-not-is_set-clause-calls g c = g.met.W.AbsMem.stays c.args.talk.now.memory.below.below.below

pub returns-then-not-is_set-clause-target : goal.returns-then-not-is_set-clause-target
returns-then-not-is_set-clause-target g c = refl

pub returns-in_default-clause-meaning : goal.returns-in_default-clause-meaning
returns-in_default-clause-meaning g c = same_here (g.W.AbsMem.seen c.args.talk.now.memory.below.below.below)

pub returns-in_default-clause-calls : goal.returns-in_default-clause-calls
returns-in_default-clause-calls g c = g.met.W.AbsMem.stays c.args.talk.now.memory.below.below.below

pub returns-in_default-clause-target : goal.returns-in_default-clause-target
returns-in_default-clause-target g c = refl

pub returns-in-Ok-unplant-clause-meaning : goal.returns-in-Ok-unplant-clause-meaning
returns-in-Ok-unplant-clause-meaning g c =
    let m = g.W.AbsMem.seen c.args.talk.now.memory.below.below.below in
    let after = g.W.AbsMem.seen c.unplant.new.m in
    let target = c.args.talk.now.view.target in
    let store = c.args.inquiry.now.core.store in
    let p = row_in store c.args.place in
    let rows = rows_in store c.args.breaks.now.items in
    let is : has rows p ≡ true = cc in
    let kept : rows_in store c.retain.new.self.items ≡ without p rows =
    ap (λ (l : List Point). rows_in store l) (filter_same _ (λ (q : Point). not (same_point (row_in store q) p)) _ (λ x b f' k. search (rules, tests)) _ _ c.retain.ensures.filtered)
    ∙ kept_rows (λ q. not (same_point q p)) store c.args.breaks.now.items in
    subst (λ (t : List ℕ). Changes (λ b. cleared_at target rows b p (has rows p)) m (Ok t) (rows_in store c.retain.new.self.items) after) (sym c.in-Ok.ensures)
    (subst (λ (l : List PointRow). Changes (λ b. cleared_at target rows b p (has rows p)) m (Ok (line (codes "clear " ++ place_text p))) l after) (sym kept)
    (cleared_there target rows p m after (without p rows) (has rows p) (Ok (line (codes "clear " ++ place_text p))) is
    (cleared c.known-target.result target rows p m after c.known-target.ensures.no_op c.in-Ok-unplant.ensures.meaning)))

pub returns-in-Ok-unplant-clause-calls : goal.returns-in-Ok-unplant-clause-calls
returns-in-Ok-unplant-clause-calls g c = c.in-Ok-unplant.ensures.calls

pub returns-in-Ok-unplant-clause-target : goal.returns-in-Ok-unplant-clause-target
returns-in-Ok-unplant-clause-target g c = refl

pub returns-in-Err-clause-meaning : goal.returns-in-Err-clause-meaning
returns-in-Err-clause-meaning g c =
    let m = g.W.AbsMem.seen c.args.talk.now.memory.below.below.below in
    let after = g.W.AbsMem.seen c.unplant.new.m in
    let target = c.args.talk.now.view.target in
    let store = c.args.inquiry.now.core.store in
    let p = row_in store c.args.place in
    let rows = rows_in store c.args.breaks.now.items in
    let is : has rows p ≡ true = cc in
    subst (λ (x : AskFault). Changes (λ b. cleared_at target rows b p (has rows p)) m (Err x) rows after) (sym c.memory_fault.ensures.value)
    (cleared_there target rows p m after rows (has rows p) (Err (memory_fault c.in-Err.fault)) is
    (clear_fails c.known-target.result target rows p m after c.known-target.ensures.no_op c.in-Err.fault rows c.in-Err.ensures.meaning))

pub returns-in-Err-clause-calls : goal.returns-in-Err-clause-calls
returns-in-Err-clause-calls g c =
    let leads = g.W.AbsMem.leads in
    subst (λ (x : AskFault). LedAsk {A = List ℕ} leads c.args.talk.now.memory.below.below.below (Err x) c.unplant.new.m) (sym c.memory_fault.ensures.value)
    (led_fault leads c.args.talk.now.memory.below.below.below (Unit {0}) (List ℕ) c.in-Err.fault c.unplant.new.m c.in-Err.ensures.calls)

pub returns-in-Err-clause-target : goal.returns-in-Err-clause-target
returns-in-Err-clause-target g c = refl

pub returns-in-Ok-unplant-clause-named : goal.returns-in-Ok-unplant-clause-named
returns-in-Ok-unplant-clause-named g c = λ all.
    let store = c.args.inquiry.now.core.store in
    let p = row_in store c.args.place in
    let kept = filter_same _ (λ (q : Point). not (same_point (row_in store q) p)) _ (λ x b f' k. search (rules, tests)) _ _ c.retain.ensures.filtered in
    subst (AllByRecursion (IsNamed store)) (sym kept) (left (IsNamed store) (λ (q : Point). not (same_point (row_in store q) p)) c.args.breaks.now.items all)

pub returns-in-Ok-unplant-clause-word : goal.returns-in-Ok-unplant-clause-word
returns-in-Ok-unplant-clause-word g c = line_begins (codes "clear ") (place_text (row_in c.args.inquiry.now.core.store c.args.place)) _ c.in-Ok.ensures
