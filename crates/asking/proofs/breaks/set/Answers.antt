use Rattle.std.proofs.Common.{◌≡◌, ◌∙◌, refl, sym, ap, subst, ℕ, true, false, List, [], ◌∷◌, ◌++◌, codes, Ok, Err}
use Rattle.abs_mem.proofs.Walks.{same_here}
use Rattle.table_model.specs.Rows.{PointRow}
use Rattle.table_points.specs.declared.row.Point.{Point}
use Rattle.table_points.specs.Rows.{row_in}
use Rattle.table_asks.specs.declared.fault.AskFault.{AskFault}
use Rattle.table_asks.specs.Asking.{LedAsk}
use Rattle.asking.specs.Lines.{line, place_text}
use Rattle.asking.specs.Doing.{Changes}
use Rattle.asking.specs.Breaks.{has, rows_in, planting_fault, broken_at}
use Rattle.asking.proofs.Begun.{line_begins}
use Rattle.asking.proofs.Changed.{added_row, planted, planting_fails, broken_again, broken_new, led_planting}
use Rattle.std.specs.List.{AllByRecursion}
use Rattle.table_points.specs.Named.{IsNamed}
use Rattle.asking.proofs.Named.{added}
use Rattle.asking.proofs.breaks.set.Goals as goal

pub returns-in_default-clause-meaning : goal.returns-in_default-clause-meaning
returns-in_default-clause-meaning g c = same_here (g.W.AbsMem.seen c.args.talk.now.memory.below.below.below)

pub returns-in_default-clause-calls : goal.returns-in_default-clause-calls
returns-in_default-clause-calls g c = g.met.W.AbsMem.stays c.args.talk.now.memory.below.below.below

pub returns-in_default-clause-target : goal.returns-in_default-clause-target
returns-in_default-clause-target g c = refl

pub returns-then-is_set-clause-meaning : goal.returns-then-is_set-clause-meaning
returns-then-is_set-clause-meaning g c =
    let m = g.W.AbsMem.seen c.args.talk.now.memory.below.below.below in
    let target = c.args.talk.now.view.target in
    let store = c.args.inquiry.now.core.store in
    let p = row_in store c.args.place in
    let rows = rows_in store c.args.breaks.now.items in
    let is : has rows p ≡ true = cc in
    subst (λ (t : List ℕ). Changes (λ b. broken_at target rows b p (has rows p)) m (Ok t) rows m) (sym c.in-Ok.ensures) (broken_again target rows p m m rows (has rows p) is)

pub returns-then-is_set-clause-calls : goal.returns-then-is_set-clause-calls
returns-then-is_set-clause-calls g c = g.met.W.AbsMem.stays c.args.talk.now.memory.below.below.below

pub returns-then-is_set-clause-target : goal.returns-then-is_set-clause-target
returns-then-is_set-clause-target g c = refl

pub returns-in-Err-clause-meaning : goal.returns-in-Err-clause-meaning
returns-in-Err-clause-meaning g c = same_here (g.W.AbsMem.seen c.args.talk.now.memory.below.below.below)

pub returns-in-Err-clause-calls : goal.returns-in-Err-clause-calls
returns-in-Err-clause-calls g c = g.met.W.AbsMem.stays c.args.talk.now.memory.below.below.below

pub returns-in-Err-clause-target : goal.returns-in-Err-clause-target
returns-in-Err-clause-target g c = refl

pub returns-in-Ok-plant-clause-meaning : goal.returns-in-Ok-plant-clause-meaning
returns-in-Ok-plant-clause-meaning g c =
    let m = g.W.AbsMem.seen c.args.talk.now.memory.below.below.below in
    let after = g.W.AbsMem.seen c.plant.new.m in
    let target = c.args.talk.now.view.target in
    let store = c.args.inquiry.now.core.store in
    let p = row_in store c.args.place in
    let rows = rows_in store c.args.breaks.now.items in
    let is : has rows p ≡ false = cc in
    let added : rows_in store c.push.new.self.items ≡ rows ++ p ∷ [] = ap (λ (l : List Point). rows_in store l) c.in-Ok-push.ensures.items ∙ added_row store c.args.breaks.now.items c.args.place in
    subst (λ (t : List ℕ). Changes (λ b. broken_at target rows b p (has rows p)) m (Ok t) (rows_in store c.push.new.self.items) after) (sym c.in-Ok.ensures)
    (subst (λ (l : List PointRow). Changes (λ b. broken_at target rows b p (has rows p)) m (Ok (line (codes "break " ++ place_text p))) l after) (sym added)
    (broken_new target rows p m after (rows ++ p ∷ []) (has rows p) (Ok (line (codes "break " ++ place_text p))) is
    (planted c.known-target.result target rows p m after c.known-target.ensures.no_op c.known-target.ensures.break_word c.in-Ok-plant.ensures.meaning)))

pub returns-in-Ok-plant-clause-calls : goal.returns-in-Ok-plant-clause-calls
returns-in-Ok-plant-clause-calls g c = c.in-Ok-plant.ensures.calls

pub returns-in-Ok-plant-clause-target : goal.returns-in-Ok-plant-clause-target
returns-in-Ok-plant-clause-target g c = refl

pub returns-in-Err-plant-clause-meaning : goal.returns-in-Err-plant-clause-meaning
returns-in-Err-plant-clause-meaning g c =
    let m = g.W.AbsMem.seen c.args.talk.now.memory.below.below.below in
    let after = g.W.AbsMem.seen c.plant.new.m in
    let target = c.args.talk.now.view.target in
    let store = c.args.inquiry.now.core.store in
    let p = row_in store c.args.place in
    let rows = rows_in store c.args.breaks.now.items in
    let left = rows_in store c.pop.new.self.items in
    let is : has rows p ≡ false = cc in
    subst (λ (x : AskFault). Changes (λ b. broken_at target rows b p (has rows p)) m (Err x) left after) (sym c.planting_fault.ensures)
    (broken_new target rows p m after left (has rows p) (Err (planting_fault c.in-Err-plant.fault)) is
    (planting_fails c.known-target.result target rows p m after c.known-target.ensures.no_op c.in-Err-plant.fault left c.in-Err-plant.ensures.meaning))

pub returns-in-Err-plant-clause-calls : goal.returns-in-Err-plant-clause-calls
returns-in-Err-plant-clause-calls g c =
    let leads = g.W.AbsMem.leads in
    subst (λ (x : AskFault). LedAsk {A = List ℕ} leads c.args.talk.now.memory.below.below.below (Err x) c.plant.new.m) (sym c.planting_fault.ensures)
    (led_planting (List ℕ) leads c.args.talk.now.memory.below.below.below c.plant.new.m c.in-Err-plant.fault c.in-Err-plant.ensures.calls)

pub returns-in-Err-plant-clause-target : goal.returns-in-Err-plant-clause-target
returns-in-Err-plant-clause-target g c = refl

pub returns-in-Ok-plant-clause-named : goal.returns-in-Ok-plant-clause-named
returns-in-Ok-plant-clause-named g c = λ all.
    let store = c.args.inquiry.now.core.store in
    let is : c.is_named.result ≡ true = cc in
    subst (AllByRecursion (IsNamed store)) (sym c.in-Ok-push.ensures.items) (added (IsNamed store) c.args.breaks.now.items c.args.place all (c.is_named.ensures is))

pub returns-then-is_set-clause-word : goal.returns-then-is_set-clause-word
returns-then-is_set-clause-word g c = line_begins (codes "break ") (place_text (row_in c.args.inquiry.now.core.store c.args.place)) _ c.in-Ok.ensures

pub returns-in-Ok-plant-clause-word : goal.returns-in-Ok-plant-clause-word
returns-in-Ok-plant-clause-word g c = line_begins (codes "break ") (place_text (row_in c.args.inquiry.now.core.store c.args.place)) _ c.in-Ok.ensures
