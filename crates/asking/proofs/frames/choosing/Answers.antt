use Rattle.std.proofs.Common.{◌≡◌, ◌∙◌, sym, ap, subst, ℕ, List, ◌++◌, codes, decimal, Option, Some, None, Ok, option_map}
use Rattle.table_model.specs.Frames.{row_of_target, told_frame_at}
use Rattle.table_points.specs.declared.row.Point.{Point}
use Rattle.table_points.specs.Rows.{row_in}
use Rattle.dialect_model.specs.TableUse.{Looks}
use Rattle.table_asks.specs.Asking.{ComesOver}
use Rattle.asking.specs.Lines.{line, frame_text, place_text}
use Rattle.asking.specs.Frames.{choosing}
use Rattle.asking.proofs.Begun.{line_begins}
use Rattle.asking.proofs.Chosen.{choose_fails, choose_none, choose_line, choose_wants}
use Rattle.asking.proofs.frames.choosing.Goals as goal

pub returns-in-Err-clause-meaning : goal.returns-in-Err-clause-meaning
returns-in-Err-clause-meaning g c =
    let seen = g.W.AbsMem.seen in
    choose_fails (row_of_target c.args.talk.now.view.target) c.args.talk.now.view.context c.args.number c.args.inquiry.now c.frame_told.new.inquiry (seen c.args.talk.now.memory.below.below.below) (seen c.frame_told.new.talk.memory.below.below.below) c.in-Err.fault c.in-Err.ensures.meaning

pub returns-in-Ok-None-clause-meaning : goal.returns-in-Ok-None-clause-meaning
returns-in-Ok-None-clause-meaning g c =
    let seen = g.W.AbsMem.seen in
    let row = row_of_target c.args.talk.now.view.target in
    let context = c.args.talk.now.view.context in
    let store = c.frame_told.new.inquiry.core.store in
    let is : c.in-Ok-None.field-0 ≡ None = cc in
    let comes = subst (λ (o : Option Point). ComesOver (λ b. Looks (λ s. told_frame_at row s b context c.args.number)) c.args.inquiry.now (seen c.args.talk.now.memory.below.below.below) (Ok (option_map (row_in store) o)) c.frame_told.new.inquiry (seen c.frame_told.new.talk.memory.below.below.below)) is c.in-Ok-None.ensures.meaning in
    choose_none row context c.args.number c.args.inquiry.now c.frame_told.new.inquiry (seen c.args.talk.now.memory.below.below.below) (seen c.frame_told.new.talk.memory.below.below.below) comes

pub returns-in-Ok-clause-meaning : goal.returns-in-Ok-clause-meaning
returns-in-Ok-clause-meaning g c =
    let seen = g.W.AbsMem.seen in
    let row = row_of_target c.args.talk.now.view.target in
    let context = c.args.talk.now.view.context in
    let store = c.frame_told.new.inquiry.core.store in
    let is : c.in-Ok-Some.field-0 ≡ Some c.in-Ok-Some.place = cc in
    let comes = subst (λ (o : Option Point). ComesOver (λ b. Looks (λ s. told_frame_at row s b context c.args.number)) c.args.inquiry.now (seen c.args.talk.now.memory.below.below.below) (Ok (option_map (row_in store) o)) c.frame_told.new.inquiry (seen c.frame_told.new.talk.memory.below.below.below)) is c.in-Ok-Some.ensures.meaning in
    let text : c.append_frame.new.out ≡ line (frame_text c.args.number (row_in store c.in-Ok-Some.place)) = c.in-Ok.ensures ∙ ap (λ (xs : List ℕ). xs ++ line (frame_text c.args.number (row_in store c.in-Ok-Some.place))) c.new-line.ensures in
    subst (λ (t : List ℕ). ComesOver (choosing row context c.args.number) c.args.inquiry.now (seen c.args.talk.now.memory.below.below.below) (Ok t) c.frame_told.new.inquiry (seen c.frame_told.new.talk.memory.below.below.below)) (sym text)
    (choose_line row context c.args.number c.args.inquiry.now c.frame_told.new.inquiry (seen c.args.talk.now.memory.below.below.below) (seen c.frame_told.new.talk.memory.below.below.below) (row_in store c.in-Ok-Some.place) comes)

pub returns-in-Err-append_frame-clause-meaning : goal.returns-in-Err-append_frame-clause-meaning
returns-in-Err-append_frame-clause-meaning g c =
    let seen = g.W.AbsMem.seen in
    choose_wants (row_of_target c.args.talk.now.view.target) c.args.talk.now.view.context c.args.number c.args.inquiry.now c.frame_told.new.inquiry (seen c.args.talk.now.memory.below.below.below) (seen c.frame_told.new.talk.memory.below.below.below) (option_map (row_in c.frame_told.new.inquiry.core.store) c.in-Ok-Some.field-0) c.in-Ok-Some.ensures.meaning

pub returns-in-Ok-clause-word : goal.returns-in-Ok-clause-word
returns-in-Ok-clause-word g c =
    let p = row_in c.frame_told.new.inquiry.core.store c.in-Ok-Some.place in
    line_begins (codes "frame ") (decimal c.args.number ++ (codes " " ++ (p.function ++ (codes " " ++ place_text p)))) _ (c.in-Ok.ensures ∙ ap (λ (xs : List ℕ). xs ++ line (frame_text c.args.number p)) c.new-line.ensures)
